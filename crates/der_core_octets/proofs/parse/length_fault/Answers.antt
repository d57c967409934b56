-- Goals of `parse::length_fault` that the checker doesn't prove by itself.
use Rattle.std.proofs.Common.{arith}
use Rattle.der_core_octets.proofs.LongLengths.{fault-none, fault-indefinite, fault-many, fault-cut, fault-shape}
use Rattle.der_core_octets.proofs.parse.length_fault.Goals as goal

pub returns-in_default : goal.returns-in_default
returns-in_default c = fault-none c.args.tag c.args.octets.now (omega arith)

pub returns-then-first : goal.returns-then-first
returns-then-first c = fault-indefinite c.args.tag c.args.octets.now (omega arith) (omega arith)

pub returns-then-first-gt132 : goal.returns-then-first-gt132
returns-then-first-gt132 c = fault-many c.args.tag c.args.octets.now (omega arith) (omega arith)

pub returns-then-rest-from : goal.returns-then-rest-from
returns-then-rest-from c = fault-cut c.args.tag c.args.octets.now c.requires (omega arith) (λ e. omega arith) (omega arith) (omega arith)

pub returns : goal.returns
returns c = fault-shape c.args.tag c.args.octets.now c.requires (omega arith) (λ e. omega arith) (omega arith) (omega arith)
