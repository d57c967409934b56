-- Goals of `text::push_digit` that the checker doesn't prove by itself.
use Rattle.std.proofs.Common.{Some, ◌≡◌, ◌*◌, ◌+◌, ◌<◌, ◌^◌, subst, arith}
use Rattle.std.specs.Option.{SomeIff}
use Rattle.const_oid.proofs.BoundLaws.{checked, unchecked}
use Rattle.const_oid.proofs.text.push_digit.Goals as goal

pub returns-then-value : goal.returns-then-value
returns-then-value c =
    checked (Some _) (c.args.value * 10 + c.args.digit)
    (omega (arith, c.if-value.true), omega (arith, c.if-value.true, c.from.ensures, c.from-then-value.ensures))

pub returns-in_default : goal.returns-in_default
returns-in_default c = unchecked (c.args.value * 10) (c.args.value * 10 + c.args.digit) c.in_default.ensures (omega arith)

pub returns : goal.returns
returns c =
    let sum : c.in-Some.tens + c.from-2.result ≡ c.args.value * 10 + c.args.digit = omega (arith, c.in-Some.ensures.1, c.from-2.ensures) in
    checked c.checked_add.result (c.args.value * 10 + c.args.digit)
    (subst (λ n. SomeIff c.checked_add.result (n < 2 ^ 128) n) sum c.checked_add.ensures)
