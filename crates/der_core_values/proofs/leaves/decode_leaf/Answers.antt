-- Goals of `leaves::decode_leaf` that the checker doesn't prove by itself.
use Rattle.std.proofs.Common.{Ok, Err, ap}
use Rattle.std.proofs.lemmas.Result.{err_from_is_err_and}
use Rattle.der_core_octets.specs.CoreHead.Reading.{State}
use Rattle.der_core_values.proofs.Headed.{leaf_reads, leaf_refuses, leaf_faulty, gives, gives_now}
use Rattle.der_core_octets.proofs.GoingOn.{broken_kept}
use Rattle.der_core_values.proofs.leaves.decode_leaf.Goals as goal

pub returns-in-Ok-clause-reads : goal.returns-in-Ok-clause-reads
returns-in-Ok-clause-reads g c =
    let takes = c.in_ok-octets.ensures.takes in
    leaf_reads g.T.Primitive.kind c.args.header.tag g.T.Primitive.leaf_plain (g.R.Reader.state c.args.reader.now) (g.R.Reader.state c.read_content.new.reader) c.in_ok-octets.octets.now c.args.header.length.value
    takes.0 takes.1 takes.2 takes.3 c.in-Ok.value (gives g.T.Leaf.takes_memory g.T.Primitive.leaf_plain (Ok c.in-Ok.value) _ c.in-Ok.ensures)

pub returns-in-Err-clause-reads : goal.returns-in-Err-clause-reads
returns-in-Err-clause-reads g c =
    let takes = c.in_ok-octets.ensures.takes in
    leaf_refuses g.T.Primitive.kind c.args.header.tag g.T.Primitive.leaf_plain (g.R.Reader.state c.args.reader.now) (g.R.Reader.state c.read_content.new.reader) c.in_ok-octets.octets.now c.args.header.length.value
    takes.0 takes.1 takes.2 takes.3 (g.R.Reader.state c.fail.new.self) c.in-Err.error c.fail.ensures (gives g.T.Leaf.takes_memory g.T.Primitive.leaf_plain (Err c.in-Err.error) _ c.in-Err.ensures)

pub returns-in_err-octets-clause-reads : goal.returns-in_err-octets-clause-reads
returns-in_err-octets-clause-reads g c =
    let p = err_from_is_err_and c.from_residual.result c.from_residual.ensures.1 in
    let old = g.R.Reader.state c.args.reader.now in
    let takes = c.in_err-octets.ensures.takes in
    rw (p.1, p.2) (λ ready memory. takes.0 g.T.Primitive.kind c.args.header.tag old.room ready, broken_kept _ _ takes.1, takes.2, ap (λ (s : State). s.failed) takes.1)

pub returns-in-Err-clause-fault : goal.returns-in-Err-clause-fault
returns-in-Err-clause-fault g c = λ none ready.
    let takes = c.in_ok-octets.ensures.takes in
    leaf_faulty g.T.Primitive.kind c.args.header.tag g.T.Primitive.leaf_plain (g.R.Reader.state c.args.reader.now) (g.R.Reader.state c.read_content.new.reader) c.in_ok-octets.octets.now c.args.header.length.value
    takes.0 takes.1 takes.2 takes.3 c.in-Err.error.kind (gives_now g.T.Leaf.takes_memory g.T.Primitive.leaf_plain c.in-Err.error _ none c.in-Err.ensures)

pub returns-in_err-octets-clause-fault : goal.returns-in_err-octets-clause-fault
returns-in_err-octets-clause-fault g c =
    let p = err_from_is_err_and c.from_residual.result c.from_residual.ensures.1 in
    let old = g.R.Reader.state c.args.reader.now in
    rw (p.1, p.2) (λ none ready. c.in_err-octets.ensures.takes.0 g.T.Primitive.kind c.args.header.tag old.room ready)
