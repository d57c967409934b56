-- Goals of `set_of_vec::SetOfVec::decode_value_strict` that the checker doesn't prove by itself.
use Rattle.std.proofs.Common.{subst, sym}
use Rattle.der_core.specs.Shapes.{Value}
use Rattle.der_core.specs.Grammar.{plain_list}
use Rattle.der_types_sets.specs.Sets.{Ascends}
use Rattle.der_types_sets.proofs.AscendingSteps.{content_rises, rising-ascends, views}
use Rattle.der_types_sets.proofs.set_of_vec.SetOfVec.decode_value_strict.Goals as goal

pub returns-clause-rising : goal.returns-clause-rising
returns-clause-rising g c =
    let old = g.R.Reader.state c.args.reader.now in
    content_rises old.source.encoding g.T.Shaped.shape c.args.header.tag old.room c.args.header.length.value old.rest (plain_list g.T.Shaped.plain c.in_ok-rising.rising.values.items) _ c.in_ok-rising.ensures.0

pub invariant_of-result : goal.invariant_of-result
invariant_of-result g c =
    let s = g.T.Shaped.shape in
    let old = g.R.Reader.state c.args.reader.now in
    let items = c.in_ok-rising.rising.values.items in
    let rises = content_rises old.source.encoding s c.args.header.tag old.room c.args.header.length.value old.rest (plain_list g.T.Shaped.plain items) _ c.in_ok-rising.ensures.0 in
    subst (λ (f : g.row.T.Denot → Value s). Ascends s f items) (sym (views s g.T.Shaped.written g.T.Shaped.plain g.met.T.AsRead.as_read)) (rising-ascends s g.T.Shaped.plain items rises)
