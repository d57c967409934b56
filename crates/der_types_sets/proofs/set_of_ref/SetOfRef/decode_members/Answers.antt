-- Goals of `set_of_ref::SetOfRef::decode_members` that the checker doesn't prove by itself.
use Rattle.std.proofs.Common.{◌≡◌, List, [], length, drop, Ok, refl, ap, sym, subst, ◌∙◌, arith}
use Rattle.std.proofs.lemmas.List.{drop_all}
use Rattle.der_core.specs.Limits.{levels_max}
use Rattle.der_core.specs.Shapes.{Value}
use Rattle.der_core.specs.Grammar.{read}
use Rattle.der_core.specs.Reading.{State}
use Rattle.der_core.proofs.Results.{ok_is}
use Rattle.der_core.proofs.GoingOn.{broken_kept}
use Rattle.der_types_sets.specs.Ascending.{JoinsAscending, values_at}
use Rattle.der_types_sets.proofs.AscendingSteps.{counts, content_ascends}
use Rattle.der_types_sets.proofs.set_of_ref.SetOfRef.decode_members.Goals as goal

pub returns-in-Err : goal.returns-in-Err
returns-in-Err g c =
    let s = g.T.Shaped.shape in
    let old = g.R.Reader.state c.args.reader.now in
    let refused = rw (c.remaining-octets.ensures.rest, c.levels_left.ensures.left) at c.in-Err.ensures.refused in
    rw c.further_on.ensures (record {
      reads = (
        λ ready memory. refused memory,
        broken_kept old _ c.fail.ensures,
        λ failed. absurd (cc (failed, c.is_failed.ensures, c.if-is_failed.false)),
        ap (λ (r : State). r.failed) c.fail.ensures,
      );
      spelled = tt;
      only = λ v element apart enough ready spells memory. absurd (cc (refused memory, content_ascends s old.room v old.rest element apart enough spells));
    })

pub invariant_of-result : goal.invariant_of-result
invariant_of-result g c =
    let all = counts g.T.Shaped.shape c.levels_left.result c.remaining-octets.result.now c.in-Ok.count g.met.T.Member.apart c.levels_left.ensures.most (λ i. omega (arith, c.remaining-octets.items_fit i)) c.remaining-octets.ensures.short c.in-Ok.ensures.read in
    record { has = record { one = λ _. refl; spelled = record { many = all.as_many; short = c.remaining-octets.ensures.short } }; some = all.some; ascend = tt; joined = all.spelled }

pub returns-in-Ok : goal.returns-in-Ok
returns-in-Ok g c =
    let s = g.T.Shaped.shape in
    let old = g.R.Reader.state c.args.reader.now in
    let new = g.R.Reader.state c.skip.new.self in
    let u = c.remaining-octets.result.now in
    let values = values_at (read s levels_max) c.in-Ok.count u in
    let counted = counts s c.levels_left.result u c.in-Ok.count g.met.T.Member.apart c.levels_left.ensures.most (λ i. omega (arith, c.remaining-octets.items_fit i)) c.remaining-octets.ensures.short c.in-Ok.ensures.read in
    let moved : new.rest ≡ drop (length u) old.rest = ap (λ (r : State). r.rest) c.skip.ensures in
    let none : new.rest ≡ [] = moved ∙ ap (drop (length u)) (sym c.remaining-octets.ensures.rest) ∙ drop_all (length u) u (omega arith) in
    record {
      reads = (rw (← c.remaining-octets.ensures.rest, ← c.levels_left.ensures.left, none) counted.all, rw c.skip.ensures refl, sym c.is_failed.ensures ∙ c.if-is_failed.false, (length u, moved));
      spelled = subst (JoinsAscending s values) c.remaining-octets.ensures.rest counted.spelled;
      only = λ v element apart enough ready spells.
          let all = rw (← c.remaining-octets.ensures.rest, ← c.levels_left.ensures.left) at (content_ascends s old.room v old.rest element apart enough spells) in
          let same = ok_is {A = List (Value s) × List _} (v, []) (values, []) (sym all ∙ counted.all) in
          ap (λ (q : List (Value s) × List _). Ok q.0) same;
    }
