-- Goals of `names::wd_name_of_text` that the checker doesn't prove by itself.
use Rattle.std.proofs.Common.{ℕ, ◌<◌, List, inl, length, sym, ap, subst, ◌∙◌}
use Rattle.cert_desk_answers.proofs.DeskRules.Returning.{spelled, unspelled}
use Rattle.cert_desk_c.specs.Values.{IsEncodedName, IsNoNameText}
use Rattle.cert_desk_c.proofs.Named.{not_both, one_encoding}
use Rattle.cert_desk_c.proofs.names.wd_name_of_text.Goals as goal

pub returns-clause-done : goal.returns-clause-done
returns-clause-done c = λ done.
    subst (λ (w : List ℕ). IsEncodedName c.args.text.now w) (sym (c.give.ensures.done done ∙ c.as_slice.ensures.value)) c.in-Ok.ensures.read

pub returns-clause-no_room : goal.returns-clause-no_room
returns-clause-no_room c = λ no_room. (
  c.in-Ok.octets.items,
  c.in-Ok.ensures.read,
  c.give.ensures.number ∙ ap length c.as_slice.ensures.value,
  subst (λ (w : List ℕ). length c.args.out.now < length w) c.as_slice.ensures.value (c.give.ensures.no_room no_room),
)

pub returns-in-Err-clause-statuses : goal.returns-in-Err-clause-statuses
returns-in-Err-clause-statuses c =
    let text = c.args.text.now in
    unspelled (IsEncodedName text) (IsNoNameText text) c.args.out.now c.in-Err.status c.code.result c.code.ensures (not_both text) c.in-Err.ensures.refused

pub returns-clause-statuses : goal.returns-clause-statuses
returns-clause-statuses c =
    let text = c.args.text.now in
    let read = subst (λ (w : List ℕ). IsEncodedName text w) (sym c.as_slice.ensures.value) c.in-Ok.ensures.read in
    inl (spelled (IsEncodedName text) (IsNoNameText text) c.args.out.now c.as_slice.result.now c.give.result read (λ other h. ap length (one_encoding text c.as_slice.result.now other read h)) (not_both text c.as_slice.result.now read)
    c.give.ensures.status c.give.ensures.fits c.give.ensures.no_room)
