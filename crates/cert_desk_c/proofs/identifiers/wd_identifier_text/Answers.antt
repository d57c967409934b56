-- Goals of `identifiers::wd_identifier_text` that the checker doesn't prove by itself.
use Rattle.std.proofs.Common.{◌≡◌, ℕ, List, length, inl, inr, refl, sym, ap, subst, ◌∙◌}
use Rattle.cert_tool_describe.specs.Oid.declared.error.Error.{Error}
use Rattle.cert_tool_describe.specs.Oid.DottedText.{dotted}
use Rattle.cert_desk_listing.specs.DeskIo.declared.exit_status.ExitStatus.TheVariants.{Faulty}
use Rattle.cert_desk_answers.proofs.Judged.{ok_is}
use Rattle.cert_desk_answers.proofs.DeskRules.Returning.{spelled, unspelled}
use Rattle.cert_desk_answers.specs.DeskRules.Identifiers.{IsNoIdentifier}
use Rattle.cert_desk_c.specs.Values.{IsDottedTextOf}
use Rattle.cert_desk_c.proofs.identifiers.wd_identifier_text.Goals as goal

pub returns-in_default-clause-statuses : goal.returns-in_default-clause-statuses
returns-in_default-clause-statuses c =
    let octets = c.args.octets.now in
    let none : IsNoIdentifier octets = λ arcs h. (let clash = sym (c.from_bytes.ensures.spelled arcs h.2 h.0 h.1) ∙ c.in_default.is in absurd cc) in
    unspelled (IsDottedTextOf octets) (IsNoIdentifier octets) c.args.out.now Faulty c.code.result c.code.ensures (λ text h never. never h.0 h.1) (inl (refl, none))

pub returns-clause-statuses : goal.returns-clause-statuses
returns-clause-statuses c =
    let octets = c.args.octets.now in
    let is = c.as_bytes.ensures.value ∙ c.in-Ok-text_of.ensures in
    let says : IsDottedTextOf octets c.as_bytes.result.now = (c.in-Ok.identifier, c.in-Ok.ensures.ok, is) in
    inl (spelled (IsDottedTextOf octets) (IsNoIdentifier octets) c.args.out.now c.as_bytes.result.now c.give.result says
    (λ other h.
    let same : h.0 ≡ c.in-Ok.identifier = ok_is (List ℕ) Error h.0 c.in-Ok.identifier (sym (c.from_bytes.ensures.spelled h.0 h.1.2 h.1.0 h.1.1) ∙ c.in-Ok.is) in
    ap length (h.2 ∙ ap dotted same ∙ sym is))
    (λ none. none c.in-Ok.identifier c.in-Ok.ensures.ok) c.give.ensures.status c.give.ensures.fits c.give.ensures.no_room)
