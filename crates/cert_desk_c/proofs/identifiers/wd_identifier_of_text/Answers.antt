-- Goals of `identifiers::wd_identifier_of_text` that the checker doesn't prove by itself.
use Rattle.std.proofs.Common.{◌≡◌, ◌≤◌, ℕ, List, length, sym, ap, subst, ◌∙◌}
use Rattle.cert_tool_describe.specs.Oid.Bound.{max_size}
use Rattle.cert_tool_describe.specs.Oid.IdentifierOctets.{identifier_octets}
use Rattle.cert_desk_listing.specs.DeskIo.declared.exit_status.ExitStatus.{ExitStatus}
use Rattle.cert_desk_answers.proofs.Judged.{ok_is}
use Rattle.cert_desk_answers.proofs.DeskRules.Returning.{spelled}
use Rattle.cert_desk_c.specs.Values.{IsIdentifierOf, IsNoDottedText}
use Rattle.cert_desk_c.proofs.identifiers.wd_identifier_of_text.Goals as goal

pub returns-clause-statuses : goal.returns-clause-statuses
returns-clause-statuses c =
    let text = c.args.text.now in
    let octets = c.as_bytes.ensures.octets in
    let says = subst (λ (w : List ℕ). IsIdentifierOf text w) (sym octets) c.in-Ok.ensures.read in
    spelled (IsIdentifierOf text) (IsNoDottedText text) c.args.out.now c.as_bytes.result.now c.give.result says
    (λ other h.
    let it = h.1 in
    let short = subst (λ (w : List ℕ). length w ≤ max_size) it.2.2 it.2.1 in
    let same : it.0 ≡ c.in-Ok.identifier = ok_is (List ℕ) ExitStatus it.0 c.in-Ok.identifier (sym (c.identifier_of.ensures.spelled h.0 it.0 it.1 it.2.0 short) ∙ c.in-Ok.is) in
    ap length (it.2.2 ∙ ap identifier_octets same ∙ sym octets))
    (λ none. none c.as_bytes.result.now says) c.give.ensures.status c.give.ensures.fits c.give.ensures.no_room
