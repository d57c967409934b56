-- Goals of `signers::find_by_key_identifier`: the certificate at the index passes the test, or doesn't.
use Rattle.std.proofs.Common.{sym, ◌∙◌, arith}
use Rattle.std.proofs.lemmas.Iterator.Adapters.{position_from-zero}
use Rattle.cert_desk_checking.proofs.PlaceLaws.{entry_at}
use Rattle.pki_signers.specs.Signers.{has_key_identifier}
use Rattle.pki_signers.proofs.PathSteps.{found_here, found_later, found_none}
use Rattle.pki_signers.proofs.signers.find_by_key_identifier.Goals as goal

pub loop-place-init : goal.loop-place-init
loop-place-init c = sym (position_from-zero (has_key_identifier c.args.key_identifier.now) c.args.certificates.now.certificates)

pub returns-then-has_key_identifier-clause-found : goal.returns-then-has_key_identifier-clause-found
returns-then-has_key_identifier-clause-found c =
    let entry = entry_at _ _ _ _ _ c.get.ensures.entry c.unwrap-entry.ensures in
    sym (found_here (has_key_identifier c.args.key_identifier.now) c.args.certificates.now.certificates c.loop-place.place _ entry.certificate (sym c.has_key_identifier.ensures ∙ c.if-has_key_identifier.true)) ∙ c.loop-place.invariant

pub loop-place-preserved : goal.loop-place-preserved
loop-place-preserved c =
    let entry = entry_at _ _ _ _ _ c.get.ensures.entry c.unwrap-entry.ensures in
    found_later (has_key_identifier c.args.key_identifier.now) c.args.certificates.now.certificates c.loop-place.place _ entry.certificate (sym c.has_key_identifier.ensures ∙ c.if-has_key_identifier.false) ∙ c.loop-place.invariant

pub returns-clause-found : goal.returns-clause-found
returns-clause-found c = sym (found_none (has_key_identifier c.args.key_identifier.now) c.args.certificates.now.certificates c.loop-place.place (omega arith)) ∙ c.loop-place.invariant
