-- Goals of `DigestJudge::accepts` that the checker doesn't prove by itself.
use Rattle.std.proofs.Common.{◌≡◌, [], ◌++◌, bytes_eq, sym, ap, ◌∙◌}
use Rattle.sha2.specs.Sha256.{sha256}
use Rattle.cert_desk_bundle.specs.CertParts.Grammar.{key_bits}
use Rattle.cert_desk_bundle.specs.CertParts.Views.{key_plain}
use Rattle.cert_desk_rules.proofs.DigestLaws.{no_by_algorithm, no_by_unused, yes_by_digest}
use Rattle.cert_desk_rules.proofs.digest_judge.DigestJudgeSignatureJudge.accepts.Goals as goal

pub returns-then-not-is_digest-clause-answered : goal.returns-then-not-is_digest-clause-answered
returns-then-not-is_digest-clause-answered c = no_by_algorithm _ _ _ _ c.is_digest.result c.is_digest.ensures c.if-not-is_digest.true

pub returns-then-unused_bits-ne0-clause-answered : goal.returns-then-unused_bits-ne0-clause-answered
returns-then-unused_bits-ne0-clause-answered c = no_by_unused _ _ _ _ (λ e. c.if-unused_bits-ne0.true (c.unused_bits.ensures ∙ e))

pub returns-clause-answered : goal.returns-clause-answered
returns-clause-answered c =
    let signed = c.args.signed.now in
    let key = key_bits (key_plain c.args.key.now) in
    let digest : c.finalize-digest.result ≡ sha256 (key.octets ++ signed) =
    c.finalize-digest.ensures _ (c.update-2.ensures _ (c.update.ensures [] c.new-hasher.ensures))
    ∙ ap (λ w. sha256 (w ++ signed)) c.raw_bytes.ensures in
    c.eq.ensures
    ∙ ap (λ w. bytes_eq w c.as_slice.result.now) c.raw_bytes-2.ensures
    ∙ ap (bytes_eq c.args.bits.now.octets) (c.as_slice.ensures ∙ digest)
    ∙ yes_by_digest _ _ _ _ c.is_digest.result c.is_digest.ensures c.if-not-is_digest.false (sym c.unused_bits.ensures ∙ c.if-unused_bits-ne0.false)
