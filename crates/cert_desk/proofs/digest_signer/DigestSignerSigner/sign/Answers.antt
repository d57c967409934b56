-- Goals of `DigestSigner::sign` that the checker doesn't prove by itself.
use Rattle.std.proofs.Common.{◌≡◌, ℕ, List, ◌++◌, true, refl, sym, ap, ◌∙◌, []}
use Rattle.std.proofs.lemmas.Slice.Eq.{bytes_eq-Decides}
use Rattle.cert_desk_listing.specs.Der.BitStrings.{Bits}
use Rattle.cert_desk_orders.specs.CertParts.Grammar.{PublicKey, key_bits}
use Rattle.cert_desk_orders.specs.CertParts.Views.{key_plain}
use Rattle.sha2.specs.Sha256.{sha256}
use Rattle.cert_desk_checking.proofs.DeskRules.DigestLaws.{yes_by_digest}
use Rattle.cert_desk.specs.DigestSigners.{digest_algorithm, IsDigestOf}
use Rattle.cert_desk.proofs.digest_signer.DigestSignerSigner.sign.Goals as goal

-- The digest verifier accepts the digest of the key's bytes and the signed bytes.
digest_signs : (key : PublicKey) (octets digest : List ℕ) (bits : Bits) → bits ≡ record { unused = 0; octets = digest } → digest ≡ sha256 ((key_bits key).octets ++ octets) → IsDigestOf key octets bits
digest_signs key octets digest bits is e =
    let right = sha256 ((key_bits key).octets ++ octets) in
    let same : bits.octets ≡ right = ap (λ (b : Bits). b.octets) is ∙ e in
    sym (yes_by_digest key digest_algorithm octets bits true refl refl (ap (λ (b : Bits). b.unused) is)) ∙ (bytes_eq-Decides bits.octets right).1 same

pub returns-clause-bits : goal.returns-clause-bits
returns-clause-bits c =
    let key = key_plain c.args.self.now.key in
    let signed = c.args.octets.now in
    let digest : c.finalize.result ≡ sha256 ((key_bits key).octets ++ signed) =
    c.finalize.ensures _ (c.update-2.ensures _ (c.update.ensures [] c.new-hasher.ensures))
    ∙ ap (λ w. sha256 (w ++ signed)) c.raw_bytes.ensures in
    let items : c.in_ok-digest.digest.items ≡ sha256 ((key_bits key).octets ++ signed) =
    c.in_ok-digest.ensures.items_if_clones_equal (λ x y e. e) ∙ c.as_slice.ensures ∙ digest in
    digest_signs key signed c.in_ok-digest.digest.items c.in-Ok.bits c.in-Ok.ensures.ok.1 items
