-- One more certificate in the list of what no rule checks.
use Rattle.std.proofs.Common.{◌≡◌, ℕ, ◌+◌, ◌-◌, ◌<◌, suc, List, [], ◌∷◌, Bool, Some, length, drop, slice_get, eqb, sym, ap, ◌∙◌, arith, length-drop}
use Rattle.std.proofs.lemmas.Bool.{eq-eqb, ne_eqb}
use Rattle.std.proofs.lemmas.Option.{slice_get_within}
use Rattle.x509_cert_anchors.specs.CertCertificates.Certificates.{PlainCertificate}
use Rattle.cert_tool_limits.specs.Unjudged.{and_certificates, and_item, unjudged_in}
use Rattle.cert_tool_limits.proofs.ListLaws.{rest_from}

-- The first of some certificates is the last one if none is left.
one_more : (strict : Bool) (purpose : List ℕ) (items : List ℕ) (c : PlainCertificate) (ds : List PlainCertificate) (n left : ℕ) → length ds ≡ n - left → left < suc n
    → and_certificates strict purpose items (c ∷ ds) ≡ and_certificates strict purpose (and_item items (unjudged_in strict purpose (eqb left n) c)) ds
one_more strict purpose items c [] n left e lt =
    ap (λ b. and_item items (unjudged_in strict purpose b c)) (sym (eq-eqb left n (omega (arith, e, lt))))
one_more strict purpose items c (d ∷ ds) n left e lt =
    ap (λ b. and_certificates strict purpose (and_item items (unjudged_in strict purpose b c)) (d ∷ ds)) (sym (ne_eqb left n (λ same. omega (arith, e, same))))

pub certificates_more : (strict : Bool) (purpose : List ℕ) (items : List ℕ) (cs : List PlainCertificate) (i : ℕ) (c : PlainCertificate) → slice_get cs i ≡ Some c
    → and_certificates strict purpose items (drop i cs) ≡ and_certificates strict purpose (and_item items (unjudged_in strict purpose (eqb (i + 1) (length cs)) c)) (drop (i + 1) cs)
certificates_more strict purpose items cs i c is =
    let within = slice_get_within cs i c is in
    rest_from (and_certificates strict purpose items) cs i c is
    ∙ one_more strict purpose items c (drop (i + 1) cs) (length cs) (i + 1) (length-drop (i + 1) cs) (omega (arith, within))
