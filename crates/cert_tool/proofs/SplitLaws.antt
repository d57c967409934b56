-- The certificates of a stream in reverse order.
use Rattle.std.proofs.Common.{◌≡◌, ℕ, zero, suc, ◌+◌, ◌-◌, ◌<◌, List, [], ◌∷◌, ◌++◌, Some, drop, slice_get, unwrap_or, arith, ap, sym, ◌∙◌}
use Rattle.cert_tool_explain.specs.DeskBundle.declared.entry.Entry.{Entry}
use Rattle.cert_tool_explain.specs.Oid.Bound.{Bound}
use Rattle.cert_tool_explain.specs.CertCertificates.Certificates.{PlainCertificate, certificate_octets}
use Rattle.cert_tool_explain.specs.CertCertificates.Views.{certificate_plain}
use Rattle.cert_tool_explain.specs.DeskBundle.Entries.{IsEntry}
use Rattle.cert_tool.specs.Splitting.{reversed}

some_is : (a b : PlainCertificate) → Some a ≡ Some b → a ≡ b
some_is a b e = ap (λ o. unwrap_or o a) e

drop_here : (cs : List PlainCertificate) (n : ℕ) (c : PlainCertificate) → slice_get cs n ≡ Some c → drop n cs ≡ c ∷ drop (suc n) cs
drop_here [] zero c e = absurd cc
drop_here [] (suc n) c e = absurd cc
drop_here (x ∷ xs) zero c e = ap (λ (y : PlainCertificate). y ∷ xs) (some_is x c e)
drop_here (x ∷ xs) (suc n) c e = drop_here xs n c e

-- One more certificate is added at the end.
pub reversed_more : (cs : List PlainCertificate) (left : ℕ) (e : Entry) (octets : List ℕ) → 0 < left → IsEntry Bound cs (left - 1) e
    → octets ≡ reversed (drop left cs) → octets ++ e.octets.now ≡ reversed (drop (left - 1) cs)
reversed_more cs zero e octets h is so_far = absurd (omega arith)
reversed_more cs (suc n) e octets h is so_far =
    let this = certificate_plain e.certificate.now in
    let m : n ≡ suc n - 1 = omega arith in
    ap (λ w. octets ++ w) is.octets ∙ ap (λ w. w ++ certificate_octets Bound this) so_far
    ∙ sym (ap reversed (drop_here cs n this (ap (slice_get cs) m ∙ is.certificate)))
    ∙ ap (λ k. reversed (drop k cs)) m
