-- Tests of the certificates of a chain, one after another, as a loop gets them from the bundle.
use Rattle.std.proofs.Common.{◌≡◌, ℕ, ◌+◌, ◌==◌, List, Bool, true, false, cond, not, ◌&&◌, ◌||◌, length, Option, Some, IfSome, drop, sym, ap, ◌∙◌, arith, suc}
use Rattle.std.specs.List.{list_any}
use Rattle.x509_cert_anchors.specs.Oid.Bound.{Bound}
use Rattle.x509_cert_anchors.specs.CertCertificates.Certificates.{PlainCertificate}
use Rattle.x509_cert_anchors.specs.CertCertificates.Views.{certificate_plain}
use Rattle.cert_desk_rules.specs.DeskBundle.declared.entry.Entry.{Entry}
use Rattle.cert_desk_rules.specs.DeskBundle.Entries.{IsEntry}
use Rattle.cert_desk_rules.specs.Paths.{counts, is_self_issued, used_up}
use Rattle.cert_desk_checking.proofs.KeptLaws.{counts-is}
use Rattle.cert_desk_checking.proofs.PlaceLaws.{entry_at}
use Rattle.cert_tool_limits.proofs.ListLaws.{rest_from}

module _ (cs : List PlainCertificate) (place : ℕ) (o : Option Entry) (e : Entry) (got : IfSome o (λ x. IsEntry Bound cs place x)) (is : o ≡ Some e) where
  abbrev this : PlainCertificate
  this = certificate_plain e.certificate.now

  entry : IsEntry Bound cs place e
  entry = entry_at Bound cs place o e got is

  module _ (test : PlainCertificate → Bool) where
    here : (b : Bool) → test this ≡ b → list_any test (drop place cs) ≡ (b || list_any test (drop (place + 1) cs))
    here b answer = rest_from (list_any test) cs place this entry.certificate ∙ ap (λ r. r || list_any test (drop (place + 1) cs)) answer

    pub found_here : test this ≡ true → list_any test (drop place cs) ≡ list_any test cs → true ≡ list_any test cs
    found_here answer left = sym (here true answer) ∙ left

    pub not_here : test this ≡ false → list_any test (drop place cs) ≡ list_any test cs → list_any test (drop (place + 1) cs) ≡ list_any test cs
    not_here answer left = sym (here false answer) ∙ left

  -- One more certificate, which counts for path lengths or doesn't.
  pub counted_here : (n : ℕ) (r b : Bool) → n ≡ length cs → r ≡ (not ((place + 1) == n) && not (is_self_issued Bound this)) → r ≡ b
      → used_up Bound cs 0 place + cond b 1 0 ≡ used_up Bound cs 0 (place + 1)
  counted_here n r b len told answer =
      let decided : counts Bound cs place ≡ b =
      counts-is Bound cs place this entry.certificate ∙ ap (λ m. not ((place + 1) == m) && not (is_self_issued Bound this)) (sym len) ∙ sym told ∙ answer in
      let next : place + 1 ≡ suc place = omega arith in
      let same : 0 + place ≡ place = omega arith in
      sym (ap (used_up Bound cs 0) next ∙ ap (λ m. used_up Bound cs 0 place + cond (counts Bound cs m) 1 0) same ∙ ap (λ c. used_up Bound cs 0 place + cond c 1 0) decided)
