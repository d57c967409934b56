-- Laws about the certificates of a path.
use Rattle.std.proofs.Common.{◌≡◌, ℕ, Bool, true, false, cond, List, Option, Some, None, slice_get, refl}
use Rattle.std.proofs.lemmas.List.Quantifiers.{position-Some}
use Rattle.std.proofs.lemmas.Option.{slice_get-get_or}
use Rattle.cert_desk_checking.specs.CertCertificates.Certificates.{PlainCertificate}
use Rattle.cert_desk_checking.specs.DeskRules.Judging.{PlainAnchor}
use Rattle.pki_signers.specs.Paths.{is_top, is_issuer, is_link, issuer_among, next_up}

module _ (bound : ℕ) (anchors : List PlainAnchor) (cs : List PlainCertificate) (place : ℕ) (c : PlainCertificate) (at : slice_get cs place ≡ Some c) where
  -- A path begins with the certificate.
  pub next_top : is_top bound anchors c ≡ true → next_up bound anchors cs place ≡ None
  next_top top = rw (at, top) refl

  -- The certificate of the issuer comes next.
  pub next_below : is_top bound anchors c ≡ false → next_up bound anchors cs place ≡ issuer_among bound cs c
  next_below below = rw (at, below) refl

-- The certificate that comes next is that of the issuer.
below_top : (top : Bool) (x : Option ℕ) (above : ℕ) → cond top None x ≡ Some above → x ≡ Some above
below_top true x above e = absurd cc
below_top false x above e = e

module _ (bound : ℕ) (anchors : List PlainAnchor) (cs : List PlainCertificate) (below above : ℕ) where
  link_at : (o : Option PlainCertificate) → slice_get cs below ≡ o → next_up bound anchors cs below ≡ Some above → is_link bound cs above below ≡ true
  link_at None at next = absurd (cc (rw at at next))
  link_at (Some c) at next =
      let among : issuer_among bound cs c ≡ Some above = below_top (is_top bound anchors c) (issuer_among bound cs c) above (rw at at next) in
      let found = position-Some (is_issuer bound c) cs above c among in
      rw (at, slice_get-get_or cs above c found.0) found.1

  pub link : next_up bound anchors cs below ≡ Some above → is_link bound cs above below ≡ true
  link next = link_at (slice_get cs below) refl next
