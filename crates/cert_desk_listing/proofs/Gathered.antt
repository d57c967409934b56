-- The lines of a certificate, built one after another.
use Rattle.std.proofs.Common.{◌≡◌, ℕ, ℤ, List, ◌++◌, codes, ap, ◌∙◌}
use Rattle.x509_cert_certificates.specs.Certificates.{PlainCertificate, issuer, subject}
use Rattle.x509_cert_lists.specs.CertNames.Names.{PlainName}
use Rattle.x509_cert_lists.specs.CertParts.Grammar.{PlainExtension}
use Rattle.x509_cert_lists.specs.CertNames.PlainTexts.{name_text}
use Rattle.x509_cert_lists.specs.CertParts.Texts.{serial_text, time_text}
use Rattle.cert_desk_listing.specs.Listing.{alone, labelled, extension_lines, certificate_lines}
use Rattle.cert_desk_listing.specs.Parts.{PlainTime, serial, not_before, not_after, extensions_of}

-- The lines with these parts.
abbrev lines_of : ℤ → PlainName → PlainTime → PlainTime → PlainName → List PlainExtension → List ℕ
lines_of n i from to s es =
    alone (codes "certificate")
    ++ labelled (codes "serial") (serial_text n)
    ++ labelled (codes "issuer") (name_text i)
    ++ labelled (codes "not-before") (time_text from)
    ++ labelled (codes "not-after") (time_text to)
    ++ labelled (codes "subject") (name_text s)
    ++ extension_lines es

lines_of_same : (c : PlainCertificate) (n : ℤ) (i : PlainName) (from to : PlainTime) (s : PlainName) (es : List PlainExtension)
    → n ≡ serial c → i ≡ issuer c → from ≡ not_before c → to ≡ not_after c → s ≡ subject c → es ≡ extensions_of c
    → lines_of n i from to s es ≡ certificate_lines c
unfolding certificate_lines
lines_of_same c n i from to s es p q k m u v =
    ap (λ (x : ℤ). lines_of x i from to s es) p
    ∙ ap (λ (x : PlainName). lines_of (serial c) x from to s es) q
    ∙ ap (λ (x : PlainTime). lines_of (serial c) (issuer c) x to s es) k
    ∙ ap (λ (x : PlainTime). lines_of (serial c) (issuer c) (not_before c) x s es) m
    ∙ ap (λ (x : PlainName). lines_of (serial c) (issuer c) (not_before c) (not_after c) x es) u
    ∙ ap (λ (x : List PlainExtension). lines_of (serial c) (issuer c) (not_before c) (not_after c) (subject c) x) v

-- The lines built from the parts of a certificate are the lines of that certificate.
pub certificate_gathered : (c : PlainCertificate) (n : ℤ) (i : PlainName) (from to : PlainTime) (s : PlainName) (es : List PlainExtension)
    → n ≡ serial c → i ≡ issuer c → from ≡ not_before c → to ≡ not_after c → s ≡ subject c → es ≡ extensions_of c
    → (w0 w1 w2 w3 w4 w5 w6 : List ℕ)
    → w0 ≡ alone (codes "certificate")
    → w1 ≡ w0 ++ labelled (codes "serial") (serial_text n)
    → w2 ≡ w1 ++ labelled (codes "issuer") (name_text i)
    → w3 ≡ w2 ++ labelled (codes "not-before") (time_text from)
    → w4 ≡ w3 ++ labelled (codes "not-after") (time_text to)
    → w5 ≡ w4 ++ labelled (codes "subject") (name_text s)
    → w6 ≡ w5 ++ extension_lines es
    → w6 ≡ certificate_lines c
certificate_gathered c n i from to s es p q k m u v w0 w1 w2 w3 w4 w5 w6 h0 h1 h2 h3 h4 h5 h6 =
    let to_serial = h1 ∙ ap (λ (x : List ℕ). x ++ labelled (codes "serial") (serial_text n)) h0 in
    let to_issuer = h2 ∙ ap (λ (x : List ℕ). x ++ labelled (codes "issuer") (name_text i)) to_serial in
    let to_start = h3 ∙ ap (λ (x : List ℕ). x ++ labelled (codes "not-before") (time_text from)) to_issuer in
    let to_end = h4 ∙ ap (λ (x : List ℕ). x ++ labelled (codes "not-after") (time_text to)) to_start in
    let to_subject = h5 ∙ ap (λ (x : List ℕ). x ++ labelled (codes "subject") (name_text s)) to_end in
    h6 ∙ ap (λ (x : List ℕ). x ++ extension_lines es) to_subject ∙ lines_of_same c n i from to s es p q k m u v
