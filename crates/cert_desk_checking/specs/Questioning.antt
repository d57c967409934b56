-- The questions about an entry of a bundle.
use Rattle.std.specs.Prelude.{ℕ, ◌+◌, List, [], ◌∷◌, ◌++◌, Option, Some, if◌then◌else◌}
use Rattle.cert_desk_rules.specs.DeskBundle.declared.entry.Entry.{Entry}
use Rattle.x509_cert_anchors.specs.Oid.Bound.{Bound}
use Rattle.x509_cert_anchors.specs.CertParts.Grammar.{PublicKey}
use Rattle.x509_cert_anchors.specs.CertCertificates.Views.{certificate_plain}
use Rattle.x509_cert_anchors.specs.CertCertificates.Certificates.{outer_algorithm, signature_bits}
use Rattle.cert_desk_rules.specs.Judging.{PlainAnchor, is_named}
use Rattle.cert_desk_rules.specs.Questions.{Question}
use Rattle.cert_desk_checking.specs.QuestionLines.{line_octets}

-- The question under a key.
abbrev pub entry_question : Entry → PublicKey → Question
entry_question e key =
    record {
      key = key;
      algorithm = outer_algorithm (certificate_plain e.certificate.now);
      signed = e.signed.now;
      bits = signature_bits (certificate_plain e.certificate.now);
    }

-- The line of that question. `anchor` is the index of the trust anchor with that key, if it is
-- one's.
abbrev pub entry_line : ℕ → Option ℕ → Entry → PublicKey → List ℕ
entry_line place anchor e key =
    line_octets (record { place = place; anchor = anchor; question = entry_question e key })

-- The line under the key of a trust anchor with this index, or nothing if the anchor doesn't have
-- the issuer's name.
abbrev pub anchor_line : Entry → ℕ → PlainAnchor → List ℕ
anchor_line e number a =
    if is_named Bound (certificate_plain e.certificate.now) a
    then entry_line 0 (Some number) e a.key else []

-- The lines under the keys of trust anchors, the first of which has this index.
abbrev pub entry_lines : Entry → ℕ → List PlainAnchor → List ℕ
entry_lines e number [] = []
entry_lines e number (a ∷ more) = anchor_line e number a ++ entry_lines e (number + 1) more
