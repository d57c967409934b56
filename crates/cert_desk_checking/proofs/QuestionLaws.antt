-- The lines that the code writes for a certificate are those of the chain.
use Rattle.std.proofs.Common.{◌≡◌, ℕ, zero, suc, ◌+◌, ◌-◌, ◌<◌, List, [], ◌∷◌, ◌++◌, cond, codes, decimal, Option, Some, None, Bool, true, false, slice_get, arith, refl, ap, sym, ◌∙◌, append-nil}
use Rattle.std.specs.Option.{option_map_or}
use Rattle.cert_desk_rules.specs.DeskBundle.declared.entry.Entry.{Entry}
use Rattle.hex.specs.Hex.{encode_lower}
use Rattle.x509_cert_anchors.specs.Oid.Bound.{Bound}
use Rattle.x509_cert_anchors.specs.CertCertificates.Certificates.{PlainCertificate, outer_algorithm, public_key}
use Rattle.x509_cert_anchors.specs.CertCertificates.Certificates.{signature_bits}
use Rattle.x509_cert_anchors.specs.CertParts.Grammar.{PublicKey, algorithm_identifier, bit_string}
use Rattle.x509_cert_anchors.specs.CertParts.Grammar.{public_key_info}
use Rattle.x509_cert_anchors.specs.CertCertificates.Views.{certificate_plain}
use Rattle.cert_desk_rules.specs.DeskBundle.Chains.{joined}
use Rattle.cert_desk_rules.specs.DeskBundle.Entries.{IsEntry}
use Rattle.cert_desk_rules.specs.Judging.{PlainAnchor, is_named}
use Rattle.cert_desk_rules.specs.Questions.{Question, question}
use Rattle.cert_desk_checking.proofs.Encodings.{signed_part-is}
use Rattle.cert_desk_checking.specs.QuestionLines.{QuestionLine, anchor_lines, anchor_word, line_octets, lines_at, lines_octets, lines_of, spaced, hex_encoding}
use Rattle.cert_desk_checking.specs.Questioning.{anchor_line, entry_line, entry_lines, entry_question}

-- The words of a line are those of the question.
pub line_is : (place : ℕ) (anchor : Option ℕ) (q : Question) (a k m s b : List ℕ)
    → a ≡ anchor_word anchor → k ≡ hex_encoding (public_key_info Bound) q.key → m ≡ hex_encoding (algorithm_identifier Bound) q.algorithm → s ≡ encode_lower q.signed → b ≡ hex_encoding bit_string q.bits
    → spaced (decimal place) (spaced a (spaced k (spaced m (spaced s (b ++ codes "\n"))))) ≡ line_octets (record { place = place; anchor = anchor; question = q })
line_is place anchor q a k m s b ha hk hm hs hb = rw (ha, hk, hm, hs, hb) refl

-- The question about an entry of a bundle.
question_is : (cs : List PlainCertificate) (place : ℕ) (e : Entry) (key : PublicKey) → IsEntry Bound cs place e
    → entry_question e key ≡ question Bound cs (joined Bound cs) place (certificate_plain e.certificate.now) key
question_is cs place e key is =
    let this = certificate_plain e.certificate.now in
    ap (λ w. record { key = key; algorithm = outer_algorithm this; signed = w; bits = signature_bits this })
    (is.signed ∙ sym (signed_part-is Bound cs place this is.certificate))

-- The line of a question, if the trust anchor has the issuer's name.
where_named : (b : Bool) (octets : List ℕ) (l : QuestionLine) (more : List QuestionLine) → octets ≡ line_octets l
    → cond b octets [] ++ lines_octets more ≡ lines_octets (cond b (l ∷ more) more)
where_named true octets l more e = ap (λ w. w ++ lines_octets more) e
where_named false octets l more e = refl

-- The line of the question about an entry of a bundle.
entry_line_is : (cs : List PlainCertificate) (place : ℕ) (anchor : Option ℕ) (e : Entry) (key : PublicKey) → IsEntry Bound cs place e
    → entry_line place anchor e key
    ≡ line_octets (record { place = place; anchor = anchor; question = question Bound cs (joined Bound cs) place (certificate_plain e.certificate.now) key })
entry_line_is cs place anchor e key is = ap (λ q. line_octets (record { place = place; anchor = anchor; question = q })) (question_is cs place e key is)

module _ (cs : List PlainCertificate) (e : Entry) (is : IsEntry Bound cs 0 e) where
  abbrev this : PlainCertificate
  this = certificate_plain e.certificate.now

  lines_first : (number : ℕ) (anchors : List PlainAnchor) → entry_lines e number anchors ≡ lines_octets (anchor_lines cs (joined Bound cs) this number anchors)
  lines_first number [] = refl
  lines_first number (a ∷ more) =
      ap (λ w. anchor_line e number a ++ w) (lines_first (number + 1) more)
      ∙ where_named (is_named Bound this a) (entry_line 0 (Some number) e a.key)
      (record { place = 0; anchor = Some number; question = question Bound cs (joined Bound cs) 0 this a.key })
      (anchor_lines cs (joined Bound cs) this (number + 1) more) (entry_line_is cs 0 (Some number) e a.key is)

  -- The lines of the first certificate.
  pub lines_at-first : (anchors : List PlainAnchor) → entry_lines e 0 anchors ≡ lines_octets (lines_at anchors cs (joined Bound cs) 0)
  lines_at-first anchors =
      lines_first 0 anchors ∙ sym (ap (λ o. lines_octets (option_map_or (lines_of anchors cs (joined Bound cs) 0) o [])) is.certificate)

-- The line of a later certificate.
pub lines_at-later : (cs : List PlainCertificate) (place : ℕ) (e before : Entry) (key : PublicKey) (anchors : List PlainAnchor) → 0 < place
    → IsEntry Bound cs place e → IsEntry Bound cs (place - 1) before → key ≡ public_key (certificate_plain before.certificate.now)
    → entry_line place None e key ≡ lines_octets (lines_at anchors cs (joined Bound cs) place)
lines_at-later cs zero e before key anchors h is was k = absurd (omega arith)
lines_at-later cs (suc n) e before key anchors h is was k =
    let this = certificate_plain e.certificate.now in
    let earlier : slice_get cs n ≡ Some (certificate_plain before.certificate.now) =
    (let m : n ≡ suc n - 1 = omega arith in ap (slice_get cs) m ∙ was.certificate) in
    ap (entry_line (suc n) None e) k
    ∙ entry_line_is cs (suc n) None e (public_key (certificate_plain before.certificate.now)) is
    ∙ sym (append-nil _)
    ∙ sym (ap (λ o. lines_octets (option_map_or (lines_of anchors cs (joined Bound cs) (suc n)) o [])) is.certificate
    ∙ ap (λ o. lines_octets (option_map_or
    (λ b. record { place = suc n; anchor = None; question = question Bound cs (joined Bound cs) (suc n) this (public_key b) } ∷ []) o [])) earlier)
