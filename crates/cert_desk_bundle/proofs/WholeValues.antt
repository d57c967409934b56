-- Laws about a complete SEQUENCE at the beginning of bytes.
use Rattle.std.proofs.Common.{◌≡◌, ℕ, List, ◌∷◌, ◌++◌, length, take, sym, ap, ◌∙◌, arith, append_assoc, length-append}
use Rattle.std.proofs.lemmas.List.{take_at}
use Rattle.x509_cert_certificates.specs.Der.TagTypes.Tag.TheVariants as tags
use Rattle.x509_cert_certificates.specs.Der.Heads.{length_octets, head_octets}
use Rattle.x509_cert_certificates.specs.Der.Shapes.{Body, Value, Spells, sequence}
use Rattle.cert_desk_bundle.specs.declared.fault_kind.FaultKind.TheVariants as kinds
use Rattle.cert_desk_bundle.specs.Faults.{IsFault}
use Rattle.cert_desk_bundle.specs.Headers.{HasWhole}
use Rattle.cert_desk_bundle.proofs.Scans.{head-sequence, header_before, whole_read}

module _ (fields : Body) (limit offset : ℕ) (rest : List ℕ) (len : ℕ) (w : HasWhole limit offset rest len) where
  whole_is : rest ≡ 0x30 ∷ (length_octets w.number ++ (w.body ++ w.more))
  whole_is = w.octets ∙ append_assoc (head_octets tags.Sequence w.number) w.body w.more ∙ ap (λ (x : List ℕ). x ++ (w.body ++ w.more)) (head-sequence w.number)

  pub whole-length : length (head_octets tags.Sequence w.number ++ w.body) ≡ len
  whole-length = omega (arith, length-append (head_octets tags.Sequence w.number) w.body, w.content, w.len_is)

  pub whole-take : take len rest ≡ head_octets tags.Sequence w.number ++ w.body
  whole-take = ap (λ (x : List ℕ). take len x) w.octets ∙ take_at (head_octets tags.Sequence w.number ++ w.body) w.more len whole-length

  -- A SEQUENCE that isn't the encoding of a value is malformed.
  pub whole_malformed : ((c : Value (sequence fields)) → Spells (sequence fields) c (take len rest) → ⊥) → IsFault (sequence fields) limit offset kinds.Malformed rest
  whole_malformed none = record {
    says = (w.number, w.body, w.more, w.small, w.octets, w.content, λ c valid e. none c (record { valid = valid; octets = whole-take ∙ sym e }));
    first = header_before (sequence fields) limit offset rest (length_octets w.number ++ (w.body ++ w.more)) whole_is w.number (w.body ++ w.more) kinds.Malformed
        (whole_read limit offset rest len w) (λ h. (w.within, w.fits)) (λ h. absurd (omega arith));
  }
