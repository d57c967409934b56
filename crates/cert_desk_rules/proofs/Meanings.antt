-- The meaning of a content, by its encodings and by decoding.
use Rattle.std.proofs.Common.{◌≡◌, ℕ, List, true, Result, Ok, Err, refl, ap}
use Rattle.cert_desk_bundle.specs.Der.ErrorTypes.ErrorKind.{ErrorKind}
use Rattle.cert_desk_bundle.specs.Der.Limits.{levels_max}
use Rattle.cert_desk_bundle.specs.Der.Grammar.{read_whole}
use Rattle.cert_desk_bundle.specs.Der.Shapes.{Shape, Value, Spells, sequence}
use Rattle.cert_desk_bundle.specs.Der.Spelling.{is_apart, are_enough}
use Rattle.cert_desk_bundle.proofs.Der.OneEncoding.{whole_again}
use Rattle.cert_desk_bundle.proofs.Der.Results.{IsBytes}
use Rattle.x509_cert_extensions.specs.PolicyTypes.Policies.{basic_constraints_fields}
use Rattle.cert_desk_bundle.specs.Decoding.{Decoding, decodes_to, decodes_to_none}
use Rattle.cert_desk_bundle.proofs.Decodings.{decodes_once, whole_spells}
use Rattle.cert_desk_rules.specs.Weighing.{Meaning, malformed, meaning_of}

abbrev pub basic_constraints : Shape
basic_constraints = sequence basic_constraints_fields

-- The meaning of the result of decoding a content.
abbrev pub read_meaning : {P Q : Type 0} → (P → Meaning) → Result (P × Q) ErrorKind → Meaning
read_meaning says (Ok read) = says read.0
read_meaning says (Err fault) = malformed

module _ (s : Shape) (says : Value s → Meaning) (w : List ℕ) (apart : is_apart s ≡ true) (enough : are_enough s levels_max ≡ true) where
  pub meaning_once : (v : Value s) → Spells s v w → (d : Decoding s w) → meaning_of says d ≡ says v
  meaning_once v h (decodes_to u k) = ap says (decodes_once s u v w apart enough k h)
  meaning_once v h (decodes_to_none none) = absurd (none v h)

  pub meaning_none : ((v : Value s) → Spells s v w → ⊥) → (d : Decoding s w) → meaning_of says d ≡ malformed
  meaning_none none (decodes_to v h) = absurd (none v h)
  meaning_none none (decodes_to_none h) = refl

  pub meaning_read : IsBytes w → (r : Result (Value s × List ℕ) ErrorKind) → read_whole s w ≡ r → (d : Decoding s w) → meaning_of says d ≡ read_meaning says r
  meaning_read bytes (Ok p) e d = meaning_once p.0 (whole_spells s w p.0 p.1 apart bytes e) d
  meaning_read bytes (Err k) e d = meaning_none (λ v h. absurd (cc (e, whole_again s v w apart enough h))) d
