-- Laws about the encoding of basic constraints.
use Rattle.std.proofs.Common.{◌≡◌, ◌==◌, ℕ, suc, ℤ, pos, negsuc, ◌<◌, ◌≤◌, ltb, List, [], ◌∷◌, ◌++◌, Bool, true, false, Option, Some, None, Result, Ok, Err, length, drop, get_or, refl, sym, ap, ◌∙◌, inl, inr, arith}
use Rattle.std.proofs.lemmas.Bool.{cases_lt, eqb-true, lt-ltb, le-ltb}
use Rattle.std.proofs.lemmas.List.{append-nil}
use Rattle.std.specs.Int.RustNames.{unsigned_abs}
use Rattle.cert_desk_bundle.proofs.Oid.DigitLaws.{digits-one}
use Rattle.cert_desk_bundle.specs.Der.ErrorTypes.ErrorKind.{ErrorKind}
use Rattle.cert_desk_bundle.specs.Der.TagTypes.Tag.TheVariants as tags
use Rattle.cert_desk_bundle.specs.Der.Grammar.{plain_option, read_whole}
use Rattle.cert_desk_bundle.specs.Der.Heads.{head_octets, length_octets, tlv}
use Rattle.cert_desk_bundle.specs.Der.Integers.{integer_octets, unsigned}
use Rattle.cert_desk_bundle.specs.Der.Leaves.{boolean, integer}
use Rattle.cert_desk_bundle.specs.Der.Shapes.{Shape, Spells, IsValid, Value, leaf, octets_of, body_octets, optional, tagged, unless}
use Rattle.cert_desk_bundle.specs.Der.Tags.{tag_octets}
use Rattle.cert_desk_bundle.proofs.Der.OneEncoding.{is_spelled, whole_again}
use Rattle.cert_desk_bundle.proofs.Der.Results.{IsBytes}
use Rattle.cert_desk_bundle.proofs.Der.HeadLaws.{length-short}
use Rattle.x509_cert_extensions.specs.PolicyTypes.Policies.{basic_constraints_fields}
use Rattle.cert_desk_rules.specs.Weighing.{basic_constraints_in, ca_octets, constraints, constraints_of, malformed, meaning_of}
use Rattle.cert_desk_rules.proofs.Meanings.{basic_constraints, meaning_none, meaning_once}

-- The shape of `pathLenConstraint`.
abbrev pub number : Shape
number = tagged tags.Integer (leaf (integer (unsigned 8)))

abbrev length_octets_of : Option ℤ → List ℕ
length_octets_of o = octets_of (optional number) o

abbrev body : Bool → Option ℤ → List ℕ
body ca o = ca_octets ca ++ length_octets_of o

sequence-short : (c : List ℕ) → length c < 128 → tlv tags.Sequence c ≡ 48 ∷ length c ∷ c
unfolding tlv head_octets tag_octets
sequence-short c small = ap (λ (l : List ℕ). 48 ∷ (l ++ c)) (length-short (length c) small)

integer-short : (c : List ℕ) → length c < 128 → tlv tags.Integer c ≡ 2 ∷ length c ∷ c
unfolding tlv head_octets tag_octets
integer-short c small = ap (λ (l : List ℕ). 2 ∷ (l ++ c)) (length-short (length c) small)

body-is : (ca : Bool) (o : Option ℤ) → body_octets basic_constraints_fields (ca, (o, tt)) ≡ body ca o
unfolding octets_of unless tlv head_octets tag_octets length_octets
body-is true o = ap (λ (w : List ℕ). 1 ∷ 1 ∷ 255 ∷ w) (append-nil (length_octets_of o))
body-is false o = append-nil (length_octets_of o)

octets-are : (ca : Bool) (o : Option ℤ) → octets_of basic_constraints (ca, (o, tt)) ≡ tlv tags.Sequence (body ca o)
unfolding octets_of
octets-are ca o = ap (tlv tags.Sequence) (body-is ca o)

digits-few : (n : ℕ) → n < 256 → length (integer_octets (pos n)) ≤ 2
unfolding integer_octets
digits-few n h =
    elim (cases_lt n 128) [
      | inl l ↦ rw (digits-one 256 n h, lt-ltb n 128 l) (omega arith)
      | inr l ↦ rw (digits-one 256 n h, le-ltb n 128 l) (omega arith)
    ]

number-below : (n : ℕ) → IsValid number (pos n) → n < 256
unfolding IsValid
number-below n v = v.0

number-no : (n : ℕ) → IsValid number (negsuc n) → ⊥
unfolding IsValid
number-no n v = v.0

optional-valid : (z : ℤ) → IsValid (optional number) (Some z) → IsValid number z
unfolding IsValid
optional-valid z v = v

valid-optional : (z : ℤ) → IsValid number z → IsValid (optional number) (Some z)
unfolding IsValid
valid-optional z v = v

none-valid : IsValid (optional number) None
unfolding IsValid
none-valid = tt

some-is : (z : ℤ) → length_octets_of (Some z) ≡ octets_of number z
unfolding octets_of
some-is z = refl

none-is : length_octets_of None ≡ []
unfolding octets_of
none-is = refl

number-is : (z : ℤ) → octets_of number z ≡ tlv tags.Integer (integer_octets z)
unfolding octets_of
number-is z = refl

number-few : (o : Option ℤ) → IsValid (optional number) o → length (length_octets_of o) ≤ 4
number-few None v = omega (arith, ap length none-is)
number-few (Some (pos n)) v =
    let few = digits-few n (number-below n (optional-valid (pos n) v)) in
    let is = some-is (pos n) ∙ number-is (pos n) ∙ integer-short (integer_octets (pos n)) (omega (arith, few)) in
    omega (arith, few, ap length is)
number-few (Some (negsuc n)) v = absurd (number-no n (optional-valid (negsuc n) v))

-- A path length begins with the tag of an INTEGER.
number-tag : (z : ℤ) → get_or (length_octets_of (Some z)) 0 0 ≡ 2
unfolding octets_of tlv head_octets tag_octets
number-tag z = refl

body-few : (ca : Bool) (o : Option ℤ) → IsValid (optional number) o → length (body ca o) < 128
body-few true o v = omega (arith, number-few o v)
body-few false o v = omega (arith, number-few o v)

whole-is : (ca : Bool) (o : Option ℤ) → IsValid (optional number) o → octets_of basic_constraints (ca, (o, tt)) ≡ 48 ∷ length (body ca o) ∷ body ca o
whole-is ca o v = octets-are ca o ∙ sequence-short (body ca o) (body-few ca o v)

flag-valid : (ca : Bool) → IsValid (tagged tags.Boolean (leaf boolean)) ca
unfolding IsValid octets_of tlv head_octets tag_octets length_octets
flag-valid true = (tt, omega arith, omega arith)
flag-valid false = (tt, omega arith, omega arith)

valid-whole : (ca : Bool) (o : Option ℤ) → IsValid (optional number) o → IsValid basic_constraints (ca, (o, tt))
unfolding IsValid octets_of
valid-whole ca o v = ((flag-valid ca, (v, tt)), omega arith, omega (arith, ap length (whole-is ca o v), body-few ca o v))

valid-parts : (v : Value basic_constraints) → IsValid basic_constraints v → IsValid (optional number) v.1.0
unfolding IsValid
valid-parts v h = h.0.1.0

-- The meaning of bytes in this form.
says : (ca : Bool) (o : Option ℤ) (w : List ℕ) → IsValid (optional number) o → w ≡ 48 ∷ length (body ca o) ∷ body ca o
    → meaning_of constraints_of (basic_constraints_in w) ≡ constraints ca (plain_option unsigned_abs o)
says ca o w v e =
    meaning_once basic_constraints constraints_of w refl refl (ca, (o, tt)) (record { valid = valid-whole ca o v; octets = e ∙ sym (whole-is ca o v) }) (basic_constraints_in w)

-- The meaning of bytes that aren't in this form.
says-none : (w : List ℕ) → ((ca : Bool) (o : Option ℤ) → IsValid (optional number) o → w ≡ 48 ∷ length (body ca o) ∷ body ca o → ⊥)
    → meaning_of constraints_of (basic_constraints_in w) ≡ malformed
says-none w none = meaning_none basic_constraints constraints_of w refl refl spells-none (basic_constraints_in w)
  where
    spells-none : (v : Value basic_constraints) → Spells basic_constraints v w → ⊥
    spells-none v h = let ok = valid-parts v h.valid in none v.0 v.1.0 ok (h.octets ∙ whole-is v.0 v.1.0 ok)

empty : (l : List ℕ) → (length l == 0) ≡ true → l ≡ []
empty [] h = refl
empty (x ∷ l) h = absurd (omega (arith, eqb-true (length (x ∷ l)) 0 h))

-- The bytes are no SEQUENCE.
pub no_sequence : (w : List ℕ) → ((fields : List ℕ) → w ≡ 48 ∷ length fields ∷ fields → ⊥) → meaning_of constraints_of (basic_constraints_in w) ≡ malformed
no_sequence w none = says-none w (λ ca o v e. none (body ca o) e)

module _ (w fields rest : List ℕ) (ca : Bool) (is : w ≡ 48 ∷ length fields ∷ fields) (split : fields ≡ ca_octets ca ++ rest) where
  form : (o : Option ℤ) → rest ≡ length_octets_of o → w ≡ 48 ∷ length (body ca o) ∷ body ca o
  form o e = is ∙ ap (λ (f : List ℕ). 48 ∷ length f ∷ f) (split ∙ ap (λ (r : List ℕ). ca_octets ca ++ r) e)

  bytes-rest : IsBytes w → IsBytes rest
  bytes-rest bytes i = by ca (is ∙ ap (λ (f : List ℕ). 48 ∷ length fields ∷ f) split)
    where
      by : (c : Bool) → w ≡ 48 ∷ length fields ∷ (ca_octets c ++ rest) → get_or rest i 0 < 256
      by true e = omega (arith, bytes (suc (suc (suc (suc (suc i))))), ap (λ (l : List ℕ). get_or l (suc (suc (suc (suc (suc i))))) 0) e)
      by false e = omega (arith, bytes (suc (suc i)), ap (λ (l : List ℕ). get_or l (suc (suc i)) 0) e)

  -- There is no path length.
  pub no_length : (length rest == 0) ≡ true → meaning_of constraints_of (basic_constraints_in w) ≡ constraints ca None
  no_length none = says ca None w none-valid (form None (empty rest none ∙ sym none-is))

  -- There is a path length.
  pub a_length : (n : ℕ) → IsBytes w → read_whole number rest ≡ Ok (pos n, []) → meaning_of constraints_of (basic_constraints_in w) ≡ constraints ca (Some n)
  a_length n bytes e =
      let h = is_spelled number (λ z. z) rest (Ok (pos n)) refl (bytes-rest bytes) e in
      says ca (Some (pos n)) w (valid-optional (pos n) h.valid) (form (Some (pos n)) (h.octets ∙ sym (some-is (pos n))))

  -- The bytes after `cA` are the encoding of the path length.
  rest-is : (b : Bool) (o : Option ℤ) → (ca ≡ false → (r : List ℕ) → fields ≡ 1 ∷ 1 ∷ 255 ∷ r → ⊥) → fields ≡ body b o → rest ≡ length_octets_of o
  rest-is b o flagged e = by ca b o split flagged e
    where
      by : (c d : Bool) (p : Option ℤ) → fields ≡ ca_octets c ++ rest → (c ≡ false → (r : List ℕ) → fields ≡ 1 ∷ 1 ∷ 255 ∷ r → ⊥) → fields ≡ body d p → rest ≡ length_octets_of p
      by true true p s f g = ap (drop 3) (sym s ∙ g)
      by true false None s f g = absurd (omega (arith, ap length (sym s ∙ g ∙ none-is)))
      by true false (Some z) s f g = absurd (omega (arith, ap (λ (l : List ℕ). get_or l 0 0) (sym s ∙ g), number-tag z))
      by false true p s f g = absurd (f refl (length_octets_of p) g)
      by false false p s f g = sym s ∙ g

  -- Constraints whose path length can't be decoded are malformed.
  pub bad_length : (k : ErrorKind) → (ca ≡ false → (r : List ℕ) → fields ≡ 1 ∷ 1 ∷ 255 ∷ r → ⊥) → (length rest == 0) ≡ false → read_whole number rest ≡ Err k
      → meaning_of constraints_of (basic_constraints_in w) ≡ malformed
  bad_length k flagged some fails = says-none w (λ b o v e. by o v (rest-is b o flagged (ap (drop 2) (sym is ∙ e))))
    where
      by : (o : Option ℤ) → IsValid (optional number) o → rest ≡ length_octets_of o → ⊥
      by None v e = absurd (cc (some, ap (λ (l : List ℕ). length l == 0) (e ∙ none-is)))
      by (Some z) v e = absurd (cc (fails, whole_again number z rest refl refl (record { valid = optional-valid z v; octets = e ∙ some-is z })))
