-- Lemmas: the encoding of a field decodes to the field.
use Rattle.std.proofs.Common.{◌≡◌, ◌/◌, ℕ, true, false, List, [], ◌∷◌, ◌++◌, length, Some, None, Ok, refl, ap, sym, subst, ◌∙◌, append_assoc, arith}
use Rattle.std.proofs.lemmas.Bool.Decides.{nat_tests}
use Rattle.der_core.specs.EncodingRulesTypes.EncodingRules.TheVariants as encodings
use Rattle.der_core.specs.TagTypes.Tag.{Tag}
use Rattle.der_core.specs.Tags.{class_tag, number_of, same_tag, tag_at, tag_octets}
use Rattle.der_core.specs.Heads.{Head, head_at, head_octets, tlv}
use Rattle.der_core.specs.Shapes.{Shape, Content, Value, ContentValue, tagged, optional, nested, only, contents, octets_of, IsValid}
use Rattle.der_core.specs.Spelling.{is_apart, is_element, are_enough}
use Rattle.der_core.specs.Grammar.{read, peek_at, opt_at}
use Rattle.der_core.proofs.HeadLaws.{head_again, fits_contents}
use Rattle.der_core.proofs.Complete.{element_first, peek_again, complete_element}
use Rattle.der_types_tagged.specs.Fields.{explicit_field, numbered_at}

-- An optional value that is there is decoded, whatever follows it.
pub optional_again : (s : Shape) (room : ℕ) (v : Value s) (r : List ℕ) → is_element s ≡ true → is_apart s ≡ true → are_enough s room ≡ true → IsValid s v
    → read (optional s) room (octets_of s v ++ r) ≡ Ok (Some v, r)
unfolding opt_at
optional_again s room v r e a n h =
    let f = element_first s v e h in
    let peeked : peek_at encodings.Der (octets_of s v ++ r) ≡ Ok (Some f.0) =
    ap (λ (x : List ℕ). peek_at encodings.Der (x ++ r)) f.2 ∙ ap (peek_at encodings.Der) (append_assoc (tag_octets f.0) f.1 r) ∙ peek_again f.0 (f.1 ++ r) f.3 in
    rw (peeked, f.4, complete_element s room v r e a n h) refl

number_of_class : (class n : ℕ) → number_of (class_tag class true n) ≡ n
number_of_class class n = grind (arith, nat_tests)

header_again : (t : Tag) (c : Content) (v : ContentValue c) (r : List ℕ) → IsValid (tagged t c) v
    → head_at (octets_of (tagged t c) v ++ r) ≡ Ok (record { tag = t; len = length (contents c v) }, contents c v ++ r)
unfolding octets_of tlv IsValid
header_again t c v r h =
    ap head_at (append_assoc (head_octets t (length (contents c v))) (contents c v) r) ∙ head_again t (length (contents c v)) (contents c v ++ r) h.1 (fits_contents t (contents c v) h.2)

-- A header of the class, and the bytes after it.
number_is : (class room : ℕ) (s : Shape) (v : Value s) (w q r : List ℕ) (h : Head) → head_at w ≡ Ok (h, q)
    → read (explicit_field class (number_of h.tag) s) room w ≡ Ok (v, r) → numbered_at encodings.Der class s room w ≡ Ok ((number_of h.tag, v), r)
unfolding numbered_at
number_is class room s v w q r h stands reads = rw (stands, reads) refl

-- The number is decoded, too.
pub numbered_again : (class n room : ℕ) (s : Shape) (v : Value s) (r : List ℕ) → is_apart (explicit_field class n s) ≡ true → are_enough (explicit_field class n s) room ≡ true
    → IsValid (explicit_field class n s) v → numbered_at encodings.Der class s room (octets_of (explicit_field class n s) v ++ r) ≡ Ok ((n, v), r)
numbered_again class n room s v r a e h =
    let t = class_tag (class / 64) true n in
    let w = octets_of (explicit_field class n s) v ++ r in
    let number = number_of_class (class / 64) n in
    let Q : ℕ → Type 0 = λ m. read (explicit_field class m s) room w ≡ Ok (v, r) in
    number_is class room s v w (contents (nested (only s)) v ++ r) r (record { tag = t; len = length (contents (nested (only s)) v) }) (header_again t (nested (only s)) v r h)
    (subst Q (sym number) (complete_element (explicit_field class n s) room v r refl a e h))
    ∙ ap (λ m. Ok ((m, v), r)) number

-- The field is absent if another tag is next.
pub other_absent : (t u : Tag) (c : Content) (room : ℕ) (w r : List ℕ) → tag_at w ≡ Ok (u, r) → same_tag t u ≡ false → read (optional (tagged t c)) room w ≡ Ok (None, w)
unfolding opt_at tag_at
other_absent t u c room [] r e other = absurd cc
other_absent t u c room (b ∷ w) r e other = rw (e, other) refl

-- An optional field is absent at the end.
pub end_absent : (t : Tag) (c : Content) (room : ℕ) → read (optional (tagged t c)) room [] ≡ Ok (None, [])
unfolding opt_at
end_absent t c room = refl
