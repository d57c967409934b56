-- Lemmas for printing names, part by part.
use Rattle.std.proofs.Common.{◌≡◌, ℕ, List, [], ◌∷◌, ◌++◌, length, reverse, Option, Some, None, refl, sym, ap, ◌∙◌, arith, flat_map, chars}
use Rattle.std.proofs.lemmas.List.{append-nil, reverse-append}
use Rattle.std.proofs.lemmas.List.Concat.{flat_map-append}
use Rattle.der_core.specs.Oid.DottedText.{dotted}
use Rattle.der_core.specs.Heads.{tlv, head_octets}
use Rattle.der_core.specs.Shapes.{AnyValue}
use Rattle.der_core.specs.TagTypes.Tag.{Tag}
use Rattle.x509_cert_name_texts.specs.Escapes.{escaped, hex_digits, in_hex}
use Rattle.x509_cert_name_texts.specs.Keys.{key_of}
use Rattle.x509_cert_names.specs.NameTexts.{printed_behind, joined_by, relative_printed, name_printed}
use Rattle.x509_cert_names.specs.ValueTexts.{text_of, encoding_of, printed_by, attribute_printed}
use Rattle.x509_cert_names.specs.declared.attribute_type_and_value.AttributeTypeAndValue.{AttributeTypeAndValue}

pub nothing_printed : (r : List AttributeTypeAndValue) → length r ≡ 0 → [] ≡ relative_printed r
nothing_printed [] e = refl
nothing_printed (a ∷ r) e = absurd (omega arith)

pub no_names_printed : (n : List (List AttributeTypeAndValue)) → length n ≡ 0 → [] ≡ name_printed n
no_names_printed [] e = refl
no_names_printed (r ∷ n) e = absurd (omega arith)

-- The last RDN comes first.
reversed : (n before : List (List AttributeTypeAndValue)) (last : List AttributeTypeAndValue) → n ≡ before ++ (last ∷ []) → reverse n ≡ last ∷ reverse before
reversed n before last e = ap reverse e ∙ reverse-append before (last ∷ [])

pub names_printed : (n before : List (List AttributeTypeAndValue)) (last : List AttributeTypeAndValue) → n ≡ before ++ (last ∷ [])
    → relative_printed last ++ flat_map (printed_behind 44 relative_printed) (reverse before) ≡ name_printed n
names_printed n before last e = sym (ap (joined_by 44 relative_printed) (reversed n before last e))

pub last_printed : (left before : List (List AttributeTypeAndValue)) (last : List AttributeTypeAndValue) → left ≡ before ++ (last ∷ [])
    → printed_behind 44 relative_printed last ++ flat_map (printed_behind 44 relative_printed) (reverse before) ≡ flat_map (printed_behind 44 relative_printed) (reverse left)
last_printed left before last e = sym (ap (flat_map (printed_behind 44 relative_printed)) (reversed left before last e))

pub end_printed : (left : List (List AttributeTypeAndValue)) (t : List ℕ) → length left ≡ 0 → t ≡ t ++ flat_map (printed_behind 44 relative_printed) (reverse left)
end_printed [] t e = sym (append-nil t)
end_printed (r ∷ left) t e = absurd (omega arith)

-- The encoding of a value in hexadecimal: its header, then its content.
pub encoding_printed : (v : AnyValue) (t : Tag) (n : ℕ) (w : List ℕ) → t ≡ v.tag → n ≡ length v.contents → w ≡ v.contents
    → in_hex (head_octets t n) ++ in_hex w ≡ in_hex (encoding_of v)
unfolding encoding_of tlv
encoding_printed v t n w tag len content =
    ap (λ (x : Tag). in_hex (head_octets x n) ++ in_hex w) tag
    ∙ ap (λ (k : ℕ). in_hex (head_octets v.tag k) ++ in_hex w) len
    ∙ ap (λ (x : List ℕ). in_hex (head_octets v.tag (length v.contents)) ++ in_hex x) content
    ∙ sym (flat_map-append hex_digits (head_octets v.tag (length v.contents)) v.contents)

-- The two forms of a printed attribute.
pub text_printed : (a : AttributeTypeAndValue) (key text : List ℕ) → key_of a.oid ≡ Some key → text_of a.value ≡ Some text
    → key ++ (61 ∷ escaped (chars text)) ≡ attribute_printed a
unfolding attribute_printed
text_printed a key w e f = sym (ap (λ o. printed_by o (text_of a.value) a) e ∙ ap (λ o. printed_by (Some key) o a) f)

pub no_text_printed : (a : AttributeTypeAndValue) → text_of a.value ≡ None → dotted a.oid ++ (61 ∷ 35 ∷ in_hex (encoding_of a.value)) ≡ attribute_printed a
unfolding attribute_printed
no_text_printed a e = by (key_of a.oid)
  where
    by : (k : Option (List ℕ)) → dotted a.oid ++ (61 ∷ 35 ∷ in_hex (encoding_of a.value)) ≡ printed_by k (text_of a.value) a
    by None = refl
    by (Some key) = sym (ap (λ o. printed_by (Some key) o a) e)

pub no_key_printed : (a : AttributeTypeAndValue) → key_of a.oid ≡ None → dotted a.oid ++ (61 ∷ 35 ∷ in_hex (encoding_of a.value)) ≡ attribute_printed a
unfolding attribute_printed
no_key_printed a e = sym (ap (λ o. printed_by o (text_of a.value) a) e)
