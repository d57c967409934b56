-- Lemmas about the first field of a SEQUENCE, as a part of its encoding.
use Rattle.std.proofs.Common.{◌≡◌, ℕ, ◌+◌, ◌-◌, ◌≤◌, true, List, [], ◌++◌, length, take, drop, Ok, Err, refl, sym, ap, subst, ◌∙◌, arith, inl, inr, append_assoc, append-nil, length-append, length-drop}
use Rattle.std.proofs.lemmas.Bool.{false≢true}
use Rattle.std.proofs.lemmas.Bool.Decides.{nat_tests}
use Rattle.std.proofs.lemmas.List.{take_at, take-append-drop, length-take-le}
use Rattle.der_core.specs.ErrorTypes.ErrorKind.{ErrorKind}
use Rattle.der_core.specs.TagTypes.Tag.TheVariants as tags
use Rattle.der_core.specs.Heads.{Head, head_at, head_octets, tlv}
use Rattle.der_core.specs.Shapes.{Shape, Body, Value, tagged, any, either, field, sequence, nested, octets_of, body_octets, contents, IsValid, IsContent, IsBody, Spells}
use Rattle.der_core.specs.Spelling.{is_element}
use Rattle.der_core.proofs.HeadLaws.{head_again, head_sound, split-tlv, fits_contents}
use Rattle.der_core.proofs.Results.{IsBytes, bytes_drop, ok_is}
use Rattle.pki_signers.specs.Fields.{BeginsWith, IsFirstField}

-- The encoding of an element is a header and its content.
element_begins : (s : Shape) (v : Value s) (after : List ℕ) → is_element s ≡ true → IsValid s v → BeginsWith (octets_of s v ++ after) (octets_of s v)
unfolding octets_of IsValid
element_begins (tagged t c) v after e valid = record { tag = t; contents = contents c v; after = after; whole = refl; part_is = refl; tag_is = valid.1; fits = fits_contents t (contents c v) valid.2 }
element_begins any v after e valid = record { tag = v.tag; contents = v.contents; after = after; whole = refl; part_is = refl; tag_is = valid.1; fits = fits_contents v.tag v.contents valid.2 }
element_begins (either a b) (inl v) after e valid = element_begins a v after (grind (arith, nat_tests)) valid
element_begins (either a b) (inr v) after e valid = element_begins b v after (grind (arith, nat_tests)) valid
element_begins s v after e valid = absurd (false≢true e)

-- The encoding of a SEQUENCE has the encoding of its first field as such a part.
pub first_of : (s : Shape) (b : Body) (v : Value (sequence (field s b))) (w : List ℕ) → is_element s ≡ true → Spells (sequence (field s b)) v w → IsFirstField w (octets_of s v.0)
unfolding octets_of contents body_octets IsValid IsContent IsBody
first_of s b v w e spelled = record {
  contents = contents (nested (field s b)) v;
  whole = spelled.octets;
  fits = fits_contents tags.Sequence (contents (nested (field s b)) v) spelled.valid.2;
  first = element_begins s v.0 (body_octets b v.1) e spelled.valid.0.0;
}

-- A SEQUENCE begins with itself.
whole_begins : (w part : List ℕ) → IsFirstField w part → BeginsWith w w
whole_begins w part f = record { tag = tags.Sequence; contents = f.contents; after = []; whole = sym (append-nil w); part_is = f.whole; tag_is = omega arith; fits = f.fits }

-- The header of a value with which the bytes begin.
read_of : (w part : List ℕ) (b : BeginsWith w part) → head_at w ≡ Ok (record { tag = b.tag; len = length b.contents }, b.contents ++ b.after)
unfolding tlv
read_of w part b =
    let octets : w ≡ head_octets b.tag (length b.contents) ++ (b.contents ++ b.after) =
    b.whole ∙ ap (λ x. x ++ b.after) b.part_is ∙ append_assoc (head_octets b.tag (length b.contents)) b.contents b.after in
    ap head_at octets ∙ head_again b.tag (length b.contents) (b.contents ++ b.after) b.tag_is b.fits

-- The header that was decoded is that of the value with which the bytes begin.
record Found (w part : List ℕ) (b : BeginsWith w part) (h : Head) (count : ℕ) : Type 0 where
  tag_is : h.tag ≡ b.tag
  len_is : h.len ≡ length b.contents
  behind : drop count w ≡ b.contents ++ b.after

found : (w part : List ℕ) (b : BeginsWith w part) (h : Head) (count : ℕ) → head_at w ≡ Ok (h, drop count w) → Found w part b h count
found w part b h count read =
    let same = ok_is (h, drop count w) (record { tag = b.tag; len = length b.contents }, b.contents ++ b.after) (sym read ∙ read_of w part b) in
    record {
      tag_is = ap (λ (x : Head × List ℕ). x.0.tag) same;
      len_is = ap (λ (x : Head × List ℕ). x.0.len) same;
      behind = ap (λ (x : Head × List ℕ). x.1) same;
    }

-- The first field is the only such part.
pub one_first : (w p q : List ℕ) → IsFirstField w p → IsFirstField w q → p ≡ q
one_first w p q f g =
    let around = split-tlv tags.Sequence tags.Sequence f.contents g.contents [] [] (omega arith) (omega arith) f.fits g.fits (ap (λ x. x ++ []) (sym f.whole ∙ g.whole)) in
    let whole : tlv f.first.tag f.first.contents ++ f.first.after ≡ tlv g.first.tag g.first.contents ++ g.first.after =
    sym (f.first.whole ∙ ap (λ x. x ++ f.first.after) f.first.part_is) ∙ around.1 ∙ g.first.whole ∙ ap (λ x. x ++ g.first.after) g.first.part_is in
    let inside = split-tlv f.first.tag g.first.tag f.first.contents g.first.contents f.first.after g.first.after f.first.tag_is g.first.tag_is f.first.fits g.first.fits whole in
    f.first.part_is ∙ ap (λ t. tlv t f.first.contents) inside.0 ∙ ap (tlv g.first.tag) inside.1 ∙ sym g.first.part_is

-- The bytes begin with a value whose header was decoded and whose content is complete.
value_begins : (w : List ℕ) (h : Head) (count : ℕ) → IsBytes w → head_at w ≡ Ok (h, drop count w) → count ≤ length w → h.len ≤ length w - count → BeginsWith w (take (count + h.len) w)
unfolding tlv
value_begins w h count bytes read within enough =
    let rest = drop count w in
    let content = take h.len rest in
    let after = drop h.len rest in
    let sound = head_sound w h rest bytes read in
    let long : length content ≡ h.len = length-take-le h.len rest (omega (arith, length-drop count w)) in
    let joined : w ≡ tlv h.tag content ++ after =
    sound.0 ∙ ap (λ x. head_octets h.tag h.len ++ x) (sym (take-append-drop h.len rest)) ∙ sym (append_assoc (head_octets h.tag h.len) content after)
    ∙ ap (λ n. (head_octets h.tag n ++ content) ++ after) (sym long) in
    let size : length (tlv h.tag content) ≡ count + h.len =
    omega (arith, ap length joined, length-append (tlv h.tag content) after, length-drop h.len rest, length-drop count w) in
    let part : take (count + h.len) w ≡ tlv h.tag content = ap (take (count + h.len)) joined ∙ take_at (tlv h.tag content) after (count + h.len) size in
    record {
      tag = h.tag;
      contents = content;
      after = after;
      whole = joined ∙ ap (λ x. x ++ after) (sym part);
      part_is = part;
      tag_is = sound.1;
      fits = omega (arith, long, sound.2);
    }

-- No header can be decoded, so there is no first field.
pub no_outer : (w : List ℕ) (kind : ErrorKind) → head_at w ≡ Err kind → (part : List ℕ) → IsFirstField w part → ⊥
no_outer w kind fails part f = let read = read_of w w (whole_begins w part f) in absurd cc

-- If there is a first field, the header that was decoded is that of the SEQUENCE.
pub record Outer (content part : List ℕ) (h : Head) : Type 0 where
  pub tag_is : h.tag ≡ tags.Sequence
  pub len_is : h.len ≡ length content
  pub first : BeginsWith content part

-- The first header was decoded.
module _ (w : List ℕ) (outer : Head) (k : ℕ) (read : head_at w ≡ Ok (outer, drop k w)) (content : List ℕ) (rest : content ≡ drop k w) where
  pub outer_of : (part : List ℕ) → IsFirstField w part → Outer content part outer
  unfolding whole_begins
  outer_of part f =
      let there = found w w (whole_begins w part f) outer k read in
      let is : content ≡ f.contents = rest ∙ there.behind ∙ append-nil f.contents in
      record {
        tag_is = there.tag_is;
        len_is = there.len_is ∙ ap length (sym is);
        first = subst (λ x. BeginsWith x part) (sym is) f.first;
      }

  -- No second header can be decoded, so there is no first field.
  pub no_inner : (kind : ErrorKind) → head_at content ≡ Err kind → (part : List ℕ) → IsFirstField w part → ⊥
  no_inner kind fails part f = let second = read_of content part (outer_of part f).first in absurd cc

  -- The second header was decoded.
  module _ (inner : Head) (n : ℕ) (second : head_at content ≡ Ok (inner, drop n content)) where
    -- The content of a first field is complete.
    pub inner_fits : (part : List ℕ) → IsFirstField w part → inner.len ≤ length content - n
    inner_fits part f =
        let b = (outer_of part f).first in
        let there = found content part b inner n second in
        omega (arith, there.len_is, length-drop n content, ap length there.behind, length-append b.contents b.after)

    -- The SEQUENCE ends with the bytes and the first value doesn't end after it.
    pub first_here : IsBytes w → outer.tag ≡ tags.Sequence → outer.len ≡ length content → n ≤ length content → inner.len ≤ length content - n → IsFirstField w (take (n + inner.len) content)
    unfolding tlv
    first_here bytes tag_is len_is within enough =
        let sound = head_sound w outer (drop k w) bytes read in
        record {
          contents = content;
          whole = sound.0 ∙ ap (λ x. head_octets outer.tag outer.len ++ x) (sym rest) ∙ ap (λ t. head_octets t outer.len ++ content) tag_is ∙ ap (λ m. head_octets tags.Sequence m ++ content) len_is;
          fits = omega (arith, sound.2, len_is);
          first = value_begins content inner n (subst IsBytes (sym rest) (bytes_drop k w bytes)) second within enough;
        }
