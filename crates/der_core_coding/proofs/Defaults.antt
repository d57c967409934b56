-- Lemmas about defaults: the encoding of a default decodes to it, and no other value has this
-- encoding.
use Rattle.std.proofs.Common.{◌≡◌, ℕ, zero, suc, Bool, true, false, not, nat_eq, ◌<◌, ◌≤◌, List, [], ◌∷◌, ◌++◌, Ok, bytes_eq, nat_lt, length, drop, refl, sym, ap, ◌∙◌, subst, arith, inl, inr, length-append, ℤ, pos}
use Rattle.std.proofs.lemmas.Bool.{cases_lt, ltb-true, lt-ltb}
use Rattle.std.proofs.lemmas.Bool.Decides.{same_from_decides, Decides-eqb, Decides-like, nat_tests}
use Rattle.std.proofs.lemmas.List.{append_assoc, append_cancel_left, append-nil}
use Rattle.std.proofs.lemmas.Slice.Eq.{bytes_eq-Decides}
use Rattle.der_core_values.proofs.CoreHead.IntegerLaws.{integer_of-octets}
use Rattle.der_core_values.proofs.Oid.DigitLaws.{digits-one}
use Rattle.der_core_values.proofs.CoreHead.HeadLaws.{length-short, length-long, number-1}
use Rattle.der_core_values.proofs.CoreHead.TagLaws.{tag-0, tag-1, tag-2, tag-3, tag-4, tag-5}
use Rattle.der_core_values.specs.CoreHead.declared.tag.Tag.{Tag}
use Rattle.der_core_values.specs.CoreHead.Grammar.{read}
use Rattle.der_core_values.specs.CoreHead.Heads.{tlv, head_octets, length_octets}
use Rattle.der_core_values.specs.CoreHead.Integers.{Numbers, integer_octets, integer_of}
use Rattle.der_core_values.specs.CoreHead.Leaves.{integer}
use Rattle.der_core_values.specs.CoreHead.Shapes.{Content, ContentValue, leaf, nested, only, tagged, explicit, octets_of, contents, body_octets, IsValid, IsContent, IsBody}
use Rattle.der_core_values.specs.CoreHead.Spelling.{is_content_apart, are_content_enough}
use Rattle.der_core_values.specs.CoreHead.Tags.{context, tag_octets, number_octets, number_of, IsTag}
use Rattle.der_core_values.proofs.CoreHead.Complete.{complete_element}
use Rattle.der_core_values.specs.CoreOctets.Numbers.{with_sign}
use Rattle.der_core_coding.specs.Defaults.{short_tlv}

-- Lengths

tag_few : (t : Tag) → IsTag t → length (tag_octets t) ≤ 6
tag_few t h = grind (arith, nat_tests, tag-0 t, tag-1 t, tag-2 t, tag-3 t, tag-4 t, tag-5 t)

tlv_short : (t : Tag) (c : List ℕ) → length c < 128 → tlv t c ≡ short_tlv t c
unfolding tlv head_octets tag_octets
tlv_short t c h = rw (length-short (length c) h) (append_assoc (tag_octets t) (length c ∷ []) c)

short_few : (t : Tag) (c : List ℕ) → IsTag t → length c < 100 → length (short_tlv t c) < 108
unfolding tag_octets
short_few t c h few =
    omega (arith, few, tag_few t h, length-append (number_octets (number_of t)) (length c ∷ c))

-- No other content has the same bytes

length_some : (n : ℕ) → 0 < length (length_octets n)
length_some n = grind (arith, nat_tests, length-short n, (λ (h : 128 ≤ n). length-long n _ h refl))

counted_short : (c d : List ℕ) → length d < 128 → length_octets (length c) ++ c ≡ length d ∷ d → c ≡ d
counted_short c d h e = elim (cases_lt (length c) 128) [
  | inl s ↦ ap (drop 1) (sym (ap (λ w. w ++ c) (length-short (length c) s)) ∙ e)
  | inr l ↦ absurd (omega (arith, l, h, ap length e, length-append (length_octets (length c)) c, length_some (length c)))
]

tlv_alone : (t : Tag) (c d : List ℕ) → length d < 128 → tlv t c ≡ short_tlv t d → c ≡ d
unfolding tlv head_octets tag_octets
tlv_alone t c d h e =
    counted_short c d h (append_cancel_left (tag_octets t) _ _ (sym (append_assoc (tag_octets t) (length_octets (length c)) c) ∙ e))

same : (t : Tag) (c : Content) (v : ContentValue c) (d : List ℕ) → length d < 128
    → bytes_eq (contents c v) d ≡ bytes_eq (octets_of (tagged t c) v) (short_tlv t d)
unfolding octets_of
same t c v d h =
    let w = contents c v in
    same_from_decides (bytes_eq w d) (bytes_eq (tlv t w) (short_tlv t d)) (bytes_eq-Decides w d)
    (Decides-like (bytes_eq (tlv t w) (short_tlv t d)) (λ e. tlv_alone t w d h e) (λ e. ap (tlv t) e ∙ tlv_short t d h) (bytes_eq-Decides (tlv t w) (short_tlv t d)))

-- The value is valid and is decoded

spelled : (t : Tag) (c : Content) (v : ContentValue c) (d : List ℕ) → length d < 128 → contents c v ≡ d
    → octets_of (tagged t c) v ≡ short_tlv t d
unfolding octets_of
spelled t c v d h e = ap (λ w. tlv t w) e ∙ tlv_short t d h

wide : (t : Tag) (c : Content) (v : ContentValue c) (d : List ℕ) → IsTag t → length d < 128 → contents c v ≡ d → IsContent c v → IsValid (tagged t c) v
unfolding IsValid tag_octets
wide t c v d tag h e is =
    let few : length (short_tlv t d) < 136 = omega (arith, h, tag_few t tag, length-append (number_octets (number_of t)) (length d ∷ d)) in
    let fits : length (tlv t (contents c v)) < 136 = subst (λ w. length (tlv t w) < 136) (sym e) (subst (λ w. length w < 136) (sym (tlv_short t d h)) few) in
    (is, tag, omega (arith, fits))

is_read : (t : Tag) (c : Content) (v : ContentValue c) (d : List ℕ) → IsTag t → length d < 128 → contents c v ≡ d
    → is_content_apart c ≡ true → are_content_enough c 64 ≡ true → IsValid (tagged t c) v → read (tagged t c) 64 (short_tlv t d) ≡ Ok (v, [])
is_read t c v d tag h e apart enough is =
    let front : octets_of (tagged t c) v ++ [] ≡ short_tlv t d = append-nil (octets_of (tagged t c) v) ∙ spelled t c v d h e in
    ap (λ w. read (tagged t c) 64 w) (sym front) ∙ complete_element (tagged t c) 64 v [] refl apart enough is

-- One tag and a content of fewer than 100 bytes

below : (d : List ℕ) → nat_lt (length d) 100 ≡ true → length d < 100
below d h = ltb-true (length d) 100 h

pub tagged_read : (t : Tag) (c : Content) (v : ContentValue c) (d : List ℕ) → IsTag t → nat_lt (length d) 100 ≡ true → is_content_apart c ≡ true
    → ((room : ℕ) → are_content_enough c room ≡ true) → contents c v ≡ d → IsContent c v → read (tagged t c) 64 (short_tlv t d) ≡ Ok (v, [])
tagged_read t c v d tag few apart enough e is =
    let h = below d few in
    is_read t c v d tag (omega (arith, h)) e apart (enough 64) (wide t c v d tag (omega (arith, h)) e is)

pub tagged_same : (t : Tag) (c : Content) (v : ContentValue c) (d : List ℕ) (r : Bool) → nat_lt (length d) 100 ≡ true
    → r ≡ bytes_eq (contents c v) d → r ≡ bytes_eq (octets_of (tagged t c) v) (short_tlv t d)
tagged_same t c v d r few e = e ∙ same t c v d (omega (arith, below d few))

pub tagged_valid : (t : Tag) (c : Content) (v : ContentValue c) (d : List ℕ) (r : Bool) → IsTag t → nat_lt (length d) 100 ≡ true
    → r ≡ bytes_eq (contents c v) d → (r ≡ true → IsContent c v) → r ≡ true → IsValid (tagged t c) v
tagged_valid t c v d r tag few e is h = wide t c v d tag (omega (arith, below d few)) ((bytes_eq-Decides (contents c v) d).0 (sym e ∙ h)) (is h)

-- An explicit tag before another tag

pub explicit_read : (n : ℕ) (t : Tag) (c : Content) (v : ContentValue c) (d : List ℕ) → IsTag (context true n) → IsTag t → nat_lt (length d) 100 ≡ true
    → is_content_apart c ≡ true → ((room : ℕ) → are_content_enough c room ≡ true) → contents c v ≡ d → IsContent c v
    → read (explicit n (tagged t c)) 64 (short_tlv (context true n) (short_tlv t d)) ≡ Ok (v, [])
unfolding contents body_octets IsContent IsBody
explicit_read n t c v d outer tag few apart enough e is =
    let h = below d few in
    let inner : octets_of (tagged t c) v ≡ short_tlv t d = spelled t c v d (omega (arith, h)) e in
    let i = short_few t d tag h in
    let within : IsValid (tagged t c) v = wide t c v d tag (omega (arith, h)) e is in
    is_read (context true n) (nested (only (tagged t c))) v (short_tlv t d) outer (omega (arith, i)) inner apart (enough 63)
    (wide (context true n) (nested (only (tagged t c))) v (short_tlv t d) outer (omega (arith, i)) inner within)

pub explicit_same : (n : ℕ) (t : Tag) (c : Content) (v : ContentValue c) (d : List ℕ) (r : Bool) → IsTag t → nat_lt (length d) 100 ≡ true
    → r ≡ bytes_eq (contents c v) d → r ≡ bytes_eq (octets_of (explicit n (tagged t c)) v) (short_tlv (context true n) (short_tlv t d))
unfolding contents body_octets
explicit_same n t c v d r tag few e =
    tagged_same t c v d r few e
    ∙ same (context true n) (nested (only (tagged t c))) v (short_tlv t d) (omega (arith, short_few t d tag (below d few)))

pub explicit_valid : (n : ℕ) (t : Tag) (c : Content) (v : ContentValue c) (d : List ℕ) (r : Bool) → IsTag (context true n) → IsTag t
    → nat_lt (length d) 100 ≡ true → r ≡ bytes_eq (contents c v) d → (r ≡ true → IsContent c v) → r ≡ true → IsValid (explicit n (tagged t c)) v
unfolding contents body_octets IsContent IsBody
explicit_valid n t c v d r outer tag few e is h =
    let w : contents c v ≡ d = (bytes_eq-Decides (contents c v) d).0 (sym e ∙ h) in
    let b = below d few in
    wide (context true n) (nested (only (tagged t c))) v (short_tlv t d) outer (omega (arith, short_few t d tag b)) (spelled t c v d (omega (arith, b)) w) (wide t c v d tag (omega (arith, b)) w (is h))

-- Integers

small_octets : (k : ℕ) → k < 128 → integer_octets (pos k) ≡ k ∷ []
unfolding integer_octets
small_octets k l = rw (digits-one 256 k (omega arith), lt-ltb k 128 l) refl

small_alone : (z : ℤ) (k : ℕ) → k < 128 → integer_octets z ≡ k ∷ [] → z ≡ pos k
unfolding integer_of
small_alone z k l e = sym (integer_of-octets z) ∙ ap integer_of e ∙ rw (lt-ltb k 128 l, number-1 k) refl

-- A number below 128 has one content byte.
pub small_content : (r : Numbers) (z : ℤ) (k : ℕ) → k < 128 → z ≡ pos k → contents (leaf (integer r)) z ≡ k ∷ []
unfolding contents
small_content r z k l e = ap integer_octets e ∙ small_octets k l

octets_alone : (r : Numbers) (z : ℤ) (k : ℕ) → k < 128 → contents (leaf (integer r)) z ≡ k ∷ [] → z ≡ pos k
unfolding contents
octets_alone r z k l e = small_alone z k l e

positive_same : (r : Numbers) (n k : ℕ) → k < 128 → nat_eq n k ≡ bytes_eq (contents (leaf (integer r)) (pos n)) (k ∷ [])
positive_same r n k l =
    let octets = contents (leaf (integer r)) (pos n) in
    same_from_decides (nat_eq n k) (bytes_eq octets (k ∷ [])) (Decides-eqb n k)
    (Decides-like (bytes_eq octets (k ∷ [])) (λ e. cc (octets_alone r (pos n) k l e)) (λ e. small_content r (pos n) k l (ap pos e)) (bytes_eq-Decides octets (k ∷ [])))

pub positive_small : (r : Numbers) (z : ℤ) (negative : Bool) (n k : ℕ) → k < 128 → z ≡ with_sign negative n → negative ≡ false
    → nat_eq n k ≡ bytes_eq (contents (leaf (integer r)) z) (k ∷ [])
positive_small r z negative n k l e h = rw (e, h) (positive_same r n k l)

pub negative_small : (r : Numbers) (z : ℤ) (negative : Bool) (n k : ℕ) → k < 128 → z ≡ with_sign negative n → negative ≡ true
    → not negative ≡ bytes_eq (contents (leaf (integer r)) z) (k ∷ [])
negative_small r z false n k l e h = absurd (cc h)
negative_small r z true n k l e h =
    let octets = contents (leaf (integer r)) z in
    same_from_decides false (bytes_eq octets (k ∷ [])) (λ h. absurd (cc h), λ p. absurd (cc (e, p)))
    (Decides-like (bytes_eq octets (k ∷ [])) (λ p. octets_alone r z k l p) (λ p. small_content r z k l p) (bytes_eq-Decides octets (k ∷ [])))
