-- Lemmas about decoding a content as a value of a type.
use Rattle.std.proofs.Common.{◌≡◌, ℕ, List, [], length, true, false, Result, Ok, Err, refl, sym, ap, ◌∙◌, arith, le-ltb, Bool, nat_eq, ◌&&◌}
use Rattle.std.proofs.lemmas.List.{take_all, drop_all}
use Rattle.der_types_text.specs.Der.ErrorTypes.ErrorKind.{ErrorKind}
use Rattle.der_types_text.specs.Der.ErrorTypes.ErrorKind.TheVariants as kinds
use Rattle.der_types_text.specs.Der.EncodingRulesTypes.EncodingRules.{EncodingRules}
use Rattle.der_types_text.specs.Der.TagTypes.Tag.{Tag}
use Rattle.der_types_text.specs.Der.Octets.{◌>>=◌, Readings}
use Rattle.der_types_text.specs.Der.Tags.{same_tag, leading_octet, number_of}
use Rattle.der_types_text.specs.Der.Shapes.{AnyValue, Content, ContentValue, any}
use Rattle.der_types_text.specs.Der.Grammar.{read_content_by, whole, value_at}
use Rattle.der_types_text.specs.Der.Reading.{Fails}
use Rattle.der_types_text.specs.Der.Fronts.{alone}
use Rattle.der_types_any.specs.Contents.{content_by}
use Rattle.der_types_text.proofs.Der.TagLaws.{same_tags}
use Rattle.der_types_text.specs.Der.Limits.{length_max}
use Rattle.der_types_text.specs.Der.Heads.{Fits}
use Rattle.der_types_text.specs.Der.Texts.{Repertoire, text_read, utf8_read}
use Rattle.der_types_text.specs.Texts.{text_from, utf8_from}
use Rattle.der_types_text.proofs.BmpTexts.{any_read}
use Rattle.std.specs.Cmp.{nat_eq_equiv}
use Rattle.std.specs.Cmp.Lexicographic.{pointwise, bytes_decides}
use Rattle.der_types_text.proofs.Der.ValueEquality.{Alike, exact}
use Rattle.der_types_any.specs.AnyOrders.{any_key}

pub value_whole : {P : Type 0} (f : Readings P) (w : List ℕ) → value_at f (length w) w ≡ (f w >>= whole >>= λ x. Ok (x.0, []))
unfolding value_at
value_whole f w = rw (le-ltb (length w) (length w) (omega arith), take_all (length w) w (omega arith), drop_all (length w) w (omega arith)) refl

then_alone : {P : Type 0} (o : Result (P × List ℕ) ErrorKind) → alone (o >>= λ x. Ok (x.0, [])) ≡ alone o
then_alone (Ok x) = refl
then_alone (Err e) = refl

pub as_is : (rules : EncodingRules) (t : Tag) (c : Content) (a : AnyValue) → same_tag a.tag t ≡ true → content_by rules t c a ≡ alone (value_at (read_content_by rules c a.tag 64) (length a.contents) a.contents)
unfolding content_by
as_is rules t c a e =
    rw (e, value_whole (read_content_by rules c a.tag 64) a.contents) (sym (then_alone (read_content_by rules c a.tag 64 a.contents >>= whole)))

pub as_other : (rules : EncodingRules) (t : Tag) (c : Content) (a : AnyValue) → same_tag a.tag t ≡ false → content_by rules t c a ≡ Err kinds.TagUnexpected
unfolding content_by
as_other rules t c a e = rw e refl

pub as_ok : (rules : EncodingRules) (t : Tag) (c : Content) (a : AnyValue) (v : ContentValue c) (r : List ℕ) → same_tag a.tag t ≡ true
    → value_at (read_content_by rules c a.tag 64) (length a.contents) a.contents ≡ Ok (v, r) → content_by rules t c a ≡ Ok v
as_ok rules t c a v r e h = as_is rules t c a e ∙ ap alone h

pub as_err : (rules : EncodingRules) (t : Tag) (c : Content) (a : AnyValue) (k : ErrorKind) → same_tag a.tag t ≡ true
    → Fails k (value_at (read_content_by rules c a.tag 64) (length a.contents) a.contents) → Fails k (content_by rules t c a)
as_err rules t c a k e h = λ memory. as_is rules t c a e ∙ ap alone (h memory)

-- The result of a reader of the content, after its header, is the result for the value of any type.
pub read_ok : (rules : EncodingRules) (t : Tag) (c : Content) (a : AnyValue) (v : ContentValue c) (r : List ℕ) (by : EncodingRules) (tag : Tag) (n room : ℕ) (w : List ℕ)
    → by ≡ rules → tag ≡ a.tag → n ≡ length a.contents → room ≡ 64 → w ≡ a.contents
    → same_tag a.tag t ≡ true → value_at (read_content_by by c tag room) n w ≡ Ok (v, r) → content_by rules t c a ≡ Ok v
read_ok rules t c a v r by tag n room w o p q s u e h = as_ok rules t c a v r e (rw (o, p, q, s, u) at h)

pub read_err : (rules : EncodingRules) (t : Tag) (c : Content) (a : AnyValue) (k : ErrorKind) (by : EncodingRules) (tag : Tag) (n room : ℕ) (w : List ℕ)
    → by ≡ rules → tag ≡ a.tag → n ≡ length a.contents → room ≡ 64 → w ≡ a.contents
    → same_tag a.tag t ≡ true → Fails k (value_at (read_content_by by c tag room) n w) → Fails k (content_by rules t c a)
read_err rules t c a k by tag n room w o p q s u e h = as_err rules t c a k e (λ memory. rw (o, p, q, s, u) at (h memory))

-- A content of at most 2^32 - 1 bytes is decoded as a text from its bytes

pub text_from-short : (r : Repertoire) (t : Tag) (w : List ℕ) → Fits w → text_from r t w ≡ text_read r t w
text_from-short r t w few = rw (le-ltb length_max (length w) (omega arith)) refl

pub utf8_from-short : (w : List ℕ) → Fits w → utf8_from w ≡ utf8_read w
utf8_from-short w few = rw (le-ltb length_max (length w) (omega arith)) refl

pub ruleset text_contents = (text_from-short, utf8_from-short, any_read)

-- `==` compares the tags and the contents

both_alike : (t : Tag) → (nat_eq (leading_octet t) (leading_octet t) && nat_eq (number_of t) (number_of t)) ≡ true
both_alike t i = nat_eq_equiv.refl (leading_octet t) i && nat_eq_equiv.refl (number_of t) i

abbrev pub same_values : AnyValue → AnyValue → Bool
same_values x y = pointwise nat_eq (any_key x) (any_key y)

-- Two values with the same list of tag and content are equal.
pub one_value : (x y : AnyValue) → same_values x y ≡ true → x ≡ y
one_value x y e =
    let keys : any_key x ≡ any_key y = (bytes_decides (any_key x) (any_key y)).0 e in
    let leading : leading_octet x.tag ≡ leading_octet y.tag = cc in
    let number : number_of x.tag ≡ number_of y.tag = cc in
    let content : x.contents ≡ y.contents = cc in
    let tag : x.tag ≡ y.tag = same_tags x.tag y.tag (rw (leading, number) (both_alike y.tag)) in
    λ i. record { tag = tag i; contents = content i }

pub values : (x y : AnyValue) → Alike any (same_values x y) x y
values x y = exact (one_value x y) (λ e. (bytes_decides (any_key x) (any_key y)).1 (ap any_key e))
