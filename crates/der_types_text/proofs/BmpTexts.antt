-- Lemmas about texts of any bytes, pairs of bytes, and the characters of a BMPString.
use Rattle.std.proofs.Common.{◌≡◌, ℕ, zero, suc, ◌<◌, ◌%◌, Bool, true, false, List, [], ◌∷◌, ◌++◌, length, get_or, Ok, Err, refl, ap, sym, ◌∙◌, arith, nat_eq, encode_utf8_all, chars, IsUtf8}
use Rattle.std.specs.Cmp.Lexicographic.{pointwise}
use Rattle.std.specs.List.{list_all}
use Rattle.std.proofs.lemmas.Bool.{and_parts, cond-true, cond-false, and_from}
use Rattle.std.proofs.lemmas.Bool.Decides.{same_from_decides, Decides-eqb, nat_tests}
use Rattle.std.proofs.lemmas.Grind.{flat_map-append}
use Rattle.std.proofs.lemmas.List.Folds.{list_all-append}
use Rattle.std.proofs.lemmas.Slice.Eq.{slice_eq-Decides}
use Rattle.der_core.specs.ErrorTypes.ErrorKind.TheVariants as kinds
use Rattle.der_core.specs.TagTypes.Tag.TheVariants as tags
use Rattle.der_core.specs.BmpStrings.{is_unit, unit_octets, bmp_octets, are_pairs, units, IsBmp}
use Rattle.der_core.proofs.Results.{IsBytes, octets_are, fine, ok_is, if_ok}
use Rattle.der_core.proofs.TextLaws.{bmp_octets-units, units-octets, all_ascii}
use Rattle.der_types_text.specs.BmpStrings.{are_bmp, bmp_from}
use Rattle.std.proofs.Math.Utf8.{scalar, scalars}
use Rattle.std.proofs.lemmas.Str.{chars-encodes, encodes-chars, IsUtf8-from_ascii}
use Rattle.der_core.specs.Octets.{IsOctets}
use Rattle.der_core.specs.TagTypes.Tag.{Tag}
use Rattle.der_core.specs.Texts.{any_octet, is_within, text_read}

-- Pairs are an even number of bytes.
pub are_pairs-even : (w : List ℕ) → are_pairs w ≡ nat_eq (length w % 2) 0
are_pairs-even [] = refl
are_pairs-even (a ∷ []) = refl
are_pairs-even (a ∷ b ∷ w) =
    let e : length (a ∷ b ∷ w) % 2 ≡ length w % 2 = omega arith in
    rw e (are_pairs-even w)

-- Bytes that are pairs are the encoding of their characters.
pub are_bmp-spelled : (w : List ℕ) → IsBytes w → are_bmp w ≡ true → w ≡ bmp_octets (units w)
are_bmp-spelled w h e = sym (bmp_octets-units w (octets_are w h) (and_parts (are_pairs w) (list_all is_unit (units w)) e).0)

-- Appending a character.
pub bmp_octets-push : (us : List ℕ) (u : ℕ) → bmp_octets (us ++ u ∷ []) ≡ bmp_octets us ++ unit_octets u
unfolding bmp_octets
bmp_octets-push us u = flat_map-append unit_octets us (u ∷ [])

pub list_all-push : (p : ℕ → Bool) (us : List ℕ) (u : ℕ) → list_all p us ≡ true → p u ≡ true → list_all p (us ++ u ∷ []) ≡ true
list_all-push p us u h e = list_all-append p us (u ∷ []) ∙ rw (h, e) refl

-- A list with a character that isn't accepted.
pub list_all-refused : (p : ℕ → Bool) (xs : List ℕ) (i c : ℕ) → i < length xs → c ≡ get_or xs i c → p c ≡ false → list_all p xs ≡ false
list_all-refused p [] i c h at e = absurd (omega arith)
list_all-refused p (x ∷ xs) zero c h at e = rw (ap p (sym at) ∙ e) refl
list_all-refused p (x ∷ xs) (suc i) c h at e =
    let more = list_all-refused p xs i c (omega arith) at e in
    grind (arith, nat_tests)

-- Strings are equal exactly if their bytes are.
pub pointwise-bmp_octets : (us vs : List ℕ) → pointwise nat_eq (bmp_octets us) (bmp_octets vs) ≡ pointwise nat_eq us vs
pointwise-bmp_octets us vs =
    let octets = slice_eq-Decides Decides-eqb (bmp_octets us) (bmp_octets vs) (pointwise nat_eq (bmp_octets us) (bmp_octets vs)) refl in
    let characters = slice_eq-Decides Decides-eqb us vs (pointwise nat_eq us vs) refl in
    same_from_decides _ _ octets
    (λ e. ap bmp_octets (characters.0 e), λ e. characters.1 (sym (units-octets us) ∙ ap units e ∙ units-octets vs))

pub bmp_from-ok : (cs : List ℕ) → list_all is_unit cs ≡ true → bmp_from cs ≡ Ok cs
bmp_from-ok cs h = cond-true (list_all is_unit cs) (fine cs) (Err (kinds.Value tags.BmpString)) h

pub bmp_from-refused : (cs : List ℕ) → list_all is_unit cs ≡ false → bmp_from cs ≡ Err (kinds.Value tags.BmpString)
bmp_from-refused cs h = cond-false (list_all is_unit cs) (fine cs) (Err (kinds.Value tags.BmpString)) h

pub ruleset pairs = (are_pairs-even, are_bmp-spelled)

-- The characters of a BMPString are characters of a text

-- Strings with the same bytes have the same characters.
pub one_string : (us vs : List ℕ) → bmp_octets us ≡ bmp_octets vs → us ≡ vs
one_string us vs e = sym (units-octets us) ∙ ap units e ∙ units-octets vs

unit_scalar : (u : ℕ) → is_unit u ≡ true → scalar u ≡ true
unit_scalar u e = grind (arith, nat_tests)

pub bmp_scalars : (us : List ℕ) → IsBmp us → scalars us ≡ true
bmp_scalars [] h = refl
bmp_scalars (u ∷ us) h =
    let parts = and_parts (is_unit u) (list_all is_unit us) h in
    and_from (scalar u) (scalars us) (unit_scalar u parts.0) (bmp_scalars us parts.1)

-- The text that a string prints gives the same string.
pub printed_read : (us : List ℕ) → IsBmp us → bmp_from (chars (encode_utf8_all us)) ≡ Ok us
printed_read us h =
    let same : chars (encode_utf8_all us) ≡ us = chars-encodes us (bmp_scalars us h) in
    rw same (bmp_from-ok us h)

-- A string that was made from a text prints that text.
pub read_printed : (text us : List ℕ) → IsUtf8 text → bmp_from (chars text) ≡ Ok us → encode_utf8_all us ≡ text
read_printed text us utf8 e =
    let parts = if_ok (list_all is_unit (chars text)) (kinds.Value tags.BmpString) (fine (chars text)) us e in
    ap encode_utf8_all (sym (ok_is (chars text) us parts.1)) ∙ encodes-chars text utf8

-- Texts of ASCII characters are UTF-8

pub ascii_is_utf8 : (p : ℕ → Bool) (w : List ℕ) → ((b : ℕ) → p b ≡ true → b < 128) → list_all p w ≡ true → IsUtf8 w
ascii_is_utf8 p w below e = IsUtf8-from_ascii w (all_ascii p w below e)

pub ascii_octets : (p : ℕ → Bool) (w : List ℕ) → ((b : ℕ) → p b ≡ true → b < 128) → list_all p w ≡ true → IsOctets w
ascii_octets p [] below e = tt
ascii_octets p (b ∷ w) below e =
    let parts = and_parts (p b) (list_all p w) e in
    let small = below b parts.0 in
    (omega arith, ascii_octets p w below parts.1)

-- Any bytes are a text of the repertoire of all bytes

pub all_within : (w : List ℕ) → list_all (is_within any_octet) w ≡ true
all_within [] = refl
all_within (b ∷ w) = all_within w

pub any_read : (t : Tag) (w : List ℕ) → text_read any_octet t w ≡ Ok w
unfolding text_read
any_read t w = cond-true (list_all (is_within any_octet) w) (fine w) (Err (kinds.Value t)) (all_within w)
