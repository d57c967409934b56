-- Lemmas about sets of named bits, byte by byte.
use Rattle.std.proofs.Common.{◌≡◌, ℕ, ◌*◌, ◌%◌, ◌≤◌, true, List, [], ◌∷◌, length, arith, suc, ◌-◌, get_or, refl, sym, ◌∙◌, ap, Bool, map, zero, ◌+◌, ◌/◌, ◌<◌, ◌^◌, false, ◌++◌, take, drop, inl, inr, Ok, Err, nat_lt, ◌==◌, ◌&&◌, not, slice_set, append-nil, pow_mono, drop-cons}
use Rattle.std.proofs.lemmas.Bool.{and_parts, ltb-true, eqb-true, eq-eqb, cases_eq}
use Rattle.der_core.specs.BitStrings.{are_bits, last_octet}
use Rattle.std.specs.List.{range_with_len}
use Rattle.std.proofs.lemmas.List.{length-map, take_more_set, take_all, append_assoc}
use Rattle.std.proofs.lemmas.List.FromFn.{length-range_with_len}
use Rattle.std.specs.Int.{w8, reverse_bits, trailing_zeros}
use Rattle.std.proofs.lemmas.Nat.{div_below}
use Rattle.std.proofs.Math.Nat.{pow-suc, pow-le-pow_right}
use Rattle.std.proofs.lemmas.Grind.{pow_more}
use Rattle.der_core.specs.ErrorTypes.ErrorKind.TheVariants as kinds
use Rattle.der_core.specs.TagTypes.Tag.{Tag}
use Rattle.der_core.specs.NamedBits.{set_octets, spelled_set, unused_bits, named_octets, ends_in_one, named_read}
use Rattle.der_core.proofs.Results.{IsBytes}
use Rattle.der_core.proofs.IntegerLaws.{set_octets-zero, set_octets-step, named_sound}

-- Bit strings without unused bits, and the number of unused bits of others

-- The number of bits.
pub runs : (f : ℕ → Bool) (p n : ℕ) → length (map f (range_with_len p n)) ≡ n
runs f p n = length-map (range_with_len p n) f ∙ length-range_with_len p n

-- The last byte is the one at the last index.
pub last_place : (xs : List ℕ) → last_octet xs ≡ get_or xs (length xs - 1) 0
last_place [] = refl
last_place (x ∷ []) = refl
last_place (x ∷ y ∷ xs) =
    let e : length (x ∷ y ∷ xs) - 1 ≡ suc (length (y ∷ xs) - 1) = omega arith in
    last_place (y ∷ xs) ∙ ap (λ i. get_or (x ∷ y ∷ xs) i 0) (sym e)

pub all_bits : (w : List ℕ) → are_bits 0 w ≡ true
all_bits [] = eq-eqb 0 0 (omega arith)
all_bits (b ∷ w) = eq-eqb (last_octet (b ∷ w) % 1) 0 (omega arith)

-- There are no more unused bits than bits.
pub few_unused : (u : ℕ) (w : List ℕ) → are_bits u w ≡ true → u ≤ 8 * length w
few_unused u [] e = let n = eqb-true u 0 e in omega arith
few_unused u (b ∷ w) e = let n = ltb-true u 8 (and_parts _ _ e).0 in omega arith

none_of : (n : ℕ) → n ≡ 0 → length (set_octets n) ≡ 0
none_of n e = ap (λ m. length (set_octets m)) e ∙ ap (λ (w : List ℕ). length w) set_octets-zero

-- A number below 256 ^ k has at most k bytes.
pub set_octets-short : (k n : ℕ) → n < 256 ^ k → length (set_octets n) ≤ k
set_octets-short zero n h = omega (arith, none_of n (omega arith))
set_octets-short (suc k) n h = elim (cases_eq n 0) [
  | inl none ↦ omega (arith, none_of n none)
  | inr some ↦ omega (arith, ap (λ (w : List ℕ). length w) (set_octets-step n (omega arith)), set_octets-short k (n / 256) (div_below n 256 (256 ^ k) (omega arith) (rw pow-suc at h)))
]

-- Decoding

pub ends : (u : ℕ) (w : List ℕ) → 0 < length w → ends_in_one u w ≡ (not (get_or w (length w - 1) 0 == 0) && (u == trailing_zeros w8 (get_or w (length w - 1) 0)))
ends u [] h = absurd (omega arith)
ends u (b ∷ w) h = ap (λ o. not (o == 0) && (u == trailing_zeros w8 o)) (last_place (b ∷ w))

-- The set of a suffix that begins one byte earlier.
pub spelled_set-before : (w : List ℕ) (i : ℕ) → i < length w → spelled_set (drop i w) ≡ spelled_set (drop (i + 1) w) * 256 + reverse_bits w8 (get_or w i 0)
unfolding spelled_set
spelled_set-before w i h =
    let next : suc i ≡ i + 1 = omega arith in
    ap spelled_set (drop-cons w i 0 h ∙ ap (λ j. get_or w i 0 ∷ drop j w) next)

step : (names : ℕ) (t : Tag) (u : ℕ) (w : List ℕ) → ends_in_one u w ≡ true → nat_lt (spelled_set w) (2 ^ names) ≡ true → named_read names t (u ∷ w) ≡ Ok (spelled_set w)
unfolding named_read
step names t u w ends small = rw (ends, small) refl

contents : (u : ℕ) (w : List ℕ) (n : ℕ) → u ∷ w ≡ named_octets n → w ≡ set_octets n
unfolding named_octets
contents u w n e = cc

-- There are more bytes than the names need.
pub named_long : (names : ℕ) (t : Tag) (u : ℕ) (w : List ℕ) → names ≤ 64 → IsBytes (u ∷ w) → 8 < length w → ends_in_one u w ≡ true → named_read names t (u ∷ w) ≡ Err (kinds.Value t)
unfolding named_read
named_long names t u w few bytes long ends = by (nat_lt (spelled_set w) (2 ^ names)) refl
  where
    by : (b : Bool) → nat_lt (spelled_set w) (2 ^ names) ≡ b → named_read names t (u ∷ w) ≡ Err (kinds.Value t)
    by false e = rw (ends, e) refl
    by true e =
        let same = contents u w (spelled_set w) (named_sound names t (u ∷ w) (spelled_set w) bytes (step names t u w ends e)).1 in
        let small = ltb-true (spelled_set w) (2 ^ names) e in
        let most : 2 ^ names ≤ 2 ^ 64 = pow_mono {i = names} {j = 64} few in
        let short = set_octets-short 8 (spelled_set w) (omega arith) in
        absurd (omega (arith, ap (λ (x : List ℕ). length x) same))

-- A content with more than eight bytes isn't a set of at most 64 names.
pub content_long : (names : ℕ) (t : Tag) (w : List ℕ) → 0 < length w → names ≤ 64 → IsBytes w → 8 < length (take (length w - 1) (drop 1 w))
    → ends_in_one (get_or w 0 0) (take (length w - 1) (drop 1 w)) ≡ true → named_read names t w ≡ Err (kinds.Value t)
content_long names t [] some few bytes long ends = absurd (omega arith)
content_long names t (u ∷ w) some few bytes long ends =
    let same : take (length (u ∷ w) - 1) w ≡ w = take_all (length (u ∷ w) - 1) w (omega arith) in
    named_long names t u w few bytes (rw same at long) (rw same at ends)

pub spelled_set-none : (w : List ℕ) → w ≡ [] → 0 ≡ spelled_set w
unfolding spelled_set
spelled_set-none [] e = refl
spelled_set-none (b ∷ w) e = absurd cc

pub room_more : (n count : ℕ) → n < 256 ^ count → count < 8 → n * 256 + 255 < 2 ^ 64
room_more n count h few =
    let most : 256 ^ count ≤ 256 ^ 7 = pow-le-pow_right {n = 256} (omega arith) {i = count} {j = 7} (omega arith) in
    omega arith

pub number_more : (n o count : ℕ) → n < 256 ^ count → o < 256 → n * 256 + o < 256 ^ (count + 1)
number_more n o count h l =
    let next : 256 ^ (count + 1) ≡ 256 ^ count * 256 = pow_more 256 count in
    omega arith

-- Encoding

pub left_some : (left k : ℕ) → 0 < left → left < 256 ^ k → 0 < k
left_some left zero some h = absurd (omega arith)
left_some left (suc k) some h = omega arith

pub left_next : (left k : ℕ) → 0 < left → left < 256 ^ k → left / 256 < 256 ^ (k - 1)
left_next left zero some h = absurd (omega arith)
left_next left (suc k) some h =
    let place : suc k - 1 ≡ k = omega arith in
    rw place (div_below left 256 (256 ^ k) (omega arith) (rw pow-suc at h))

pub set_octets-more : (octets : List ℕ) (len left : ℕ) (all : List ℕ) → len < length octets → 0 < left → take len octets ++ set_octets left ≡ all
    → take (len + 1) (slice_set octets len (reverse_bits w8 (left % 256))) ++ set_octets (left / 256) ≡ all
set_octets-more octets len left all h some e =
    ap (λ (u : List ℕ). u ++ set_octets (left / 256)) (take_more_set octets len (reverse_bits w8 (left % 256)) h)
    ∙ append_assoc (take len octets) (reverse_bits w8 (left % 256) ∷ []) (set_octets (left / 256))
    ∙ ap (λ (u : List ℕ). take len octets ++ u) (sym (set_octets-step left some))
    ∙ e

unused_take : (k : ℕ) (w : List ℕ) → k < length w → unused_bits (take (suc k) w) ≡ trailing_zeros w8 (get_or w k 0)
unused_take zero (x ∷ w) h = refl
unused_take (suc k) (x ∷ y ∷ w) h = unused_take k (y ∷ w) (omega arith)
unused_take k w h = absurd (omega arith)

done : (octets : List ℕ) (len left n : ℕ) → left ≡ 0 → take len octets ++ set_octets left ≡ 0 ∷ set_octets n → take len octets ≡ 0 ∷ set_octets n
done octets len left n none e =
    sym (ap (λ m. take len octets ++ set_octets m) none ∙ ap (λ (u : List ℕ). take len octets ++ u) set_octets-zero ∙ append-nil (take len octets)) ∙ e

pub named_some : (octets : List ℕ) (len left n : ℕ) → 1 < len → len ≤ length octets → left ≡ 0 → take len octets ++ set_octets left ≡ 0 ∷ set_octets n
    → take len (slice_set octets 0 (trailing_zeros w8 (get_or octets (len - 1) 0))) ≡ named_octets n
unfolding named_octets
named_some (a ∷ w) (suc (suc k)) left n one h none e =
    let all = done (a ∷ w) (suc (suc k)) left n none e in
    let front : take (suc k) w ≡ set_octets n = cc in
    let place : suc (suc k) - 1 ≡ suc k = omega arith in
    let last : trailing_zeros w8 (get_or (a ∷ w) (suc (suc k) - 1) 0) ≡ unused_bits (set_octets n) =
    ap (λ i. trailing_zeros w8 (get_or (a ∷ w) i 0)) place ∙ sym (unused_take k w (omega arith)) ∙ ap unused_bits front in
    ap (λ t. t ∷ take (suc k) w) last ∙ ap (λ (u : List ℕ). unused_bits (set_octets n) ∷ u) front
named_some octets len left n one h none e = absurd (omega arith)

pub named_none : (octets : List ℕ) (len left n : ℕ) → len ≡ 1 → len ≤ length octets → left ≡ 0 → take len octets ++ set_octets left ≡ 0 ∷ set_octets n → take len octets ≡ named_octets n
unfolding named_octets
named_none [] len left n one h none e = absurd (omega arith)
named_none (a ∷ w) len left n one h none e =
    let all = done (a ∷ w) len left n none e in
    let single : a ∷ [] ≡ 0 ∷ set_octets n = ap (λ i. take i (a ∷ w)) (sym one) ∙ all in
    let empty : [] ≡ set_octets n = cc in
    all ∙ ap (λ (m : ℕ). m ∷ set_octets n) (ap unused_bits empty)
