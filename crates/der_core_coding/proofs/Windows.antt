-- Lemmas about the reader of a slice, when its end or its position moves.
use Rattle.std.proofs.Common.{◌≡◌, ℕ, ◌+◌, ◌-◌, ◌<◌, ◌≤◌, Bool, List, ◌++◌, length, take, drop, refl, sym, ap, ◌∙◌, arith}
use Rattle.std.proofs.lemmas.List.{take-append-drop, take-take, drop-take, drop-drop, length-take, length-drop}
use Rattle.der_core_values.specs.CoreHead.Reading.{Source, State, entered, restored, past}
use Rattle.der_core_coding.specs.declared.slice_reader.SliceReader.TheInside.{Inside}
use Rattle.der_core_coding.specs.Slices.{view_of, IsReader}

abbrev state : List ℕ → List ℕ → ℕ → Bool → Source → State
state r b n f s = record { rest = r; behind = b; room = n; failed = f; source = s }

same : (r r' b b' : List ℕ) (n n' : ℕ) (f f' : Bool) (s : Source) → r ≡ r' → b ≡ b' → n ≡ n' → f ≡ f' → state r b n f s ≡ state r' b' n' f' s
same r r' b b' n n' f f' s e1 e2 e3 e4 = cc

pub take_then : (m k : ℕ) (xs : List ℕ) → take (m + k) xs ≡ take m xs ++ take k (drop m xs)
take_then m k xs = sym (take-append-drop m (take (m + k) xs)) ∙ (rw (take-take m (m + k) xs (omega arith), drop-take m k xs) refl)

pub window_drop : (p e n : ℕ) (xs : List ℕ) → p + n ≤ e → drop n (take (e - p) (drop p xs)) ≡ take (e - (p + n)) (drop (p + n) xs)
window_drop p e n xs h =
    let k : e - p ≡ n + (e - (p + n)) = omega arith in
    rw (k, drop-take n (e - (p + n)) (drop p xs), drop-drop n p xs) refl

pub window_take : (p e n : ℕ) (xs : List ℕ) → p + n ≤ e → take n (take (e - p) (drop p xs)) ≡ take n (drop p xs)
window_take p e n xs h = take-take n (e - p) (drop p xs) (omega arith)

pub window_length : (p e : ℕ) (xs : List ℕ) → p ≤ e → e ≤ length xs → length (take (e - p) (drop p xs)) ≡ e - p
window_length p e xs h1 h2 = omega (arith, length-take (e - p) (drop p xs), length-drop p xs)

pub opened : (a : Inside) (n : ℕ) → IsReader a → n ≤ a.end - a.position → a.depth < 64
    → view_of (record a { end = a.end - (a.end - a.position - n); depth = a.depth + 1 }) ≡ entered n (view_of a)
opened a n ok h d =
    let p = a.position in
    let e = a.end in
    let xs : List ℕ = a.bytes.now in
    let end-is : e - (e - p - n) ≡ p + n = omega arith in
    let mid : (p + n) - p ≡ n = omega arith in
    let r : take ((e - (e - p - n)) - p) (drop p xs) ≡ take n (take (e - p) (drop p xs)) = rw (end-is, mid, window_take p e n xs (omega arith)) refl in
    let far : e ≡ (p + n) + (e - (p + n)) = omega arith in
    let b : drop (e - (e - p - n)) xs ≡ drop n (take (e - p) (drop p xs)) ++ drop e xs =
    rw (end-is, window_drop p e n xs (omega arith)) (sym (take-append-drop (e - (p + n)) (drop (p + n) xs)) ∙ ap (λ (t : List ℕ). take (e - (p + n)) (drop (p + n) xs) ++ t) (drop-drop (e - (p + n)) (p + n) xs ∙ ap (λ (i : ℕ). drop i xs) (sym far))) in
    let m : 64 - (a.depth + 1) ≡ (64 - a.depth) - 1 = omega arith in
    same _ _ _ _ _ _ _ _ _ r b m refl

pub closed : (a : Inside) (k : ℕ) (f : Bool) → IsReader a → k ≤ length (drop a.end a.bytes.now) → 0 < a.depth
    → view_of (record a { end = a.end + k; depth = a.depth - 1; failed = f }) ≡ restored k f (view_of a)
closed a k f ok h d =
    let p = a.position in
    let e = a.end in
    let xs : List ℕ = a.bytes.now in
    let e1 : (e + k) - p ≡ (e - p) + k = omega (arith, ok.position) in
    let e2 : p + (e - p) ≡ e = omega (arith, ok.position) in
    let r : take ((e + k) - p) (drop p xs) ≡ take (e - p) (drop p xs) ++ take k (drop e xs) = rw (e1, take_then (e - p) k (drop p xs), drop-drop (e - p) p xs, e2) refl in
    let b : drop (e + k) xs ≡ drop k (drop e xs) = sym (drop-drop k e xs) in
    let m : 64 - (a.depth - 1) ≡ (64 - a.depth) + 1 = omega (arith, ok.depth) in
    same _ _ _ _ _ _ _ _ _ r b m refl

-- The position moves.
pub passed : (a : Inside) (n : ℕ) → n ≤ a.end - a.position → a.position ≤ a.end → view_of (record a { position = a.position + n }) ≡ past n (view_of a)
passed a n h ok = ap (λ (r : List ℕ). record (view_of a) { rest = r }) (sym (window_drop a.position a.end n a.bytes.now (omega arith)))
