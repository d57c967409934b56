-- Bytes are read from memory, and then from another input.
use Rattle.std.proofs.Common.{◌≡◌, ℕ, ◌+◌, ◌-◌, ◌≤◌, arith, List, [], ◌++◌, length, take, drop, Option, Some, inr, ap, subst, sym, ◌∙◌, append-nil, le_of_eq, drop_at, take-add}
use Rattle.std.proofs.lemmas.List.{drop-drop, drop_all, length-drop, length-take-le, take_all, take-append-drop, take-append-le, take_at}
use Rattle.cert_tool_pem.specs.FileInputs.{TakesFrom}

-- The remaining bytes of a list.
left_of : (items whole : List ℕ) (taken : ℕ) → whole ≡ items → take (length whole - taken) (drop taken whole) ≡ drop taken items
left_of items whole taken e =
    take_all (length whole - taken) (drop taken whole) (let len = length-drop taken whole in omega (arith, len)) ∙ ap (drop taken) e

piece_of : (items copied buffer : List ℕ) (taken count : ℕ) → copied ≡ take count (drop taken items) → count ≤ length (drop taken items) → drop taken items ≡ take count (copied ++ drop count buffer) ++ drop (taken + count) items
piece_of items copied buffer taken count e within =
    let len : length copied ≡ count = ap length e ∙ length-take-le count (drop taken items) within in
    sym (ap (λ (x : List ℕ). x ++ drop (taken + count) items) (take_at copied (drop count buffer) count len ∙ e)
    ∙ ap (λ (x : List ℕ). take count (drop taken items) ++ x) (sym (drop-drop count taken items))
    ∙ take-append-drop count (drop taken items))

pub piece : (items whole copied buffer : List ℕ) (taken count : ℕ) → whole ≡ items → copied ≡ take count (take (length whole - taken) (drop taken whole)) → count ≤ length (take (length whole - taken) (drop taken whole))
    → drop taken items ≡ take count (copied ++ drop count buffer) ++ drop (taken + count) items
piece items whole copied buffer taken count same e within =
    let left = left_of items whole taken same in
    piece_of items copied buffer taken count (e ∙ ap (take count) left) (subst (λ (x : List ℕ). count ≤ length x) left within)

after_front : (front back : List ℕ) (n k : ℕ) → length front ≡ n → take (n + k) (front ++ back) ≡ front ++ take k back
after_front front back n k len = take-add n k (front ++ back) ∙ rw (take_at front back n len, drop_at front back n len)

pub from_both : {R : Type 0} (takes : R → List ℕ → R → Type 0) (rest : Option R) (old new : R) (items buffer read behind : List ℕ) (taken count more : ℕ)
    → drop taken items ≡ take count buffer ++ drop (taken + count) items → count ≡ length (drop taken items) → count ≤ length buffer → rest ≡ Some old → more ≤ length read → takes old (take more read) new
    → TakesFrom takes (drop taken items) rest (take (count + more) (take count buffer ++ (read ++ behind))) (drop (taken + count) items) (Some new)
from_both takes rest old new items buffer read behind taken count more copied all room is fits moved =
    let none : drop (taken + count) items ≡ [] = sym (drop-drop count taken items) ∙ drop_all count (drop taken items) (le_of_eq (sym all)) in
    let front : drop taken items ≡ take count buffer = copied ∙ ap (λ (x : List ℕ). take count buffer ++ x) none ∙ append-nil (take count buffer) in
    let octets = after_front (take count buffer) (read ++ behind) count more (length-take-le count buffer room) ∙ ap (λ (x : List ℕ). take count buffer ++ x) (take-append-le more read behind fits) ∙ ap (λ (x : List ℕ). x ++ take more read) (sym front) in
    subst (λ r. TakesFrom takes (drop taken items) r (take (count + more) (take count buffer ++ (read ++ behind))) (drop (taken + count) items) (Some new)) (sym is) (inr (take more read, octets, none, moved))
