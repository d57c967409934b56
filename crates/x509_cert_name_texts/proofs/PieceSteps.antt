-- Lemmas for `pieces`: escapes byte by byte, and pieces one after another.
use Rattle.std.proofs.Common.{◌≡◌, ℕ, suc, ◌+◌, ◌%◌, ◌<◌, ◌≤◌, ◌==◌, List, [], ◌∷◌, ◌++◌, length, take, drop, get_or, add-one, reverse, Bool, true, false, refl, sym, subst, ap, ◌∙◌, append_assoc, length-append, eq-eqb, arith, Result, Ok, Err, Option, Some, None, not, ◌&&◌, if◌then◌else◌, slice_index, IsUtf8}
use Rattle.std.proofs.lemmas.Bool.Decides.{nat_tests}
use Rattle.std.proofs.lemmas.List.{reverse-append, get_or-take, length-take-le, take-take}
use Rattle.std.proofs.lemmas.Str.{IsUtf8-drop, IsCharBoundary-after_ascii}
use borrow.Author.Count.{below_more}
use Rattle.x509_cert_name_texts.specs.Pieces.{backslashes, Counts, HasNone, IsFirstPiece, in_front_of, ReadsPieces}

-- The last of these bytes is a backslash that begins an escape.
abbrev pub is_escaped : List ℕ → Bool
is_escaped w = (backslashes (reverse w) % 2) == 1

odd_next : (n : ℕ) → (((n + 1) % 2) == 1) ≡ not ((n % 2) == 1)
odd_next n = grind (arith, nat_tests)

odd_step : (b : Bool) (n : ℕ) → (((if b then n + 1 else 0) % 2) == 1) ≡ (b && not ((n % 2) == 1))
odd_step true n = odd_next n
odd_step false n = refl

pub is_escaped-push : (w : List ℕ) (c : ℕ) → is_escaped (w ++ (c ∷ [])) ≡ ((c == 92) && not (is_escaped w))
is_escaped-push w c = ap (λ v. (backslashes v % 2) == 1) (reverse-append w (c ∷ [])) ∙ odd_step (c == 92) (backslashes (reverse w))

pub counts_where_closed : (w : List ℕ) → is_escaped w ≡ false → Counts w
counts_where_closed w e = grind (arith, nat_tests)

pub closed_where_counts : (w : List ℕ) → Counts w → is_escaped w ≡ false
closed_where_counts w e = grind (arith, nat_tests)

-- No separator before this index is unescaped.
abbrev pub NoneBelow : ℕ → List ℕ → ℕ → Type 0
NoneBelow separator w i = (k : ℕ) → k < i → slice_index w k ≡ separator → Counts (take k w) → ⊥

pub none_in_front : (separator : ℕ) (w : List ℕ) (i : ℕ) → i ≤ length w → NoneBelow separator w i → HasNone separator (take i w)
none_in_front separator w i l none k below e counts =
    let small : k < i = omega (arith, length-take-le i w l) in
    let P : List ℕ → Type 0 = Counts in
    none k small (sym (get_or-take i w k 0 small) ∙ e) (subst P (take-take k i w (omega arith)) counts)

clash : (p q : Bool) → p ≡ true → q ≡ false → (p && not q) ≡ false → ⊥
clash p q a b t = grind (arith, nat_tests)

pub none_more : (separator : ℕ) (w : List ℕ) (i : ℕ) → NoneBelow separator w i → (get_or w i 0 == separator && not (is_escaped (take i w))) ≡ false → NoneBelow separator w (i + 1)
none_more separator w i none test =
    below_more (λ k. slice_index w k ≡ separator → Counts (take k w) → ⊥) i none
    (λ e counts. clash (get_or w i 0 == separator) (is_escaped (take i w)) (eq-eqb (get_or w i 0) separator e) (closed_where_counts (take i w) counts) test)

-- Values before the values that the rest of the text yields.
abbrev pub all_before : {A E : Type 0} → List A → Result (List A) E → Result (List A) E
all_before values (Ok more) = Ok (values ++ more)
all_before values (Err e) = Err e

pub all_before-push : {A E : Type 0} (values : List A) (a : A) (r : Result (List A) E) → all_before values (in_front_of a r) ≡ all_before (values ++ (a ∷ [])) r
all_before-push values a (Ok more) = ap (λ v. Ok v) (sym (append_assoc values (a ∷ []) more))
all_before-push values a (Err e) = refl

-- The whole text yields these values and then what the rest of the text yields.
abbrev pub Continues : {A E : Type 0} → ℕ → (List ℕ → Result A E → Type 0) → List ℕ → List A → List ℕ → Type 0
Continues {A} {E} separator reads text values left = (r : Result (List A) E) → ReadsPieces separator reads left r → ReadsPieces separator reads text (all_before values r)

pub continues_start : {A E : Type 0} (separator : ℕ) (reads : List ℕ → Result A E → Type 0) (text : List ℕ) (values : List A) → values ≡ [] → Continues separator reads text values text
continues_start separator reads text [] e (Ok more) h = h
continues_start separator reads text [] e (Err k) h = h
continues_start separator reads text (a ∷ values) e r h = cc

pub continues_more : {A E : Type 0} (separator : ℕ) (reads : List ℕ → Result A E → Type 0) (text left piece rest : List ℕ) (values : List A) (a : A)
    → Continues separator reads text values left → IsFirstPiece separator left piece (Some rest) → reads piece (Ok a)
    → Continues separator reads text (values ++ (a ∷ [])) rest
continues_more {A} {E} separator reads text left piece rest values a so_far first read r h =
    let P = λ (x : Result (List A) E). ReadsPieces separator reads text x in
    subst P (all_before-push values a r) (so_far (in_front_of a r) (ReadsPieces.more left piece rest a r first read h))

-- The two facts that follow from a successful test.
found : (p q : Bool) → (p && not q) ≡ true → (p ≡ true) × (q ≡ false)
found true false e = (refl, refl)
found p q e = cc

pub found_is : (c separator : ℕ) (escaped : Bool) → (c == separator && not escaped) ≡ true → c ≡ separator
found_is c separator escaped e = grind (arith, nat_tests)

pub found_counts : (c separator : ℕ) (w : List ℕ) (escaped : Bool) → escaped ≡ is_escaped w → (c == separator && not escaped) ≡ true → Counts w
found_counts c separator w escaped o e = counts_where_closed w (sym o ∙ (found (c == separator) escaped e).1)

-- The first piece of a text, and the text after it.
pub ends_piece : (separator : ℕ) (text piece : List ℕ) (left : Option (List ℕ)) → IsFirstPiece separator text piece left → left ≡ None → IsFirstPiece separator text piece None
ends_piece separator text piece left first e = rw e at first

pub more_piece : (separator : ℕ) (text piece rest : List ℕ) (left : Option (List ℕ)) → IsFirstPiece separator text piece left → left ≡ Some rest → IsFirstPiece separator text piece (Some rest)
more_piece separator text piece rest left first e = rw e at first

drop_behind : (piece : List ℕ) (separator : ℕ) (rest : List ℕ) → drop (suc (length piece)) (piece ++ (separator ∷ rest)) ≡ rest
drop_behind [] separator rest = refl
drop_behind (c ∷ piece) separator rest = drop_behind piece separator rest

at_seam : (piece : List ℕ) (separator : ℕ) (rest : List ℕ) → get_or (piece ++ (separator ∷ rest)) (length piece) 0 ≡ separator
at_seam [] separator rest = refl
at_seam (c ∷ piece) separator rest = at_seam piece separator rest

-- The bytes after a separator in UTF-8 text are UTF-8 text.
pub utf8_rest : (separator : ℕ) (left piece rest : List ℕ) → IsUtf8 left → separator < 128 → left ≡ piece ++ (separator ∷ rest) → IsUtf8 rest
utf8_rest separator left piece rest u small e =
    let at : get_or left (length piece) 0 ≡ separator = ap (λ w. get_or w (length piece) 0) e ∙ at_seam piece separator rest in
    let long : length piece < length left = omega (arith, ap length e, length-append piece (separator ∷ rest)) in
    let ascii : get_or left (length piece) 0 < 128 = omega (arith, at, small) in
    let behind = ap (λ n. drop n left) (add-one (length piece)) ∙ ap (drop (suc (length piece))) e ∙ drop_behind piece separator rest in
    subst IsUtf8 behind (IsUtf8-drop left (length piece + 1) u (IsCharBoundary-after_ascii left (length piece) u long ascii))

pub is_equal : (m n : ℕ) → (m == n) ≡ true → m ≡ n
is_equal m n e = grind (arith, nat_tests)
