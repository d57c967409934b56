-- Lemmas about bodies of indefinite length, level by level.
use Rattle.std.proofs.Common.{◌≡◌, ℕ, zero, suc, ◌+◌, ◌-◌, ◌<◌, ◌≤◌, cond, ltb, List, [], ◌∷◌, length, take, drop, Ok, Err, sym, refl, ap, subst, ◌∙◌, arith, eq-eqb, ne_eqb, take_all, length-take, length-drop, Bool, true, false}
use Rattle.der_core_head.specs.declared.error.ErrorKind.{ErrorKind}
use Rattle.der_core_head.specs.declared.error.ErrorKind.TheVariants as kinds
use Rattle.der_core_head.specs.Octets.{◌>>=◌}
use Rattle.der_core_head.specs.Bodies.{Piece, ending, opening, encoding, tag_ber_at, mark_at, piece_at, levels_after, closed_at, body_len_at}
use Rattle.der_core_head.proofs.Results.{IsBytes, bytes_drop}
use Rattle.der_core_head.proofs.BodyLaws.{closed-step, piece_shorter}
use Rattle.std.proofs.lemmas.Bool.Decides.{nat_tests}
use mathlib.Core.Bool.{◌||◌}
use Rattle.der_core_head.specs.Grammar.{slice_at}

pub mark-none : (w : List ℕ) → length w < 1 → mark_at w ≡ Err kinds.Incomplete
unfolding mark_at tag_ber_at
mark-none [] h = refl
mark-none (b ∷ w) h = absurd (omega arith)

-- The end of the remaining bytes, with the levels that are still open, is the end of all bytes with
-- the first level.
pub record Continues (octets : List ℕ) (levels : ℕ) (rest : List ℕ) : Type 0 where
  pub depth : levels ≤ 64
  pub within : length rest ≤ length octets
  pub bytes : IsBytes rest
  pub pieces : ℕ
  pub enough : length rest ≤ pieces
  pub same : closed_at pieces levels (64 - levels) rest ≡ closed_at (length octets) 1 63 octets

pub start : (octets : List ℕ) → IsBytes octets → Continues octets 1 octets
start octets bytes = record { depth = omega arith; within = omega arith; bytes = bytes; pieces = length octets; enough = omega arith; same = refl }

-- The cases of the next part.
front : (octets : List ℕ) (levels : ℕ) (rest : List ℕ) → (c : Continues octets levels rest) → 0 < levels
    → closed_at (length octets) 1 63 octets ≡ (piece_at rest >>= λ p. levels_after p.0 levels (64 - levels) >>= λ l. closed_at (c.pieces - 1) l.0 l.1 p.1)
front octets zero rest c some = absurd (omega arith)
front octets (suc levels) rest c some = sym c.same ∙ closed-step c.pieces levels (64 - suc levels) rest c.enough

pub faulty : (octets : List ℕ) (levels : ℕ) (rest : List ℕ) (k : ErrorKind) → Continues octets levels rest → 0 < levels → piece_at rest ≡ Err k
    → body_len_at octets ≡ Err k
unfolding body_len_at
faulty octets levels rest k c some e = rw (front octets levels rest c some, e) refl

pub too_deep : (octets : List ℕ) (levels : ℕ) (rest r : List ℕ) → Continues octets levels rest → levels ≡ 64 → piece_at rest ≡ Ok (opening, r)
    → body_len_at octets ≡ Err kinds.NestingDepth
unfolding body_len_at
too_deep octets levels rest r c full e =
    let none : 64 - levels ≡ 0 = omega arith in
    rw (front octets levels rest c (omega arith), e, eq-eqb (64 - levels) 0 none) refl

pub finished : (octets : List ℕ) (levels : ℕ) (rest : List ℕ) → Continues octets levels rest → levels ≡ 0
    → body_len_at octets ≡ cond (ltb 4294967295 (length octets - length rest)) (Err kinds.Overflow) (Ok (length octets - length rest))
unfolding body_len_at closed_at
finished octets levels rest c none =
    let e : closed_at (length octets) 1 63 octets ≡ Ok rest = sym c.same ∙ ap (λ n. closed_at c.pieces n (64 - n) rest) none in
    rw e refl

-- The bytes after the first `n`.
abbrev tail : ℕ → List ℕ → List ℕ
tail n w = take (length w - n) (drop n w)

tail-drop : (n : ℕ) (w : List ℕ) → tail n w ≡ drop n w
tail-drop n w = take_all (length w - n) (drop n w) (omega (arith, length-drop n w))

pub shorter : (octets : List ℕ) (levels : ℕ) (rest : List ℕ) (p : Piece) (n : ℕ) → Continues octets levels rest → piece_at rest ≡ Ok (p, drop n rest)
    → length (take (length rest - n) (drop n rest)) < length rest
shorter octets levels rest p n c e = omega (arith, piece_shorter rest p (drop n rest) c.bytes e, length-take (length rest - n) (drop n rest))

behind : (octets : List ℕ) (levels : ℕ) (rest : List ℕ) (p : Piece) (n levels' room : ℕ) → Continues octets levels rest → 0 < levels
    → piece_at rest ≡ Ok (p, drop n rest) → levels_after p levels (64 - levels) ≡ Ok (levels', room) → levels' ≤ 64 → room ≡ 64 - levels' → Continues octets levels' (tail n rest)
behind octets levels rest p n levels' room c some e after depth is =
    let r = drop n rest in
    let less = piece_shorter rest p r c.bytes e in
    let go : closed_at (length octets) 1 63 octets ≡ closed_at (c.pieces - 1) levels' room r = front octets levels rest c some ∙ (rw (e, after) refl) in
    subst (Continues octets levels') (sym (tail-drop n rest)) (record {
      depth = depth;
      within = omega (arith, c.within);
      bytes = bytes_drop n rest c.bytes;
      pieces = c.pieces - 1;
      enough = omega (arith, c.enough);
      same = ap (λ m. closed_at (c.pieces - 1) levels' m r) (sym is) ∙ sym go;
    })

pub ended : (octets : List ℕ) (levels : ℕ) (rest : List ℕ) (n : ℕ) → Continues octets levels rest → 0 < levels → piece_at rest ≡ Ok (ending, drop n rest)
    → Continues octets (levels - 1) (take (length rest - n) (drop n rest))
ended octets levels rest n c some e =
    behind octets levels rest ending n (levels - 1) (64 - levels + 1) c some e refl (omega (arith, c.depth)) (omega (arith, c.depth))

pub opened : (octets : List ℕ) (levels : ℕ) (rest : List ℕ) (n : ℕ) → Continues octets levels rest → 0 < levels → (levels ≡ 64 → ⊥)
    → piece_at rest ≡ Ok (opening, drop n rest) → Continues octets (levels + 1) (take (length rest - n) (drop n rest))
opened octets levels rest n c some few e =
    let depth = c.depth in
    let more : levels_after opening levels (64 - levels) ≡ Ok (levels + 1, 64 - levels - 1) = rw (ne_eqb (64 - levels) 0 (λ z. few (omega arith))) refl in
    behind octets levels rest opening n (levels + 1) (64 - levels - 1) c some e more (omega (arith, few)) (omega arith)

pub skipped : (octets : List ℕ) (levels : ℕ) (rest : List ℕ) (n : ℕ) → Continues octets levels rest → 0 < levels → piece_at rest ≡ Ok (encoding, drop n rest)
    → Continues octets levels (take (length rest - n) (drop n rest))
skipped octets levels rest n c some e =
    behind octets levels rest encoding n levels (64 - levels) c some e refl c.depth refl

-- Decoding, by cases

-- A slice of `n` bytes has at most `n` bytes.
pub slice_few : (n : ℕ) (w x r : List ℕ) → slice_at n w ≡ Ok (x, r) → length x ≤ n
unfolding slice_at
slice_few n w x r e = grind (arith, nat_tests, length-take n w)

pub or_true : (b : Bool) → b || true ≡ true
or_true true = refl
or_true false = refl

pub or_false : (b : Bool) → b || false ≡ b
or_false true = refl
or_false false = refl
