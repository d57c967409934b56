-- Lemmas about named numbers: the result of decoding one of these numbers, from the result of
-- decoding any number of eight bits.
use Rattle.std.proofs.Common.{rules, ◌≡◌, ℕ, ◌≤◌, ◌<◌, ◌^◌, Bool, true, false, cond, List, [], ◌∷◌, length, Ok, Err, refl, sym, ap, arith, ℤ, pos, negsuc, nat_lt, ◌==◌, ◌≢◌}
use Rattle.std.specs.List.{AllByRecursion, list_any}
use Rattle.std.proofs.lemmas.Bool.{ltb-false, ltb-true, ne_eqb, and_parts}
use Rattle.der_core_octets.specs.CoreHead.declared.error.ErrorKind.{ErrorKind}
use Rattle.der_core_octets.specs.CoreHead.declared.error.ErrorKind.TheVariants as kinds
use Rattle.der_core_octets.specs.CoreHead.declared.tag.Tag.{Tag}
use Rattle.der_core_octets.specs.CoreHead.Integers.{Numbers, unsigned, among, checked, shortest_integer, integer_read, is_redundant, integer_of}
use Rattle.der_core_octets.specs.CoreHead.Octets.{◌>>=◌}
use Rattle.der_core_octets.proofs.CoreHead.Results.{fine}
use Rattle.der_core_values.specs.Numbered.{are_octets}

not_fine : (b : Bool) (z : ℤ) (d k : ErrorKind) → cond b (fine z) (Err d) ≡ Err k → (b ≡ false) × (d ≡ k)
not_fine true z d k e = absurd cc
not_fine false z d k e = (refl, cc)

-- The named numbers have at most eight bits.
abbrev pub AreOctets : List ℕ → Type 0
AreOctets ns = (n : ℕ) → 256 ≤ n → list_any (λ m. m == n) ns ≡ false

pub octets_alone : (ns : List ℕ) → are_octets ns ≡ true → AreOctets ns
octets_alone [] h n k = refl
octets_alone (m ∷ ms) h n k =
    let parts = and_parts (nat_lt m 256) (are_octets ms) h in
    let small = ltb-true m 256 parts.0 in
    rw (ne_eqb m n (λ e. omega (arith, k, e, small))) (octets_alone ms parts.1 n k)

module _ (ns : List ℕ) (small : AreOctets ns) where
  unknown : (t : Tag) (n : ℕ) → list_any (λ m. m == n) ns ≡ false → checked (among ns) t (pos n) ≡ Err (kinds.Value t)
  unknown t n h = ap (λ b. cond b (Ok (pos n)) (Err (kinds.Value t))) h

  past_number : (t u : Tag) (z : ℤ) → checked (unsigned 8) t z ≡ Err (kinds.Length u) → checked (among ns) t z ≡ Err (kinds.Value t)
  past_number t u (pos n) e =
      let parts = not_fine (nat_lt n (2 ^ 8)) (pos n) (kinds.Length t) (kinds.Length u) e in
      unknown t n (small n (ltb-false n (2 ^ 8) parts.0))
  past_number t u (negsuc n) e = refl

  past_shortest : (t u : Tag) (b : Bool) (z : ℤ) → (cond b (Err (kinds.Noncanonical t)) (fine z) >>= checked (unsigned 8) t) ≡ Err (kinds.Length u)
      → (cond b (Err (kinds.Noncanonical t)) (fine z) >>= checked (among ns) t) ≡ Err (kinds.Value t)
  past_shortest t u true z e = absurd cc
  past_shortest t u false z e = past_number t u z e

  -- The number has more than eight bits.
  pub past : (t u : Tag) (w : List ℕ) → 0 < length w → integer_read (unsigned 8) t w ≡ Err (kinds.Length u) → integer_read (among ns) t w ≡ Err (kinds.Value t)
  unfolding shortest_integer
  past t u [] h e = absurd (omega (arith, h))
  past t u (d ∷ ds) h e = past_shortest t u (is_redundant (d ∷ ds)) (integer_of (d ∷ ds)) e

  other_shortest : (t : Tag) (b : Bool) (z : ℤ) (k : ErrorKind) → (cond b (Err (kinds.Noncanonical t)) (fine z) >>= checked (unsigned 8) t) ≡ Err k → k ≢ kinds.Length t
      → (cond b (Err (kinds.Noncanonical t)) (fine z) >>= checked (among ns) t) ≡ Err k
  other_shortest t true z k e h = e
  other_shortest t false (pos n) k e h = absurd (h (sym (not_fine (nat_lt n (2 ^ 8)) (pos n) (kinds.Length t) k e).1))
  other_shortest t false (negsuc n) k e h = e

  -- There is another error.
  pub other : (t : Tag) (w : List ℕ) (k : ErrorKind) → integer_read (unsigned 8) t w ≡ Err k → k ≢ kinds.Length t → integer_read (among ns) t w ≡ Err k
  unfolding shortest_integer
  other t [] k e h = absurd (h (sym cc))
  other t (d ∷ ds) k e h = other_shortest t (is_redundant (d ∷ ds)) (integer_of (d ∷ ds)) k e h

  -- The number has at most eight bits, and is accepted if it is one of the named numbers.
  fine_number : (t : Tag) (z : ℤ) (n : ℕ) (b : Bool) → list_any (λ m. m == n) ns ≡ b → checked (unsigned 8) t z ≡ Ok (pos n) → checked (among ns) t z ≡ cond b (Ok (pos n)) (Err (kinds.Value t))
  fine_number t (pos m) n b h e = search (rules, h, e)
  fine_number t (negsuc m) n b h e = absurd cc

  fine_shortest : (t : Tag) (r : Bool) (z : ℤ) (n : ℕ) (b : Bool) → list_any (λ m. m == n) ns ≡ b → (cond r (Err (kinds.Noncanonical t)) (fine z) >>= checked (unsigned 8) t) ≡ Ok (pos n)
      → (cond r (Err (kinds.Noncanonical t)) (fine z) >>= checked (among ns) t) ≡ cond b (Ok (pos n)) (Err (kinds.Value t))
  fine_shortest t true z n b h e = absurd cc
  fine_shortest t false z n b h e = fine_number t z n b h e

  pub known : (t : Tag) (w : List ℕ) (n : ℕ) (b : Bool) → list_any (λ m. m == n) ns ≡ b → integer_read (unsigned 8) t w ≡ Ok (pos n) → integer_read (among ns) t w ≡ cond b (Ok (pos n)) (Err (kinds.Value t))
  unfolding shortest_integer
  known t [] n b h e = absurd cc
  known t (d ∷ ds) n b h e = fine_shortest t (is_redundant (d ∷ ds)) (integer_of (d ∷ ds)) n b h e

-- There are no bytes.
pub empty : (ns : Numbers) (t : Tag) (w : List ℕ) → length w < 1 → integer_read ns t w ≡ Err (kinds.Length t)
unfolding shortest_integer
empty ns t [] h = refl
empty ns t (d ∷ ds) h = absurd (omega (arith, h))

-- A number that differs from each element isn't found in the list.
pub unlisted : (ns : List ℕ) (n : ℕ) → AllByRecursion (λ m. n ≢ m) ns → list_any (λ m. m == n) ns ≡ false
unlisted [] n h = refl
unlisted (m ∷ ms) n h = rw (ne_eqb m n (λ e. h.0 (sym e))) (unlisted ms n h.1)
