-- Lemmas about equality and the two orders of identifiers.
use Rattle.std.proofs.Common.{◌≡◌, ◌≢◌, ℕ, ◌+◌, ◌/◌, ◌%◌, ◌<◌, ◌≤◌, ◌⊎◌, inl, inr, true, ltb, count_by, List, [], ◌∷◌, ◌++◌, length, suc, zero, sym, refl, ap, ◌∙◌, length-append, arith}
use Rattle.std.specs.Hash as fed
use Rattle.std.specs.declared.cmp.Ordering.{Ordering}
use Rattle.std.specs.declared.cmp.Ordering.TheVariants.{Less, Equal, Greater}
use Rattle.std.specs.Ordering.{nat_cmp, is_eq, ordering_then, ordering_reverse}
use Rattle.std.specs.Cmp.{nat_cmp_is, tied_itself}
use Rattle.std.specs.Cmp.Lexicographic.{slice_cmp, bytes_decides, texts_ties}
use Rattle.std.specs.List.{flat_map}
use Rattle.std.proofs.lemmas.Bool.{cases_lt}
use Rattle.const_oid.specs.OctetFaults.{begun}
use Rattle.const_oid.specs.IdentifierOctets.{arc_octets, identifier_octets, IsIdentifier}
use Rattle.const_oid.specs.DottedText.{dotted}
use Rattle.const_oid.specs.Orders.{owned_cmp, owned_cmp_total, owned_cmp_ties}
use Rattle.const_oid.specs.Comparing.{owned_eq, borrowed_cmp, IsAtMost}
use Rattle.const_oid.proofs.DigitLaws.{fewer_digits}
use Rattle.const_oid.proofs.EncodingLaws.{length-digits-pos, length-arc_octets}
use Rattle.const_oid.proofs.IdentifierLaws.{identifier_octets-push, begun-split, arc_octets-split}
use Rattle.const_oid.proofs.ArcsLaws.{arcs_of-identifier_octets, is_ok-octets, length-arcs_of}
use Rattle.const_oid.proofs.PrefixLaws.{same_octets, octets_prefix, prefix_octets}
use Rattle.const_oid.proofs.TextFaultLaws.{same_text}

-- Equality

pub equal_octets : (a b : List ℕ) → (owned_eq a b ≡ true → identifier_octets a ≡ identifier_octets b) × (identifier_octets a ≡ identifier_octets b → owned_eq a b ≡ true)
equal_octets a b = bytes_decides (identifier_octets a) (identifier_octets b)

pub equal_arcs : (bound : ℕ) (a b : List ℕ) → IsIdentifier bound a → IsIdentifier bound b → (owned_eq a b ≡ true → a ≡ b) × (a ≡ b → owned_eq a b ≡ true)
equal_arcs bound a b p q = (λ t. same_octets bound a b p q ((equal_octets a b).0 t), λ e. (equal_octets a b).1 (ap identifier_octets e))

pub equal_texts : (bound : ℕ) (a b : List ℕ) → 40 ≤ bound → IsIdentifier bound a → IsIdentifier bound b → (owned_eq a b ≡ true → dotted a ≡ dotted b) × (dotted a ≡ dotted b → owned_eq a b ≡ true)
equal_texts bound a b large p q =
    (λ t. ap dotted ((equal_arcs bound a b p q).0 t), λ e. (equal_arcs bound a b p q).1 (same_text bound a b large p q e))

was_equal : (o : Ordering) → is_eq o ≡ true → o ≡ Equal
was_equal Equal e = refl
was_equal _ e = cc

-- Both orders return `Equal` exactly if the identifiers are equal

pub owned_ties : (a b : List ℕ) → (owned_cmp a b ≡ Equal → owned_eq a b ≡ true) × (owned_eq a b ≡ true → owned_cmp a b ≡ Equal)
owned_ties a b = (λ e. owned_cmp_ties a b ∙ ap is_eq e, λ t. was_equal (owned_cmp a b) (sym (owned_cmp_ties a b) ∙ t))

pub borrowed_ties : (a b : List ℕ) → (borrowed_cmp a b ≡ Equal → owned_eq a b ≡ true) × (owned_eq a b ≡ true → borrowed_cmp a b ≡ Equal)
borrowed_ties a b =
    let ties = texts_ties (identifier_octets a) (identifier_octets b) in
    (λ e. ties ∙ ap is_eq e, λ t. was_equal (borrowed_cmp a b) (sym ties ∙ t))

-- Equal identifiers feed the same bytes to a hasher.
pub equal_hashes : (a b : List ℕ) → owned_eq a b ≡ true → fed.slice fed.u8 (identifier_octets a) ≡ fed.slice fed.u8 (identifier_octets b)
equal_hashes a b t = ap (fed.slice fed.u8) ((equal_octets a b).0 t)

-- The number of arcs is one more than the number of bytes with bit 8 clear.
pub arcs_counted : (bound : ℕ) (arcs : List ℕ) → IsIdentifier bound arcs → length arcs ≡ count_by (λ o. ltb o 128) (identifier_octets arcs) + 1
arcs_counted bound arcs id =
    let octets = identifier_octets arcs in
    sym (length-arcs_of bound octets (is_ok-octets bound octets arcs id refl) ∙ ap length (arcs_of-identifier_octets bound arcs id))

-- The order of numbers

pub nat_cmp-less : (m n : ℕ) → m < n → nat_cmp m n ≡ Less
nat_cmp-less m n l = sym (nat_cmp_is m n Less l)

pub nat_cmp-greater : (m n : ℕ) → n < m → nat_cmp m n ≡ Greater
nat_cmp-greater m n l = sym (nat_cmp_is m n Greater l)

pub nat_cmp-same : (m n : ℕ) → m ≡ n → nat_cmp m n ≡ Equal
nat_cmp-same m n e = sym (nat_cmp_is m n Equal e)

-- The order of lists

-- A list between two lists with the same prefix has that prefix, too.
between : (q x y z : List ℕ) → slice_cmp nat_cmp (q ++ x) y ≢ Greater → slice_cmp nat_cmp y (q ++ z) ≢ Greater → (t : List ℕ) × (y ≡ q ++ t)
between [] x y z l m = (y, refl)
between (o ∷ q) x [] z l m = absurd (l refl)
between (o ∷ q) x (c ∷ y) z l m = by (cases_lt o c) (cases_lt c o) (between q x y z)
  where
    by : (o < c) ⊎ (c ≤ o) → (c < o) ⊎ (o ≤ c) → (slice_cmp nat_cmp (q ++ x) y ≢ Greater → slice_cmp nat_cmp y (q ++ z) ≢ Greater → (t : List ℕ) × (y ≡ q ++ t)) → (t : List ℕ) × (c ∷ y ≡ (o ∷ q) ++ t)
    by (inl p) _ ih = absurd (m (ap (λ r. ordering_then r (slice_cmp nat_cmp y (q ++ z))) (nat_cmp-greater c o p)))
    by (inr p) (inl s) ih = absurd (l (ap (λ r. ordering_then r (slice_cmp nat_cmp (q ++ x) y)) (nat_cmp-greater o c s)))
    by (inr p) (inr s) ih =
        let same : c ≡ o = omega arith in
        let rest = ih (λ g. l (ap (λ r. ordering_then r (slice_cmp nat_cmp (q ++ x) y)) (nat_cmp-same o c (sym same)) ∙ g)) (λ g. m (ap (λ r. ordering_then r (slice_cmp nat_cmp y (q ++ z))) (nat_cmp-same c o same) ∙ g)) in
        (rest.0, ap (λ k. k ∷ y) same ∙ ap (λ t. o ∷ t) rest.1)

same_front : (q x y : List ℕ) → slice_cmp nat_cmp (q ++ x) (q ++ y) ≡ slice_cmp nat_cmp x y
same_front [] x y = refl
same_front (o ∷ q) x y = ap (λ r. ordering_then r (slice_cmp nat_cmp (q ++ x) (q ++ y))) (nat_cmp-same o o refl) ∙ same_front q x y

-- The first element that differs decides.
less_front : (xs ys r s : List ℕ) → length xs ≡ length ys → slice_cmp nat_cmp xs ys ≡ Less → slice_cmp nat_cmp (xs ++ r) (ys ++ s) ≡ Less
less_front [] [] r s n e = cc
less_front (x ∷ xs) (y ∷ ys) r s n e = by (less_front xs ys r s (omega arith)) (nat_cmp x y) refl e
  where
    by : (slice_cmp nat_cmp xs ys ≡ Less → slice_cmp nat_cmp (xs ++ r) (ys ++ s) ≡ Less) → (o : Ordering) → nat_cmp x y ≡ o → ordering_then (nat_cmp x y) (slice_cmp nat_cmp xs ys) ≡ Less → ordering_then (nat_cmp x y) (slice_cmp nat_cmp (xs ++ r) (ys ++ s)) ≡ Less
    by rest Less c h = ap (λ k. ordering_then k (slice_cmp nat_cmp (xs ++ r) (ys ++ s))) c
    by rest Equal c h = ap (λ k. ordering_then k (slice_cmp nat_cmp (xs ++ r) (ys ++ s))) c ∙ rest (sym (ap (λ k. ordering_then k (slice_cmp nat_cmp xs ys)) c) ∙ h)
    by rest Greater c h = let g : Greater ≡ Less = sym (ap (λ k. ordering_then k (slice_cmp nat_cmp xs ys)) c) ∙ h in cc
less_front _ _ r s n e = absurd (omega arith)

-- In the borrowed order, the identifiers that begin with the same arcs are contiguous.
pub unbroken : (bound : ℕ) (front a b c : List ℕ) → IsIdentifier bound front → IsIdentifier bound b → IsAtMost borrowed_cmp (front ++ a) b → IsAtMost borrowed_cmp b (front ++ c)
    → (rest : List ℕ) × (b ≡ front ++ rest)
unbroken bound front a b c f p l m =
    let first = prefix_octets bound front a f in
    let last = prefix_octets bound front c f in
    let found = between (identifier_octets front) (flat_map arc_octets a) (identifier_octets b) (flat_map arc_octets c) (λ g. l (ap (λ t. slice_cmp nat_cmp t (identifier_octets b)) first ∙ g)) (λ g. m (ap (λ t. slice_cmp nat_cmp (identifier_octets b) t) last ∙ g)) in
    octets_prefix bound b front found.0 p f found.1

-- In the owned order, an identifier comes before those that begin with its arcs.
pub ancestor_first : (bound : ℕ) (arcs : List ℕ) (a : ℕ) (rest : List ℕ) → IsIdentifier bound arcs → owned_cmp arcs (arcs ++ (a ∷ rest)) ≡ Less
ancestor_first bound arcs a rest id =
    let octets = prefix_octets bound arcs (a ∷ rest) id in
    let longer : length (identifier_octets arcs) < length (identifier_octets (arcs ++ (a ∷ rest))) =
    omega (arith, ap length octets, length-append (identifier_octets arcs) (arc_octets a ++ flat_map arc_octets rest), length-append (arc_octets a) (flat_map arc_octets rest), length-arc_octets a, length-digits-pos a) in
    ap (λ o. ordering_then o (slice_cmp nat_cmp (identifier_octets arcs) (identifier_octets (arcs ++ (a ∷ rest))))) (nat_cmp-less _ _ longer)

-- The order of arcs

-- Encodings of arcs that have the same length are ordered by their bytes, whether or not the last
-- one is marked.
last_less : (m n x y : ℕ) → m < n → (m / 128 ≡ n / 128 → x < y) → length (begun (m / 128) ++ (x ∷ [])) ≡ length (begun (n / 128) ++ (y ∷ []))
    → (m / 128 < n / 128 → length (begun (m / 128)) ≡ length (begun (n / 128)) → slice_cmp nat_cmp (begun (m / 128)) (begun (n / 128)) ≡ Less)
    → slice_cmp nat_cmp (begun (m / 128) ++ (x ∷ [])) (begun (n / 128) ++ (y ∷ [])) ≡ Less
last_less m n x y l last e stands = by (cases_lt (m / 128) (n / 128))
  where
    size : length (begun (m / 128)) ≡ length (begun (n / 128))
    size = omega (arith, e, length-append (begun (m / 128)) (x ∷ []), length-append (begun (n / 128)) (y ∷ []))

    by : (m / 128 < n / 128) ⊎ (n / 128 ≤ m / 128) → slice_cmp nat_cmp (begun (m / 128) ++ (x ∷ [])) (begun (n / 128) ++ (y ∷ [])) ≡ Less
    by (inl high) = less_front (begun (m / 128)) (begun (n / 128)) (x ∷ []) (y ∷ []) size (stands high size)
    by (inr high) =
        let same : m / 128 ≡ n / 128 = omega arith in
        ap (λ q. slice_cmp nat_cmp (begun q ++ (x ∷ [])) (begun (n / 128) ++ (y ∷ []))) same
        ∙ same_front (begun (n / 128)) (x ∷ []) (y ∷ [])
        ∙ ap (λ o. ordering_then o Equal) (nat_cmp-less x y (last same))

begun_less : (room m n : ℕ) → n ≤ room → m < n → length (begun m) ≡ length (begun n) → slice_cmp nat_cmp (begun m) (begun n) ≡ Less
unfolding begun
begun_less zero m n small l e = absurd (omega arith)
begun_less (suc room) zero n small l e = absurd (omega (arith, e, ap length (begun-split n l), length-append (begun (n / 128)) ((128 + n % 128) ∷ [])))
begun_less (suc room) (suc k) n small l e =
    let m = suc k in
    let p = begun-split m (omega arith) in
    let q = begun-split n (omega arith) in
    ap (λ t. slice_cmp nat_cmp t (begun n)) p ∙ ap (slice_cmp nat_cmp (begun (m / 128) ++ ((128 + m % 128) ∷ []))) q
    ∙ last_less m n (128 + m % 128) (128 + n % 128) l (λ h. omega (arith, h)) (sym (ap length p) ∙ e ∙ ap length q) (begun_less room (m / 128) (n / 128) (omega arith))

arc_less : (m n : ℕ) → m < n → length (arc_octets m) ≡ length (arc_octets n) → slice_cmp nat_cmp (arc_octets m) (arc_octets n) ≡ Less
arc_less m n l e =
    let p = arc_octets-split m in
    let q = arc_octets-split n in
    ap (λ t. slice_cmp nat_cmp t (arc_octets n)) p ∙ ap (slice_cmp nat_cmp (begun (m / 128) ++ (m % 128 ∷ []))) q
    ∙ last_less m n (m % 128) (n % 128) l (λ h. omega (arith, h)) (sym (ap length p) ∙ e ∙ ap length q) (begun_less (n / 128) (m / 128) (n / 128) (omega arith))

child_less : (bound : ℕ) (front : List ℕ) (m n : ℕ) → IsIdentifier bound front → m < n → owned_cmp (front ++ (m ∷ [])) (front ++ (n ∷ [])) ≡ Less
child_less bound front m n id l =
    ap (λ t. ordering_then (nat_cmp (length t) (length (identifier_octets (front ++ (n ∷ []))))) (slice_cmp nat_cmp t (identifier_octets (front ++ (n ∷ []))))) (identifier_octets-push bound front m id)
    ∙ ap (λ t. ordering_then (nat_cmp (length (f ++ arc_octets m)) (length t)) (slice_cmp nat_cmp (f ++ arc_octets m) t)) (identifier_octets-push bound front n id)
    ∙ by (cases_lt (length (arc_octets m)) (length (arc_octets n)))
  where
    f : List ℕ
    f = identifier_octets front

    by : (length (arc_octets m) < length (arc_octets n)) ⊎ (length (arc_octets n) ≤ length (arc_octets m))
        → ordering_then (nat_cmp (length (f ++ arc_octets m)) (length (f ++ arc_octets n))) (slice_cmp nat_cmp (f ++ arc_octets m) (f ++ arc_octets n)) ≡ Less
    by (inl shorter) =
        let less : length (f ++ arc_octets m) < length (f ++ arc_octets n) = omega (arith, length-append f (arc_octets m), length-append f (arc_octets n)) in
        ap (λ o. ordering_then o (slice_cmp nat_cmp (f ++ arc_octets m) (f ++ arc_octets n))) (nat_cmp-less _ _ less)
    by (inr longer) =
        let size : length (arc_octets m) ≡ length (arc_octets n) = omega (arith, longer, length-arc_octets m, length-arc_octets n, fewer_digits 128 m n (omega arith) (omega arith)) in
        let same : length (f ++ arc_octets m) ≡ length (f ++ arc_octets n) = omega (arith, size, length-append f (arc_octets m), length-append f (arc_octets n)) in
        ap (λ o. ordering_then o (slice_cmp nat_cmp (f ++ arc_octets m) (f ++ arc_octets n))) (nat_cmp-same _ _ same)
        ∙ same_front f (arc_octets m) (arc_octets n)
        ∙ arc_less m n l size

-- In the owned order, the children of an identifier are ordered by their last arc.
pub children_by_arc : (bound : ℕ) (front : List ℕ) (m n : ℕ) → IsIdentifier bound front → owned_cmp (front ++ (m ∷ [])) (front ++ (n ∷ [])) ≡ nat_cmp m n
children_by_arc bound front m n id = by (cases_lt m n) (cases_lt n m)
  where
    by : (m < n) ⊎ (n ≤ m) → (n < m) ⊎ (m ≤ n) → owned_cmp (front ++ (m ∷ [])) (front ++ (n ∷ [])) ≡ nat_cmp m n
    by (inl l) _ = child_less bound front m n id l ∙ sym (nat_cmp-less m n l)
    by (inr l) (inl k) =
        owned_cmp_total.antisymm (front ++ (m ∷ [])) (front ++ (n ∷ [])) ∙ ap ordering_reverse (child_less bound front n m id k) ∙ sym (nat_cmp-greater m n k)
    by (inr l) (inr k) =
        let same : m ≡ n = omega arith in
        ap (λ a. owned_cmp (front ++ (a ∷ [])) (front ++ (n ∷ []))) same ∙ tied_itself owned_cmp_total (front ++ (n ∷ [])) ∙ sym (nat_cmp-same m n same)
