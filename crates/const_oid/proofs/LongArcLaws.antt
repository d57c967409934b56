-- Lemmas about the longest arc below the bound, depending on its first byte.
use Rattle.std.proofs.Common.{◌≡◌, ◌≢◌, ℕ, zero, suc, ◌+◌, ◌-◌, ◌*◌, ◌%◌, ◌<◌, ◌≤◌, ◌⊎◌, inl, inr, List, [], ◌∷◌, ◌++◌, length, get_or, take, drop, Err, sym, ap, subst, ◌∙◌, arith}
use Rattle.std.proofs.lemmas.List.{drop_more, take_more}
use Rattle.const_oid.specs.declared.error.Error.TheVariants as errors
use Rattle.const_oid.specs.Bound.{Bound}
use Rattle.const_oid.specs.IdentifierOctets.{arc_octets, read_arcs}
use Rattle.const_oid.specs.OctetFaults.{begun}
use Rattle.const_oid.proofs.BoundLaws.{Bound-is}
use Rattle.const_oid.proofs.IdentifierLaws.{arc_octets-finish, begun-push, read_arcs-too_big, read_arcs-more}

-- A digit in base 128, followed by `more` zeros.
abbrev scaled : (digit more : ℕ) → ℕ
scaled digit zero = digit
scaled digit (suc more) = scaled digit more * 128

scaled-le : (a b more : ℕ) → a ≤ b → scaled a more ≤ scaled b more
scaled-le a b zero le = le
scaled-le a b (suc more) le = omega (arith, scaled-le a b more le)

scaled-more : (a few more : ℕ) → few ≤ more → scaled a few ≤ scaled a more
scaled-more a zero zero le = omega arith
scaled-more a zero (suc more) le = omega (arith, scaled-more a zero more (omega arith))
scaled-more a (suc few) zero le = absurd (omega arith)
scaled-more a (suc few) (suc more) le = omega (arith, scaled-more a few more (omega arith))

-- The value of an arc's first byte and of `more` further bytes: at least that of its first digit
-- followed by zeros.
pub record BeginsArc (first more value : ℕ) : Type 0 where
  pub marked : 128 < first
  pub octet : first < 256
  pub above : scaled (first - 128) more ≤ value
  pub below : value < scaled (first - 127) more

begins_first : (first : ℕ) → 128 < first → first < 256 → BeginsArc first 0 (0 * 128 + first % 128)
begins_first first marked octet = record {
  marked = marked;
  octet = octet;
  above = omega arith;
  below = omega arith;
}

begins_more : (first more value o : ℕ) → BeginsArc first more value → BeginsArc first (suc more) (value * 128 + o % 128)
begins_more first more value o b = record {
  marked = b.marked;
  octet = b.octet;
  above = omega (arith, b.above);
  below = omega (arith, b.below);
}

-- `most` is the greatest number of bytes of an arc that begins with this byte.
abbrev pub IsMost : (first most : ℕ) → Type 0
IsMost first most = ((131 < first) × (most ≡ 18)) ⊎ ((first ≤ 131) × (most ≡ 19))

begins_within : (first most more value : ℕ) → BeginsArc first more value → IsMost first most → more < most → value < Bound
begins_within first most more value b (inl m) l =
    omega (arith, b.below, scaled-le (first - 127) 128 more (omega (arith, b.octet)), scaled-more 128 more 17 (omega (arith, m.1)), Bound-is)
begins_within first most more value b (inr m) l =
    omega (arith, b.below, scaled-le (first - 127) 4 more (omega (arith, m.0)), scaled-more 4 more 18 (omega (arith, m.1)), Bound-is)

begins_past : (first most more value : ℕ) → BeginsArc first more value → IsMost first most → most ≤ more → Bound ≤ value
begins_past first most more value b (inl m) l =
    omega (arith, b.above, scaled-le 4 (first - 128) more (omega (arith, m.0)), scaled-more 4 18 more (omega (arith, m.1)), Bound-is)
begins_past first most more value b (inr m) l =
    omega (arith, b.above, scaled-le 1 (first - 128) more (omega (arith, b.marked)), scaled-more 1 19 more (omega (arith, m.1)), Bound-is)

-- The bytes before `here` are those of an unfinished arc of this value.
pub record IsInside (w : List ℕ) (here value : ℕ) : Type 0 where
  pub read : read_arcs Bound 0 w ≡ read_arcs Bound value (drop here w)
  pub some : 0 < value
  pub octets : take here w ≡ begun value
  pub begins : BeginsArc (get_or w 0 0) (here - 1) value

pub inside_first : (w : List ℕ) → 0 < length w → 128 ≤ get_or w 0 0 → (get_or w 0 0 ≡ 128 → ⊥) → get_or w 0 0 < 256 → IsInside w 1 (0 * 128 + get_or w 0 0 % 128)
unfolding begun
inside_first w l mark some octet = record {
  read = ap (read_arcs Bound 0) (drop_more w 0 0 l) ∙ read_arcs-more Bound 0 (get_or w 0 0) (drop 1 w) (λ p. some p.1) (omega (arith, Bound-is)) mark;
  some = (let ne : get_or w 0 0 ≢ 128 = some in omega (arith, mark, ne));
  octets = take_more w 0 0 l ∙ sym (begun-push 0 (get_or w 0 0) (λ p. some p.1) mark octet);
  begins = begins_first (get_or w 0 0) (let ne : get_or w 0 0 ≢ 128 = some in omega (arith, mark, ne)) octet;
}

-- The value after one more byte.
one_more : (w : List ℕ) (i value : ℕ) → IsInside w i value → 0 < i → BeginsArc (get_or w 0 0) i (value * 128 + get_or w i 0 % 128)
one_more w i value s l =
    let same : suc (i - 1) ≡ i = omega arith in
    subst (λ n. BeginsArc (get_or w 0 0) n (value * 128 + get_or w i 0 % 128)) same (begins_more (get_or w 0 0) (i - 1) value (get_or w i 0) s.begins)

pub inside_ends : (w : List ℕ) (i value most : ℕ) → IsInside w i value → 0 < i → i < length w → IsMost (get_or w 0 0) most → i < most → get_or w i 0 < 128
    → (arc : ℕ) × (arc < Bound) × (take (i + 1) w ≡ arc_octets arc)
inside_ends w i value most s some l m few low = (
  value * 128 + get_or w i 0 % 128,
  begins_within (get_or w 0 0) most i (value * 128 + get_or w i 0 % 128) (one_more w i value s some) m few,
  take_more w i 0 l ∙ ap (λ t. t ++ (get_or w i 0 ∷ [])) s.octets ∙ sym (arc_octets-finish value (get_or w i 0) low),
)

pub inside_goes : (w : List ℕ) (i value most : ℕ) → IsInside w i value → 0 < i → i < length w → IsMost (get_or w 0 0) most → i < most → 128 ≤ get_or w i 0 → get_or w i 0 < 256
    → IsInside w (i + 1) (value * 128 + get_or w i 0 % 128)
inside_goes w i value most s some l m few mark octet =
    let more = one_more w i value s some in
    let free : (value ≡ 0) × (get_or w i 0 ≡ 128) → ⊥ = λ p. omega (arith, p.0, s.some) in
    let place : i ≡ i + 1 - 1 = omega arith in
    record {
      read = s.read ∙ ap (read_arcs Bound value) (drop_more w i 0 l)
          ∙ read_arcs-more Bound value (get_or w i 0) (drop (i + 1) w) free (begins_within (get_or w 0 0) most i (value * 128 + get_or w i 0 % 128) more m few) mark;
      some = omega (arith, s.some);
      octets = take_more w i 0 l ∙ ap (λ t. t ++ (get_or w i 0 ∷ [])) s.octets ∙ sym (begun-push value (get_or w i 0) free mark octet);
      begins = subst (λ n. BeginsArc (get_or w 0 0) n (value * 128 + get_or w i 0 % 128)) place more;
    }

pub inside_past : (w : List ℕ) (i value most : ℕ) → IsInside w i value → 0 < i → i < length w → IsMost (get_or w 0 0) most → most ≤ i → read_arcs Bound 0 w ≡ Err errors.ArcTooBig
inside_past w i value most s some l m many =
    let free : (value ≡ 0) × (get_or w i 0 ≡ 128) → ⊥ = λ p. omega (arith, p.0, s.some) in
    s.read ∙ ap (read_arcs Bound value) (drop_more w i 0 l)
    ∙ read_arcs-too_big Bound value (get_or w i 0) (drop (i + 1) w) free (begins_past (get_or w 0 0) most i (value * 128 + get_or w i 0 % 128) (one_more w i value s some) m many)
