-- Lemmas about two bounds of arcs: the larger one accepts the same encodings and texts with the
-- same arcs, and others only because of a large arc.
use Rattle.std.proofs.Common.{◌≡◌, ℕ, suc, ◌<◌, ◌≤◌, ◌⊎◌, inl, inr, List, [], ◌∷◌, ◌++◌, length, get_or, is_ok, true, Ok, Err, sym, ap, subst, ◌∙◌, append_assoc, append-nil, arith}
use Rattle.std.specs.List.{AllByRecursion}
use Rattle.std.proofs.lemmas.Bool.{cases_lt}
use Rattle.const_oid.specs.declared.error.Error.{Error}
use Rattle.const_oid.specs.IdentifierOctets.{identifier_octets, IsIdentifier, read_identifier}
use Rattle.const_oid.specs.TextReading.{read_text}
use Rattle.const_oid.proofs.TextFaultLaws.{text_sound, text_read}
use Rattle.const_oid.specs.Bound.{Bound}
use Rattle.const_oid.proofs.ArcsLaws.{is_ok-ok}
use Rattle.const_oid.proofs.IdentifierLaws.{identifier_sound, identifier_again}

pub begins_itself : (a : List ℕ) → (rest : List ℕ) × (a ≡ a ++ rest)
begins_itself a = ([], sym (append-nil a))

pub begins_chained : (a b c : List ℕ) → (rest : List ℕ) × (a ≡ b ++ rest) → (rest : List ℕ) × (b ≡ c ++ rest) → (rest : List ℕ) × (a ≡ c ++ rest)
begins_chained a b c p q = (q.0 ++ p.0, p.1 ∙ ap (λ t. t ++ p.0) q.1 ∙ append_assoc c q.0 p.0)

-- Encodings under two bounds

below_wider : (small large : ℕ) → small ≤ large → (xs : List ℕ) → AllByRecursion (λ n. n < small) xs → AllByRecursion (λ n. n < large) xs
below_wider small large le [] h = tt
below_wider small large le (x ∷ xs) h = (omega (arith, le, h.0), below_wider small large le xs h.1)

pub widen : (small large : ℕ) → small ≤ large → (arcs : List ℕ) → IsIdentifier small arcs → IsIdentifier large arcs
unfolding IsIdentifier
widen small large le (a ∷ b ∷ arcs) id = (id.0, id.1, below_wider small large le arcs id.2)
widen small large le _ id = absurd id

-- Encodings that are accepted under one bound decode to the same arcs under a larger one.
pub wider_read : (small large capacity : ℕ) (w arcs : List ℕ) → small ≤ large → ((i : ℕ) → get_or w i 0 < 256) → read_identifier small capacity w ≡ Ok arcs → read_identifier large capacity w ≡ Ok arcs
wider_read small large capacity w arcs le bytes ok =
    let sound = identifier_sound small capacity w arcs bytes ok in
    ap (read_identifier large capacity) sound.2
    ∙ identifier_again large capacity arcs (widen small large le arcs sound.0) (subst (λ (t : List ℕ). length t ≤ capacity) sound.2 sound.1)

-- The encoding of a constant decodes to the same result under the bound of the crate.
pub constant_read : (small capacity : ℕ) (w : List ℕ) → small ≤ Bound → ((i : ℕ) → get_or w i 0 < 256) → is_ok (read_identifier small capacity w) ≡ true
    → read_identifier Bound capacity w ≡ read_identifier small capacity w
constant_read small capacity w le bytes ok =
    let read = is_ok-ok (read_identifier small capacity w) ok in
    wider_read small Bound capacity w read.0 le bytes read.1 ∙ sym read.1

pub constant_refused : (small capacity : ℕ) (w : List ℕ) (e : Error) → small ≤ Bound → ((i : ℕ) → get_or w i 0 < 256) → is_ok (read_identifier small capacity w) ≡ true
    → read_identifier Bound capacity w ≡ Err e → ⊥
constant_refused small capacity w e le bytes ok refused =
    let same = constant_read small capacity w le bytes ok in
    let read = is_ok-ok (read_identifier small capacity w) ok in
    cc

-- Either all numbers are below a bound, or one isn't.
all_or_one : (bound : ℕ) (xs : List ℕ) → AllByRecursion (λ n. n < bound) xs ⊎ ((i : ℕ) × (i < length xs) × (bound ≤ get_or xs i 0))
all_or_one bound [] = inl tt
all_or_one bound (x ∷ xs) =
    elim (cases_lt x bound) [
      | inr l ↦ inr (0, omega arith, l)
      | inl l ↦ elim (all_or_one bound xs) [ inl all ↦ inl (l, all) | inr p ↦ inr (suc p.0, omega (arith, p.1), p.2) ]
    ]

-- An identifier under the larger bound that isn't one under the smaller bound has a large arc.
large_arc : (small large : ℕ) (arcs : List ℕ) → IsIdentifier large arcs → (IsIdentifier small arcs → ⊥) → (i : ℕ) × (i < length arcs) × (small ≤ get_or arcs i 0)
unfolding IsIdentifier
large_arc small large (a ∷ b ∷ arcs) id none =
    elim (all_or_one small arcs) [
      | inl all ↦ absurd (none (id.0, id.1, all))
      | inr p ↦ (suc (suc p.0), omega (arith, p.1), p.2)
    ]
large_arc small large _ id none = absurd id

pub newly_read : (small large capacity : ℕ) (w arcs : List ℕ) (e : Error) → ((i : ℕ) → get_or w i 0 < 256) → read_identifier large capacity w ≡ Ok arcs → read_identifier small capacity w ≡ Err e
    → (i : ℕ) × (i < length arcs) × (small ≤ get_or arcs i 0)
newly_read small large capacity w arcs e bytes read refused =
    let sound = identifier_sound large capacity w arcs bytes read in
    let fits : length (identifier_octets arcs) ≤ capacity = omega (arith, ap length sound.2, sound.1) in
    large_arc small large arcs sound.0 (λ id. cc (ap (read_identifier small capacity) sound.2, identifier_again small capacity arcs id fits))

-- Texts under two bounds

pub wider_text : (small large capacity : ℕ) (w arcs : List ℕ) → 40 ≤ large → small ≤ large → read_text small capacity w ≡ Ok arcs → read_text large capacity w ≡ Ok arcs
wider_text small large capacity w arcs root le e =
    let sound = text_sound small capacity w arcs e in
    text_read large capacity w arcs root sound.0 (widen small large le arcs sound.1) sound.2

pub newly_read_text : (small large capacity : ℕ) (w arcs : List ℕ) (e : Error) → 40 ≤ small → read_text large capacity w ≡ Ok arcs → read_text small capacity w ≡ Err e
    → (i : ℕ) × (i < length arcs) × (small ≤ get_or arcs i 0)
newly_read_text small large capacity w arcs e root read refused =
    let sound = text_sound large capacity w arcs read in
    large_arc small large arcs sound.1 (λ id. cc (text_read small capacity w arcs root sound.0 id sound.2))
