-- Lemmas about the errors of bytes: bytes that have an error are rejected with it.
use Rattle.std.proofs.Common.{◌≡◌, ℕ, ◌+◌, ◌*◌, ◌/◌, ◌%◌, ◌<◌, ◌≤◌, List, [], ◌∷◌, ◌++◌, length, get_or, Result, Ok, Err, IfOk, IfErr, sym, refl, ap, subst, ◌∙◌, append_assoc, append-nil, arith}
use Rattle.std.specs.List.{AllByRecursion, flat_map}
use Rattle.std.proofs.lemmas.Bool.{lt-ltb, le-ltb}
use Rattle.const_oid.specs.declared.error.Error.{Error}
use Rattle.const_oid.specs.declared.error.Error.TheVariants as errors
use Rattle.const_oid.specs.IdentifierOctets.{arc_octets, identifier_octets, IsIdentifier, with_arc, read_arcs, read_identifier}
use Rattle.const_oid.specs.OctetFaults.{begun, IsOpen, IsArcFault, leading_zero, too_big, unfinished, IsOctetsFault, no_octet, too_long, root_invalid, arc}
use Rattle.const_oid.proofs.IdentifierLaws.{read_arcs-cut, read_arcs-leading, read_arcs-too_big, read_arcs-begun, read_arcs-arc, identifier_sound, fault_found}
use Rattle.const_oid.proofs.ArcsLaws.{read_identifier-long}

-- After whole arcs, the error is that of the bytes that follow.
behind_arcs : (bound : ℕ) (arcs t : List ℕ) (e : Error) → AllByRecursion (λ n. n < bound) arcs → read_arcs bound 0 t ≡ Err e → read_arcs bound 0 (flat_map arc_octets arcs ++ t) ≡ Err e
behind_arcs bound [] t e all err = err
behind_arcs bound (a ∷ arcs) t e all err =
    ap (read_arcs bound 0) (append_assoc (arc_octets a) (flat_map arc_octets arcs) t)
    ∙ read_arcs-arc bound a (flat_map arc_octets arcs ++ t) all.0
    ∙ ap (with_arc a) (behind_arcs bound arcs t e all.1 err)

behind_open : (bound capacity value : ℕ) (front arcs t : List ℕ) (e : Error) → IsOpen bound front arcs value → length (front ++ t) ≤ capacity → read_arcs bound value t ≡ Err e
    → read_identifier bound capacity (front ++ t) ≡ Err e
unfolding identifier_octets IsIdentifier
behind_open bound capacity value front (x ∷ y ∷ arcs) t e opened fits err =
    let id = opened.identifier in
    let rest = flat_map arc_octets arcs ++ (begun value ++ t) in
    let whole : front ++ t ≡ (40 * x + y) ∷ rest = ap (λ f. f ++ t) opened.octets ∙ ap (λ l. (40 * x + y) ∷ l) (append_assoc (flat_map arc_octets arcs) (begun value) t) in
    let small : 40 * x + y < 120 = omega (arith, id.0, id.1) in
    let room : length ((40 * x + y) ∷ rest) ≤ capacity = omega (arith, fits, ap length whole) in
    let later : read_arcs bound 0 rest ≡ Err e = behind_arcs bound arcs (begun value ++ t) e id.2 (read_arcs-begun bound value value t (omega arith) opened.within ∙ err) in
    let read : read_identifier bound capacity ((40 * x + y) ∷ rest) ≡ with_arc ((40 * x + y) / 40) (with_arc ((40 * x + y) % 40) (read_arcs bound 0 rest)) =
    rw (le-ltb capacity (length ((40 * x + y) ∷ rest)) room, lt-ltb (40 * x + y) 120 small, read_identifier) refl in
    ap (read_identifier bound capacity) whole ∙ read ∙ ap (λ r. with_arc ((40 * x + y) / 40) (with_arc ((40 * x + y) % 40) r)) later
behind_open bound capacity value front _ t e opened fits err = absurd opened.identifier

arc_fault_answered : (bound capacity : ℕ) (w : List ℕ) (e : Error) → length w ≤ capacity → IsArcFault bound w e → read_identifier bound capacity w ≡ Err e
arc_fault_answered bound capacity w e fits (leading_zero front rest arcs whole opened) =
    ap (read_identifier bound capacity) whole
    ∙ behind_open bound capacity 0 front arcs (128 ∷ rest) errors.Base128 opened (subst (λ (t : List ℕ). length t ≤ capacity) whole fits) (read_arcs-leading bound 0 128 rest refl refl)
arc_fault_answered bound capacity w e fits (too_big front rest arcs value o whole opened free large) =
    ap (read_identifier bound capacity) whole
    ∙ behind_open bound capacity value front arcs (o ∷ rest) errors.ArcTooBig opened (subst (λ (t : List ℕ). length t ≤ capacity) whole fits) (read_arcs-too_big bound value o rest free large)
arc_fault_answered bound capacity w e fits (unfinished arcs value opened some) =
    ap (read_identifier bound capacity) (sym (append-nil w))
    ∙ behind_open bound capacity value w arcs [] errors.Base128 opened (subst (λ (t : List ℕ). length t ≤ capacity) (sym (append-nil w)) fits) (read_arcs-cut bound value some)

-- If bytes have an error, decoding returns that error.
pub fault_answered : (bound capacity : ℕ) (w : List ℕ) (e : Error) → IsOctetsFault bound capacity w e → read_identifier bound capacity w ≡ Err e
fault_answered bound capacity w e (no_octet none) = ap (read_identifier bound capacity) none
fault_answered bound capacity w e (too_long long) = read_identifier-long bound capacity w long
fault_answered bound capacity w e (root_invalid r rest whole fits large) =
    let room : length (r ∷ rest) ≤ capacity = subst (λ (t : List ℕ). length t ≤ capacity) whole fits in
    let read : read_identifier bound capacity (r ∷ rest) ≡ Err (errors.ArcInvalid (r / 40)) = rw (le-ltb capacity (length (r ∷ rest)) room, le-ltb r 120 large, read_identifier) refl in
    ap (read_identifier bound capacity) whole ∙ read
fault_answered bound capacity w e (arc x fits fault) = arc_fault_answered bound capacity w x fits fault

-- Consequences for a result

pub answer_ok : (bound capacity : ℕ) (w : List ℕ) (r : Result (List ℕ) Error) → ((i : ℕ) → get_or w i 0 < 256) → r ≡ read_identifier bound capacity w
    → IfOk r (λ arcs. IsIdentifier bound arcs × (length w ≤ capacity) × (w ≡ identifier_octets arcs))
answer_ok bound capacity w (Ok arcs) bytes e = identifier_sound bound capacity w arcs bytes (sym e)
answer_ok bound capacity w (Err x) bytes e = tt

pub answer_fault : (bound capacity : ℕ) (w : List ℕ) (r : Result (List ℕ) Error) → ((i : ℕ) → get_or w i 0 < 256) → r ≡ read_identifier bound capacity w
    → IfErr r (λ e. IsOctetsFault bound capacity w e)
answer_fault bound capacity w (Ok arcs) bytes e = tt
answer_fault bound capacity w (Err x) bytes e = fault_found bound capacity w x bytes (sym e)
