-- Lemmas about parsing texts: the result is the arcs of which the text is a dotted text, or the
-- error of the shortest prefix that has one.
use Rattle.std.proofs.Common.{add-one, ◌≡◌, ◌≢◌, ℕ, zero, suc, ◌+◌, ◌*◌, ◌/◌, ◌%◌, ◌<◌, ◌≤◌, ◌⊎◌, inl, inr, List, [], ◌∷◌, ◌++◌, length, map, replicate, Result, Ok, Err, IfOk, IfErr, MatchResult, Option, None, Some, unwrap_or, sym, refl, ap, subst, ◌∙◌, append_assoc, append-nil, length-append, arith}
use Rattle.std.specs.List.{AllByRecursion, flat_map, join_with_byte}
use Rattle.std.proofs.lemmas.Bool.{cases_lt, cases_eq}
use Rattle.std.proofs.lemmas.Grind.{flat_map-append}
use Rattle.std.proofs.lemmas.List.{replicate_more}
use Rattle.const_oid.specs.declared.error.Error.{Error}
use Rattle.const_oid.specs.declared.error.Error.TheVariants as errors
use Rattle.const_oid.specs.Digits.{digits}
use Rattle.const_oid.specs.IdentifierOctets.{identifier_octets, IsIdentifier}
use Rattle.const_oid.specs.ArcLists.{add_arc, whole_arcs, and_then, gather}
use Rattle.const_oid.specs.TextReading.{with_digit, early_dot, and_value, text_arcs, read_text}
use Rattle.const_oid.specs.DottedText.{decimal, dot_decimal, dotted}
use Rattle.const_oid.specs.ArcFaults.{IsFaultless}
use Rattle.const_oid.specs.TextFaults.{IsDecimal, AreDecimals, IsDottedText, with_dots, IsBegun, IsOpenText, at_end, at_dot, IsTextFault, no_text, first_dot, no_digit, repeated_dot, trailing_dot, too_big, arc, one_arc}
use Rattle.const_oid.proofs.DigitLaws.{digits-Digits}
use Rattle.const_oid.proofs.DottedLaws.{decimal-one, decimal-more}
use Rattle.const_oid.proofs.TextLaws.{digit_read, no_digit_read, past_read, Digit, no, past, within, digit, text-digit, text-early, text-trailing, text-dot, text-none, text-last}
use Rattle.const_oid.proofs.IdentifierLaws.{all-push}
use Rattle.const_oid.proofs.EncodingLaws.{whole-few, whole-many, gather-end, identifier-many}
use Rattle.const_oid.proofs.TextRoundLaws.{decimal_within, length-decimal-pos, gather-cons, alike, all_below}
use Rattle.const_oid.proofs.ArcFaultLaws.{faultless_front, faultless_none, faultless_one, faultless_identifier, identifier_gathered, add_arc-faultless, Next, faulty, fine, next, next_answered, next-not_overflow}

-- Decimal numbers, digit by digit

replicate-end : (k : ℕ) → replicate {A = ℕ} (suc k) 48 ≡ replicate k 48 ++ (48 ∷ [])
replicate-end k = ap (λ n. replicate {A = ℕ} n 48) (sym (add-one k)) ∙ sym (replicate_more k 48)

decimal-push : (n d : ℕ) → 0 < n → d ≤ 9 → decimal (n * 10 + d) ≡ decimal n ++ ((48 + d) ∷ [])
decimal-push n d some l =
    let front : (n * 10 + d) / 10 ≡ n = omega arith in
    let last : (n * 10 + d) % 10 ≡ d = omega arith in
    decimal-more (n * 10 + d) (omega arith) ∙ ap (λ k. decimal k ++ ((48 + (n * 10 + d) % 10) ∷ [])) front ∙ ap (λ k. decimal n ++ ((48 + k) ∷ [])) last

IsDecimal-one : (d : ℕ) → d ≤ 9 → IsDecimal d ((48 + d) ∷ [])
IsDecimal-one d l = record { zeros = 0; spelled = sym (decimal-one d (omega arith)) }

IsDecimal-push : (n d : ℕ) (piece : List ℕ) → IsDecimal n piece → d ≤ 9 → IsDecimal (n * 10 + d) (piece ++ ((48 + d) ∷ []))
IsDecimal-push zero d piece p l =
    let z : d ≡ 0 * 10 + d = omega arith in
    let octets : piece ++ ((48 + d) ∷ []) ≡ replicate (suc p.zeros) 48 ++ decimal d =
    ap (λ t. t ++ ((48 + d) ∷ [])) (p.spelled ∙ ap (λ t. replicate p.zeros 48 ++ t) (decimal-one 0 (omega arith)) ∙ sym (replicate-end p.zeros))
    ∙ ap (λ t. replicate (suc p.zeros) 48 ++ t) (sym (decimal-one d (omega arith))) in
    subst (λ k. IsDecimal k (piece ++ ((48 + d) ∷ []))) z (record { zeros = suc p.zeros; spelled = octets })
IsDecimal-push (suc n) d piece p l = record {
  zeros = p.zeros;
  spelled = ap (λ t. t ++ ((48 + d) ∷ [])) p.spelled
      ∙ append_assoc (replicate p.zeros 48) (decimal (suc n)) ((48 + d) ∷ [])
      ∙ ap (λ t. replicate p.zeros 48 ++ t) (sym (decimal-push (suc n) d (omega arith) l));
}

begun-push : (bound : ℕ) (begun : Option ℕ) (d : ℕ) (piece : List ℕ) → IsBegun bound begun piece → d ≤ 9 → unwrap_or begun 0 * 10 + d < bound
    → IsBegun bound (Some (unwrap_or begun 0 * 10 + d)) (piece ++ ((48 + d) ∷ []))
begun-push bound None d piece b l fits =
    let z : d ≡ 0 * 10 + d = omega arith in
    (subst (λ t. IsDecimal (0 * 10 + d) (t ++ ((48 + d) ∷ []))) (sym b) (subst (λ k. IsDecimal k ((48 + d) ∷ [])) z (IsDecimal-one d l)), fits)
begun-push bound (Some n) d piece b l fits = (IsDecimal-push n d piece b.0 l, fits)

length-piece-pos : (n : ℕ) (piece : List ℕ) → IsDecimal n piece → 0 < length piece
length-piece-pos n piece p = omega (arith, ap length p.spelled, length-append (replicate p.zeros 48) (decimal n), length-decimal-pos n)

-- Pieces, one after another

AreDecimals-push : (arcs : List ℕ) (pieces : List (List ℕ)) (a : ℕ) (piece : List ℕ) → AreDecimals arcs pieces → IsDecimal a piece → AreDecimals (arcs ++ (a ∷ [])) (pieces ++ (piece ∷ []))
AreDecimals-push [] [] a piece all p = (p, tt)
AreDecimals-push (b ∷ arcs) (x ∷ pieces) a piece all p = (all.0, AreDecimals-push arcs pieces a piece all.1 p)
AreDecimals-push _ _ a piece all p = absurd all

with_dots-push : (pieces : List (List ℕ)) (piece : List ℕ) → with_dots (pieces ++ (piece ∷ [])) ≡ with_dots pieces ++ (piece ++ (46 ∷ []))
with_dots-push pieces piece =
    flat_map-append (λ (p : List ℕ). p ++ (46 ∷ [])) pieces (piece ∷ []) ∙ ap (λ t. with_dots pieces ++ t) (append-nil (piece ++ (46 ∷ [])))

joined-push : (pieces : List (List ℕ)) (piece : List ℕ) → with_dots pieces ++ piece ≡ join_with_byte 46 (pieces ++ (piece ∷ []))
joined-push [] piece = refl
joined-push (x ∷ []) piece =
    ap (λ t. t ++ piece) (append-nil (x ++ (46 ∷ []))) ∙ append_assoc x (46 ∷ []) piece
joined-push (x ∷ y ∷ pieces) piece =
    append_assoc (x ++ (46 ∷ [])) (with_dots (y ∷ pieces)) piece
    ∙ append_assoc x (46 ∷ []) (with_dots (y ∷ pieces) ++ piece)
    ∙ ap (λ t. x ++ (46 ∷ t)) (joined-push (y ∷ pieces) piece)

-- A prefix without an error, and one more byte

open_start : (bound capacity : ℕ) → IsOpenText bound capacity [] [] None
open_start bound capacity = record { pieces = []; last = []; decimals = tt; below = tt; faultless = faultless_none capacity; begins = refl; spelled = refl }

open_digit : (bound capacity : ℕ) (front arcs : List ℕ) (begun : Option ℕ) (d : ℕ) → IsOpenText bound capacity front arcs begun → d ≤ 9 → unwrap_or begun 0 * 10 + d < bound
    → IsOpenText bound capacity (front ++ ((48 + d) ∷ [])) arcs (Some (unwrap_or begun 0 * 10 + d))
open_digit bound capacity front arcs begun d o l fits = record {
  pieces = o.pieces;
  last = o.last ++ ((48 + d) ∷ []);
  decimals = o.decimals;
  below = o.below;
  faultless = o.faultless;
  begins = begun-push bound begun d o.last o.begins l fits;
  spelled = ap (λ t. t ++ ((48 + d) ∷ [])) o.spelled ∙ append_assoc (with_dots o.pieces) o.last ((48 + d) ∷ []);
}

open_dot : (bound capacity : ℕ) (front arcs : List ℕ) (a : ℕ) → IsOpenText bound capacity front arcs (Some a) → IsFaultless capacity (arcs ++ (a ∷ []))
    → IsOpenText bound capacity (front ++ (46 ∷ [])) (arcs ++ (a ∷ [])) None
open_dot bound capacity front arcs a o f = record {
  pieces = o.pieces ++ (o.last ∷ []);
  last = [];
  decimals = AreDecimals-push arcs o.pieces a o.last o.decimals o.begins.0;
  below = all-push bound arcs a o.below o.begins.1;
  faultless = f;
  begins = refl;
  spelled = ap (λ t. t ++ (46 ∷ [])) o.spelled ∙ append_assoc (with_dots o.pieces) o.last (46 ∷ []) ∙ sym (with_dots-push o.pieces o.last) ∙ sym (append-nil (with_dots (o.pieces ++ (o.last ∷ []))));
}

no_pieces : (pieces : List (List ℕ)) → AreDecimals [] pieces → with_dots pieces ≡ []
no_pieces [] all = refl
no_pieces (x ∷ pieces) all = absurd all

open_none : (bound capacity : ℕ) (front : List ℕ) → IsOpenText bound capacity front [] None → front ≡ []
open_none bound capacity front o = o.spelled ∙ ap (λ t. t ++ o.last) (no_pieces o.pieces o.decimals) ∙ o.begins

open_text : (bound capacity : ℕ) (front arcs : List ℕ) (a : ℕ) → IsOpenText bound capacity front arcs (Some a) → IsDottedText (arcs ++ (a ∷ [])) front
open_text bound capacity front arcs a o = record {
  pieces = o.pieces ++ (o.last ∷ []);
  decimals = AreDecimals-push arcs o.pieces a o.last o.decimals o.begins.0;
  joined = o.spelled ∙ joined-push o.pieces o.last;
}

-- The result of parsing

-- The result is an identifier within the capacity of which the text is a dotted text, or the text's
-- error.
abbrev pub Judged : (bound capacity : ℕ) → List ℕ → Result (List ℕ) Error → Type 0
Judged bound capacity text r =
    MatchResult r (λ arcs. IsDottedText arcs text × IsIdentifier bound arcs × (length (identifier_octets arcs) ≤ capacity)) (λ e. IsTextFault bound capacity text e)

-- The text after a prefix isn't empty if some arcs are complete and no further one has begun.
abbrev pub GoesOn : (arcs : List ℕ) → Option ℕ → List ℕ → Type 0
GoesOn arcs begun text = begun ≡ None → text ≡ [] → arcs ≡ []

abbrev pub Behind : (bound capacity : ℕ) → List ℕ → Type 0
Behind bound capacity text =
    (front arcs : List ℕ) (begun : Option ℕ) → IsOpenText bound capacity front arcs begun → GoesOn arcs begun text → Judged bound capacity (front ++ text) (text_arcs bound capacity arcs begun text)

none_judged : (bound capacity : ℕ) (front arcs : List ℕ) → IsOpenText bound capacity front arcs None → arcs ≡ [] → Judged bound capacity (front ++ []) (text_arcs bound capacity arcs None [])
none_judged bound capacity front arcs o none =
    subst (Judged bound capacity (front ++ [])) (sym (text-none bound capacity arcs None refl))
    (no_text (append-nil front ∙ open_none bound capacity front (subst (λ (t : List ℕ). IsOpenText bound capacity front t None) none o)))

last_judged : (bound capacity : ℕ) (front arcs : List ℕ) (a : ℕ) → IsOpenText bound capacity front arcs (Some a) → Judged bound capacity front (text_arcs bound capacity arcs (Some a) [])
last_judged bound capacity front arcs a o = subst (Judged bound capacity front) (sym (text-last bound capacity arcs (Some a) a refl)) (by (next capacity arcs a o.faultless.placed))
  where
    whole : (arcs : List ℕ) → IsOpenText bound capacity front arcs (Some a) → IsFaultless capacity (arcs ++ (a ∷ [])) → (length (arcs ++ (a ∷ [])) < 2) ⊎ (2 ≤ length (arcs ++ (a ∷ [])))
        → Judged bound capacity front (whole_arcs (arcs ++ (a ∷ [])))
    whole [] o f (inl few) = subst (Judged bound capacity front) (sym (whole-few (a ∷ []) few)) (one_arc a o f.placed)
    whole (x ∷ arcs) o f (inl few) = absurd (omega (arith, length-append arcs (a ∷ [])))
    whole arcs o f (inr many) =
        subst (Judged bound capacity front) (sym (whole-many (arcs ++ (a ∷ [])) many))
        (open_text bound capacity front arcs a o, faultless_identifier bound capacity (arcs ++ (a ∷ [])) f many (all-push bound arcs a o.below o.begins.1), f.fits)

    by : Next capacity arcs a → Judged bound capacity front (and_then (add_arc capacity arcs a) whole_arcs)
    by (faulty e fault err) = subst (λ r. Judged bound capacity front (and_then r whole_arcs)) (sym err) (arc front arcs a e (at_end refl) o fault)
    by (fine f ok) = subst (λ r. Judged bound capacity front (and_then r whole_arcs)) (sym ok) (whole arcs o f (cases_lt (length (arcs ++ (a ∷ []))) 2))

dot_judged : (bound capacity : ℕ) (front arcs : List ℕ) (begun : Option ℕ) (w : List ℕ) → IsOpenText bound capacity front arcs begun → Behind bound capacity w
    → Judged bound capacity (front ++ (46 ∷ w)) (text_arcs bound capacity arcs begun (46 ∷ w))
dot_judged bound capacity front [] None w o ih =
    subst (Judged bound capacity (front ++ (46 ∷ w))) (sym (text-early bound capacity [] None 46 w refl refl)) (first_dot w (ap (λ t. t ++ (46 ∷ w)) (open_none bound capacity front o)))
dot_judged bound capacity front (x ∷ arcs) None w o ih =
    subst (Judged bound capacity (front ++ (46 ∷ w))) (sym (text-early bound capacity (x ∷ arcs) None 46 w refl refl)) (repeated_dot front w (x ∷ arcs) refl o (omega arith))
dot_judged bound capacity front arcs (Some a) [] o ih =
    subst (Judged bound capacity (front ++ (46 ∷ []))) (sym (text-trailing bound capacity arcs (Some a) a 46 [] refl refl refl)) (trailing_dot front arcs a refl o)
dot_judged bound capacity front arcs (Some a) (c ∷ w) o ih =
    subst (Judged bound capacity (front ++ (46 ∷ c ∷ w))) (sym (text-dot bound capacity arcs (Some a) a 46 (c ∷ w) refl refl (omega arith))) (by (next capacity arcs a o.faultless.placed))
  where
    by : Next capacity arcs a → Judged bound capacity (front ++ (46 ∷ c ∷ w)) (and_then (add_arc capacity arcs a) (λ more. text_arcs bound capacity more None (c ∷ w)))
    by (faulty e fault err) =
        subst (λ r. Judged bound capacity (front ++ (46 ∷ c ∷ w)) (and_then r (λ more. text_arcs bound capacity more None (c ∷ w)))) (sym err) (arc front arcs a e (at_dot c w refl) o fault)
    by (fine f ok) =
        subst (λ r. Judged bound capacity (front ++ (46 ∷ c ∷ w)) (and_then r (λ more. text_arcs bound capacity more None (c ∷ w)))) (sym ok)
        (subst (λ t. Judged bound capacity t (text_arcs bound capacity (arcs ++ (a ∷ [])) None (c ∷ w))) (append_assoc front (46 ∷ []) (c ∷ w))
        (ih (front ++ (46 ∷ [])) (arcs ++ (a ∷ [])) None (open_dot bound capacity front arcs a o f) (λ _ h. absurd (cc))))

digit_judged : (bound capacity : ℕ) (front arcs : List ℕ) (begun : Option ℕ) (c : ℕ) (w : List ℕ) → c ≢ 46 → IsOpenText bound capacity front arcs begun → Behind bound capacity w
    → Judged bound capacity (front ++ (c ∷ w)) (text_arcs bound capacity arcs begun (c ∷ w))
digit_judged bound capacity front arcs begun c w ne o ih = subst (Judged bound capacity (front ++ (c ∷ w))) (sym (text-digit bound capacity arcs begun c w ne)) (by (digit bound begun c))
  where
    by : Digit bound begun c → Judged bound capacity (front ++ (c ∷ w)) (and_value (with_digit bound begun c) (λ next. text_arcs bound capacity arcs (Some next) w))
    by (no n read) =
        subst (λ r. Judged bound capacity (front ++ (c ∷ w)) (and_value r (λ next. text_arcs bound capacity arcs (Some next) w))) (sym read) (no_digit front w arcs begun c refl o ne n)
    by (past d e l large read) =
        subst (λ r. Judged bound capacity (front ++ (c ∷ w)) (and_value r (λ next. text_arcs bound capacity arcs (Some next) w))) (sym read)
        (too_big front w arcs begun d (ap (λ x. front ++ (x ∷ w)) e) o l large)
    by (within d e l fits read) =
        let value = unwrap_or begun 0 * 10 + d in
        subst (λ r. Judged bound capacity (front ++ (c ∷ w)) (and_value r (λ next. text_arcs bound capacity arcs (Some next) w))) (sym read)
        (subst (λ t. Judged bound capacity t (text_arcs bound capacity arcs (Some value) w)) (append_assoc front ((48 + d) ∷ []) w ∙ ap (λ x. front ++ (x ∷ w)) (sym e))
        (ih (front ++ ((48 + d) ∷ [])) arcs (Some value) (open_digit bound capacity front arcs begun d o l fits) (λ h. absurd (cc))))

judged_behind : (bound capacity : ℕ) (w : List ℕ) → Behind bound capacity w
judged_behind bound capacity [] front arcs None o goes = none_judged bound capacity front arcs o (goes refl refl)
judged_behind bound capacity [] front arcs (Some a) o goes =
    subst (λ t. Judged bound capacity t (text_arcs bound capacity arcs (Some a) [])) (sym (append-nil front)) (last_judged bound capacity front arcs a o)
judged_behind bound capacity (c ∷ w) front arcs begun o goes = by (cases_eq c 46) (judged_behind bound capacity w)
  where
    by : (c ≡ 46) ⊎ (c ≡ 46 → ⊥) → Behind bound capacity w → Judged bound capacity (front ++ (c ∷ w)) (text_arcs bound capacity arcs begun (c ∷ w))
    by (inl dot) ih = subst (λ x. Judged bound capacity (front ++ (x ∷ w)) (text_arcs bound capacity arcs begun (x ∷ w))) (sym dot) (dot_judged bound capacity front arcs begun w o ih)
    by (inr ne) ih = digit_judged bound capacity front arcs begun c w ne o ih

judged : (bound capacity : ℕ) (w : List ℕ) (r : Result (List ℕ) Error) → r ≡ read_text bound capacity w → Judged bound capacity w r
judged bound capacity w r e = subst (Judged bound capacity w) (sym e) (judged_behind bound capacity w [] [] None (open_start bound capacity) (λ _ _. refl))

-- If a text is rejected with an error, it has that error.
pub text_fault_found : (bound capacity : ℕ) (w : List ℕ) (e : Error) → read_text bound capacity w ≡ Err e → IsTextFault bound capacity w e
text_fault_found bound capacity w e err = judged bound capacity w (Err e) (sym err)

-- If a text is accepted, it is a dotted text of the result, which is an identifier.
pub text_sound : (bound capacity : ℕ) (w arcs : List ℕ) → read_text bound capacity w ≡ Ok arcs → IsDottedText arcs w × IsIdentifier bound arcs × (length (identifier_octets arcs) ≤ capacity)
text_sound bound capacity w arcs ok = judged bound capacity w (Ok arcs) (sym ok)

-- Parsing after a prefix without an error

decimal-cons : (n : ℕ) → (c : ℕ) × (w : List ℕ) × (decimal n ≡ c ∷ w) × (c ≢ 46)
unfolding decimal
decimal-cons n = by (digits 10 n) (digits-Digits 10 n (omega arith)).some
  where
    by : (ds : List ℕ) → 0 < length ds → (c : ℕ) × (w : List ℕ) × (map (λ d. 48 + d) ds ≡ c ∷ w) × (c ≢ 46)
    by [] some = absurd (omega arith)
    by (d ∷ ds) some = (48 + d, map (λ d. 48 + d) ds, refl, λ h. omega (arith, h))

-- Leading zeros of an arc don't change the result.
leading_zero : (bound capacity : ℕ) (arcs w : List ℕ) (c : ℕ) → 0 < bound → c ≢ 46 → text_arcs bound capacity arcs None (48 ∷ c ∷ w) ≡ text_arcs bound capacity arcs None (c ∷ w)
leading_zero bound capacity arcs w c some ne =
    text-digit bound capacity arcs None 48 (c ∷ w) (λ h. omega (arith, h))
    ∙ ap (λ r. and_value r (λ next. text_arcs bound capacity arcs (Some next) (c ∷ w))) (digit_read bound None 0 (omega arith) (omega arith))
    ∙ text-digit bound capacity arcs (Some 0) c w ne
    ∙ sym (text-digit bound capacity arcs None c w ne)

zeros_read : (bound capacity : ℕ) (arcs w : List ℕ) (zeros n : ℕ) → 0 < bound
    → text_arcs bound capacity arcs None ((replicate zeros 48 ++ decimal n) ++ w) ≡ text_arcs bound capacity arcs None (decimal n ++ w)
zeros_read bound capacity arcs w zero n some = refl
zeros_read bound capacity arcs w (suc zero) n some =
    let first = decimal-cons n in
    ap (λ t. text_arcs bound capacity arcs None (48 ∷ (t ++ w))) first.2
    ∙ leading_zero bound capacity arcs (first.1 ++ w) first.0 some first.3
    ∙ ap (λ t. text_arcs bound capacity arcs None (t ++ w)) (sym first.2)
zeros_read bound capacity arcs w (suc (suc zeros)) n some =
    leading_zero bound capacity arcs ((replicate zeros 48 ++ decimal n) ++ w) 48 some (λ h. omega (arith, h)) ∙ zeros_read bound capacity arcs w (suc zeros) n some

piece_read : (bound capacity : ℕ) (arcs w : List ℕ) (a : ℕ) (piece : List ℕ) → IsDecimal a piece → a < bound → text_arcs bound capacity arcs None (piece ++ w) ≡ text_arcs bound capacity arcs (Some a) w
piece_read bound capacity arcs w a piece p l =
    ap (λ t. text_arcs bound capacity arcs None (t ++ w)) p.spelled
    ∙ zeros_read bound capacity arcs w p.zeros a (omega arith)
    ∙ decimal_within bound capacity a a arcs w (omega arith) l

begun_read : (bound capacity : ℕ) (arcs w : List ℕ) (begun : Option ℕ) (piece : List ℕ) → IsBegun bound begun piece → text_arcs bound capacity arcs None (piece ++ w) ≡ text_arcs bound capacity arcs begun w
begun_read bound capacity arcs w None piece b = ap (λ t. text_arcs bound capacity arcs None (t ++ w)) b
begun_read bound capacity arcs w (Some a) piece b = piece_read bound capacity arcs w a piece b.0 b.1

-- An arc, followed by a dot that isn't the last byte.
dotted_piece_read : (bound capacity : ℕ) (arcs w : List ℕ) (a : ℕ) (piece : List ℕ) → IsDecimal a piece → a < bound → 0 < length w
    → text_arcs bound capacity arcs None (piece ++ (46 ∷ w)) ≡ and_then (add_arc capacity arcs a) (λ more. text_arcs bound capacity more None w)
dotted_piece_read bound capacity arcs w a piece p l some =
    piece_read bound capacity arcs (46 ∷ w) a piece p l ∙ text-dot bound capacity arcs (Some a) a 46 w refl refl some

pieces_read : (bound capacity : ℕ) (before arcs : List ℕ) (pieces : List (List ℕ)) (w : List ℕ) → AreDecimals arcs pieces → AllByRecursion (λ n. n < bound) arcs → IsFaultless capacity (before ++ arcs) → 0 < length w
    → text_arcs bound capacity before None (with_dots pieces ++ w) ≡ text_arcs bound capacity (before ++ arcs) None w
pieces_read bound capacity before [] [] w d all f some = ap (λ t. text_arcs bound capacity t None w) (sym (append-nil before))
pieces_read bound capacity before (a ∷ arcs) (x ∷ pieces) w d all f some =
    let rest = with_dots pieces ++ w in
    let whole : (before ++ (a ∷ [])) ++ arcs ≡ before ++ (a ∷ arcs) = append_assoc before (a ∷ []) arcs in
    let g = subst (IsFaultless capacity) (sym whole) f in
    let added = add_arc-faultless capacity before a (faultless_front capacity (before ++ (a ∷ [])) arcs g) in
    ap (text_arcs bound capacity before None) (append_assoc (x ++ (46 ∷ [])) (with_dots pieces) w ∙ append_assoc x (46 ∷ []) rest)
    ∙ dotted_piece_read bound capacity before rest a x d.0 all.0 (omega (arith, length-append (with_dots pieces) w))
    ∙ ap (λ r. and_then r (λ more. text_arcs bound capacity more None rest)) added
    ∙ pieces_read bound capacity (before ++ (a ∷ [])) arcs pieces w d.1 all.1 g some
    ∙ ap (λ t. text_arcs bound capacity t None w) whole
pieces_read bound capacity before _ _ w d all f some = absurd d

-- The digits of an arc that has begun, together with the text after them, aren't empty.
some_left : (bound : ℕ) (begun : Option ℕ) (piece w : List ℕ) → IsBegun bound begun piece → (begun ≡ None → 0 < length w) → 0 < length (piece ++ w)
some_left bound None piece w b left = omega (arith, left refl, length-append piece w)
some_left bound (Some a) piece w b left = omega (arith, length-piece-pos a piece b.0, length-append piece w)

open_read : (bound capacity : ℕ) (front arcs : List ℕ) (begun : Option ℕ) (w : List ℕ) → IsOpenText bound capacity front arcs begun → (begun ≡ None → 0 < length w)
    → read_text bound capacity (front ++ w) ≡ text_arcs bound capacity arcs begun w
open_read bound capacity front arcs begun w o left =
    ap (λ t. text_arcs bound capacity [] None (t ++ w)) o.spelled
    ∙ ap (text_arcs bound capacity [] None) (append_assoc (with_dots o.pieces) o.last w)
    ∙ pieces_read bound capacity [] arcs o.pieces (o.last ++ w) o.decimals o.below o.faultless (some_left bound begun o.last w o.begins left)
    ∙ begun_read bound capacity arcs w begun o.last o.begins

-- If a text has an error, it is rejected with that error.
pub text_fault_answered : (bound capacity : ℕ) (w : List ℕ) (e : Error) → IsTextFault bound capacity w e → read_text bound capacity w ≡ Err e
text_fault_answered bound capacity w e (no_text none) = ap (read_text bound capacity) none ∙ text-none bound capacity [] None refl
text_fault_answered bound capacity w e (first_dot rest whole) = ap (read_text bound capacity) whole ∙ text-early bound capacity [] None 46 rest refl refl
text_fault_answered bound capacity w e (no_digit front rest arcs begun c whole o ne n) =
    ap (read_text bound capacity) whole
    ∙ open_read bound capacity front arcs begun (c ∷ rest) o (λ _. omega arith)
    ∙ text-digit bound capacity arcs begun c rest ne
    ∙ ap (λ r. and_value r (λ next. text_arcs bound capacity arcs (Some next) rest)) (no_digit_read bound begun c n)
text_fault_answered bound capacity w e (repeated_dot front rest arcs whole o some) =
    ap (read_text bound capacity) whole ∙ open_read bound capacity front arcs None (46 ∷ rest) o (λ _. omega arith) ∙ text-early bound capacity arcs None 46 rest refl refl ∙ ap (λ x. Err x) (early arcs some)
  where
    early : (arcs : List ℕ) → 0 < length arcs → early_dot arcs ≡ errors.RepeatedDot
    early [] some = absurd (omega arith)
    early (x ∷ arcs) some = refl
text_fault_answered bound capacity w e (trailing_dot front arcs a whole o) =
    ap (read_text bound capacity) whole ∙ open_read bound capacity front arcs (Some a) (46 ∷ []) o (λ h. omega arith) ∙ text-trailing bound capacity arcs (Some a) a 46 [] refl refl refl
text_fault_answered bound capacity w e (too_big front rest arcs begun d whole o l large) =
    ap (read_text bound capacity) whole
    ∙ open_read bound capacity front arcs begun ((48 + d) ∷ rest) o (λ _. omega arith)
    ∙ text-digit bound capacity arcs begun (48 + d) rest (λ h. omega (arith, h))
    ∙ ap (λ r. and_value r (λ next. text_arcs bound capacity arcs (Some next) rest)) (past_read bound begun d l large)
text_fault_answered bound capacity w e (arc front arcs a x (at_end whole) o fault) =
    ap (read_text bound capacity) (whole ∙ sym (append-nil front))
    ∙ open_read bound capacity front arcs (Some a) [] o (λ h. absurd (cc))
    ∙ text-last bound capacity arcs (Some a) a refl
    ∙ ap (λ r. and_then r whole_arcs) (next_answered capacity arcs a x fault)
text_fault_answered bound capacity w e (arc front arcs a x (at_dot c rest whole) o fault) =
    ap (read_text bound capacity) whole
    ∙ open_read bound capacity front arcs (Some a) (46 ∷ c ∷ rest) o (λ h. absurd (cc))
    ∙ text-dot bound capacity arcs (Some a) a 46 (c ∷ rest) refl refl (omega arith)
    ∙ ap (λ r. and_then r (λ more. text_arcs bound capacity more None (c ∷ rest))) (next_answered capacity arcs a x fault)
text_fault_answered bound capacity w e (one_arc a o small) =
    ap (read_text bound capacity) (sym (append-nil w))
    ∙ open_read bound capacity w [] (Some a) [] o (λ h. absurd (cc))
    ∙ text-last bound capacity [] (Some a) a refl
    ∙ ap (λ r. and_then r whole_arcs) (add_arc-faultless capacity [] a (faultless_one capacity a small))
    ∙ whole-few (a ∷ []) (omega arith)

-- Parsing a dotted text gives the same result as collecting its arcs

join-pos : (arcs : List ℕ) (pieces : List (List ℕ)) → AreDecimals arcs pieces → 0 < length arcs → 0 < length (join_with_byte 46 pieces)
join-pos [] [] d some = absurd (omega arith)
join-pos (a ∷ arcs) (x ∷ []) d some = length-piece-pos a x d.0
join-pos (a ∷ arcs) (x ∷ y ∷ pieces) d some = omega (arith, length-append x (46 ∷ join_with_byte 46 (y ∷ pieces)))
join-pos _ _ d some = absurd d

joined_gathered : (bound capacity : ℕ) (before arcs : List ℕ) (pieces : List (List ℕ)) → AreDecimals arcs pieces → AllByRecursion (λ n. n < bound) arcs → 0 < length arcs
    → text_arcs bound capacity before None (join_with_byte 46 pieces) ≡ gather capacity before arcs
joined_gathered bound capacity before [] pieces d all some = absurd (omega arith)
joined_gathered bound capacity before (a ∷ arcs) [] d all some = absurd d
joined_gathered bound capacity before (a ∷ []) (x ∷ []) d all some =
    ap (text_arcs bound capacity before None) (sym (append-nil x))
    ∙ piece_read bound capacity before [] a x d.0 all.0
    ∙ text-last bound capacity before (Some a) a refl
    ∙ alike (add_arc capacity before a) whole_arcs (λ more. gather capacity more []) (λ more. sym (gather-end capacity more))
    ∙ sym (gather-cons capacity before a [])
joined_gathered bound capacity before (a ∷ b ∷ arcs) (x ∷ y ∷ pieces) d all some =
    let rest = join_with_byte 46 (y ∷ pieces) in
    dotted_piece_read bound capacity before rest a x d.0 all.0 (join-pos (b ∷ arcs) (y ∷ pieces) d.1 (omega arith))
    ∙ alike (add_arc capacity before a) (λ more. text_arcs bound capacity more None rest) (λ more. gather capacity more (b ∷ arcs))
    (λ more. joined_gathered bound capacity more (b ∷ arcs) (y ∷ pieces) d.1 all.1 (omega arith))
    ∙ sym (gather-cons capacity before a (b ∷ arcs))
joined_gathered bound capacity before _ _ d all some = absurd d.1

pub text_gathered : (bound capacity : ℕ) (w arcs : List ℕ) → IsDottedText arcs w → AllByRecursion (λ n. n < bound) arcs → 0 < length arcs → read_text bound capacity w ≡ gather capacity [] arcs
text_gathered bound capacity w arcs t all some = ap (read_text bound capacity) t.joined ∙ joined_gathered bound capacity [] arcs t.pieces t.decimals all some

-- A dotted text of an identifier within the capacity parses to it.
pub text_read : (bound capacity : ℕ) (w arcs : List ℕ) → 40 ≤ bound → IsDottedText arcs w → IsIdentifier bound arcs → length (identifier_octets arcs) ≤ capacity → read_text bound capacity w ≡ Ok arcs
text_read bound capacity w arcs large t id fits =
    text_gathered bound capacity w arcs t (all_below bound arcs large id) (omega (arith, identifier-many bound arcs id)) ∙ identifier_gathered bound capacity arcs id fits

-- Consequences for a result

pub text_fault-not_overflow : (bound capacity : ℕ) (w : List ℕ) (e : Error) → IsTextFault bound capacity w e → e ≢ errors.Overflow
text_fault-not_overflow bound capacity w e (arc front arcs a x ends o fault) h = next-not_overflow capacity arcs a x fault h
text_fault-not_overflow bound capacity w e (no_text none) h = cc
text_fault-not_overflow bound capacity w e (first_dot rest whole) h = cc
text_fault-not_overflow bound capacity w e (no_digit front rest arcs begun c whole o ne n) h = cc
text_fault-not_overflow bound capacity w e (repeated_dot front rest arcs whole o some) h = cc
text_fault-not_overflow bound capacity w e (trailing_dot front arcs a whole o) h = cc
text_fault-not_overflow bound capacity w e (too_big front rest arcs begun d whole o l large) h = cc
text_fault-not_overflow bound capacity w e (one_arc a o small) h = cc

pub answer_ok : (bound capacity : ℕ) (w : List ℕ) (r : Result (List ℕ) Error) → r ≡ read_text bound capacity w
    → IfOk r (λ arcs. IsDottedText arcs w × IsIdentifier bound arcs × (length (identifier_octets arcs) ≤ capacity))
answer_ok bound capacity w (Ok arcs) e = judged bound capacity w (Ok arcs) e
answer_ok bound capacity w (Err x) e = tt

pub answer_fault : (bound capacity : ℕ) (w : List ℕ) (r : Result (List ℕ) Error) → r ≡ read_text bound capacity w → IfErr r (λ e. IsTextFault bound capacity w e)
answer_fault bound capacity w (Ok arcs) e = tt
answer_fault bound capacity w (Err x) e = judged bound capacity w (Err x) e

-- The printed text is a dotted text of its arcs

decimals-are : (arcs : List ℕ) → AreDecimals arcs (map decimal arcs)
decimals-are [] = tt
decimals-are (a ∷ arcs) = (record { zeros = 0; spelled = refl }, decimals-are arcs)

joined-decimals : (a : ℕ) (arcs : List ℕ) → decimal a ++ flat_map dot_decimal arcs ≡ join_with_byte 46 (map decimal (a ∷ arcs))
unfolding dot_decimal
joined-decimals a [] = append-nil (decimal a)
joined-decimals a (b ∷ arcs) = ap (λ t. decimal a ++ (46 ∷ t)) (joined-decimals b arcs)

pub dotted_text : (arcs : List ℕ) → IsDottedText arcs (dotted arcs)
unfolding dotted
dotted_text [] = record { pieces = []; decimals = tt; joined = refl }
dotted_text (a ∷ arcs) = record { pieces = map decimal (a ∷ arcs); decimals = decimals-are (a ∷ arcs); joined = joined-decimals a arcs }

-- Parsing the dotted text of arcs gives the same result as collecting the arcs.
pub dotted_gathered : (bound capacity : ℕ) (arcs : List ℕ) → AllByRecursion (λ n. n < bound) arcs → 0 < length arcs → read_text bound capacity (dotted arcs) ≡ gather capacity [] arcs
dotted_gathered bound capacity arcs all some = text_gathered bound capacity (dotted arcs) arcs (dotted_text arcs) all some

-- The dotted text of an identifier parses to it.
pub dotted_read : (bound capacity : ℕ) (arcs : List ℕ) → 40 ≤ bound → IsIdentifier bound arcs → length (identifier_octets arcs) ≤ capacity → read_text bound capacity (dotted arcs) ≡ Ok arcs
dotted_read bound capacity arcs large id fits = text_read bound capacity (dotted arcs) arcs large (dotted_text arcs) id fits

-- Identifiers with the same dotted text are equal.
pub same_text : (bound : ℕ) (a b : List ℕ) → 40 ≤ bound → IsIdentifier bound a → IsIdentifier bound b → dotted a ≡ dotted b → a ≡ b
same_text bound a b large p q e =
    let capacity = length (identifier_octets a) + length (identifier_octets b) in
    let first = dotted_read bound capacity a large p (omega arith) in
    let second = dotted_read bound capacity b large q (omega arith) in
    let both : Ok a ≡ Ok b = sym first ∙ ap (read_text bound capacity) e ∙ second in
    cc
