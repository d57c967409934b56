-- Goals of `text::read` that the checker doesn't prove by itself.
use Rattle.std.proofs.Common.{◌≡◌, ◌≢◌, ℕ, List, [], ◌∷◌, Option, ◌<◌, ◌≤◌, ◌+◌, get_or, drop, length, length-drop, None, Some, Err, ap, sym, ◌∙◌, arith}
use Rattle.std.proofs.lemmas.Result.{err_from_is_err_and}
use Rattle.const_oid.specs.Bound.{Bound}
use Rattle.const_oid.specs.ArcLists.{and_then}
use Rattle.const_oid.specs.TextReading.{text_arcs, and_value}
use Rattle.std.proofs.lemmas.List.{drop_all, drop_more}
use Rattle.const_oid.proofs.TextLaws.{text-digit, text-early, text-trailing, text-dot, no_digit_read, digit_pushed}
use Rattle.const_oid.proofs.text.read.Goals as goal
use Rattle.const_oid.proofs.text.read.Goals.{else-octet-ge48-via-then-octet-ge48+else-octet-le57, else-octet-ge48-via-else-octet-ge48}

-- The result from the position of the next byte on.
here : (w : List ℕ) (i : ℕ) (arcs : List ℕ) (value : Option ℕ) → text_arcs Bound 39 [] None w ≡ text_arcs Bound 39 arcs value (drop i w) → i < length w
    → text_arcs Bound 39 [] None w ≡ text_arcs Bound 39 arcs value (get_or w i 0 ∷ drop (i + 1) w)
here w i arcs value held l = held ∙ ap (text_arcs Bound 39 arcs value) (drop_more w i 0 l)

pub returns : goal.returns
returns c =
    c.finish.ensures
    ∙ sym (c.loop-i.invariant ∙ ap (text_arcs Bound 39 c.loop-i.arcs c.loop-i.value) (drop_all c.loop-i.i c.args.text.now c.loop-i-test.false))

pub loop-i-preserved : goal.loop-i-preserved
loop-i-preserved c =
    let more : 0 < length (drop (c.loop-i.i + 1) c.args.text.now) = omega (arith, length-drop (c.loop-i.i + 1) c.args.text.now, c.if-i-text.false, c.loop-i-test.true) in
    here c.args.text.now c.loop-i.i c.loop-i.arcs c.loop-i.value c.loop-i.invariant c.loop-i-test.true
    ∙ text-dot Bound 39 _ _ c.in-Some-value.arc _ _ c.if-octet-ne46.false c.in-Some-value.is more
    ∙ ap (λ r. and_then r (λ arcs. text_arcs Bound 39 arcs None (drop (c.loop-i.i + 1) c.args.text.now))) c.in_ok-add.ensures

pub returns-in_default-value : goal.returns-in_default-value
returns-in_default-value c =
    ap (λ e. Err e) c.early_dot.ensures
    ∙ sym (here c.args.text.now c.loop-i.i c.loop-i.arcs c.loop-i.value c.loop-i.invariant c.loop-i-test.true
    ∙ text-early Bound 39 _ _ _ _ c.if-octet-ne46.false c.in_default-value.is)

pub returns-then-i-text : goal.returns-then-i-text
returns-then-i-text c =
    let none : length (drop (c.loop-i.i + 1) c.args.text.now) ≡ 0 = omega (arith, length-drop (c.loop-i.i + 1) c.args.text.now, c.if-i-text.true) in
    sym (here c.args.text.now c.loop-i.i c.loop-i.arcs c.loop-i.value c.loop-i.invariant c.loop-i-test.true
    ∙ text-trailing Bound 39 _ _ c.in-Some-value.arc _ _ c.if-octet-ne46.false c.in-Some-value.is none)

pub returns-in_err-add : goal.returns-in_err-add
returns-in_err-add c =
    let more : 0 < length (drop (c.loop-i.i + 1) c.args.text.now) = omega (arith, length-drop (c.loop-i.i + 1) c.args.text.now, c.if-i-text.false, c.loop-i-test.true) in
    let p = err_from_is_err_and c.from_residual.result c.from_residual.ensures.1 in
    p.1 ∙ ap (λ e. Err e) p.2
    ∙ sym (here c.args.text.now c.loop-i.i c.loop-i.arcs c.loop-i.value c.loop-i.invariant c.loop-i-test.true
    ∙ text-dot Bound 39 _ _ c.in-Some-value.arc _ _ c.if-octet-ne46.false c.in-Some-value.is more
    ∙ ap (λ r. and_then r (λ arcs. text_arcs Bound 39 arcs None (drop (c.loop-i.i + 1) c.args.text.now))) c.in_err-add.ensures)

pub returns-then-octet-ne46 : goal.returns-then-octet-ne46
returns-then-octet-ne46 c =
    let outside : ¬ ((48 ≤ get_or c.args.text.now c.loop-i.i 0) × (get_or c.args.text.now c.loop-i.i 0 ≤ 57)) = λ h. elim c.else-octet-ge48.branch [
      | else-octet-ge48-via-then-octet-ge48+else-octet-le57 b ↦ omega (arith, h.1, b.if-octet-le57.false)
      | else-octet-ge48-via-else-octet-ge48 b ↦ omega (arith, h.0, b.if-octet-ge48.false)
    ] in
    sym (here c.args.text.now c.loop-i.i c.loop-i.arcs c.loop-i.value c.loop-i.invariant c.loop-i-test.true
    ∙ text-digit Bound 39 _ _ _ _ c.if-octet-ne46.true
    ∙ ap (λ r. and_value r (λ next. text_arcs Bound 39 c.loop-i.arcs (Some next) (drop (c.loop-i.i + 1) c.args.text.now))) (no_digit_read Bound c.loop-i.value (get_or c.args.text.now c.loop-i.i 0) outside))

pub returns-in_default : goal.returns-in_default
returns-in_default c =
    let no_dot : get_or c.args.text.now c.loop-i.i 0 ≢ 46 = λ e. omega (arith, e, c.if-octet-ge48.true) in
    sym (here c.args.text.now c.loop-i.i c.loop-i.arcs c.loop-i.value c.loop-i.invariant c.loop-i-test.true
    ∙ text-digit Bound 39 _ _ _ _ no_dot
    ∙ ap (λ r. and_value r (λ next. text_arcs Bound 39 c.loop-i.arcs (Some next) (drop (c.loop-i.i + 1) c.args.text.now)))
    (digit_pushed Bound c.loop-i.value (get_or c.args.text.now c.loop-i.i 0) c.unwrap_or.result None (omega arith) (omega arith) c.unwrap_or.ensures c.in_default.ensures))

pub loop-i-preserved-then-octet-le57 : goal.loop-i-preserved-then-octet-le57
loop-i-preserved-then-octet-le57 c =
    let no_dot : get_or c.args.text.now c.loop-i.i 0 ≢ 46 = λ e. omega (arith, e, c.if-octet-ge48.true) in
    here c.args.text.now c.loop-i.i c.loop-i.arcs c.loop-i.value c.loop-i.invariant c.loop-i-test.true
    ∙ text-digit Bound 39 _ _ _ _ no_dot
    ∙ ap (λ r. and_value r (λ next. text_arcs Bound 39 c.loop-i.arcs (Some next) (drop (c.loop-i.i + 1) c.args.text.now)))
    (digit_pushed Bound c.loop-i.value (get_or c.args.text.now c.loop-i.i 0) c.unwrap_or.result (Some c.in-Some.next) (omega arith) (omega arith) c.unwrap_or.ensures c.in-Some.ensures)
