-- Goals of `indefinite::body_len_of` that the checker doesn't prove by itself.
use Rattle.std.proofs.Common.{◌≡◌, Ok, refl, ap, ◌∙◌, arith, drop, lt-ltb, le-ltb}
use Rattle.std.proofs.lemmas.Result.{err_from_is_err_and}
use Rattle.der_core_head.specs.Bodies.{piece_at, ending, opening, encoding}
use Rattle.der_core_octets.specs.Pieces.{plain_piece}
use Rattle.der_core_octets.proofs.Levels.{start, faulty, too_deep, finished, shorter, ended, opened, skipped}
use Rattle.der_core_octets.proofs.indefinite.body_len_of.Goals as goal
use Rattle.der_core_octets.proofs.indefinite.body_len_of.Goals.{in-Ending, in-Opening+else-levels-eq-MAX_LEVELS, in-Encoding}

pub loop-levels-init : goal.loop-levels-init
loop-levels-init c = start c.args.octets.now (λ i. omega (arith, c.type_inv.octets i))

pub returns-in_err-piece : goal.returns-in_err-piece
returns-in_err-piece c =
    let p = err_from_is_err_and c.from_residual.result c.from_residual.ensures.1 in
    rw (p.1, p.2) (faulty c.args.octets.now c.loop-levels.levels c.loop-levels.rest.now _ c.loop-levels.invariant c.loop-levels-test.true c.in_err-piece.ensures)

pub returns-then-levels-eq-MAX_LEVELS : goal.returns-then-levels-eq-MAX_LEVELS
returns-then-levels-eq-MAX_LEVELS c =
    let n = c.in_ok-piece.count in
    let rest = c.loop-levels.rest.now in
    let piece : piece_at rest ≡ Ok (opening, drop n rest) = c.in_ok-piece.ensures.0 ∙ ap (λ p. Ok (plain_piece p, drop n rest)) c.in-Opening.is in
    rw c.from.ensures (too_deep c.args.octets.now c.loop-levels.levels rest (drop n rest) c.loop-levels.invariant c.if-levels-eq-MAX_LEVELS.true piece)

pub loop-levels-smaller : goal.loop-levels-smaller
loop-levels-smaller c =
    shorter c.args.octets.now c.loop-levels.levels c.loop-levels.rest.now (plain_piece c.in_ok-piece.piece) c.in_ok-piece.count c.loop-levels.invariant c.in_ok-piece.ensures.0

pub loop-levels-preserved : goal.loop-levels-preserved
loop-levels-preserved c =
    let n = c.in_ok-piece.count in
    let rest = c.loop-levels.rest.now in
    let go = c.loop-levels.invariant in
    let some = c.loop-levels-test.true in
    elim c.match-piece.branch [
      | in-Ending w ↦
          let piece : piece_at rest ≡ Ok (ending, drop n rest) = c.in_ok-piece.ensures.0 ∙ ap (λ p. Ok (plain_piece p, drop n rest)) w.in-Ending.is in
          rw w.levels-is (ended c.args.octets.now c.loop-levels.levels rest n go some piece)
      | in-Opening+else-levels-eq-MAX_LEVELS w ↦
          let piece : piece_at rest ≡ Ok (opening, drop n rest) = c.in_ok-piece.ensures.0 ∙ ap (λ p. Ok (plain_piece p, drop n rest)) w.in-Opening.is in
          rw w.levels-is (opened c.args.octets.now c.loop-levels.levels rest n go some w.if-levels-eq-MAX_LEVELS.false piece)
      | in-Encoding w ↦
          let piece : piece_at rest ≡ Ok (encoding, drop n rest) = c.in_ok-piece.ensures.0 ∙ ap (λ p. Ok (plain_piece p, drop n rest)) w.in-Encoding.is in
          rw w.levels-is (skipped c.args.octets.now c.loop-levels.levels rest n go some piece)
    ]

pub returns-then-len : goal.returns-then-len
returns-then-len c =
    let test = lt-ltb _ _ c.if-len.true in
    rw (c.from-then-len.ensures, finished c.args.octets.now c.loop-levels.levels c.loop-levels.rest.now c.loop-levels.invariant (omega arith), test) refl

pub returns : goal.returns
returns c =
    let test = le-ltb _ _ c.if-len.false in
    rw (finished c.args.octets.now c.loop-levels.levels c.loop-levels.rest.now c.loop-levels.invariant (omega arith), test) refl
