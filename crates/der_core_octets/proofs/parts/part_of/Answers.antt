-- Goals of `parts::part_of` that the checker doesn't prove by itself.
use Rattle.std.proofs.Common.{◌≤◌, Err, refl, length, drop, sym, ap, ◌∙◌, arith}
use Rattle.std.proofs.lemmas.List.{length-drop, drop-drop, take_rest}
use Rattle.der_core_octets.proofs.GoingOn.{part_short, part_is}
use Rattle.der_core_octets.specs.Headers.{head_of}
use Rattle.der_core_octets.proofs.parts.part_of.Goals as goal

pub returns-then-rest-len-clause-front : goal.returns-then-rest-len-clause-front
returns-then-rest-len-clause-front c =
    let w = c.args.octets.now in
    let n = c.in_ok-header.count in
    part_short c.args.tag w (drop n w) (head_of c.in_ok-header.header) c.in_ok-header.ensures.front.0 (omega (arith, length-drop n w, c.if-rest-len.true)) ∙ ap (λ k. Err k) (sym c.from.ensures)

pub returns-clause-front : goal.returns-clause-front
returns-clause-front c =
    let w = c.args.octets.now in
    let n = c.in_ok-header.count in
    let m = c.in_ok-header.header.length.value in
    let enough : m ≤ length (drop n w) = omega (arith, length-drop n w, c.if-rest-len.false) in (
      part_is c.args.tag w (drop n w) (head_of c.in_ok-header.header) c.in_ok-header.ensures.front.0 enough
          ∙ rw (take_rest w n, drop-drop m n w) refl,
      omega (arith, length-drop n w, enough, c.in_ok-header.ensures.within),
    )
