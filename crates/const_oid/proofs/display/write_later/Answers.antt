-- Goals of `display::write_later` that the checker doesn't prove by itself.
use Rattle.std.proofs.Common.{◌++◌, append_assoc, ap, sym, refl, ◌∙◌}
use Rattle.std.specs.List.{flat_map}
use Rattle.std.proofs.Output.{has_written_append}
use Rattle.const_oid.specs.DottedText.{dot_decimal}
use Rattle.const_oid.specs.References.{remaining_arcs}
use Rattle.const_oid.proofs.display.write_later.Goals as goal

pub loop-arc-preserved : goal.loop-arc-preserved
loop-arc-preserved g c = λ plain.
    let before = c.loop-arc.invariant plain in
    let next = has_written_append _ _ _ _ _ _ before.1 (c.in_ok-write_dot_decimal.ensures before.1.plain refl) in
    let parts = ap (flat_map dot_decimal) c.in-Some.ensures.steps in (
      before.0 ++ dot_decimal c.in-Some.arc,
      next,
      append_assoc before.0 (dot_decimal c.in-Some.arc) (flat_map dot_decimal (remaining_arcs c.next.new.self)) ∙ ap (λ t. before.0 ++ t) (sym parts) ∙ before.2,
    )
