-- Goals of `ordering::names_of` that the checker doesn't prove by itself.
use Rattle.std.proofs.Common.{codes, map, string_bytes, ap, sym, ◌∙◌}
use Rattle.x509_cert_parts.specs.Der.Grammar.{plain_option}
use Rattle.cert_desk_orders.proofs.NamesOfLines.{map-pushed, values_of-more, values_of-other}
use Rattle.cert_desk_orders.proofs.ordering.names_of.Goals as goal
use Rattle.cert_desk_orders.proofs.ordering.names_of.Goals.{in-Some+in_ok-from_str+in_ok-push, in_default}

pub loop-line-preserved : goal.loop-line-preserved
loop-line-preserved c =
    elim c.match-value_if.branch [
      | in-Some+in_ok-from_str+in_ok-push w ↦
          values_of-more (codes "dns") c.args.lines.now c.loop-line.line-index _ c.loop-line-test.true _ c.loop-line.invariant w.in-Some.name.now
          (ap (plain_option (λ value. value.now)) (sym w.in-Some.is) ∙ c.value_if.ensures)
          ∙ rw w.names-is (map-pushed string_bytes _ _ _ _ (sym w.in_ok-from_str.ensures.ok) w.in_ok-push.ensures.items)
      | in_default w ↦
          values_of-other (codes "dns") c.args.lines.now c.loop-line.line-index _ c.loop-line-test.true _ c.loop-line.invariant
          (ap (plain_option (λ value. value.now)) (sym w.in_default.is) ∙ c.value_if.ensures)
          ∙ ap (λ names. map string_bytes names.items) (sym w.names-is)
    ]
