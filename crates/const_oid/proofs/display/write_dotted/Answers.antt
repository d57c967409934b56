-- Goals of `display::write_dotted` that the checker doesn't prove by itself.
use Rattle.std.proofs.Common.{ap, sym, refl, subst, ◌∙◌, rules, arith}
use Rattle.std.proofs.Output.{has_written_append, has_written_of_eq}
use Rattle.const_oid.specs.Bound.{Bound}
use Rattle.const_oid.specs.IdentifierOctets.{IsIdentifier}
use Rattle.const_oid.specs.DottedText.{dotted}
use Rattle.const_oid.specs.References.{remaining_arcs}
use Rattle.const_oid.proofs.ArcsLaws.{is_ok_spells}
use Rattle.const_oid.proofs.DottedLaws.{dotted-cons, dotted-nil}
use Rattle.const_oid.proofs.EncodingLaws.{first_arc_small}
use Rattle.const_oid.proofs.display.write_dotted.Goals as goal

pub first_text-requires : goal.first_text-requires
first_text-requires g c =
    let spells = is_ok_spells Bound c.args.octets.now (λ i. omega (arith, c.type_inv.octets i)) c.requires in
    first_arc_small Bound c.in-Some.first (remaining_arcs c.next.new.self) (subst (IsIdentifier Bound) (sym c.of-arcs.ensures ∙ c.in-Some.ensures.steps) spells.identifier)

pub returns : goal.returns
returns g c = λ plain ok.
    let first = has_written_of_eq _ _ _ _ _ c.first_text.ensures (c.in_ok-write_str.ensures.writes plain refl) in
    let later = c.write_later.ensures first.plain ok in
    has_written_of_eq _ _ _ _ _ (sym (ap dotted (sym c.of-arcs.ensures ∙ c.in-Some.ensures.steps) ∙ dotted-cons c.in-Some.first (remaining_arcs c.next.new.self))) (has_written_append _ _ _ _ _ _ first later)

pub returns-in_default : goal.returns-in_default
returns-in_default g c = λ plain ok.
    has_written_of_eq _ _ _ _ _ (sym (dotted-nil _ (sym c.of-arcs.ensures ∙ c.in_default.ensures.steps.0))) (search rules)
