-- Goals of `object_identifier::ObjectIdentifier::starts_with` that the checker doesn't prove by
-- itself.
use Rattle.std.proofs.Common.{◌++◌, ◌-◌, drop, get_or, length, length-append, ap, sym, ◌∙◌, arith}
use Rattle.std.specs.List.{flat_map}
use Rattle.std.proofs.Math.ListN.{get_or-append}
use Rattle.std.proofs.lemmas.Slice.Eq.{starts_is}
use Rattle.std.proofs.lemmas.Bool.Decides.{Decides-eqb}
use Rattle.const_oid.specs.Bound.{Bound}
use Rattle.const_oid.specs.IdentifierOctets.{arc_octets}
use Rattle.const_oid.proofs.EncodingLaws.{some_octets}
use Rattle.const_oid.proofs.PrefixLaws.{octets_prefix, prefix_spelled}
use Rattle.const_oid.proofs.object_identifier.ObjectIdentifier.starts_with.Goals as goal

pub overflow_sub-last : goal.overflow_sub-last
overflow_sub-last g c =
    let others = c.as_bytes-others.ensures in
    omega (arith, some_octets Bound c.args.other others.identifier, ap length others.octets)

pub bounds-others-last : goal.bounds-others-last
bounds-others-last g c =
    let others = c.as_bytes-others.ensures in
    omega (arith, some_octets Bound c.args.other others.identifier, ap length others.octets)

pub returns-then-mine-last : goal.returns-then-mine-last
returns-then-mine-last g c =
    let mine = c.as_bytes-mine.ensures in
    let others = c.as_bytes-others.ensures in
    let v = c.as_bytes-others.result.now in (
      λ yes. absurd cc,
      λ whole. absurd (omega (
        arith,
        c.if-mine-last.true,
        some_octets Bound c.args.other others.identifier,
        ap length others.octets,
        ap length (prefix_spelled Bound c.args.self.now c.args.other whole.0 c.as_bytes-mine.result.now v others.identifier mine.octets others.octets whole.1),
        length-append v (flat_map arc_octets whole.0),
      )),
    )

pub returns-then-mine-last-2 : goal.returns-then-mine-last-2
returns-then-mine-last-2 g c =
    let mine = c.as_bytes-mine.ensures in
    let others = c.as_bytes-others.ensures in
    let v = c.as_bytes-others.result.now in
    let last = length v - 1 in (
      λ yes. absurd cc,
      λ whole. absurd (c.if-mine-last-2.true (
          ap (λ t. get_or t last 0) (prefix_spelled Bound c.args.self.now c.args.other whole.0 c.as_bytes-mine.result.now v others.identifier mine.octets others.octets whole.1)
          ∙ get_or-append v (flat_map arc_octets whole.0) 0 last (omega (arith, some_octets Bound c.args.other others.identifier, ap length others.octets))
          )),
    )

pub returns : goal.returns
returns g c =
    let mine = c.as_bytes-mine.ensures in
    let others = c.as_bytes-others.ensures in
    let w = c.as_bytes-mine.result.now in
    let v = c.as_bytes-others.result.now in
    let test = starts_is Decides-eqb w v c.starts_with.result c.starts_with.ensures.value in (
      λ yes. octets_prefix Bound c.args.self.now c.args.other (drop (length v) w) mine.identifier others.identifier (sym mine.octets ∙ test.0 yes ∙ ap (λ t. t ++ drop (length v) w) others.octets),
      λ whole. test.1 (flat_map arc_octets whole.0) (prefix_spelled Bound c.args.self.now c.args.other whole.0 w v others.identifier mine.octets others.octets whole.1),
    )
