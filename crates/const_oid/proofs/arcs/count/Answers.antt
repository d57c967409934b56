-- Goals of `arcs::count` that the checker doesn't prove by itself.
use Rattle.std.proofs.Common.{ap, ◌+◌, ◌∙◌}
use Rattle.const_oid.specs.Bound.{Bound}
use Rattle.const_oid.proofs.ArcsLaws.{length-arcs_of}
use Rattle.const_oid.proofs.arcs.count.Goals as goal

pub returns : goal.returns
returns c = ap (λ n. n + 1) c.unmarked.ensures.value ∙ length-arcs_of Bound c.args.octets.now c.requires
