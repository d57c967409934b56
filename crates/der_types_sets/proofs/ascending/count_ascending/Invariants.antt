-- The loop invariants of `ascending::count_ascending`.
use Rattle.der_core.specs.Reading.{unread}
use Rattle.der_core.specs.EncodingRulesTypes.EncodingRules.TheVariants.{Der}
use Rattle.der_core.specs.OctetsFronts.{octets_at}
use Rattle.der_types_sets.proofs.AscendingSteps.{Counted}
use Rattle.der_types_sets.proofs.ascending.count_ascending.Given as goal

abbrev pub invariant-loop-count : goal.invariant-loop-count
invariant-loop-count g l = Counted g.T.Shaped.shape (record (unread Der l.octets) { room = l.levels }) (octets_at l.last) l.reader l.count
