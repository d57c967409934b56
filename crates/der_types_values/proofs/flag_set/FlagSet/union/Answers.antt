-- Goals of `flag_set::FlagSet::union` that the checker doesn't prove by itself.
use Rattle.std.proofs.lemmas.Nat.{or_lt}
use Rattle.der_types_values.proofs.flag_set.FlagSet.union.Goals as goal

pub invariant_of-result : goal.invariant_of-result
invariant_of-result g c =
    record {
      named = rw (c.union.ensures g.met.F.NamedBits.stated) (or_lt g.F.NamedBits.names (g.F.Flags.set_of c.args.self.flags) (g.F.Flags.set_of c.args.other.flags) c.args.self.named c.args.other.named);
    }
