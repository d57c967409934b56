-- Goals of `types_before::TypesBefore::and` that the checker doesn't prove by itself.
use Rattle.x509_cert_builders.proofs.Subjects.{one_more}
use Rattle.x509_cert_builders.proofs.types_before.TypesBefore.and.Goals as goal

pub invariant_of-result : goal.invariant_of-result
invariant_of-result c =
    let types = c.self.inside.types.items in
    rw c.in_ok-push.ensures.items (
      c.self.invariant.0,
      one_more types c.self.inside.seen c.insert.new.self c.args.oid c.self.invariant.1 c.in_ok-insert.ensures.updates,
      c.least_behind-least.ensures c.self.invariant.0 types c.self.invariant.2,
    )
