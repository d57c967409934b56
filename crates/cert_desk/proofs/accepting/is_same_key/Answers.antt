-- Goals of `accepting::is_same_key` that the checker doesn't prove by itself.
use Rattle.std.proofs.Common.{sym, ◌∙◌}
use Rattle.cert_desk_orders.proofs.CertParts.ValueEquality.{key_again, one_key}
use Rattle.cert_desk.proofs.accepting.is_same_key.Goals as goal

pub returns : goal.returns
returns c =
    let one = c.args.one.now in
    let other = c.args.other.now in (
      λ e. one_key one.algorithm.oid other.algorithm.oid one.algorithm.parameters other.algorithm.parameters one.subject_public_key other.subject_public_key
          c.in_range.ensures.0.0.0.0.0.0 c.in_range-2.ensures.0.0.0.0.0.0 (sym c.eq.ensures ∙ e),
      λ e. c.eq.ensures ∙ key_again one.algorithm.oid other.algorithm.oid one.algorithm.parameters other.algorithm.parameters one.subject_public_key other.subject_public_key e,
    )
