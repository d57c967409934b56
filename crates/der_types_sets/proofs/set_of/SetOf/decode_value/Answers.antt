-- Goals of `set_of::SetOf::decode_value` that the checker doesn't prove by itself.
use Rattle.std.proofs.Common.{List, [], Ok, subst, ap, arith, inl}
use Rattle.std.proofs.lemmas.Result.{err_from_is_err_and}
use Rattle.der_core.specs.Heads.{Fits}
use Rattle.der_core.specs.Reading.{State, IsDer}
use Rattle.der_core.specs.Shapes.{Value}
use Rattle.der_core.proofs.Results.{IsBytes}
use Rattle.der_core.proofs.GoingOn.{broken_kept, kept_then}
use Rattle.der_types_sets.proofs.AscendingSteps.{few_joins, few_again, by_ber, not_too_long, loose, only_loose}
use Rattle.der_types_sets.proofs.set_of.SetOf.decode_value.Goals as goal

pub returns-in_err-read-clause-only : goal.returns-in_err-read-clause-only
returns-in_err-read-clause-only g c =
    let p = err_from_is_err_and c.from_residual.result c.from_residual.ensures.1 in
    rw (p.1, p.2) (λ v element enough der ready le loose most memory.
    absurd (cc (few_again g.row.N g.T.Shaped.shape c.args.header.tag (g.R.Reader.state c.args.reader.now) c.args.header.length.value v element g.met.T.Member.apart enough der le most loose, c.in_err-read.ensures.0 ready memory)))

pub returns-in-Err : goal.returns-in-Err
returns-in-Err g c =
    let s = g.T.Shaped.shape in
    let old = g.R.Reader.state c.args.reader.now in
    let read = c.in_ok-read.read in
    let bytes : IsBytes old.rest = subst IsBytes c.remaining-before.ensures.rest (λ i. omega (arith, c.remaining-before.items_fit i)) in
    let fits : Fits old.rest = subst Fits c.remaining-before.ensures.rest c.remaining-before.ensures.short in
    let joins = λ (der : IsDer old). few_joins g.row.N s c.args.header.tag old c.args.header.length.value _ _ g.met.T.Member.apart bytes fits der c.in_ok-read.ensures.0 in
    record {
      reads = (
        read,
        (
          λ ready. by_ber s g.T.Shaped.written g.T.Shaped.plain g.met.T.AsRead.as_read old read c.in-Err.error _ c.in-Err.ensures.refused (λ der. (joins der).valid),
          kept_then old _ _ c.in_ok-read.ensures.1 c.in_ok-read.ensures.3 (broken_kept _ _ c.fail.ensures),
          λ failed. absurd (cc (failed, c.in_ok-read.ensures.2)),
          ap (λ (s : State). s.failed) c.fail.ensures,
        ),
      );
      spelled = λ element der. tt;
      only = λ v element enough der ready le loose most memory. absurd (not_too_long s g.T.Shaped.written g.T.Shaped.plain g.met.T.AsRead.as_read read c.in-Err.error c.in-Err.ensures.refused (joins der).valid);
    }

pub returns-in-Ok-clause-spelled : goal.returns-in-Ok-clause-spelled
returns-in-Ok-clause-spelled g c = λ element der.
    let s = g.T.Shaped.shape in
    let old = g.R.Reader.state c.args.reader.now in
    let bytes : IsBytes old.rest = subst IsBytes c.remaining-before.ensures.rest (λ i. omega (arith, c.remaining-before.items_fit i)) in
    let fits : Fits old.rest = subst Fits c.remaining-before.ensures.rest c.remaining-before.ensures.short in
    let joins = few_joins g.row.N s c.args.header.tag old c.args.header.length.value _ _ g.met.T.Member.apart bytes fits der c.in_ok-read.ensures.0 in
    loose s g.T.Shaped.written g.T.Shaped.plain g.met.T.AsRead.as_read _ c.in_ok-read.read c.in-Ok.set joins c.in-Ok.ensures.ok c.in-Ok.ensures.ascend

pub returns-in-Ok-clause-only : goal.returns-in-Ok-clause-only
returns-in-Ok-clause-only g c = λ v element enough der ready le loose most.
    let s = g.T.Shaped.shape in
    let again = few_again g.row.N s c.args.header.tag (g.R.Reader.state c.args.reader.now) c.args.header.length.value v element g.met.T.Member.apart enough der le most loose in
    ap (λ (u : List (Value s)). Ok u)
    (only_loose s g.T.Shaped.written g.T.Shaped.plain g.met.T.AsRead.as_read _ v c.in_ok-read.read c.in-Ok.set _ _ _ element g.met.T.Member.apart loose again c.in_ok-read.ensures.0 c.in-Ok.ensures.ok c.in-Ok.ensures.ascend)

pub returns-in_err-read-clause-reads : goal.returns-in_err-read-clause-reads
returns-in_err-read-clause-reads g c =
    let p = err_from_is_err_and c.from_residual.result c.from_residual.ensures.1 in
    let refused = c.in_err-read.ensures in
    rw (p.1, p.2) ([], (λ ready. inl (refused.0 ready), refused.1, refused.2, refused.3))
