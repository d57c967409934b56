-- Goals of `certificate_type::name_left` that the checker doesn't prove by itself.
use Rattle.std.proofs.Common.{sym, ap, ◌∙◌, subst, rules}
use Rattle.std.proofs.lemmas.Result.{err_from_is_err_and}
use Rattle.std.specs.Slice.Iter.{iter_rest}
use Rattle.x509_cert_certificates.specs.Der.Grammar.{plain_list}
use Rattle.x509_cert_certificates.specs.CertNames.Names.{PlainName}
use Rattle.x509_cert_certificates.specs.CertNames.Views.{name_plain}
use Rattle.x509_cert_certificates.specs.CertNames.Pairs.{relative_plain}
use Rattle.x509_cert_builders.proofs.Subjects.{plain_pushed, IsLeft, left_in, left_out, long_there, next_stays, no_values, some_values}
use Rattle.x509_cert_builders.proofs.certificate_type.name_left.Goals as goal

pub loop-relative-preserved-in-Continue-branch-2 : goal.loop-relative-preserved-in-Continue-branch-2
loop-relative-preserved-in-Continue-branch-2 c =
    let n = name_plain c.args.name.now in
    let more = plain_list relative_plain (iter_rest c.next.new.self) in
    let grown = ap (plain_list relative_plain) c.in_ok-push.ensures.ok ∙ plain_pushed relative_plain c.loop-relative.kept.relative_names.items c.in_ok-left.left in
    subst (λ (k : PlainName). IsLeft n k more) (sym grown)
    (left_in n _ _ more (relative_plain c.in-Some.relative.now) (ap (plain_list relative_plain) c.in-Some.ensures.steps) c.loop-relative.invariant (relative_plain c.in_ok-left.left) c.in_ok-left.ensures.left
    c.in_ok-left.ensures.same (some_values _ _ (sym c.is_empty.ensures ∙ c.if-not-is_empty.true)))

pub loop-relative-preserved : goal.loop-relative-preserved
loop-relative-preserved c =
    left_out (name_plain c.args.name.now) _ _ (plain_list relative_plain (iter_rest c.next.new.self)) (relative_plain c.in-Some.relative.now) (ap (plain_list relative_plain) c.in-Some.ensures.steps) c.loop-relative.invariant
    (relative_plain c.in_ok-left.left) c.in_ok-left.ensures.left c.in_ok-left.ensures.same (no_values _ _ (sym c.is_empty.ensures ∙ c.if-not-is_empty.false))

pub returns-in_err-left-clause-long : goal.returns-in_err-left-clause-long
returns-in_err-left-clause-long c =
    let p = err_from_is_err_and c.from_residual.result c.from_residual.ensures.1 in
    rw (p.1, p.2)
    (long_there (name_plain c.args.name.now) _ _ (plain_list relative_plain (iter_rest c.next.new.self)) (relative_plain c.in-Some.relative.now) (ap (plain_list relative_plain) c.in-Some.ensures.steps) c.loop-relative.invariant _ c.in_err-left.ensures.long)

pub returns-in_err-left-clause-refused : goal.returns-in_err-left-clause-refused
returns-in_err-left-clause-refused c = λ all.
    let why =
    c.in_err-left.ensures.refused
    (next_stays (name_plain c.args.name.now) _ _ (plain_list relative_plain (iter_rest c.next.new.self)) (relative_plain c.in-Some.relative.now) (ap (plain_list relative_plain) c.in-Some.ensures.steps) c.loop-relative.invariant all) in
    search (rules, why)
