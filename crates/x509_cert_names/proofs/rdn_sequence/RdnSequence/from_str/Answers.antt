-- Goals of `rdn_sequence::RdnSequence::from_str` that the checker doesn't prove by itself.
use Rattle.std.proofs.Common.{length, Ok, sym, ap, subst, ◌∙◌}
use Rattle.std.proofs.lemmas.Bool.{eqb-true, eqb-false}
use Rattle.std.proofs.lemmas.List.{nil_from_length}
use Rattle.std.proofs.lemmas.Result.{err_from_is_err_and}
use Rattle.der_core.specs.Oid.Bound.{Bound}
use Rattle.x509_cert_names.specs.NameTexts.{ReadsName}
use Rattle.x509_cert_names.proofs.rdn_sequence.RdnSequence.from_str.Goals as goal

pub returns-then-is_empty : goal.returns-then-is_empty
returns-then-is_empty c = rw c.default.ensures (ReadsName.empty (nil_from_length c.args.text.now (eqb-true (length c.args.text.now) 0 (sym c.is_empty.ensures ∙ c.if-is_empty.true))))

pub returns-in_err-relative_names : goal.returns-in_err-relative_names
returns-in_err-relative_names c =
    let p = err_from_is_err_and c.from_residual.result c.from_residual.ensures.1 in
    rw (p.1, p.2) (λ n. ReadsName.refused _ (λ e. eqb-false (length c.args.text.now) 0 (sym c.is_empty.ensures ∙ c.if-is_empty.false) (ap length e)) (c.in_err-relative_names.ensures n))

pub returns : goal.returns
returns c =
    subst (λ n. ReadsName Bound c.args.text.now (Ok n)) (sym c.reverse.ensures.items) (ReadsName.pieces c.in_ok-relative_names.relative_names.items (λ e. eqb-false (length c.args.text.now) 0 (sym c.is_empty.ensures ∙ c.if-is_empty.false) (ap length e)) c.in_ok-relative_names.ensures)
