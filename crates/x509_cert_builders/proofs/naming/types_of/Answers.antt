-- Goals of `naming::types_of` that the checker doesn't prove by itself.
use Rattle.std.proofs.Common.{◌≡◌, [], ◌∷◌, Err, sym, ap, ◌∙◌, subst}
use Rattle.std.proofs.lemmas.List.{nil_from_length}
use Rattle.std.proofs.lemmas.Result.{err_from_is_err_and}
use Rattle.std.specs.Slice.Iter.{iter_rest}
use Rattle.x509_cert_certificates.specs.Der.Grammar.{plain_list}
use Rattle.x509_cert_certificates.specs.CertNames.Views.{name_plain}
use Rattle.x509_cert_certificates.specs.CertNames.Pairs.{relative_plain}
use Rattle.x509_cert_builders.specs.Naming.{type_behind}
use Rattle.x509_cert_builders.proofs.Subjects.{IsChecked, checked_all, checked_fault}
use Rattle.x509_cert_builders.proofs.naming.types_of.Goals as goal

pub returns-in_err-oid-clause-rules : goal.returns-in_err-oid-clause-rules
returns-in_err-oid-clause-rules c =
    let n = name_plain c.args.name.now in
    let found = c.loop-relative.found in
    let relative = relative_plain c.in-Some.relative.now in
    let left = plain_list relative_plain (iter_rest c.next.new.self) in
    let next : plain_list relative_plain (iter_rest c.loop-relative.relative-iterator) ≡ relative ∷ left = ap (plain_list relative_plain) c.in-Some.ensures.steps in
    let checked : IsChecked c.args.multiple_allowed n found (relative ∷ left) = subst (IsChecked c.args.multiple_allowed n found) next c.loop-relative.invariant in
    let why : type_behind c.args.multiple_allowed found relative ≡ Err c.in_err-oid.field-0.0 = sym c.type_behind.ensures ∙ c.in_err-oid.was in
    let p = err_from_is_err_and c.from_residual.result c.from_residual.ensures.1 in
    rw (p.1, p.2) (checked_fault c.args.multiple_allowed n found relative left c.in_err-oid.field-0.0 checked why)

pub returns : goal.returns
returns c =
    let n = name_plain c.args.name.now in
    let found = c.loop-relative.found in
    let none : plain_list relative_plain (iter_rest c.loop-relative.relative-iterator) ≡ [] = ap (plain_list relative_plain) (nil_from_length (iter_rest c.loop-relative.relative-iterator) c.in-None.ensures.steps.0) in
    let all = checked_all c.args.multiple_allowed n found (subst (IsChecked c.args.multiple_allowed n found) none c.loop-relative.invariant) in
    record { rules = all.0; types = c.into_types.ensures ∙ all.1 }
