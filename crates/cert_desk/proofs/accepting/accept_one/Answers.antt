-- Goals of `accepting::accept_one` that the checker doesn't prove by itself.
use Rattle.std.proofs.Common.{refl, string_bytes, subst}
use Rattle.std.proofs.lemmas.Result.{err_from_is_err_and}
use Rattle.cert_desk_listing.specs.Der.Grammar.{plain_list}
use Rattle.cert_desk_listing.specs.CertNames.Views.{name_plain}
use Rattle.cert_desk.specs.PlainOrders.{HasNamesFor}
use Rattle.cert_desk.proofs.accepting.accept_one.Goals as goal

pub returns-in_err-subject-clause-refused : goal.returns-in_err-subject-clause-refused
returns-in_err-subject-clause-refused c =
    let p = err_from_is_err_and c.from_residual.result c.from_residual.ensures.1 in
    rw (p.1, p.2) (c.in_err-subject.ensures.refused _)

pub returns-in_err-serial_number-clause-refused : goal.returns-in_err-serial_number-clause-refused
returns-in_err-serial_number-clause-refused c =
    let p = err_from_is_err_and c.from_residual-in_err-serial_number.result c.from_residual-in_err-serial_number.ensures.1 in
    rw (p.1, p.2) (c.in_err-serial_number.ensures.refused c.args.role _ (name_plain c.in_ok-subject.subject, c.in_ok-subject.ensures.spelled, c.in_ok-subject.ensures.right))

pub returns-in_default-clause-refused : goal.returns-in_default-clause-refused
returns-in_default-clause-refused c = (
  (name_plain c.in_ok-subject.subject, c.in_ok-subject.ensures.spelled, c.in_ok-subject.ensures.right),
  (c.in_ok-serial_number.serial_number, c.in_ok-serial_number.ensures.number),
  c.validity_of.ensures.faulty c.in_default.is,
)

pub returns-clause-accepted : goal.returns-clause-accepted
returns-clause-accepted c = record {
  name = c.in_ok-subject.ensures.spelled;
  naming = c.in_ok-subject.ensures.right;
  serial = c.in_ok-serial_number.ensures.number;
  dates = c.in-Some.ensures.dates;
  right = record {
    short = c.path_in_range.ensures;
    names = subst (λ texts. HasNamesFor c.args.role (plain_list string_bytes texts)) c.as_slice.ensures.value (c.has_dns_names.ensures.0 c.if-not-has_dns_names.false);
  };
  key = c.is_key_of.ensures.same c.if-not-is_key_of.false;
  key_is = refl;
  path_is = refl;
  dns_is = refl;
  clients_is = refl;
  answers_is = refl;
}
