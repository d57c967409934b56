-- Goals of `list_writing::list_written` that the checker doesn't prove by itself.
use Rattle.std.proofs.lemmas.Result.{err_from_is_err_and}
use Rattle.x509_cert_builders.proofs.Faults.{or_unwritten}
use Rattle.x509_cert_lists.specs.ListViews.{tbs_cert_list_plain}
use Rattle.x509_cert.specs.Lists.{list_part, PlainEntry, PlainList}
use Rattle.std.proofs.Common.{◌≡◌, ℕ, List, Option, Some, None, Ok}
use Rattle.x509_cert_anchors.specs.Der.Ranges.{IsInRange}
use Rattle.x509_cert_anchors.specs.Der.Shapes.{IsValid}
use Rattle.x509_cert_anchors.specs.Der.Writing.{Out, write}
use Rattle.x509_cert_anchors.proofs.Der.Written.{written_valid}
use Rattle.x509_cert.proofs.list_writing.list_written.Goals as goal

-- A signed part with these entries.
abbrev with_entries : PlainList → Option (List PlainEntry) → PlainList
with_entries t es = (t.0, (t.1.0, (t.1.1.0, (t.1.1.1.0, (t.1.1.1.1.0, (es, t.1.1.1.1.1.1))))))

-- The encoding doesn't depend on the limit for serial numbers.
raw_written : (limit : Option ℕ) (t : PlainList) (es : Option (List PlainEntry)) (o z : Out) → write (list_part limit) (with_entries t es) o ≡ Ok z → write (list_part None) (with_entries t es) o ≡ Ok z
raw_written limit t None o z e = e
raw_written limit t (Some es) o z e = e

raw_valid : (limit : Option ℕ) (t : PlainList) (o z : Out) → write (list_part limit) t o ≡ Ok z → IsInRange (list_part None) t → IsValid (list_part None) t
raw_valid limit t o z e h = written_valid (list_part None) t o z (raw_written limit t t.1.1.1.1.1.0 o z e) h

pub returns-in_err-octets-clause-refused : goal.returns-in_err-octets-clause-refused
returns-in_err-octets-clause-refused g c =
    let p = err_from_is_err_and c.from_residual.result c.from_residual.ensures.1 in
    rw (p.1, p.2)
    (or_unwritten (list_part g.P.Profile.serial_limit) (tbs_cert_list_plain c.args.part.now) _ c.in_err-octets.field-0.0.kind c.in_err-octets.ensures.spelled c.in_err-octets.ensures.exact)

pub returns-clause-valid : goal.returns-clause-valid
returns-clause-valid g c = raw_valid g.P.Profile.serial_limit (tbs_cert_list_plain c.args.part.now) _ _ c.in_ok-octets.ensures.exact c.list_in_range.ensures
