-- If a CRL is decoded, the bytes are the encoding of its abstract value.
use Rattle.std.proofs.Common.{Result, Ok, Err, IfOk, OnOk}
use Rattle.x509_cert_lists.specs.Oid.Bound.{Bound}
use Rattle.x509_cert_lists.specs.Der.Shapes.{Spells}
use Rattle.x509_cert_lists.specs.ListGrammar.{certificate_list}
use Rattle.x509_cert_lists.specs.ListViews.{certificate_list_plain}
use Rattle.std.specs.Prelude.{None}
use Rattle.cert_tool_describe.proofs.lists.CertificateListRawDescribeFile.read_file.Goals as goal

-- What holds for the abstract value of a result holds for some value.
of_some : {T E V : Type 0} (P : V → Type 0) (view : T → V) (r : Result T E) → IfOk r (λ v. P (view v)) → OnOk r ((x : V) × P x)
of_some P view (Ok v) h = (view v, h)
of_some P view (Err e) h = h

pub returns-clause-spelled : goal.returns-clause-spelled
returns-clause-spelled c =
    of_some (λ l. Spells (certificate_list Bound None) l c.args.octets.now) certificate_list_plain c.from_der.result c.from_der.ensures.spelled
