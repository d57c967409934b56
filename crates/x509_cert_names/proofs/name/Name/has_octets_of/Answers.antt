-- Goals of `name::Name::has_octets_of` that the checker doesn't prove by itself.
use Rattle.std.proofs.Common.{sym, ap, ◌∙◌}
use Rattle.der_core.specs.Grammar.{plain_list}
use Rattle.x509_cert_names.specs.Pairs.{relative_plain}
use Rattle.x509_cert_names.proofs.SameOctets.{names_apart, names}
use Rattle.x509_cert_names.proofs.name.Name.has_octets_of.Goals as goal

pub returns-then-eq-clause-same : goal.returns-then-eq-clause-same
returns-then-eq-clause-same c = λ t. (names _ _).encoding (sym c.eq.ensures ∙ c.if-eq.true)

pub returns-clause-differ : goal.returns-clause-differ
returns-clause-differ c = λ valid same.
    sym c.if-eq.false ∙ c.eq.ensures
    ∙ names_apart c.args.self.now.rdn_sequence.relative_names.items c.args.other.now.rdn_sequence.relative_names.items c.as_slice.result.now (ap (plain_list relative_plain) c.as_slice.ensures.value ∙ c.iter_rdn.ensures) valid c.in_range.ensures c.in_order.ensures same
