-- Goals of `laws::equality_of_extensions_is_of_values` that the checker doesn't prove by itself.
use Rattle.x509_cert_anchors.proofs.Der.ValueEquality.{alone, behind, default, exact, flags, last, leaves, list, named_bits, next, numbers, option, option_itself}
use Rattle.x509_cert_lists.proofs.CertNames.SameOctets.{attributes, directories}
use Rattle.x509_cert_lists.proofs.Types.AnyLaws.{values}
use Rattle.x509_cert_lists.proofs.CertParts.ValueEquality.{date_alike, one_date}
use Rattle.x509_cert.proofs.ValueEquality.{crl_reasons, digits_alike, display_texts, general_names, of, point_names, whole}
use Rattle.x509_cert.proofs.laws.equality_of_extensions_is_of_values.Goals as goal

pub returns-clause-general_names : goal.returns-clause-general_names
returns-clause-general_names c = (
  whole general_names,
  whole (λ x y. behind (next leaves (last (behind (alone (values x.value y.value)))))),
  whole (λ x y. behind (next (option (λ v w. behind (alone (directories v w))) _ _) (last (behind (alone (directories x.party_name y.party_name)))))),
  whole (λ x y. behind (next leaves (last leaves))),
  whole (λ x y. behind (next leaves (last (general_names x.access_location y.access_location)))),
  whole (λ x y. behind (next (option_itself (λ v w. leaves) _ _) (next (option (λ v w. behind (list general_names _ _)) _ _) (last (option_itself (λ v w. leaves) _ _))))),
  whole (λ x y. behind (next (general_names x.base y.base) (next (default numbers) (last (option (λ n m. numbers) _ _))))),
  whole (λ x y. behind (next (option (λ v w. behind (alone (point_names v w))) _ _) (next (option (λ v w. named_bits) _ _) (last (option (λ v w. behind (list general_names _ _)) _ _))))),
  whole point_names,
  whole (λ x y.
      behind (next (option (λ v w. behind (alone (point_names v w))) _ _) (next (default (flags _ _)) (next (default (flags _ _))
      (next (option (λ v w. named_bits) _ _) (next (default (flags _ _)) (last (default (flags _ _))))))))),
)

pub returns-clause-constraints : goal.returns-clause-constraints
returns-clause-constraints c =
    let subtrees = of (returns-clause-general_names c).6 in (
      whole (λ x y. behind (next (option (λ v w. behind (list subtrees _ _)) _ _) (last (option (λ v w. behind (list subtrees _ _)) _ _)))),
      whole (λ x y. behind (next (default (flags x.ca y.ca)) (last (option (λ n m. numbers) _ _)))),
      whole (λ x y. behind (next (option (λ n m. numbers) _ _) (last (option (λ n m. numbers) _ _)))),
      whole (λ x y. numbers),
      whole (λ x y. behind (next (option_itself (λ v w. exact (one_date v w) (date_alike v w)) _ _) (last (option_itself (λ v w. exact (one_date v w) (date_alike v w)) _ _)))),
    )

pub returns-clause-notices : goal.returns-clause-notices
returns-clause-notices c = (whole display_texts, whole (λ x y. behind (next (display_texts x.organization y.organization) (last (option (λ v w. behind (list (λ n m. digits_alike) _ _)) _ _)))), whole (λ x y. behind (next leaves (last (option values _ _)))), whole (λ x y. behind (next leaves (last leaves))))

pub returns-clause-policies : goal.returns-clause-policies
returns-clause-policies c =
    let notices = of (returns-clause-notices c).1 in
    let qualifiers = of (returns-clause-notices c).2 in
    (whole (λ x y. behind (next (option notices _ _) (last (option display_texts _ _)))), whole (λ x y. behind (next leaves (last (option (λ v w. behind (list qualifiers _ _)) _ _)))))

pub returns-clause-lists : goal.returns-clause-lists
returns-clause-lists c =
    let accesses = of (returns-clause-general_names c).4 in
    let points = of (returns-clause-general_names c).7 in
    (whole (λ x y. behind (list general_names _ _)), whole (λ x y. behind (list general_names _ _)), whole (λ x y. behind (list accesses _ _)), whole (λ x y. behind (list accesses _ _)), whole (λ x y. behind (list points _ _)), whole (λ x y. behind (list points _ _)), whole (λ x y. behind (list (of (returns-clause-policies c).1) _ _)), whole (λ x y. behind (list (of (returns-clause-notices c).3) _ _)), whole (λ x y. behind (list (λ v w. leaves) _ _)), whole (λ x y. behind (list attributes _ _)))

pub returns-clause-leaves : goal.returns-clause-leaves
returns-clause-leaves c = (whole (λ x y. leaves), whole (λ x y. named_bits), whole crl_reasons, whole (λ x y. digits_alike), whole (λ x y. digits_alike))
