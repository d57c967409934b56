-- The abstract value of each type of this crate, as a value of its shape in `GeneralNames`.
use Rattle.std.specs.Prelude.{pos}
use Rattle.std.proofs.Common.{inl, inr}
use Rattle.der_core.specs.Grammar.{plain_option, plain_list}
use Rattle.der_core.specs.Shapes.{Value, BodyValue}
use Rattle.x509_cert_names.specs.DirectoryStrings.{directory_plain}
use Rattle.x509_cert_names.specs.Views.{name_plain}
use Rattle.x509_cert_names.specs.Pairs.{relative_plain}
use Rattle.x509_cert_general_names.specs.GeneralNames.{other_name_fields}
use Rattle.x509_cert_general_names.specs.GeneralNames.{hardware_module_name_fields}
use Rattle.x509_cert_general_names.specs.GeneralNames.{edi_party_name_fields}
use Rattle.x509_cert_general_names.specs.GeneralNames.{access_description_fields}
use Rattle.x509_cert_general_names.specs.GeneralNames.{general_name}
use Rattle.x509_cert_general_names.specs.GeneralNames.{issuing_distribution_point_fields}
use Rattle.x509_cert_general_names.specs.GeneralNames.{authority_key_identifier_fields}
use Rattle.x509_cert_general_names.specs.GeneralNames.{general_subtree_fields}
use Rattle.x509_cert_general_names.specs.GeneralNames.{distribution_point_fields}
use Rattle.x509_cert_general_names.specs.GeneralNames.{name_constraints_fields}
use Rattle.x509_cert_general_names.specs.GeneralNames.{distribution_point_name}
use Rattle.x509_cert_general_names.specs.declared.access_description.AccessDescription.{AccessDescription}
use Rattle.x509_cert_general_names.specs.declared.authority_key_identifier.AuthorityKeyIdentifier.{AuthorityKeyIdentifier}
use Rattle.x509_cert_general_names.specs.declared.distribution_point.DistributionPoint.{DistributionPoint}
use Rattle.x509_cert_general_names.specs.declared.edi_party_name.EdiPartyName.{EdiPartyName}
use Rattle.x509_cert_general_names.specs.declared.hardware_module_name.HardwareModuleName.{HardwareModuleName}
use Rattle.x509_cert_general_names.specs.declared.general_subtree.GeneralSubtree.{GeneralSubtree}
use Rattle.x509_cert_general_names.specs.declared.issuing_distribution_point.IssuingDistributionPoint.{IssuingDistributionPoint}
use Rattle.x509_cert_general_names.specs.declared.name_constraints.NameConstraints.{NameConstraints}
use Rattle.x509_cert_general_names.specs.declared.other_name.OtherName.{OtherName}
use Rattle.x509_cert_general_names.specs.declared.general_name.GeneralName.{GeneralName}
use Rattle.x509_cert_general_names.specs.declared.distribution_point_name.DistributionPointName.{DistributionPointName}
use Rattle.x509_cert_general_names.specs.declared.general_name.GeneralName.TheVariants as names
use Rattle.x509_cert_general_names.specs.declared.distribution_point_name.DistributionPointName.TheVariants as points

abbrev pub other_name_plain : OtherName → BodyValue (other_name_fields 0)
other_name_plain x = (x.type_id, (x.value, tt))

abbrev pub edi_party_name_plain : EdiPartyName → BodyValue edi_party_name_fields
edi_party_name_plain x =
    (plain_option directory_plain x.name_assigner, (directory_plain x.party_name, tt))

abbrev pub general_name_plain : GeneralName → Value (general_name 0)
general_name_plain (names.OtherName n) = inl (other_name_plain n)
general_name_plain (names.Rfc822Name n) = inr (inl n)
general_name_plain (names.DnsName n) = inr (inr (inl n))
general_name_plain (names.DirectoryName n) = inr (inr (inr (inl (name_plain n))))
general_name_plain (names.EdiPartyName n) = inr (inr (inr (inr (inl (edi_party_name_plain n)))))
general_name_plain (names.UniformResourceIdentifier n) = inr (inr (inr (inr (inr (inl n)))))
general_name_plain (names.IpAddress n) = inr (inr (inr (inr (inr (inr (inl n))))))
general_name_plain (names.RegisteredId n) = inr (inr (inr (inr (inr (inr (inr n))))))

abbrev pub distribution_point_name_plain : DistributionPointName → Value (distribution_point_name 0)
distribution_point_name_plain (points.FullName v) = inl (plain_list general_name_plain v.items)
distribution_point_name_plain (points.NameRelativeToCRLIssuer r) = inr (relative_plain r)

abbrev pub authority_key_identifier_plain : AuthorityKeyIdentifier
    → BodyValue (authority_key_identifier_fields 0)
authority_key_identifier_plain x = (
  x.key_identifier,
  (
    plain_option (λ v. plain_list general_name_plain v.items) x.authority_cert_issuer,
    (x.authority_cert_serial_number, tt),
  ),
)

abbrev pub distribution_point_plain : DistributionPoint → BodyValue (distribution_point_fields 0)
distribution_point_plain x = (
  plain_option distribution_point_name_plain x.distribution_point,
  (
    plain_option (λ r. r.flags.0) x.reasons,
    (plain_option (λ v. plain_list general_name_plain v.items) x.crl_issuer, tt),
  ),
)

abbrev pub access_description_plain : AccessDescription → BodyValue (access_description_fields 0)
access_description_plain x = (x.access_method, (general_name_plain x.access_location, tt))

abbrev pub general_subtree_plain : GeneralSubtree → BodyValue (general_subtree_fields 0)
general_subtree_plain x =
    (general_name_plain x.base, (pos x.minimum, (plain_option (λ n. pos n) x.maximum, tt)))

abbrev pub name_constraints_plain : NameConstraints → BodyValue (name_constraints_fields 0)
name_constraints_plain x = (
  plain_option (λ v. plain_list general_subtree_plain v.items) x.permitted_subtrees,
  (plain_option (λ v. plain_list general_subtree_plain v.items) x.excluded_subtrees, tt),
)

abbrev pub issuing_distribution_point_plain : IssuingDistributionPoint
    → BodyValue (issuing_distribution_point_fields 0)
issuing_distribution_point_plain x = (
  plain_option distribution_point_name_plain x.distribution_point,
  (
    x.only_contains_user_certs,
    (
      x.only_contains_ca_certs,
      (
        plain_option (λ r. r.flags.0) x.only_some_reasons,
        (x.indirect_crl, (x.only_contains_attribute_certs, tt)),
      ),
    ),
  ),
)

abbrev pub hardware_module_name_plain : HardwareModuleName
    → BodyValue (hardware_module_name_fields 0)
hardware_module_name_plain x = (x.hw_type, (x.hw_serial_num, tt))
