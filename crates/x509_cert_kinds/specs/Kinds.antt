-- The OIDs of the kinds of extensions.
use Rattle.std.specs.Prelude.{ℕ, List}
use Rattle.x509_cert_kinds.specs.declared.extension_kind.ExtensionKind.{ExtensionKind}
use Rattle.x509_cert_kinds.specs.declared.extension_kind.ExtensionKind.TheVariants as kinds
use Rattle.x509_cert_parts.specs.ExtensionTypes as types
use Rattle.x509_cert_parts.specs.ExtensionTypes.{id_ce, id_pe, identifier_of}

-- The arcs of the OID of a kind of extension.
abbrev pub arcs_of : ExtensionKind → List ℕ
arcs_of kinds.SubjectDirectoryAttributes = identifier_of types.subject_directory_attributes
arcs_of kinds.SubjectKeyIdentifier = identifier_of types.subject_key_identifier
arcs_of kinds.KeyUsage = identifier_of types.key_usage
arcs_of kinds.PrivateKeyUsagePeriod = identifier_of types.private_key_usage_period
arcs_of kinds.SubjectAltName = identifier_of types.subject_alt_name
arcs_of kinds.IssuerAltName = identifier_of types.issuer_alt_name
arcs_of kinds.BasicConstraints = identifier_of types.basic_constraints
arcs_of kinds.CrlNumber = identifier_of types.crl_number
arcs_of kinds.CrlReason = identifier_of types.crl_reason
arcs_of kinds.InvalidityDate = id_ce 24  -- RFC 5280 5.3.2
arcs_of kinds.DeltaCrlIndicator = identifier_of types.base_crl_number
arcs_of kinds.IssuingDistributionPoint = identifier_of types.issuing_distribution_point
arcs_of kinds.CertificateIssuer = id_ce 29  -- RFC 5280 5.3.3
arcs_of kinds.NameConstraints = identifier_of types.name_constraints
arcs_of kinds.CrlDistributionPoints = identifier_of types.crl_distribution_points
arcs_of kinds.CertificatePolicies = identifier_of types.certificate_policies
arcs_of kinds.PolicyMappings = identifier_of types.policy_mappings
arcs_of kinds.AuthorityKeyIdentifier = identifier_of types.authority_key_identifier
arcs_of kinds.PolicyConstraints = identifier_of types.policy_constraints
arcs_of kinds.ExtKeyUsage = identifier_of types.extended_key_usage
arcs_of kinds.FreshestCrl = identifier_of types.freshest_crl
arcs_of kinds.InhibitAnyPolicy = identifier_of types.inhibit_any_policy
arcs_of kinds.AuthorityInfoAccess = identifier_of types.authority_info_access
arcs_of kinds.SubjectInfoAccess = identifier_of types.subject_info_access
arcs_of kinds.TlsFeature = id_pe 24  -- RFC 7633 4.1
arcs_of kinds.SignedCertificateTimestamps = identifier_of types.signed_certificate_timestamps
