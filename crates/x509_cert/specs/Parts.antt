-- Definitions for names and for the parts of certificates, under one name.
pub use Rattle.x509_cert_lists.specs.Types.Anys.{any_lent}
pub use Rattle.x509_cert_lists.specs.Types.Contents.{content_as, written_as}
pub use Rattle.x509_cert_lists.specs.CertNames.DirectoryStrings.{directory_plain}
pub use Rattle.x509_cert_lists.specs.CertNames.Names.{PlainName, PlainAttribute, name, name_octets}
pub use Rattle.x509_cert_lists.specs.CertNames.Names.{type_and_value, attribute, directory_string}
pub use Rattle.x509_cert_lists.specs.CertNames.Pairs.{relative_plain}
pub use Rattle.x509_cert_lists.specs.CertNames.Views.{name_plain, attribute_plain}
pub use Rattle.x509_cert_lists.specs.CertParts.ExtensionSearch.{of_identifier, only_one, value_in}
pub use Rattle.x509_cert_lists.specs.CertParts.ExtensionSearch.{value_if, only_value}
pub use Rattle.x509_cert_lists.specs.CertParts.ExtensionSearch.{extensions_in_field}
pub use Rattle.x509_cert_lists.specs.CertParts.Grammar.{object_identifier, false_by_default}
pub use Rattle.x509_cert_lists.specs.CertParts.Grammar.{extension_octets}
pub use Rattle.x509_cert_lists.specs.CertParts.Grammar.{octet_string, PublicKey, key_algorithm}
pub use Rattle.x509_cert_lists.specs.CertParts.Grammar.{serial_number}
pub use Rattle.x509_cert_lists.specs.CertParts.Grammar.{Algorithm, algorithm_identifier}
pub use Rattle.x509_cert_lists.specs.CertParts.Grammar.{algorithm_parameters}
pub use Rattle.x509_cert_lists.specs.CertParts.Grammar.{PlainExtension, public_key_info}
pub use Rattle.x509_cert_lists.specs.CertParts.Grammar.{plain_algorithm}
pub use Rattle.x509_cert_lists.specs.CertParts.Grammar.{PlainTime, bit_string, is_critical}
pub use Rattle.x509_cert_lists.specs.CertParts.Grammar.{extensions}
pub use Rattle.x509_cert_lists.specs.CertParts.Grammar.{civil_of, validity, key_bits, version}
pub use Rattle.x509_cert_lists.specs.CertParts.Grammar.{extension}
pub use Rattle.x509_cert_lists.specs.CertParts.Grammar.{algorithm_arcs, PlainValidity}
pub use Rattle.x509_cert_lists.specs.CertParts.Grammar.{extension_arcs, time}
pub use Rattle.x509_cert_lists.specs.CertParts.Respelling.{respelled}
pub use Rattle.x509_cert_lists.specs.CertParts.SerialNumbers.{new_serial}
pub use Rattle.x509_cert_lists.specs.CertParts.Times.{time_of}
pub use Rattle.x509_cert_lists.specs.CertParts.Views.{version_number, algorithm_plain, key_plain}
pub use Rattle.x509_cert_lists.specs.CertParts.Views.{time_value, time_date, validity_plain}
pub use Rattle.x509_cert_lists.specs.CertParts.Views.{extension_plain, extensions_plain, key_lent}
