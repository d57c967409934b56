-- The abstract value of each type of this crate, as a value of its shape in `Policies`.
use Rattle.std.specs.Prelude.{pos, string_bytes}
use Rattle.std.proofs.Common.{inl, inr}
use Rattle.der_core.specs.Grammar.{plain_option, plain_list}
use Rattle.der_core.specs.Shapes.{Value, BodyValue}
use Rattle.x509_cert_policies.specs.Policies.{basic_constraints_fields, policy_constraints_fields}
use Rattle.x509_cert_policies.specs.Policies.{policy_mapping_fields, policy_qualifier_info_fields}
use Rattle.x509_cert_policies.specs.Policies.{policy_information_fields, display_text}
use Rattle.x509_cert_policies.specs.Policies.{notice_reference_fields, user_notice_fields}
use Rattle.x509_cert_policies.specs.Policies.{private_key_usage_period_fields}
use Rattle.x509_cert_policies.specs.declared.basic_constraints.BasicConstraints.{BasicConstraints}
use Rattle.x509_cert_policies.specs.declared.notice_reference.NoticeReference.{NoticeReference}
use Rattle.x509_cert_policies.specs.declared.policy_constraints.PolicyConstraints.{PolicyConstraints}
use Rattle.x509_cert_policies.specs.declared.policy_information.PolicyInformation.{PolicyInformation}
use Rattle.x509_cert_policies.specs.declared.policy_mapping.PolicyMapping.{PolicyMapping}
use Rattle.x509_cert_policies.specs.declared.policy_qualifier_info.PolicyQualifierInfo.{PolicyQualifierInfo}
use Rattle.x509_cert_policies.specs.declared.private_key_usage_period.PrivateKeyUsagePeriod.{PrivateKeyUsagePeriod}
use Rattle.x509_cert_policies.specs.declared.user_notice.UserNotice.{UserNotice}
use Rattle.x509_cert_policies.specs.declared.display_text.DisplayText.{DisplayText}
use Rattle.x509_cert_policies.specs.declared.display_text.DisplayText.TheVariants as texts

abbrev pub display_plain : DisplayText → Value display_text
display_plain (texts.Ia5String t) = inl t
display_plain (texts.Utf8String t) = inr (string_bytes t)

abbrev pub basic_constraints_plain : BasicConstraints → BodyValue basic_constraints_fields
basic_constraints_plain x = (x.ca, (plain_option (λ n. pos n) x.path_len_constraint, tt))

abbrev pub policy_constraints_plain : PolicyConstraints → BodyValue policy_constraints_fields
policy_constraints_plain x = (
  plain_option (λ n. pos n) x.require_explicit_policy,
  (plain_option (λ n. pos n) x.inhibit_policy_mapping, tt),
)

abbrev pub policy_mapping_plain : PolicyMapping → BodyValue (policy_mapping_fields 0)
policy_mapping_plain x = (x.issuer_domain_policy, (x.subject_domain_policy, tt))

abbrev pub policy_qualifier_info_plain : PolicyQualifierInfo
    → BodyValue (policy_qualifier_info_fields 0)
policy_qualifier_info_plain x = (x.policy_qualifier_id, (plain_option (λ v. v) x.qualifier, tt))

abbrev pub policy_information_plain : PolicyInformation → BodyValue (policy_information_fields 0)
policy_information_plain x = (
  x.policy_identifier,
  (plain_option (λ v. plain_list policy_qualifier_info_plain v.items) x.policy_qualifiers, tt),
)

abbrev pub notice_reference_plain : NoticeReference → BodyValue notice_reference_fields
notice_reference_plain x = (
  display_plain x.organization,
  (plain_option (λ v. plain_list (λ n. pos n) v.items) x.notice_numbers, tt),
)

abbrev pub user_notice_plain : UserNotice → BodyValue user_notice_fields
user_notice_plain x = (
  plain_option notice_reference_plain x.notice_ref,
  (plain_option display_plain x.explicit_text, tt),
)

abbrev pub private_key_usage_period_plain : PrivateKeyUsagePeriod
    → BodyValue private_key_usage_period_fields
private_key_usage_period_plain x = (x.not_before, (x.not_after, tt))
