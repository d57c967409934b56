-- The abstract value of each type of this crate, as a value of its shape in `Anchors`.
use Rattle.std.specs.Prelude.{ℕ, pos, string_bytes}
use Rattle.std.proofs.Common.{inl, inr}
use Rattle.der_core.specs.Grammar.{plain_option, plain_list}
use Rattle.x509_cert_anchors.specs.Anchors.{PlainControls, PlainInfo, PlainAnchor}
use Rattle.x509_cert_anchors.specs.declared.anchor.Version.{Version}
use Rattle.x509_cert_anchors.specs.declared.cert_path_controls.CertPathControls.{CertPathControls}
use Rattle.x509_cert_anchors.specs.declared.trust_anchor_choice.TrustAnchorChoice.{TrustAnchorChoice}
use Rattle.x509_cert_anchors.specs.declared.trust_anchor_choice.TrustAnchorChoice.TheVariants
    as anchors
use Rattle.x509_cert_anchors.specs.declared.trust_anchor_info.TrustAnchorInfo.{TrustAnchorInfo}
use Rattle.x509_cert_certificates.specs.Views.{certificate_plain, tbs_plain}
use Rattle.x509_cert_general_names.specs.GeneralNameViews.{name_constraints_plain}
use Rattle.x509_cert_general_names.specs.CertNames.Views.{name_plain}
use Rattle.x509_cert_policies.specs.CertParts.Views.{key_plain, extensions_plain}
use Rattle.x509_cert_policies.specs.PolicyViews.{policy_information_plain}

-- The number of a trust anchor's version.
abbrev pub anchor_number : Version → ℕ
anchor_number v = 1

abbrev pub cert_path_controls_plain : {P : Type 0} → CertPathControls P → PlainControls
cert_path_controls_plain x = (
  name_plain x.ta_name,
  (
    plain_option (λ c. certificate_plain c) x.certificate,
    (
      plain_option (λ ps. plain_list policy_information_plain ps.0.items) x.policy_set,
      (
        plain_option (λ f. f.flags.0) x.policy_flags,
        (
          plain_option name_constraints_plain x.name_constr,
          (plain_option (λ n. pos n) x.path_len_constraint, tt),
        ),
      ),
    ),
  ),
)

abbrev pub trust_anchor_info_plain : {P : Type 0} → TrustAnchorInfo P → PlainInfo
trust_anchor_info_plain x = (
  pos (anchor_number x.version),
  (
    key_plain x.pub_key,
    (
      x.key_id,
      (
        plain_option string_bytes x.ta_title,
        (
          plain_option (λ c. cert_path_controls_plain c) x.cert_path,
          (
            plain_option (λ e. extensions_plain e.items) x.extensions,
            (plain_option string_bytes x.ta_title_lang_tag, tt),
          ),
        ),
      ),
    ),
  ),
)

abbrev pub trust_anchor_plain : {P : Type 0} → TrustAnchorChoice P → PlainAnchor
trust_anchor_plain (anchors.Certificate c) = inl (certificate_plain c)
trust_anchor_plain (anchors.TbsCertificate t) = inr (inl (tbs_plain t))
trust_anchor_plain (anchors.TaInfo i) = inr (inr (trust_anchor_info_plain i))
