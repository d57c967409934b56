-- Lemmas about equality: `==` of the choices in extensions and of trust anchors compares their
-- abstract values.
use denote.RattleType.{RattleType}
use Rattle.std.proofs.Common.{◌≡◌, ℕ, Bool, Option, pos, refl, ap, arith, nat_eq}
use Rattle.std.specs.Cmp.Lexicographic.{pointwise, bytes_decides}
use Rattle.x509_cert_anchors.specs.Oid.Bound.{Bound}
use Rattle.x509_cert_anchors.specs.Oid.Digits.{digits}
use Rattle.x509_cert_anchors.proofs.Oid.DigitLaws.{same_from_digits}
use Rattle.x509_cert_anchors.proofs.Der.ValueEquality.{Alike, all_alike, alone, behind, each, exact, first, last, leaves, list, next, option, second, set}
use Rattle.x509_cert_anchors.specs.Der.Integers.{Numbers, among}
use Rattle.x509_cert_anchors.specs.Der.Leaves.{integer}
use Rattle.x509_cert_anchors.specs.Der.Shapes.{Shape, Value, leaf, sequence, tagged}
use Rattle.x509_cert_anchors.specs.Der.TagTypes.Tag.{Tag}
use Rattle.x509_cert.specs.Equality.{TellsValues}
use Rattle.x509_cert_anchors.specs.Anchors.{anchor_version, trust_anchor_choice, trust_anchor_info_fields}
use Rattle.x509_cert_anchors.specs.AnchorViews.{anchor_number, trust_anchor_info_plain, trust_anchor_plain}
use Rattle.x509_cert_anchors.specs.contracts.anchor.VersionPartialEq.TheImpl.{eq-value as same_version}
use Rattle.x509_cert_anchors.specs.contracts.trust_anchor_choice.TrustAnchorChoicePartialEq.TheImpl.{eq-value as same_choice}
use Rattle.x509_cert_anchors.specs.contracts.trust_anchor_info.TrustAnchorInfoPartialEq.TheImpl.{eq-value as same_info}
use Rattle.x509_cert_anchors.specs.declared.anchor.Version.{Version}
use Rattle.x509_cert_anchors.specs.declared.anchor.Version.TheVariants.{V1}
use Rattle.x509_cert_anchors.specs.declared.trust_anchor_choice.TrustAnchorChoice.{TrustAnchorChoice}
use Rattle.x509_cert_anchors.specs.declared.trust_anchor_choice.TrustAnchorChoice.TheVariants as anchors
use Rattle.x509_cert_anchors.specs.declared.trust_anchor_info.TrustAnchorInfo.{TrustAnchorInfo}
use Rattle.x509_cert_builders.specs.CertCertificates.Certificates.{certificate, tbs_certificate}
use Rattle.x509_cert_builders.specs.CertCertificates.Views.{certificate_plain, tbs_plain}
use Rattle.x509_cert_builders.specs.CertCertificates.contracts.certificate.CertificateInnerPartialEq.TheImpl.{eq-value as same_certificate}
use Rattle.x509_cert_builders.specs.CertCertificates.contracts.tbs_certificate.TbsCertificateInnerPartialEq.TheImpl.{eq-value as same_tbs}
use Rattle.x509_cert_builders.specs.CertCertificates.declared.certificate.CertificateInner.{CertificateInner}
use Rattle.x509_cert_builders.specs.CertCertificates.declared.tbs_certificate.TbsCertificateInner.{TbsCertificateInner}
use Rattle.x509_cert_builders.specs.CertExtensions.contracts.crl_reason.CrlReasonPartialEq.TheImpl.{eq-value as same_reason}
use Rattle.x509_cert_builders.specs.CertExtensions.declared.crl_reason.CrlReason.{CrlReason}
use Rattle.x509_cert_builders.specs.CertExtensions.declared.crl_reason.CrlReason.TheVariants as reasons
use Rattle.x509_cert_builders.specs.CertExtensions.Reasons.{reason_number, reason_numbers}
use Rattle.x509_cert_anchors.specs.CertGeneralNames.GeneralNames.{distribution_point_name, general_name}
use Rattle.x509_cert_anchors.specs.CertGeneralNames.GeneralNameViews.{distribution_point_name_plain, general_name_plain}
use Rattle.x509_cert_anchors.specs.CertGeneralNames.contracts.distribution_point_name.DistributionPointNamePartialEq.TheImpl.{eq-value as same_point}
use Rattle.x509_cert_anchors.specs.CertGeneralNames.contracts.general_name.GeneralNamePartialEq.TheImpl.{eq-value as same_name}
use Rattle.x509_cert_anchors.specs.CertGeneralNames.declared.distribution_point_name.DistributionPointName.{DistributionPointName}
use Rattle.x509_cert_anchors.specs.CertGeneralNames.declared.distribution_point_name.DistributionPointName.TheVariants as points
use Rattle.x509_cert_anchors.specs.CertGeneralNames.declared.general_name.GeneralName.{GeneralName}
use Rattle.x509_cert_anchors.specs.CertGeneralNames.declared.general_name.GeneralName.TheVariants as cases
use Rattle.x509_cert_lists.proofs.CertNames.SameOctets.{directories, names, pairs}
use Rattle.x509_cert_lists.proofs.Types.AnyLaws.{values}
use Rattle.x509_cert_anchors.specs.PolicyTypes.Policies.{display_text}
use Rattle.x509_cert_anchors.specs.PolicyTypes.PolicyViews.{display_plain}
use Rattle.x509_cert_anchors.specs.PolicyTypes.contracts.display_text.DisplayTextPartialEq.TheImpl.{eq-value as same_text}
use Rattle.x509_cert_anchors.specs.PolicyTypes.declared.display_text.DisplayText.{DisplayText}
use Rattle.x509_cert_anchors.specs.PolicyTypes.declared.display_text.DisplayText.TheVariants as texts

pub whole : {s : Shape} {T : Type 0} {eq : T → T → Bool} {plain : T → Value s} → ((x y : T) → Alike s (eq x y) (plain x) (plain y)) → TellsValues s eq plain
whole {s} h = record { by_value = all_alike {s = s} h }

pub of : {s : Shape} {T : Type 0} {eq : T → T → Bool} {plain : T → Value s} → TellsValues s eq plain → (x y : T) → Alike s (eq x y) (plain x) (plain y)
of {s} h = each {s = s} h.by_value

pub digits_alike : {t : Tag} {r : Numbers} {n m : ℕ} → Alike (tagged t (leaf (integer r))) (pointwise nat_eq (digits 256 n) (digits 256 m)) (pos n) (pos m)
digits_alike {n = n} {m = m} = exact (λ e. ap pos (same_from_digits 256 n m (grind arith) ((bytes_decides (digits 256 n) (digits 256 m)).0 e))) (λ e. let one : n ≡ m = cc in (bytes_decides (digits 256 n) (digits 256 m)).1 (ap (digits 256) one))

pub general_names : (x y : GeneralName) → Alike (general_name Bound) (same_name.it x y) (general_name_plain x) (general_name_plain y)
general_names (cases.OtherName m) (cases.OtherName n) = first (behind (next leaves (last (behind (alone (values m.value n.value))))))
general_names (cases.Rfc822Name m) (cases.Rfc822Name n) = second (first leaves)
general_names (cases.DnsName m) (cases.DnsName n) = second (second (first leaves))
general_names (cases.DirectoryName m) (cases.DirectoryName n) = second (second (second (first (behind (alone (names _ _))))))
general_names (cases.EdiPartyName m) (cases.EdiPartyName n) = second (second (second (second (first (behind (next (option (λ v w. behind (alone (directories v w))) _ _) (last (behind (alone (directories m.party_name n.party_name))))))))))
general_names (cases.UniformResourceIdentifier m) (cases.UniformResourceIdentifier n) = second (second (second (second (second (first leaves)))))
general_names (cases.IpAddress m) (cases.IpAddress n) = second (second (second (second (second (second (first leaves))))))
general_names (cases.RegisteredId m) (cases.RegisteredId n) = second (second (second (second (second (second (second leaves))))))
general_names x y = exact (λ e. absurd cc) (λ e. absurd cc)

pub point_names : (x y : DistributionPointName) → Alike (distribution_point_name Bound) (same_point.it x y) (distribution_point_name_plain x) (distribution_point_name_plain y)
point_names (points.FullName m) (points.FullName n) = first (behind (list general_names _ _))
point_names (points.NameRelativeToCRLIssuer m) (points.NameRelativeToCRLIssuer n) = second (behind (set pairs m n))
point_names x y = exact (λ e. absurd cc) (λ e. absurd cc)

pub display_texts : (x y : DisplayText) → Alike display_text (same_text.it x y) (display_plain x) (display_plain y)
display_texts (texts.Ia5String m) (texts.Ia5String n) = first leaves
display_texts (texts.Utf8String m) (texts.Utf8String n) = second leaves
display_texts x y = exact (λ e. absurd cc) (λ e. absurd cc)

pub crl_reasons : {t : Tag} (x y : CrlReason) → Alike (tagged t (leaf (integer (among reason_numbers)))) (same_reason.it x y) (pos (reason_number x)) (pos (reason_number y))
crl_reasons reasons.Unspecified reasons.Unspecified = exact (λ e. refl) (λ e. refl)
crl_reasons reasons.KeyCompromise reasons.KeyCompromise = exact (λ e. refl) (λ e. refl)
crl_reasons reasons.CaCompromise reasons.CaCompromise = exact (λ e. refl) (λ e. refl)
crl_reasons reasons.AffiliationChanged reasons.AffiliationChanged = exact (λ e. refl) (λ e. refl)
crl_reasons reasons.Superseded reasons.Superseded = exact (λ e. refl) (λ e. refl)
crl_reasons reasons.CessationOfOperation reasons.CessationOfOperation = exact (λ e. refl) (λ e. refl)
crl_reasons reasons.CertificateHold reasons.CertificateHold = exact (λ e. refl) (λ e. refl)
crl_reasons reasons.RemoveFromCRL reasons.RemoveFromCRL = exact (λ e. refl) (λ e. refl)
crl_reasons reasons.PrivilegeWithdrawn reasons.PrivilegeWithdrawn = exact (λ e. refl) (λ e. refl)
crl_reasons reasons.AaCompromise reasons.AaCompromise = exact (λ e. refl) (λ e. refl)
crl_reasons x y = exact (λ e. absurd cc) (λ e. absurd cc)

pub versions : (x y : Version) → Alike anchor_version (same_version.it x y) (pos (anchor_number x)) (pos (anchor_number y))
versions V1 V1 = exact (λ e. refl) (λ e. refl)

pub choices : (P : RattleType) (limit : Option ℕ) → ((c d : CertificateInner P.Denot) → Alike (certificate Bound limit) ((same_certificate P).it c d) (certificate_plain c) (certificate_plain d)) → ((t u : TbsCertificateInner P.Denot) → Alike (tbs_certificate Bound limit) ((same_tbs P).it t u) (tbs_plain t) (tbs_plain u))
    → ((i j : TrustAnchorInfo P.Denot) → Alike (sequence (trust_anchor_info_fields Bound limit)) ((same_info P).it i j) (trust_anchor_info_plain i) (trust_anchor_info_plain j))
    → (x y : TrustAnchorChoice P.Denot) → Alike (trust_anchor_choice Bound limit) ((same_choice P).it x y) (trust_anchor_plain x) (trust_anchor_plain y)
choices P limit certificates parts infos (anchors.Certificate c) (anchors.Certificate d) = first (certificates c d)
choices P limit certificates parts infos (anchors.TbsCertificate t) (anchors.TbsCertificate u) = second (first (behind (alone (parts t u))))
choices P limit certificates parts infos (anchors.TaInfo i) (anchors.TaInfo j) = second (second (behind (alone (infos i j))))
choices P limit certificates parts infos x y = exact (λ e. absurd cc) (λ e. absurd cc)
