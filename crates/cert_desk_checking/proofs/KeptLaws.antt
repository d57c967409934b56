-- The rules that a certificate keeps follow from the findings about it and the limit before it.
use Rattle.std.proofs.Common.{◌≡◌, ℕ, ◌<◌, List, Bool, true, false, not, ◌&&◌, ◌||◌, Option, Some, None, slice_get, refl, sym, ap, ◌∙◌, arith}
use Rattle.std.specs.List.{list_any}
use Rattle.std.specs.Option.{option_map_or}
use Rattle.x509_cert_anchors.specs.CertCertificates.Certificates.{PlainCertificate, extensions_of}
use Rattle.cert_desk_rules.specs.declared.findings.Findings.{Findings}
use Rattle.cert_desk_rules.specs.declared.kept_rules.KeptRules.{KeptRules}
use Rattle.cert_desk_rules.specs.declared.path_room.PathRoom.{PathRoom}
use Rattle.cert_desk_rules.specs.declared.rule.Rule.{Rule}
use Rattle.cert_desk_rules.specs.declared.rule.Rule.TheVariants as rules
use Rattle.cert_desk_rules.specs.Findings.{IsRoom, found}
use Rattle.cert_desk_rules.specs.Judging.{Terms, keeps_at, number}
use Rattle.cert_desk_rules.specs.KeptRules.{IsFirstUnsignedOf, kept_by}
use Rattle.cert_desk_rules.specs.Paths.{counts, is_last, is_self_issued, is_within}
use Rattle.cert_desk_checking.specs.Places.{IsFirstUnsigned}
use Rattle.cert_desk_rules.specs.Weighing.{is_authority, weigh}
use Rattle.cert_desk_rules.proofs.FoundLaws.{found_ca, found_certifies, found_malformed, found_serves, found_unweighed}
use Rattle.cert_desk_rules.proofs.PathLaws.{within_room}
use Rattle.cert_desk_checking.proofs.PlaceLaws.{keeps_at-is}
use Rattle.cert_desk_rules.proofs.RuleList.{or_signature}

-- The results agree with the rules, apart from that of the signature.
pub first_unsigned_by : (k : KeptRules) (t : Terms) (cs : List PlainCertificate) (stream : List ℕ) (place : ℕ) (broken : Option Rule)
    → ((rule : Rule) → number rule < number rules.WrongSignature → kept_by k rule ≡ keeps_at rule t cs stream place) → IsFirstUnsignedOf k broken → IsFirstUnsigned t cs stream place broken
first_unsigned_by k t cs stream place None says kept = λ rule before. sym (says rule before) ∙ kept rule before
first_unsigned_by k t cs stream place (Some rule) says first =
    (first.0, sym (says rule first.0) ∙ first.1, λ other before. sym (says other (omega (arith, before, first.0))) ∙ first.2 other before)

-- The answer about the signature changes no other result. With the answer, the results agree with
-- all rules.
same_before : (k : KeptRules) (signed : Bool) (rule : Rule) → number rule < number rules.WrongSignature → kept_by (record k { signed = signed }) rule ≡ kept_by k rule
same_before k signed rules.WrongSignature before = absurd (omega (arith, before))
same_before k signed _ before = refl

pub all_say : (k : KeptRules) (t : Terms) (cs : List PlainCertificate) (stream : List ℕ) (place : ℕ) (signed : Bool)
    → ((rule : Rule) → number rule < number rules.WrongSignature → kept_by k rule ≡ keeps_at rule t cs stream place) → signed ≡ keeps_at rules.WrongSignature t cs stream place
    → (rule : Rule) → kept_by (record k { signed = signed }) rule ≡ keeps_at rule t cs stream place
all_say k t cs stream place signed says so =
    or_signature (λ rule. kept_by (record k { signed = signed }) rule ≡ keeps_at rule t cs stream place) (λ rule before. same_before k signed rule before ∙ says rule before) so

-- The certificate counts for path lengths exactly if it is neither the last nor self-issued.
pub counts-is : (bound : ℕ) (cs : List PlainCertificate) (place : ℕ) (c : PlainCertificate) → slice_get cs place ≡ Some c
    → counts bound cs place ≡ (not (is_last cs place) && not (is_self_issued bound c))
counts-is bound cs place c e = ap (λ o. not (is_last cs place) && option_map_or (λ c. not (is_self_issued bound c)) o false) e

-- The rules that depend on extensions and path lengths.
module _ (t : Terms) (cs : List PlainCertificate) (stream : List ℕ) (place : ℕ) (c : PlainCertificate) (is : slice_get cs place ≡ Some c) (f : Findings) (e : f ≡ found t.bound t.purpose (extensions_of c)) where
  pub keeps_well_formed : not f.malformed ≡ keeps_at rules.MalformedExtension t cs stream place
  keeps_well_formed =
      ap (λ (g : Findings). not g.malformed) e ∙ ap (λ b. not b) (found_malformed t.bound t.purpose (extensions_of c)) ∙ sym (keeps_at-is rules.MalformedExtension t cs stream place c is)

  pub keeps_known : not f.unweighed_critical ≡ keeps_at rules.UnweighedCritical t cs stream place
  keeps_known =
      ap (λ (g : Findings). not g.unweighed_critical) e ∙ ap (λ b. not b) (found_unweighed t.bound t.purpose (extensions_of c)) ∙ sym (keeps_at-is rules.UnweighedCritical t cs stream place c is)

  pub keeps_serving : f.serves ≡ keeps_at rules.AgainstPurpose t cs stream place
  keeps_serving =
      ap (λ (g : Findings). g.serves) e ∙ found_serves t.bound t.purpose (extensions_of c) ∙ sym (keeps_at-is rules.AgainstPurpose t cs stream place c is)

  pub keeps_issuing : (is_last cs place || (f.ca && f.certifies)) ≡ keeps_at rules.NotAuthority t cs stream place
  keeps_issuing =
      ap (λ (g : Findings). is_last cs place || (g.ca && g.certifies)) e
      ∙ ap (λ b. is_last cs place || (b && (found t.bound t.purpose (extensions_of c)).certifies)) (found_ca t.bound t.purpose (extensions_of c))
      ∙ ap (λ b. is_last cs place || (list_any (λ x. is_authority (weigh t.bound x)) (extensions_of c) && b)) (found_certifies t.bound t.purpose (extensions_of c))
      ∙ sym (keeps_at-is rules.NotAuthority t cs stream place c is)

  pub keeps_within : (room : PathRoom) (b : Bool) → b ≡ counts t.bound cs place → IsRoom t.bound cs place room
      → (not b || is_within 2 room.below) ≡ keeps_at rules.PathTooLong t cs stream place
  keeps_within room b same h = sym (within_room t.bound cs place room b (sym same) h) ∙ sym (keeps_at-is rules.PathTooLong t cs stream place c is)
