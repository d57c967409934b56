-- Each field of the findings, in terms of the meanings of the extensions.
use Rattle.std.proofs.Common.{◌≡◌, ℕ, List, Bool, ◌&&◌, ◌||◌, Option, Some, None, nat_le, refl, ap, ◌∙◌}
use Rattle.std.specs.List.{list_all, list_any}
use Rattle.cert_desk_bundle.specs.CertParts.Grammar.{PlainExtension, is_critical}
use Rattle.cert_desk_rules.specs.declared.findings.Findings.{Findings}
use Rattle.cert_desk_rules.specs.Findings.{add, add_extension, found, no_findings, shorter, weight_of}
use Rattle.cert_desk_rules.specs.Paths.{is_within}
use Rattle.cert_desk_rules.specs.Weighing.{Meaning, uses, other_names, constraints, purposes, malformed, unweighed, is_authority, is_malformed, is_unweighed, may_certify, path_length, serves, weigh}
use Rattle.cert_desk_rules.proofs.Folds.{and_no, and_yes, fold_and, fold_or, le_min, or_no, or_yes}

-- The effect of one more extension.
module _ (purpose : List ℕ) (f : Findings) (critical : Bool) where
  adds_malformed : (m : Meaning) → (add f critical (weight_of purpose m)).malformed ≡ (f.malformed || is_malformed m)
  adds_malformed (uses set) = or_no f.malformed
  adds_malformed (other_names names) = or_no f.malformed
  adds_malformed (constraints ca n) = or_no f.malformed
  adds_malformed (purposes listed) = or_no f.malformed
  adds_malformed malformed = or_yes f.malformed
  adds_malformed unweighed = or_no f.malformed

  adds_unweighed : (m : Meaning) → (add f critical (weight_of purpose m)).unweighed_critical ≡ (f.unweighed_critical || (critical && is_unweighed m))
  adds_unweighed (uses set) = or_no f.unweighed_critical ∙ ap (λ b. f.unweighed_critical || b) (and_no critical)
  adds_unweighed (other_names names) = or_no f.unweighed_critical ∙ ap (λ b. f.unweighed_critical || b) (and_no critical)
  adds_unweighed (constraints ca n) = or_no f.unweighed_critical ∙ ap (λ b. f.unweighed_critical || b) (and_no critical)
  adds_unweighed (purposes listed) = or_no f.unweighed_critical ∙ ap (λ b. f.unweighed_critical || b) (and_no critical)
  adds_unweighed malformed = or_no f.unweighed_critical ∙ ap (λ b. f.unweighed_critical || b) (and_no critical)
  adds_unweighed unweighed = ap (λ b. f.unweighed_critical || b) (and_yes critical)

  adds_serves : (m : Meaning) → (add f critical (weight_of purpose m)).serves ≡ (f.serves && serves purpose m)
  adds_serves (uses set) = and_yes f.serves
  adds_serves (other_names names) = and_yes f.serves
  adds_serves (constraints ca n) = and_yes f.serves
  adds_serves (purposes listed) = refl
  adds_serves malformed = and_yes f.serves
  adds_serves unweighed = and_yes f.serves

  adds_ca : (m : Meaning) → (add f critical (weight_of purpose m)).ca ≡ (f.ca || is_authority m)
  adds_ca (uses set) = or_no f.ca
  adds_ca (other_names names) = or_no f.ca
  adds_ca (constraints ca n) = refl
  adds_ca (purposes listed) = or_no f.ca
  adds_ca malformed = or_no f.ca
  adds_ca unweighed = or_no f.ca

  adds_certifies : (m : Meaning) → (add f critical (weight_of purpose m)).certifies ≡ (f.certifies && may_certify m)
  adds_certifies (uses set) = refl
  adds_certifies (other_names names) = and_yes f.certifies
  adds_certifies (constraints ca n) = and_yes f.certifies
  adds_certifies (purposes listed) = and_yes f.certifies
  adds_certifies malformed = and_yes f.certifies
  adds_certifies unweighed = and_yes f.certifies

pub within_shorter : (n : ℕ) (p q : Option ℕ) → is_within n (shorter p q) ≡ (is_within n p && is_within n q)
within_shorter n None q = refl
within_shorter n (Some p) None = and_yes (nat_le n p)
within_shorter n (Some p) (Some q) = le_min n p q

adds_length : (purpose : List ℕ) (n : ℕ) (f : Findings) (critical : Bool) (m : Meaning)
    → is_within n (add f critical (weight_of purpose m)).path_len ≡ (is_within n f.path_len && is_within n (path_length m))
adds_length purpose n f critical (uses set) = and_yes (is_within n f.path_len)
adds_length purpose n f critical (other_names names) = and_yes (is_within n f.path_len)
adds_length purpose n f critical (constraints ca p) = within_shorter n f.path_len p
adds_length purpose n f critical (purposes listed) = and_yes (is_within n f.path_len)
adds_length purpose n f critical malformed = and_yes (is_within n f.path_len)
adds_length purpose n f critical unweighed = and_yes (is_within n f.path_len)

-- All extensions.
module _ (bound : ℕ) (purpose : List ℕ) (es : List PlainExtension) where
  pub found_malformed : (found bound purpose es).malformed ≡ list_any (λ e. is_malformed (weigh bound e)) es
  found_malformed =
      fold_or (λ f. f.malformed) (λ e. is_malformed (weigh bound e)) (add_extension bound purpose) (λ f e. adds_malformed purpose f (is_critical e) (weigh bound e)) no_findings es

  pub found_unweighed : (found bound purpose es).unweighed_critical ≡ list_any (λ e. is_critical e && is_unweighed (weigh bound e)) es
  found_unweighed =
      fold_or (λ f. f.unweighed_critical) (λ e. is_critical e && is_unweighed (weigh bound e)) (add_extension bound purpose) (λ f e. adds_unweighed purpose f (is_critical e) (weigh bound e)) no_findings es

  pub found_serves : (found bound purpose es).serves ≡ list_all (λ e. serves purpose (weigh bound e)) es
  found_serves =
      fold_and (λ f. f.serves) (λ e. serves purpose (weigh bound e)) (add_extension bound purpose) (λ f e. adds_serves purpose f (is_critical e) (weigh bound e)) no_findings es

  pub found_ca : (found bound purpose es).ca ≡ list_any (λ e. is_authority (weigh bound e)) es
  found_ca =
      fold_or (λ f. f.ca) (λ e. is_authority (weigh bound e)) (add_extension bound purpose) (λ f e. adds_ca purpose f (is_critical e) (weigh bound e)) no_findings es

  pub found_certifies : (found bound purpose es).certifies ≡ list_all (λ e. may_certify (weigh bound e)) es
  found_certifies =
      fold_and (λ f. f.certifies) (λ e. may_certify (weigh bound e)) (add_extension bound purpose) (λ f e. adds_certifies purpose f (is_critical e) (weigh bound e)) no_findings es

  pub found_length : (n : ℕ) → is_within n (found bound purpose es).path_len ≡ list_all (λ e. is_within n (path_length (weigh bound e))) es
  found_length n =
      fold_and (λ f. is_within n f.path_len) (λ e. is_within n (path_length (weigh bound e))) (add_extension bound purpose) (λ f e. adds_length purpose n f (is_critical e) (weigh bound e)) no_findings es
