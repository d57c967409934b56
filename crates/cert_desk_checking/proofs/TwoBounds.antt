-- Certificates, and the contents of extensions, under two bounds of arcs.
use Rattle.std.proofs.Common.{◌≡◌, ℕ, zero, suc, ◌≤◌, ◌⊎◌, inl, inr, List, [], ◌∷◌, ◌++◌, length, Bool, true, false, Option, Some, None, Result, Ok, Err, ltb, refl, sym, ap, ◌∙◌, subst, arith}
use Rattle.std.specs.Prelude.{Contains}
use Rattle.std.specs.List.{AllByRecursion}
use Rattle.std.specs.Option.{option_map_or}
use Rattle.x509_cert_anchors.specs.Der.ErrorTypes.ErrorKind.{ErrorKind}
use Rattle.x509_cert_anchors.specs.Der.ErrorTypes.ErrorKind.TheVariants as kinds
use Rattle.x509_cert_anchors.specs.Der.Bounds.{IsValidUnder, HoldsLarge}
use Rattle.x509_cert_anchors.specs.Der.Grammar.{read, whole, read_whole}
use Rattle.x509_cert_anchors.specs.Der.Limits.{length_max, levels_max}
use Rattle.x509_cert_anchors.specs.Der.Octets.{IsOctets, ◌>>=◌}
use Rattle.x509_cert_anchors.specs.Der.TagTypes.Tag.TheVariants as tags
use Rattle.x509_cert_anchors.specs.Der.Leaves.{octets}
use Rattle.x509_cert_anchors.specs.Der.Shapes.{Shape, Value, IsValid, IsContent, IsBody, done, explicit, field, leaf, octets_of, optional, sequence, sequence_of, tagged}
use Rattle.x509_cert_anchors.proofs.Der.OneEncoding.{bytes_are}
use Rattle.x509_cert_anchors.proofs.Der.BoundLaws.{below_or_large, Family, same_octets, valid_wider, valid_narrow, whole_wider, whole_new}
use Rattle.x509_cert_anchors.specs.CertCertificates.Certificates.{PlainCertificate, extensions_of}
use Rattle.x509_cert_anchors.specs.CertCertificates.Certificates.{raw_certificate}
use Rattle.x509_cert_anchors.specs.CertParts.Grammar.{PlainExtension, extension_octets}
use Rattle.x509_cert_anchors.specs.CertParts.Grammar.{object_identifier, false_by_default}
use Rattle.x509_cert_anchors.specs.CertGeneralNames.GeneralNames.{general_names}
use Rattle.x509_cert_anchors.proofs.Der.Results.{bind_ok, unless_ok, whole_ok}
use Rattle.cert_desk_checking.specs.Bounded.{BecomesReadable, OneBecomesReadable, OneHoldsLarge, identifiers_in, identifiers_said}
use Rattle.cert_desk_rules.specs.DeskBundle.Chains.{Chain, Stands, joined}
use Rattle.cert_desk_rules.specs.Weighing.{Meaning, extended_key_usage_in, is_ce, is_malformed, malformed, meaning_of, other_names, purposes, subject_alt_name_in, weigh}
use Rattle.cert_desk_rules.proofs.ExtensionLaws.{by_kind}
use Rattle.cert_desk_rules.proofs.Meanings.{meaning_read, read_meaning}
use Rattle.cert_desk_rules.proofs.DeskBundle.SeriesLaws.{each-so}

-- Certificates.

certificate_octets_same : (bound : ℕ) (c : PlainCertificate) → octets_of (raw_certificate bound) c ≡ octets_of (raw_certificate 0) c
unfolding octets_of
certificate_octets_same bound c = refl

certificate_to : (bound : ℕ) (c : PlainCertificate) → IsValid (raw_certificate bound) c → IsValidUnder bound (raw_certificate 0) c
unfolding IsValid IsValidUnder octets_of
certificate_to bound c h = h

certificate_from : (bound : ℕ) (c : PlainCertificate) → IsValidUnder bound (raw_certificate 0) c → IsValid (raw_certificate bound) c
unfolding IsValid IsValidUnder octets_of
certificate_from bound c h = h

abbrev certificates : Family (raw_certificate 0) (λ bound. raw_certificate bound)
certificates = record {
  at = λ b v. v;
  judged = λ b v. (certificate_to b v, certificate_from b v);
  spelled = λ b v. certificate_octets_same b v;
  element = λ b. refl;
  apart = λ b. refl;
  enough = λ b. refl;
}

pub same_encoding : (small large : ℕ) (c : PlainCertificate) → octets_of (raw_certificate small) c ≡ octets_of (raw_certificate large) c
same_encoding small large c = same_octets (raw_certificate 0) (λ b. raw_certificate b) certificates small large c

pub same_joined : (small large : ℕ) (cs : List PlainCertificate) → joined small cs ≡ joined large cs
same_joined small large [] = refl
same_joined small large (c ∷ cs) = ap (λ (w : List ℕ). w ++ joined small cs) (same_encoding small large c) ∙ ap (λ (w : List ℕ). octets_of (raw_certificate large) c ++ w) (same_joined small large cs)

pub certificate_wider : (small large : ℕ) (c : PlainCertificate) → small ≤ large → IsValid (raw_certificate small) c → IsValid (raw_certificate large) c
certificate_wider small large c le h = valid_wider (raw_certificate 0) (λ b. raw_certificate b) certificates small large c le h

pub certificate_or_large : (small large : ℕ) (c : PlainCertificate) → IsValid (raw_certificate large) c → IsValid (raw_certificate small) c ⊎ HoldsLarge small (identifiers_in c)
certificate_or_large small large c h =
    elim (below_or_large small (identifiers_in c)) [
      | inl below ↦ inl (valid_narrow (raw_certificate 0) (λ b. raw_certificate b) certificates small large c h below)
      | inr holds ↦ inr holds
    ]

stands_wider : (small large limit : ℕ) (c : PlainCertificate) → small ≤ large → Stands small limit c → Stands large limit c
stands_wider small large limit c le h = record {
  valid = certificate_wider small large c le h.valid;
  within = subst (λ (w : List ℕ). length w ≤ limit) (same_encoding small large c) h.within;
}

pub chain_wider : (small large limit : ℕ) (cs : List PlainCertificate) (stream : List ℕ) → small ≤ large → Chain small limit cs stream → Chain large limit cs stream
chain_wider small large limit cs stream le h = record {
  each = each-so (Stands small limit) (Stands large limit) cs (λ c k. stands_wider small large limit c le k) h.each;
  joins = h.joins ∙ same_joined small large cs;
  fits = h.fits;
}

stands_or_large : (small large limit : ℕ) (c : PlainCertificate) → Stands large limit c → Stands small limit c ⊎ HoldsLarge small (identifiers_in c)
stands_or_large small large limit c h =
    elim (certificate_or_large small large c h.valid) [
      | inl valid ↦ inl (record { valid = valid; within = subst (λ (w : List ℕ). length w ≤ limit) (same_encoding large small c) h.within })
      | inr holds ↦ inr holds
    ]

each_or_large : (small large limit : ℕ) (cs : List PlainCertificate) → AllByRecursion (Stands large limit) cs → AllByRecursion (Stands small limit) cs ⊎ OneHoldsLarge small cs
each_or_large small large limit [] h = inl tt
each_or_large small large limit (c ∷ cs) h = by (stands_or_large small large limit c h.0) (each_or_large small large limit cs h.1)
  where
    by : Stands small limit c ⊎ HoldsLarge small (identifiers_in c) → AllByRecursion (Stands small limit) cs ⊎ OneHoldsLarge small cs
        → AllByRecursion (Stands small limit) (c ∷ cs) ⊎ OneHoldsLarge small (c ∷ cs)
    by (inr p) _ = inr (c, (zero, omega arith, refl), p)
    by (inl k) (inl all) = inl (k, all)
    by (inl k) (inr p) = inr (p.0, (suc p.1.0, omega (arith, p.1.1), p.1.2), p.2)

pub chain_new : (small large limit : ℕ) (cs : List PlainCertificate) (stream : List ℕ) → Chain large limit cs stream → Chain small limit cs stream ⊎ OneHoldsLarge small cs
chain_new small large limit cs stream h = by (each_or_large small large limit cs h.each)
  where
    by : AllByRecursion (Stands small limit) cs ⊎ OneHoldsLarge small cs → Chain small limit cs stream ⊎ OneHoldsLarge small cs
    by (inl all) = inl (record { each = all; joins = h.joins ∙ same_joined large small cs; fits = h.fits })
    by (inr p) = inr p

-- The contents of extensions.

abbrev extension : ℕ → Shape
extension bound = sequence (field (object_identifier bound) (field false_by_default (field (tagged tags.OctetString (leaf octets)) done)))

octets_of_extension : (bound : ℕ) (e : PlainExtension) → IsValid (extension bound) e → IsOctets (extension_octets e)
unfolding IsValid IsContent IsBody
octets_of_extension bound e h = h.0.1.1.0.0

octets_listed : (bound : ℕ) (o : Option (List PlainExtension)) → IsValid (optional (explicit 3 (sequence_of (extension bound)))) o
    → AllByRecursion (λ e. IsOctets (extension_octets e)) (option_map_or (λ es. es) o [])
unfolding IsValid IsContent IsBody
octets_listed bound None h = tt
octets_listed bound (Some es) h = each-so (IsValid (extension bound)) (λ e. IsOctets (extension_octets e)) es (λ e k. octets_of_extension bound e k) h.0.0

octets_in : (bound : ℕ) (c : PlainCertificate) → IsValid (raw_certificate bound) c → AllByRecursion (λ e. IsOctets (extension_octets e)) (extensions_of c)
unfolding IsValid IsContent IsBody
octets_in bound c h = octets_listed bound c.0.1.1.1.1.1.1.1.1.1.0 h.0.0.0.1.1.1.1.1.1.1.1.1.0

names_same : (bound : ℕ) (v : Value (general_names 0)) → octets_of (general_names bound) v ≡ octets_of (general_names 0) v
unfolding octets_of
names_same bound v = refl

names_to : (bound : ℕ) (v : Value (general_names 0)) → IsValid (general_names bound) v → IsValidUnder bound (general_names 0) v
unfolding IsValid IsValidUnder octets_of
names_to bound v h = h

names_from : (bound : ℕ) (v : Value (general_names 0)) → IsValidUnder bound (general_names 0) v → IsValid (general_names bound) v
unfolding IsValid IsValidUnder octets_of
names_from bound v h = h

abbrev names : Family (general_names 0) (λ bound. general_names bound)
names = record {
  at = λ b v. v;
  judged = λ b v. (names_to b v, names_from b v);
  spelled = λ b v. names_same b v;
  element = λ b. refl;
  apart = λ b. refl;
  enough = λ b. refl;
}

-- ExtKeyUsageSyntax (RFC 5280 4.2.1.12).
abbrev purposes_shape : ℕ → Shape
purposes_shape bound = sequence_of (object_identifier bound)

usages_same : (bound : ℕ) (v : Value (purposes_shape 0)) → octets_of (purposes_shape bound) v ≡ octets_of (purposes_shape 0) v
unfolding octets_of
usages_same bound v = refl

usages_to : (bound : ℕ) (v : Value (purposes_shape 0)) → IsValid (purposes_shape bound) v → IsValidUnder bound (purposes_shape 0) v
unfolding IsValid IsValidUnder octets_of
usages_to bound v h = h

usages_from : (bound : ℕ) (v : Value (purposes_shape 0)) → IsValidUnder bound (purposes_shape 0) v → IsValid (purposes_shape bound) v
unfolding IsValid IsValidUnder octets_of
usages_from bound v h = h

abbrev usages : Family (purposes_shape 0) (λ bound. purposes_shape bound)
usages = record {
  at = λ b v. v;
  judged = λ b v. (usages_to b v, usages_from b v);
  spelled = λ b v. usages_same b v;
  element = λ b. refl;
  apart = λ b. refl;
  enough = λ b. refl;
}

-- A value that is decoded from all bytes leaves none.
pub leaves_none : (s : Shape) (w : List ℕ) (v : Value s) (r : List ℕ) → read_whole s w ≡ Ok (v, r) → read_whole s w ≡ Ok (v, [])
unfolding read_whole
leaves_none s w v r e =
    let h = unless_ok (ltb length_max (length w)) kinds.Overflow (read s levels_max w >>= whole) (v, r) e in
    let x = bind_ok (read s levels_max w) whole (v, r) h.1 in
    let o = whole_ok x.0 (v, r) x.2 in
    let none : r ≡ [] = sym (ap (λ (q : Value s × List ℕ). q.1) o.0) ∙ o.1 in
    e ∙ ap (λ (q : List ℕ). Ok (v, q)) none

-- The meaning of an extension under two bounds: it is the same, or the extension is malformed only
-- under the first one, and contains a large arc.
abbrev Weighed : ℕ → Meaning → Meaning → Type 0
Weighed small m n = (m ≡ n) ⊎ ((m ≡ malformed) × (is_malformed n ≡ false) × HoldsLarge small (identifiers_said n))

weighed_by : {V : Type 0} (says : V → Meaning) → ((v : V) → is_malformed (says v) ≡ false) → (small : ℕ) (r q : Result (V × List ℕ) ErrorKind)
    → ((v : V) (x : List ℕ) → r ≡ Ok (v, x) → q ≡ Ok (v, []))
    → ((v : V) (x : List ℕ) (d : ErrorKind) → q ≡ Ok (v, x) → r ≡ Err d → HoldsLarge small (identifiers_said (says v)))
    → Weighed small (read_meaning says r) (read_meaning says q)
weighed_by says fine small (Ok p) q keeps new = inl (sym (ap (read_meaning says) (keeps p.0 p.1 refl)))
weighed_by says fine small (Err d) (Err k) keeps new = inl refl
weighed_by says fine small (Err d) (Ok p) keeps new = inr (refl, fine p.0, new p.0 p.1 d refl refl)

weighed_as : (small : ℕ) (m n p q : Meaning) → m ≡ p → n ≡ q → Weighed small p q → Weighed small m n
weighed_as small m n p q e f h = subst (λ (x : Meaning). Weighed small x n) (sym e) (subst (λ (x : Meaning). Weighed small p x) (sym f) h)

module _ (small large : ℕ) (le : small ≤ large) where
  names_weighed : (w : List ℕ) → IsOctets w → Weighed small (meaning_of other_names (subject_alt_name_in small w)) (meaning_of other_names (subject_alt_name_in large w))
  names_weighed w o =
      weighed_as small _ _ _ _
      (meaning_read (general_names small) other_names w refl refl (bytes_are w o) (read_whole (general_names small) w) refl (subject_alt_name_in small w))
      (meaning_read (general_names large) other_names w refl refl (bytes_are w o) (read_whole (general_names large) w) refl (subject_alt_name_in large w))
      (weighed_by other_names (λ v. refl) small (read_whole (general_names small) w) (read_whole (general_names large) w)
      (λ v x e. whole_wider (general_names 0) (λ b. general_names b) names small large v w le o (leaves_none (general_names small) w v x e))
      (λ v x d e r. whole_new (general_names 0) (λ b. general_names b) names small large v w d o (leaves_none (general_names large) w v x e) r))

  usages_weighed : (w : List ℕ) → IsOctets w → Weighed small (meaning_of purposes (extended_key_usage_in small w)) (meaning_of purposes (extended_key_usage_in large w))
  usages_weighed w o =
      weighed_as small _ _ _ _
      (meaning_read (purposes_shape small) purposes w refl refl (bytes_are w o) (read_whole (purposes_shape small) w) refl (extended_key_usage_in small w))
      (meaning_read (purposes_shape large) purposes w refl refl (bytes_are w o) (read_whole (purposes_shape large) w) refl (extended_key_usage_in large w))
      (weighed_by purposes (λ v. refl) small (read_whole (purposes_shape small) w) (read_whole (purposes_shape large) w)
      (λ v x e. whole_wider (purposes_shape 0) (λ b. purposes_shape b) usages small large v w le o (leaves_none (purposes_shape small) w v x e))
      (λ v x d e r. whole_new (purposes_shape 0) (λ b. purposes_shape b) usages small large v w d o (leaves_none (purposes_shape large) w v x e) r))

  kind_weighed : (a b c d : Bool) (w : List ℕ) → IsOctets w → Weighed small (by_kind small a b c d w) (by_kind large a b c d w)
  kind_weighed true b c d w o = inl refl
  kind_weighed false true c d w o = names_weighed w o
  kind_weighed false false true d w o = inl refl
  kind_weighed false false false true w o = usages_weighed w o
  kind_weighed false false false false w o = inl refl

  extension_weighed : (e : PlainExtension) → IsOctets (extension_octets e) → (weigh small e ≡ weigh large e) ⊎ BecomesReadable small large e
  extension_weighed e o =
      elim (kind_weighed (is_ce 15 e) (is_ce 17 e) (is_ce 19 e) (is_ce 37 e) (extension_octets e) o) [
        | inl same ↦ inl same
        | inr new ↦ inr (record { unread = new.0; readable = new.1; holds = new.2 })
      ]

  abbrev pub SaysSame : PlainExtension → Type 0
  SaysSame e = weigh small e ≡ weigh large e

  extensions_weighed : (es : List PlainExtension) → AllByRecursion (λ e. IsOctets (extension_octets e)) es
      → AllByRecursion SaysSame es ⊎ ((e : PlainExtension) × Contains es e × BecomesReadable small large e)
  extensions_weighed [] o = inl tt
  extensions_weighed (e ∷ es) o = by (extension_weighed e o.0) (extensions_weighed es o.1)
    where
      by : (weigh small e ≡ weigh large e) ⊎ BecomesReadable small large e → AllByRecursion SaysSame es ⊎ ((x : PlainExtension) × Contains es x × BecomesReadable small large x)
          → AllByRecursion SaysSame (e ∷ es) ⊎ ((x : PlainExtension) × Contains (e ∷ es) x × BecomesReadable small large x)
      by (inr p) _ = inr (e, (zero, omega arith, refl), p)
      by (inl k) (inl all) = inl (k, all)
      by (inl k) (inr p) = inr (p.0, (suc p.1.0, omega (arith, p.1.1), p.1.2), p.2)

  pub certificates_weighed : (limit : ℕ) (cs : List PlainCertificate) → AllByRecursion (Stands small limit) cs
      → AllByRecursion (λ c. AllByRecursion SaysSame (extensions_of c)) cs ⊎ OneBecomesReadable small large cs
  certificates_weighed limit [] h = inl tt
  certificates_weighed limit (c ∷ cs) h = by (extensions_weighed (extensions_of c) (octets_in small c h.0.valid)) (certificates_weighed limit cs h.1)
    where
      by : AllByRecursion SaysSame (extensions_of c) ⊎ ((x : PlainExtension) × Contains (extensions_of c) x × BecomesReadable small large x)
          → AllByRecursion (λ c. AllByRecursion SaysSame (extensions_of c)) cs ⊎ OneBecomesReadable small large cs
          → AllByRecursion (λ c. AllByRecursion SaysSame (extensions_of c)) (c ∷ cs) ⊎ OneBecomesReadable small large (c ∷ cs)
      by (inr p) _ = inr (c, p.0, (zero, omega arith, refl), p.1, p.2)
      by (inl k) (inl all) = inl (k, all)
      by (inl k) (inr p) = inr (p.0, p.1, (suc p.2.0, omega (arith, p.2.1), p.2.2), p.3, p.4)
