-- The meanings of all extensions of an ordered certificate, and the findings about them.
use Rattle.std.proofs.Common.{◌≡◌, ◌≢◌, ℕ, List, [], ◌∷◌, map, length, Bool, true, false, ◌&&◌, ◌||◌, None, refl, sym, ap, ◌∙◌, ◌==◌, ◌<◌, ◌^◌, ◌++◌, Option, Some, arith, lit<, lit≤}
use Rattle.std.proofs.lemmas.Bool.{and_parts, ltb-true}
use Rattle.std.specs.List.{list_all, list_any, AllByRecursion}
use Rattle.std.specs.Prelude.{IfSome, pos, flat_map, nat_lt}
use Rattle.cert_desk_listing.specs.Oid.Bound.{Bound}
use Rattle.cert_desk_listing.specs.Oid.Comparing.{owned_eq}
use Rattle.cert_desk_listing.specs.Oid.Digits.{digits, digits_within, marked}
use Rattle.cert_desk_listing.specs.Oid.IdentifierOctets.{identifier_octets, arc_octets}
use Rattle.cert_desk_checking.specs.DeskBundle.Decoding.{Decoding}
use Rattle.cert_desk_listing.proofs.Der.HeadLaws.{fits_front, fits_rest, fits_contents}
use Rattle.cert_desk_listing.specs.Der.Grammar.{plain_option}
use Rattle.cert_desk_listing.specs.Der.Heads.{Fits, tlv}
use Rattle.cert_desk_listing.specs.Der.Leaves.{named}
use Rattle.cert_desk_listing.specs.Der.Limits.{levels_max}
use Rattle.cert_desk_listing.specs.Der.Octets.{IsOctets}
use Rattle.cert_desk_listing.specs.Der.Shapes.{octets_of, Shape, Value, IsValid, IsContent, IsBody, contents, body_octets, leaf, sequence_of, tagged}
use Rattle.cert_desk_listing.specs.Der.Spelling.{is_apart, are_enough}
use Rattle.cert_desk_listing.specs.Der.Tags.{context}
use Rattle.x509_cert_builders.specs.Profiles.{authority_uses, authority_key_extension, constraints_extension, digital_signature, purposes_extension, subject_key_extension, usage_extension}
use Rattle.cert_desk_orders.specs.CertParts.Grammar.{PlainExtension, PublicKey, is_critical, object_identifier}
use Rattle.cert_desk_listing.specs.CertNames.Names.{PlainName}
use Rattle.cert_desk_checking.specs.CertGeneralNames.GeneralNames.{general_names, general_name}
use Rattle.cert_desk_checking.specs.DeskRules.Judging.{are_distinct}
use Rattle.cert_desk_checking.specs.DeskRules.Paths.{is_within}
use Rattle.cert_desk_checking.specs.DeskRules.Weighing.{Meaning, uses, purposes, is_authority, is_malformed, is_unweighed, may_certify, path_length, serves, weigh, constraints, other_names, unweighed, basic_constraints_in, constraints_of, key_usage_in, extended_key_usage_in, subject_alt_name_in, meaning_of}
use Rattle.cert_desk_checking.proofs.DeskRules.Meanings.{basic_constraints, meaning_once}
use Rattle.cert_desk_checking.proofs.DeskRules.Folds.{and_yes}
use Rattle.x509_cert_builders.proofs.Encodable.{constraints_valid, purposes_valid, use_valid}
use Rattle.cert_desk.specs.Allowances.{allows_one, path_in}
use Rattle.cert_desk.specs.Ordered.{dns_names, extensions_for, names_extension}
use Rattle.cert_desk.specs.PlainOrders.{IsRight, PlainOrder}
use Rattle.cert_desk.specs.Laws.{Told, told, told_for}
use Rattle.cert_desk.specs.declared.role.Role.{Role}
use Rattle.x509_cert_builders.specs.Profiles as profiles
use Rattle.cert_desk.specs.declared.role.Role.TheVariants as roles
use Rattle.cert_desk_listing.specs.Der.TagTypes.Tag.TheVariants as tags

-- The encoding of a value has that value's meaning.
said : (s : Shape) (says : Value s → Meaning) (v : Value s) → is_apart s ≡ true → are_enough s levels_max ≡ true → IsValid s v → (d : Decoding s (octets_of s v)) → meaning_of says d ≡ says v
said s says v apart enough valid d = meaning_once s says (octets_of s v) apart enough v (record { valid = valid; octets = refl }) d

-- KeyUsage.

usage_says : (n : ℕ) → n < 2 ^ 9 → weigh Bound (usage_extension n) ≡ uses n
unfolding identifier_octets arc_octets digits digits_within marked
usage_says n h = said (tagged tags.BitString (leaf (named 9))) uses n refl refl (use_valid n h) (key_usage_in _)

authority_says : (answers : Bool) → weigh Bound (usage_extension (authority_uses answers)) ≡ uses (authority_uses answers)
authority_says true = usage_says (authority_uses true) (lit< tt)
authority_says false = usage_says (authority_uses false) (lit< tt)

signature_says : weigh Bound (usage_extension digital_signature) ≡ uses digital_signature
signature_says = usage_says digital_signature (lit< tt)

-- The key identifiers aren't checked.
authority_key_says : (k : PublicKey) → weigh Bound (authority_key_extension k) ≡ unweighed
unfolding identifier_octets arc_octets digits digits_within marked
authority_key_says k = refl

subject_key_says : (k : PublicKey) → weigh Bound (subject_key_extension k) ≡ unweighed
unfolding identifier_octets arc_octets digits digits_within marked
subject_key_says k = refl

-- BasicConstraints.

constraints_say : (ca : Bool) (p : Option ℕ) → IfSome p (λ n. n < 2 ^ 8) → weigh Bound (constraints_extension ca (plain_option (λ n. pos n) p)) ≡ constraints ca p
unfolding identifier_octets arc_octets digits digits_within marked
constraints_say ca None h = said basic_constraints constraints_of (ca, (None, tt)) refl refl (constraints_valid ca None tt) (basic_constraints_in _)
constraints_say ca (Some n) h = said basic_constraints constraints_of (ca, (Some (pos n), tt)) refl refl (constraints_valid ca (Some n) h) (basic_constraints_in _)

-- ExtendedKeyUsage.

purposes_say : (clients : Bool) → weigh Bound (purposes_extension clients) ≡ purposes (profiles.purposes clients)
unfolding identifier_octets arc_octets digits digits_within marked
purposes_say clients = said (sequence_of (object_identifier Bound)) purposes (profiles.purposes clients) refl refl (purposes_valid clients) (extended_key_usage_in Bound _)

-- SubjectAltName.

text_octets : (text : List ℕ) → list_all (λ o. nat_lt o 128) text ≡ true → IsOctets text
text_octets [] h = tt
text_octets (o ∷ more) h =
    let both = and_parts (nat_lt o 128) (list_all (λ b. nat_lt b 128) more) h in
    let low : o < 128 = ltb-true o 128 both.0 in
    (omega (arith, low), text_octets more both.1)

names_fit : (dns : List (List ℕ)) → Fits (flat_map (λ n. octets_of (general_name Bound) n) (dns_names dns)) → list_all (λ text. list_all (λ o. nat_lt o 128) text) dns ≡ true
    → AllByRecursion (λ n. IsValid (general_name Bound) n) (dns_names dns)
unfolding IsValid IsContent octets_of contents
names_fit [] fits ascii = tt
names_fit (text ∷ more) fits ascii =
    let both = and_parts (list_all (λ o. nat_lt o 128) text) (list_all (λ t. list_all (λ o. nat_lt o 128) t) more) ascii in
    let first = tlv (context false 2) text in
    let rest = flat_map (λ n. octets_of (general_name Bound) n) (dns_names more) in
    ((record { within = both.0; octets = text_octets text both.0 }, lit≤ tt, fits_front first rest (first ++ rest) refl fits), names_fit more (fits_rest first rest (first ++ rest) refl fits) both.1)

names_valid : (dns : List (List ℕ)) → Fits (octets_of (general_names Bound) (dns_names dns)) → list_all (λ text. list_all (λ o. nat_lt o 128) text) dns ≡ true
    → IsValid (general_names Bound) (dns_names dns)
unfolding IsValid IsContent IsBody octets_of contents body_octets
names_valid dns fits ascii =
    (names_fit dns (fits_contents tags.Sequence (flat_map (λ n. octets_of (general_name Bound) n) (dns_names dns)) fits) ascii, lit≤ tt, fits)

names_say : (subject : PlainName) (dns : List (List ℕ)) → Fits (octets_of (general_names Bound) (dns_names dns)) → list_all (λ text. list_all (λ o. nat_lt o 128) text) dns ≡ true
    → weigh Bound (names_extension subject dns) ≡ other_names (dns_names dns)
unfolding identifier_octets arc_octets digits digits_within marked
names_say subject dns fits ascii = said (general_names Bound) other_names (dns_names dns) refl refl (names_valid dns fits ascii) (subject_alt_name_in Bound _)

-- The names have an encoding.
abbrev pub FitsFor : Role → PlainOrder → Type 0
FitsFor roles.Root p = Unit {0}
FitsFor roles.Subordinate p = Unit {0}
FitsFor roles.Subscriber p = Fits (octets_of (general_names Bound) (dns_names p.dns))

told_by : (critical : Bool) (m n : Meaning) (more rest : List Told) → m ≡ n → more ≡ rest → (critical, m) ∷ more ≡ (critical, n) ∷ rest
told_by critical m n more rest e f = ap (λ (x : Meaning). (critical, x) ∷ more) e ∙ ap (λ xs. (critical, n) ∷ xs) f

pub told_is : (role : Role) (p : PlainOrder) (k : PublicKey) → IsRight role p → FitsFor role p → map told (extensions_for role p k) ≡ told_for role p
told_is roles.Root p k right fits =
    told_by false _ _ _ _ (authority_key_says p.key) (told_by true _ _ _ _ (constraints_say true None tt) (told_by true _ _ _ _ (authority_says p.answers)
    (told_by false _ _ _ _ (subject_key_says p.key) refl)))
told_is roles.Subordinate p k right fits =
    told_by false _ _ _ _ (authority_key_says k) (told_by true _ _ _ _ (constraints_say true p.path right.short) (told_by true _ _ _ _ (authority_says p.answers)
    (told_by false _ _ _ _ (subject_key_says p.key) (told_by false _ _ _ _ (purposes_say p.clients) refl))))
told_is roles.Subscriber p k right fits =
    told_by (length p.subject == 0) _ _ _ _ (names_say p.subject p.dns fits right.names.1) (told_by false _ _ _ _ (authority_key_says k) (told_by false _ _ _ _ (purposes_say p.clients)
    (told_by true _ _ _ _ (constraints_say false None tt) (told_by true _ _ _ _ signature_says refl))))

any_told : (test : Told → Bool) (es : List PlainExtension) → list_any (λ e. test (told e)) es ≡ list_any test (map told es)
any_told test [] = refl
any_told test (e ∷ es) = ap (λ b. test (told e) || b) (any_told test es)

all_told : (test : Told → Bool) (es : List PlainExtension) → list_all (λ e. test (told e)) es ≡ list_all test (map told es)
all_told test [] = refl
all_told test (e ∷ es) = ap (λ b. test (told e) && b) (all_told test es)

-- A root lists no key purposes.
abbrev pub allows_in : Role → List ℕ → PlainOrder → Bool
allows_in roles.Root purpose p = true
allows_in roles.Subordinate purpose p = allows_one purpose p
allows_in roles.Subscriber purpose p = allows_one purpose p

one_of : (a : Bool) → ((a || false) || false) ≡ (a || false)
one_of true = refl
one_of false = refl

two_of : (a b : Bool) → ((a || false) || ((b || false) || false)) ≡ (a || b)
two_of true b = refl
two_of false true = refl
two_of false false = refl

serving : (purpose : List ℕ) (clients : Bool) → serves purpose (purposes (profiles.purposes clients)) ≡ (owned_eq (profiles.id_kp 1) purpose || (clients && owned_eq (profiles.id_kp 2) purpose))
unfolding identifier_octets arc_octets digits digits_within marked
serving purpose true = two_of (owned_eq (profiles.id_kp 1) purpose) (owned_eq (profiles.id_kp 2) purpose)
serving purpose false = one_of (owned_eq (profiles.id_kp 1) purpose)

-- The findings about the extensions of a role.
module _ (role : Role) (p : PlainOrder) (k : PublicKey) (right : IsRight role p) (fits : FitsFor role p) where
  any_is : (test : Told → Bool) → list_any (λ e. test (told e)) (extensions_for role p k) ≡ list_any test (told_for role p)
  any_is test = any_told test (extensions_for role p k) ∙ ap (list_any test) (told_is role p k right fits)

  all_is : (test : Told → Bool) → list_all (λ e. test (told e)) (extensions_for role p k) ≡ list_all test (told_for role p)
  all_is test = all_told test (extensions_for role p k) ∙ ap (list_all test) (told_is role p k right fits)

  none_malformed : (r : Role) → list_any (λ (t : Told). is_malformed t.1) (told_for r p) ≡ false
  none_malformed roles.Root = refl
  none_malformed _ = refl

  pub well_formed : list_any (λ e. is_malformed (weigh Bound e)) (extensions_for role p k) ≡ false
  well_formed = any_is (λ t. is_malformed t.1) ∙ none_malformed role

  no_and : (b : Bool) → (b && false) ≡ false
  no_and true = refl
  no_and false = refl

  none_unweighed : (r : Role) → list_any (λ (t : Told). t.0 && is_unweighed t.1) (told_for r p) ≡ false
  none_unweighed roles.Root = refl
  none_unweighed roles.Subordinate = refl
  none_unweighed roles.Subscriber = ap (λ b. b || false) (no_and (length p.subject == 0))

  pub all_weighed : list_any (λ e. is_critical e && is_unweighed (weigh Bound e)) (extensions_for role p k) ≡ false
  all_weighed = any_is (λ t. t.0 && is_unweighed t.1) ∙ none_unweighed role

  certifying : (answers : Bool) → may_certify (uses (authority_uses answers)) ≡ true
  certifying true = refl
  certifying false = refl

  authority_by : (r : Role) → r ≢ roles.Subscriber → (list_any (λ (t : Told). is_authority t.1) (told_for r p) && list_all (λ (t : Told). may_certify t.1) (told_for r p)) ≡ true
  authority_by roles.Root other = ap (λ b. b && true) (certifying p.answers)
  authority_by roles.Subordinate other = ap (λ b. b && true) (certifying p.answers)
  authority_by roles.Subscriber other = absurd (other refl)

  -- The certificates of a root and of the CAs below it are those of CAs whose keys may sign
  -- certificates.
  pub authority : role ≢ roles.Subscriber
      → (list_any (λ e. is_authority (weigh Bound e)) (extensions_for role p k) && list_all (λ e. may_certify (weigh Bound e)) (extensions_for role p k)) ≡ true
  authority other =
      ap (λ b. b && list_all (λ e. may_certify (weigh Bound e)) (extensions_for role p k)) (any_is (λ t. is_authority t.1))
      ∙ ap (λ b. list_any (λ (t : Told). is_authority t.1) (told_for role p) && b) (all_is (λ t. may_certify t.1))
      ∙ authority_by role other

  lengths_by : (r : Role) (n : ℕ) → list_all (λ (t : Told). is_within n (path_length t.1)) (told_for r p) ≡ is_within n (path_in r p)
  lengths_by roles.Root n = refl
  lengths_by roles.Subordinate n = sym (and_yes (is_within n p.path))
  lengths_by roles.Subscriber n = refl

  -- The path length is that of the order.
  pub lengths : (n : ℕ) → list_all (λ e. is_within n (path_length (weigh Bound e))) (extensions_for role p k) ≡ is_within n (path_in role p)
  lengths n = all_is (λ t. is_within n (path_length t.1)) ∙ lengths_by role n

  -- The key purposes are those of the order.
  serves_by : (r : Role) (purpose : List ℕ) → list_all (λ (t : Told). serves purpose t.1) (told_for r p) ≡ allows_in r purpose p
  serves_by roles.Root purpose = refl
  serves_by roles.Subordinate purpose = sym (and_yes (serves purpose (purposes (profiles.purposes p.clients)))) ∙ serving purpose p.clients
  serves_by roles.Subscriber purpose = sym (and_yes (serves purpose (purposes (profiles.purposes p.clients)))) ∙ serving purpose p.clients

  pub serves_as : (purpose : List ℕ) → list_all (λ e. serves purpose (weigh Bound e)) (extensions_for role p k) ≡ allows_in role purpose p
  serves_as purpose = all_is (λ t. serves purpose t.1) ∙ serves_by role purpose

  distinct_by : (r : Role) → are_distinct (extensions_for r p k) ≡ true
  unfolding identifier_octets arc_octets digits digits_within marked
  distinct_by roles.Root = refl
  distinct_by _ = refl

  pub distinct : are_distinct (extensions_for role p k) ≡ true
  distinct = distinct_by role
