-- Lemmas for `equality_of_parts_is_of_values`: `==` of the parts of certificates compares their
-- abstract values.
use Rattle.std.proofs.Common.{◌≡◌, List, Bool, true, refl, ap, subst, inl, inr, arith, pos, nat_eq, ◌&&◌, ℕ, Option, Some, None}
use Rattle.std.specs.Cmp.{nat_eq_equiv}
use Rattle.std.specs.Cmp.Lexicographic.{pointwise, bytes_decides}
use Rattle.der_core.specs.Oid.Bound.{Bound}
use Rattle.der_core.specs.Dates.{Civil}
use Rattle.der_core.proofs.ValueEquality.{Alike, default, exact, flags, last, leaves, list, marked, next, option, behind}
use Rattle.der_types.proofs.AnyLaws.{values, one_value, same_values}
use Rattle.x509_cert_parts.specs.Grammar.{algorithm_identifier, extension, extensions, public_key_info, time, validity, version, PublicKey}
use Rattle.x509_cert_parts.specs.Views.{algorithm_plain, extension_plain, extensions_plain, key_plain, time_value, validity_plain, version_number}
use Rattle.x509_cert_parts.specs.contracts.algorithm_identifier.AlgorithmIdentifierPartialEq.TheImpl.{eq-value as same_algorithm}
use Rattle.x509_cert_parts.specs.contracts.extension.ExtensionPartialEq.TheImpl.{eq-value as same_extension}
use Rattle.x509_cert_parts.specs.contracts.subject_public_key_info.SubjectPublicKeyInfoPartialEq.TheImpl.{eq-value as same_key}
use Rattle.x509_cert_parts.specs.contracts.time.TimePartialEq.TheImpl.{eq-value as same_time}
use Rattle.x509_cert_parts.specs.contracts.version.VersionPartialEq.TheImpl.{eq-value as same_version}
use Rattle.x509_cert_parts.specs.declared.algorithm_identifier.AlgorithmIdentifier.{AlgorithmIdentifier}
use Rattle.x509_cert_parts.specs.declared.extension.Extension.{Extension}
use Rattle.x509_cert_parts.specs.declared.subject_public_key_info.SubjectPublicKeyInfo.{SubjectPublicKeyInfo}
use Rattle.x509_cert_parts.specs.declared.time.Time.{Time}
use Rattle.x509_cert_parts.specs.declared.time.Time.TheVariants as times
use Rattle.x509_cert_parts.specs.declared.validity.Validity.{Validity}
use Rattle.x509_cert_parts.specs.declared.version.Version.{Version}
use Rattle.x509_cert_parts.specs.declared.version.Version.TheVariants as versions
use Rattle.std.specs.Option.{option_eq}
use Rattle.std.proofs.lemmas.Bool.{and_parts}
use Rattle.der_core.proofs.Oid.PrefixLaws.{same_octets}
use Rattle.der_core.specs.Oid.IdentifierOctets.{IsIdentifier, identifier_octets}
use Rattle.der_core.specs.BitStrings.{Bits, bit_contents}
use Rattle.der_core.specs.Grammar.{plain_option}
use Rattle.der_core.specs.Shapes.{AnyValue}

pub algorithms : (x y : AlgorithmIdentifier) → Alike (algorithm_identifier Bound) (same_algorithm.it x y) (algorithm_plain x) (algorithm_plain y)
algorithms x y = behind (next leaves (last (option values x.parameters y.parameters)))

pub keys : (x y : SubjectPublicKeyInfo) → Alike (public_key_info Bound) (same_key.it x y) (key_plain x) (key_plain y)
keys x y = behind (next (algorithms x.algorithm y.algorithm) (last leaves))

pub each_extension : (x y : Extension) → Alike (extension Bound) (same_extension.it x y) (extension_plain x) (extension_plain y)
each_extension x y = behind (next leaves (next (default (flags x.critical y.critical)) (last leaves)))

pub all_extensions : (xs ys : List Extension) → Alike (extensions Bound) (pointwise same_extension.it xs ys) (extensions_plain xs) (extensions_plain ys)
all_extensions xs ys = behind (list each_extension xs ys)

abbrev same_date : Civil → Civil → Bool
same_date a b =
    nat_eq a.year b.year && (nat_eq a.month b.month && (nat_eq a.day b.day && (nat_eq a.hour b.hour && (nat_eq a.minute b.minute && nat_eq a.second b.second))))

pub one_date : (a b : Civil) → same_date a b ≡ true → a ≡ b
one_date a b e =
    let year : a.year ≡ b.year = grind (arith, e) in
    let month : a.month ≡ b.month = grind (arith, e) in
    let day : a.day ≡ b.day = grind (arith, e) in
    let hour : a.hour ≡ b.hour = grind (arith, e) in
    let minute : a.minute ≡ b.minute = grind (arith, e) in
    let second : a.second ≡ b.second = grind (arith, e) in
    λ i. record { year = year i; month = month i; day = day i; hour = hour i; minute = minute i; second = second i }

pub date_alike : (a b : Civil) → a ≡ b → same_date a b ≡ true
date_alike a b e =
    subst (λ c. same_date a c ≡ true) e
    (rw (nat_eq_equiv.refl a.year, nat_eq_equiv.refl a.month, nat_eq_equiv.refl a.day, nat_eq_equiv.refl a.hour, nat_eq_equiv.refl a.minute, nat_eq_equiv.refl a.second) refl)

pub each_time : (x y : Time) → Alike time (same_time.it x y) (time_value x) (time_value y)
each_time (times.UtcTime a) (times.UtcTime b) = exact (λ e. ap inl (one_date a b e)) (λ e. date_alike a b cc)
each_time (times.GeneralTime a) (times.GeneralTime b) = exact (λ e. ap inr (one_date a b e)) (λ e. date_alike a b cc)
each_time x y = exact (λ e. absurd cc) (λ e. absurd cc)

pub validities : {P : Type 0} (x y : Validity P) → Alike validity (same_time.it x.not_before y.not_before && (same_time.it x.not_after y.not_after && true)) (validity_plain x) (validity_plain y)
validities x y = behind (next (each_time x.not_before y.not_before) (marked (last (each_time x.not_after y.not_after))))

pub each_version : (x y : Version) → Alike version (same_version.it x y) (pos (version_number x)) (pos (version_number y))
each_version versions.V1 versions.V1 = exact (λ e. refl) (λ e. refl)
each_version versions.V2 versions.V2 = exact (λ e. refl) (λ e. refl)
each_version versions.V3 versions.V3 = exact (λ e. refl) (λ e. refl)
each_version x y = exact (λ e. absurd cc) (λ e. absurd cc)

-- Keys whose parts are equal are equal.

abbrev pub same_parts : List ℕ → List ℕ → Option AnyValue → Option AnyValue → Bits → Bits → Bool
same_parts a b p q x y = (pointwise nat_eq (identifier_octets a) (identifier_octets b) && option_eq same_values p q) && pointwise nat_eq (bit_contents x) (bit_contents y)

abbrev pub key_by : List ℕ → Option AnyValue → Bits → PublicKey
key_by a p x = ((a, (plain_option (λ v. v) p, tt)), (x, tt))

one_parameters : (p q : Option AnyValue) → option_eq same_values p q ≡ true → p ≡ q
one_parameters None None e = refl
one_parameters (Some x) (Some y) e = ap (λ (v : AnyValue). Some v) (one_value x y e)
one_parameters p q e = cc

one_bits : (x y : Bits) → pointwise nat_eq (bit_contents x) (bit_contents y) ≡ true → x ≡ y
one_bits x y e =
    let same : bit_contents x ≡ bit_contents y = (bytes_decides (bit_contents x) (bit_contents y)).0 e in
    let unused : x.unused ≡ y.unused = cc in
    let octets : x.octets ≡ y.octets = cc in
    λ i. record { unused = unused i; octets = octets i }

pub one_key : (a b : List ℕ) (p q : Option AnyValue) (x y : Bits) → IsIdentifier Bound a → IsIdentifier Bound b → same_parts a b p q x y ≡ true → key_by a p x ≡ key_by b q y
one_key a b p q x y left right e =
    let whole = and_parts (pointwise nat_eq (identifier_octets a) (identifier_octets b) && option_eq same_values p q) (pointwise nat_eq (bit_contents x) (bit_contents y)) e in
    let algorithm = and_parts (pointwise nat_eq (identifier_octets a) (identifier_octets b)) (option_eq same_values p q) whole.0 in
    let arcs : a ≡ b = same_octets Bound a b left right ((bytes_decides (identifier_octets a) (identifier_octets b)).0 algorithm.0) in
    let parameters : p ≡ q = one_parameters p q algorithm.1 in
    let bits : x ≡ y = one_bits x y whole.1 in
    rw (arcs, parameters, bits) refl

abbrev key_of : List ℕ → Option AnyValue → Bits → SubjectPublicKeyInfo
key_of a p x = record { algorithm = record { oid = a; parameters = p }; subject_public_key = x }

pub key_again : (a b : List ℕ) (p q : Option AnyValue) (x y : Bits) → key_by a p x ≡ key_by b q y → same_parts a b p q x y ≡ true
key_again a b p q x y e = (keys (key_of a p x) (key_of b q y)).itself e
