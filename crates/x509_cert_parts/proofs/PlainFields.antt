-- Lemmas for fields whose headers have two bytes: the fast paths decode them as the grammar says.
use Rattle.std.proofs.Common.{◌≡◌, ℕ, ◌-◌, ◌<◌, ◌≤◌, Bool, true, false, List, [], ◌∷◌, ◌++◌, length, get_or, take, drop, take_all, take-append-drop, length-take-le, append-nil, Option, Some, None, Ok, refl, sym, ap, ◌∙◌, arith}
use Rattle.std.proofs.lemmas.List.{drop_all}
use Rattle.der_core.specs.Oid.Bound.{Bound}
use Rattle.der_core.specs.Oid.IdentifierOctets.{identifier_octets, IsIdentifier}
use Rattle.der_core.specs.EncodingRulesTypes.EncodingRules.{EncodingRules}
use Rattle.der_core.specs.TagTypes.Tag.{Tag}
use Rattle.der_core.specs.TagTypes.Tag.TheVariants as tags
use Rattle.der_core.specs.Grammar.{read_body_by, read_body}
use Rattle.der_core.specs.Heads.{tlv, head_octets}
use Rattle.der_core.specs.Octets.{IsOctets}
use Rattle.der_core.specs.Reading.{State, IsDer, read_body_at}
use Rattle.der_core.specs.Shapes.{Body, BodyValue, AnyValue, optional, any, octets_of, contents, body_octets, unless, IsValid, IsContent, IsBody}
use Rattle.der_core.specs.Spelling.{is_body_apart, are_body_enough}
use Rattle.der_core.specs.Tags.{tag_octets}
use Rattle.der_core.proofs.Complete.{complete_body}
use Rattle.der_core.proofs.HeadLaws.{length-short}
use Rattle.x509_cert_parts.specs.Grammar.{algorithm_fields, extension_fields, false_by_default, object_identifier, octet_string}

-- A value whose header has two bytes.
short_tlv : (t : Tag) (b : ℕ) (c : List ℕ) → tag_octets t ≡ b ∷ [] → length c < 128 → tlv t c ≡ b ∷ length c ∷ c
unfolding tlv head_octets
short_tlv t b c e l = rw (e, length-short (length c) l) refl

-- The OID that the code finds at the beginning.
pub identifier_first : (w identifier behind : List ℕ) → 2 ≤ length w → get_or w 0 0 ≡ 0x06 → get_or w 1 0 ≤ length (take (length w - 2) (drop 2 w))
    → identifier ≡ take (get_or w 1 0) (take (length w - 2) (drop 2 w)) → behind ≡ drop (get_or w 1 0) (take (length w - 2) (drop 2 w))
    → w ≡ 0x06 ∷ length identifier ∷ (identifier ++ behind)
identifier_first (a ∷ d ∷ r) identifier behind two one most front back =
    let k = length (a ∷ d ∷ r) - 2 in
    let all : take k r ≡ r = take_all k r (omega arith) in
    let front_of : identifier ≡ take d r = front ∙ ap (take d) all in
    let back_of : behind ≡ drop d r = back ∙ ap (drop d) all in
    let joined : identifier ++ behind ≡ r = ap (λ t. t ++ behind) front_of ∙ ap (λ t. take d r ++ t) back_of ∙ take-append-drop d r in
    let within : d ≤ length r = omega (arith, most, ap length all) in
    let counted : d ≡ length identifier = sym (ap length front_of ∙ length-take-le d r within) in
    ap (λ n. n ∷ d ∷ r) one ∙ ap (λ n. 0x06 ∷ n ∷ r) counted ∙ ap (λ t. 0x06 ∷ length identifier ∷ t) (sym joined)
identifier_first _ identifier behind two one most front back = absurd (omega arith)

identifier_field : (arcs identifier : List ℕ) → IsIdentifier Bound arcs → length identifier ≤ 39 → identifier ≡ identifier_octets arcs
    → IsValid (object_identifier Bound) arcs × (octets_of (object_identifier Bound) arcs ≡ 0x06 ∷ length identifier ∷ identifier)
unfolding octets_of contents IsValid IsContent tag_octets
identifier_field arcs identifier is most e =
    let few = ap length e in
    let spelled : tlv tags.ObjectIdentifier (identifier_octets arcs) ≡ 0x06 ∷ length identifier ∷ identifier =
    short_tlv tags.ObjectIdentifier 0x06 (identifier_octets arcs) refl (omega (arith, few, most)) ∙ ap (λ t. 0x06 ∷ length t ∷ t) (sym e) in
    (((is, omega (arith, few, most)), omega arith, omega (arith, ap length spelled, most)), spelled)

-- The parameters of an algorithm.
pub no_parameters : IsValid (optional any) None × ([] ≡ octets_of (optional any) None)
unfolding octets_of IsValid
no_parameters = (tt, refl)

abbrev pub null : AnyValue
null = record { tag = tags.Null; contents = [] }

pub null_parameters : (w : List ℕ) → length w ≡ 2 → get_or w 0 0 ≡ 0x05 → get_or w 1 0 ≡ 0x00 → IsValid (optional any) (Some null) × (w ≡ octets_of (optional any) (Some null))
unfolding octets_of IsValid tag_octets
null_parameters (a ∷ b ∷ []) two one other =
    let spelled : tlv tags.Null [] ≡ 0x05 ∷ 0x00 ∷ [] = short_tlv tags.Null 0x05 [] refl (omega arith) in
    ((tt, omega arith, omega (arith, ap length spelled)), ap (λ n. n ∷ b ∷ []) one ∙ ap (λ n. 0x05 ∷ n ∷ []) other ∙ sym spelled)
null_parameters _ two one other = absurd (omega arith)

pub algorithm_body : (arcs identifier behind w : List ℕ) (p : Option AnyValue) → IsIdentifier Bound arcs → length identifier ≤ 39 → identifier ≡ identifier_octets arcs
    → w ≡ 0x06 ∷ length identifier ∷ (identifier ++ behind) → IsValid (optional any) p → behind ≡ octets_of (optional any) p
    → IsBody (algorithm_fields Bound) (arcs, (p, tt)) × (body_octets (algorithm_fields Bound) (arcs, (p, tt)) ≡ w)
unfolding body_octets IsBody
algorithm_body arcs identifier behind w p is most e whole valid spelled =
    let oid = identifier_field arcs identifier is most e in
    let last : octets_of (optional any) p ++ [] ≡ behind = append-nil (octets_of (optional any) p) ∙ sym spelled in
    ((oid.0, (valid, tt)), ap (λ t. t ++ (octets_of (optional any) p ++ [])) oid.1 ∙ ap (λ t. (0x06 ∷ length identifier ∷ identifier) ++ t) last ∙ sym whole)

-- A BOOLEAN DEFAULT FALSE that is TRUE.
boolean_spelled : (b : ℕ) → tlv tags.Boolean (b ∷ []) ≡ 0x01 ∷ 0x01 ∷ b ∷ []
unfolding tag_octets
boolean_spelled b = short_tlv tags.Boolean 0x01 (b ∷ []) refl (omega arith)

false_spelled : octets_of false_by_default false ≡ []
unfolding octets_of contents unless
false_spelled = rw (boolean_spelled 0) refl

pub false_first : (w : List ℕ) → w ≡ octets_of false_by_default false ++ w
false_first w = ap (λ t. t ++ w) (sym false_spelled)

true_spelled : octets_of false_by_default true ≡ 0x01 ∷ 0x01 ∷ 0xff ∷ []
unfolding octets_of contents unless
true_spelled = rw (boolean_spelled 255) refl

pub true_first : (w behind : List ℕ) → 3 ≤ length w → get_or w 0 0 ≡ 0x01 → get_or w 1 0 ≡ 0x01 → get_or w 2 0 ≡ 0xff → behind ≡ take (length w - 3) (drop 3 w)
    → w ≡ octets_of false_by_default true ++ behind
true_first (a ∷ b ∷ c ∷ r) behind three one two last is =
    let all : behind ≡ r = is ∙ take_all (length (a ∷ b ∷ c ∷ r) - 3) r (omega arith) in
    ap (λ n. n ∷ b ∷ c ∷ r) one ∙ ap (λ n. 0x01 ∷ n ∷ c ∷ r) two ∙ ap (λ n. 0x01 ∷ 0x01 ∷ n ∷ r) last ∙ ap (λ t. 0x01 ∷ 0x01 ∷ 0xff ∷ t) (sym all) ∙ ap (λ t. t ++ behind) (sym true_spelled)
true_first _ behind three one two last is = absurd (omega arith)

boolean_valid : (b : Bool) → IsValid false_by_default b
unfolding IsValid IsContent contents
boolean_valid false = (tt, omega arith, omega (arith, ap length (boolean_spelled 0)))
boolean_valid true = (tt, omega arith, omega (arith, ap length (boolean_spelled 255)))

octets_field : (value : List ℕ) → IsOctets value → length value < 128 → IsValid octet_string value × (octets_of octet_string value ≡ 0x04 ∷ length value ∷ value)
unfolding octets_of contents IsValid IsContent tag_octets
octets_field value are few =
    let spelled : tlv tags.OctetString value ≡ 0x04 ∷ length value ∷ value = short_tlv tags.OctetString 0x04 value refl few in
    ((are, omega arith, omega (arith, ap length spelled, few)), spelled)

-- The octet string that the code finds after it.
octets_first : (w value : List ℕ) → 2 ≤ length w → get_or w 0 0 ≡ 0x04 → get_or w 1 0 ≡ length value → value ≡ take (length w - 2) (drop 2 w) → w ≡ 0x04 ∷ length value ∷ value
octets_first (a ∷ b ∷ r) value two one counted is =
    let all : value ≡ r = is ∙ take_all (length (a ∷ b ∷ r) - 2) r (omega arith) in
    ap (λ n. n ∷ b ∷ r) one ∙ ap (λ n. 0x04 ∷ n ∷ r) counted ∙ ap (λ t. 0x04 ∷ length value ∷ t) (sym all)
octets_first _ value two one counted is = absurd (omega arith)

pub extension_body : (arcs identifier behind last value w : List ℕ) (critical : Bool) → IsIdentifier Bound arcs → length identifier ≤ 39 → identifier ≡ identifier_octets arcs
    → w ≡ 0x06 ∷ length identifier ∷ (identifier ++ behind) → behind ≡ octets_of false_by_default critical ++ last
    → 2 ≤ length last → get_or last 0 0 ≡ 0x04 → get_or last 1 0 < 128 → get_or last 1 0 ≡ length value → value ≡ take (length last - 2) (drop 2 last) → IsOctets value
    → IsBody (extension_fields Bound) (arcs, (critical, (value, tt))) × (body_octets (extension_fields Bound) (arcs, (critical, (value, tt))) ≡ w)
unfolding body_octets IsBody
extension_body arcs identifier behind last value w critical is most e whole marked two one few counted found are =
    let oid = identifier_field arcs identifier is most e in
    let octets = octets_field value are (omega (arith, few, counted)) in
    let inner : octets_of octet_string value ++ [] ≡ last = append-nil (octets_of octet_string value) ∙ octets.1 ∙ sym (octets_first last value two one counted found) in
    let middle : octets_of false_by_default critical ++ (octets_of octet_string value ++ []) ≡ behind = ap (λ t. octets_of false_by_default critical ++ t) inner ∙ sym marked in (
      (oid.0, (boolean_valid critical, (octets.0, tt))),
      ap (λ t. t ++ (octets_of false_by_default critical ++ (octets_of octet_string value ++ []))) oid.1 ∙ ap (λ t. (0x06 ∷ length identifier ∷ identifier) ++ t) middle ∙ sym whole,
    )

-- Fields are decoded if their encodings are all that a reader of DER has left.
pub all_read : (b : Body) (s : State) (n : ℕ) (v : BodyValue b) → is_body_apart b ≡ true → are_body_enough b s.room ≡ true → IsDer s → length s.rest ≤ n → IsBody b v → body_octets b v ≡ s.rest
    → read_body_at s b s.rest ≡ Ok (v, drop n s.rest)
all_read b s n v apart enough der most valid octets =
    ap (λ (r : EncodingRules). read_body_by r b s.room s.rest) der ∙ ap (read_body b s.room) (sym octets) ∙ complete_body b s.room v apart enough valid
    ∙ ap (λ (w : List ℕ). Ok (v, w)) (sym (drop_all n s.rest most))
