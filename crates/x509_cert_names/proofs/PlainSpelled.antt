-- Lemmas for attributes whose headers have two bytes each: the fast path decodes and encodes them
-- as the grammar says.
use Rattle.std.proofs.Common.{Bool, Result, Err, lt-ltb, ◌≡◌, ℕ, zero, suc, ◌+◌, ◌-◌, ◌<◌, ◌≤◌, List, [], ◌∷◌, ◌++◌, length, Ok, refl, sym, ap, ◌∙◌, arith, append-nil, length-append, length-take-le, subst, take, take_all, take-append-drop, drop, get_or}
use Rattle.der_core.specs.Oid.Bound.{Bound}
use Rattle.der_core.specs.Oid.IdentifierOctets.{identifier_octets, IsIdentifier}
use Rattle.der_core.specs.Heads.{tlv, head_octets, length_octets}
use Rattle.der_core.specs.Octets.{◌>>=◌, IsOctets}
use Rattle.der_core.specs.ErrorTypes.Error.{Error}
use Rattle.der_core.specs.ErrorTypes.ErrorKind.{ErrorKind}
use Rattle.der_core.specs.Shapes.{octets_of, contents, body_octets, Spells, IsValid}
use Rattle.der_core.specs.Tags.{tag_octets, tag_at, leading_octet, number_of}
use Rattle.der_core.specs.Writing.{Out, put, size, write, Writes}
use Rattle.der_core.specs.TagTypes.Tag.{Tag}
use Rattle.der_core.specs.TagTypes.Tag.TheVariants as tags
use Rattle.der_core.proofs.Results.{IsBytes, bytes_drop}
use Rattle.der_core.proofs.TagLaws.{tag_sound}
use Rattle.der_core.proofs.Written.{sized, put-append, put_some, put_written}
use Rattle.x509_cert_names.specs.Names.{type_and_value}
use Rattle.x509_cert_names.specs.Pairs.{pair}
use Rattle.x509_cert_names.specs.PlainParts.{IsPlain}

-- A header of two bytes.
short_tlv : (t : Tag) (b : ℕ) (c : List ℕ) → tag_octets t ≡ b ∷ [] → length c < 128 → tlv t c ≡ b ∷ length c ∷ c
unfolding tlv head_octets length_octets
short_tlv t b c e l = rw (e, lt-ltb (length c) 128 l) refl

pub plain_spells : (arcs : List ℕ) (tag : Tag) (identifier value w : List ℕ) → IsPlain identifier tag value w → IsIdentifier Bound arcs → length identifier ≤ 39 → identifier ≡ identifier_octets arcs
    → Spells (type_and_value Bound) (pair arcs (record { tag = tag; contents = value })) w
unfolding octets_of contents body_octets IsValid tag_octets
plain_spells arcs tag identifier value w p is most e =
    let oid = short_tlv tags.ObjectIdentifier 0x06 (identifier_octets arcs) refl (omega (arith, ap length e, most)) in
    let any = short_tlv tag p.leading value p.tagged (omega (arith, p.short)) in
    let inside = tlv tags.ObjectIdentifier (identifier_octets arcs) ++ (tlv tag value ++ []) in
    let parts : inside ≡ 0x06 ∷ length identifier ∷ (identifier ++ (p.leading ∷ length value ∷ value)) =
    ap (λ t. t ++ (tlv tag value ++ [])) oid ∙ ap (λ t. (0x06 ∷ length (identifier_octets arcs) ∷ identifier_octets arcs) ++ t) (append-nil (tlv tag value) ∙ any)
    ∙ ap (λ t. 0x06 ∷ length t ∷ (t ++ (p.leading ∷ length value ∷ value))) (sym e) in
    let long : length inside ≡ length identifier + length value + 4 = ap length parts ∙ omega (arith, length-append identifier (p.leading ∷ length value ∷ value)) in
    let all = short_tlv tags.Sequence 0x30 inside refl (omega (arith, long, p.short)) in
    let whole : tlv tags.Sequence inside ≡ w = all ∙ ap (λ n. 0x30 ∷ n ∷ inside) long ∙ ap (λ t. 0x30 ∷ (length identifier + length value + 4) ∷ t) parts ∙ sym p.whole in
    let few : length (tlv tags.Sequence inside) ≡ length identifier + length value + 6 = ap length all ∙ omega (arith, long) in
    record {
      valid = (
        (
          ((is, omega (arith, ap length e, most)), omega arith, omega (arith, ap length oid, ap length e, most)),
          ((p.are, p.known, omega (arith, ap length any, p.short)), tt),
        ),
        omega arith,
        omega (arith, few, p.short),
      );
      octets = sym whole;
    }

-- The bytes of such an attribute are its encoding.
plain : (arcs : List ℕ) (tag : Tag) (value : List ℕ) → IsIdentifier Bound arcs → length (identifier_octets arcs) ≤ 39 → number_of tag < 31 → IsOctets value
    → length (identifier_octets arcs) + length value + 4 < 128
    → Spells (type_and_value Bound) (pair arcs (record { tag = tag; contents = value }))
    (0x30 ∷ (length (identifier_octets arcs) + length value + 4) ∷ 0x06 ∷ length (identifier_octets arcs) ∷ (identifier_octets arcs ++ (leading_octet tag ∷ length value ∷ value)))
unfolding tag_octets
plain arcs tag value is most low are short =
    let i = identifier_octets arcs in
    let w = 0x30 ∷ (length i + length value + 4) ∷ 0x06 ∷ length i ∷ (i ++ (leading_octet tag ∷ length value ∷ value)) in
    let p : IsPlain i tag value w = record { leading = leading_octet tag; whole = refl; short = short; tagged = rw (lt-ltb (number_of tag) 31 low) refl; known = omega (arith, low); are = are } in
    plain_spells arcs tag i value w p is most refl

-- The length of the encoding.
pub plain_size : (arcs : List ℕ) (tag : Tag) (value : List ℕ) → IsIdentifier Bound arcs → length (identifier_octets arcs) ≤ 39 → number_of tag < 31 → IsOctets value
    → length (identifier_octets arcs) + length value + 4 < 128
    → size (type_and_value Bound) (pair arcs (record { tag = tag; contents = value })) ≡ Ok (length (identifier_octets arcs) + length value + 6)
plain_size arcs tag value is most low are short =
    let i = identifier_octets arcs in
    let s = plain arcs tag value is most low are short in
    let w = 0x30 ∷ (length i + length value + 4) ∷ 0x06 ∷ length i ∷ (i ++ (leading_octet tag ∷ length value ∷ value)) in
    let long : length w ≡ length i + length value + 6 = omega (arith, length-append i (leading_octet tag ∷ length value ∷ value)) in
    sized (type_and_value Bound) (pair arcs (record { tag = tag; contents = value })) s.valid ∙ ap (λ (u : List ℕ). Ok (length u)) (sym s.octets) ∙ ap (λ n. Ok n) long

-- The parts that the code finds are those of such an attribute.
found : (a b c d third count : ℕ) (identifier value rest : List ℕ) (tag : Tag) → a ≡ 0x30 → c ≡ 0x06 → b < 128 → b ≡ length rest + 2 → d ≡ length identifier
    → rest ≡ identifier ++ (third ∷ count ∷ value) → count ≡ length value → third < 256 → ((u : List ℕ) → tag_at (third ∷ u) ≡ Ok (tag, u)) → IsOctets value
    → IsPlain identifier tag value (a ∷ b ∷ c ∷ d ∷ rest)
found a b c d third count identifier value rest tag one two small inside counted f valued below read are =
    let sound = tag_sound (third ∷ []) tag [] bytes (read []) in
    let long : length rest ≡ length identifier + length value + 2 = ap length f ∙ length-append identifier (third ∷ count ∷ value) ∙ omega arith in
    let at : b ≡ length identifier + length value + 4 = inside ∙ omega (arith, long) in
    record {
      leading = third;
      whole = ap (λ n. n ∷ b ∷ c ∷ d ∷ rest) one ∙ ap (λ n. 0x30 ∷ n ∷ c ∷ d ∷ rest) at ∙ ap (λ n. 0x30 ∷ (length identifier + length value + 4) ∷ n ∷ d ∷ rest) two
          ∙ ap (λ n. 0x30 ∷ (length identifier + length value + 4) ∷ 0x06 ∷ n ∷ rest) counted
          ∙ ap (λ t. 0x30 ∷ (length identifier + length value + 4) ∷ 0x06 ∷ length identifier ∷ t) (f ∙ ap (λ n. identifier ++ (third ∷ n ∷ value)) valued);
      short = omega (arith, at, small);
      tagged = sym (sound.0 ∙ append-nil (tag_octets tag));
      known = sound.1;
      are = are;
    }
  where
    bytes : IsBytes (third ∷ [])
    bytes zero = below
    bytes (suc i) = omega arith

behind_read : (identifier behind value rest : List ℕ) (d : ℕ) → identifier ++ behind ≡ rest → 2 ≤ length behind → value ≡ take (length behind - 2) (drop 2 behind)
    → rest ≡ identifier ++ (get_or behind 0 0 ∷ get_or behind 1 0 ∷ value)
behind_read identifier (t ∷ n ∷ u) value rest d e two v = sym e ∙ ap (λ s. identifier ++ (t ∷ n ∷ s)) (sym (v ∙ take_all (length (t ∷ n ∷ u) - 2) u (omega arith)))
behind_read identifier _ value rest d e two v = absurd (omega arith)

pub parts_plain : (w identifier behind value : List ℕ) (tag : Tag) → IsBytes w → 4 ≤ length w → get_or w 0 0 ≡ 0x30 → get_or w 2 0 ≡ 0x06 → get_or w 1 0 < 128
    → get_or w 1 0 ≡ length (take (length w - 4) (drop 4 w)) + 2 → get_or w 3 0 ≤ length (take (length w - 4) (drop 4 w))
    → identifier ≡ take (get_or w 3 0) (take (length w - 4) (drop 4 w)) → behind ≡ drop (get_or w 3 0) (take (length w - 4) (drop 4 w))
    → 2 ≤ length behind → value ≡ take (length behind - 2) (drop 2 behind) → get_or behind 1 0 ≡ length value → IsOctets value
    → ((u : List ℕ) → tag_at (get_or behind 0 0 ∷ u) ≡ Ok (tag, u)) → IsPlain identifier tag value w
parts_plain (a ∷ b ∷ c ∷ d ∷ r) identifier behind value tag bytes four one two small inside most front back some v valued are read =
    let k = length (a ∷ b ∷ c ∷ d ∷ r) - 4 in
    let all : take k r ≡ r = take_all k r (omega arith) in
    let front_of : identifier ≡ take d r = front ∙ ap (take d) all in
    let back_of : behind ≡ drop d r = back ∙ ap (drop d) all in
    let joined : identifier ++ behind ≡ r = ap (λ t. t ++ behind) front_of ∙ ap (λ t. take d r ++ t) back_of ∙ take-append-drop d r in
    let within : d ≤ length r = omega (arith, most, ap length all) in
    let counted : d ≡ length identifier = sym (ap length front_of ∙ length-take-le d r within) in
    let bytes_behind : IsBytes behind = subst IsBytes (sym back_of) (bytes_drop d r (bytes_drop 4 (a ∷ b ∷ c ∷ d ∷ r) bytes)) in
    found a b c d (get_or behind 0 0) (get_or behind 1 0) identifier value r tag one two small (omega (arith, inside, ap length all)) counted (behind_read identifier behind value r d joined some v) valued
    (bytes_behind 0) read are
parts_plain _ identifier behind value tag bytes four one two small inside most front back some v valued are read = absurd (omega arith)

-- The encoding is written in four pieces.

before_same : (r : Result Out ErrorKind) (f g : Out → Result Out ErrorKind) → ((x : Out) → f x ≡ g x) → (r >>= f) ≡ (r >>= g)
before_same (Ok x) f g same = same x
before_same (Err e) f g same = refl

in_four : (a b c d : List ℕ) (o : Out) → put (a ++ (b ++ (c ++ d))) o ≡ (put a o >>= λ x. put b x >>= λ y. put c y >>= put d)
in_four a b c d o =
    let last : (x : Out) → put (b ++ (c ++ d)) x ≡ (put b x >>= λ y. put c y >>= put d) =
    λ x. sym (put-append b (c ++ d) x) ∙ before_same (put b x) (put (c ++ d)) (λ y. put c y >>= put d) (λ y. sym (put-append c d y)) in
    sym (put-append a (b ++ (c ++ d)) o) ∙ before_same (put a o) (put (b ++ (c ++ d))) (λ x. put b x >>= λ y. put c y >>= put d) last

pub pieces_octets : (arcs : List ℕ) (tag : Tag) (contents identifier value : List ℕ) (leading : ℕ) → identifier ≡ identifier_octets arcs → value ≡ contents → leading ≡ leading_octet tag
    → IsIdentifier Bound arcs → length (identifier_octets arcs) ≤ 39 → number_of tag < 31 → IsOctets value → length identifier + length value + 4 < 128
    → 0x30 ∷ (length identifier + length value + 4) ∷ 0x06 ∷ length identifier ∷ (identifier ++ (leading ∷ length value ∷ value)) ≡ octets_of (type_and_value Bound) (pair arcs (record { tag = tag; contents = contents }))
pieces_octets arcs tag contents identifier value leading e f l is most low are short =
    rw (e, f, l) (plain arcs tag contents is most low (subst IsOctets f are) (omega (arith, short, ap length e, ap length f))).octets

pub pieces_written : (arcs : List ℕ) (tag : Tag) (contents identifier value : List ℕ) (leading : ℕ) → identifier ≡ identifier_octets arcs → value ≡ contents → leading ≡ leading_octet tag
    → IsIdentifier Bound arcs → length (identifier_octets arcs) ≤ 39 → number_of tag < 31 → IsOctets value → length identifier + length value + 4 < 128 → (o : Out)
    → write (type_and_value Bound) (pair arcs (record { tag = tag; contents = contents })) o
    ≡ (put (0x30 ∷ (length identifier + length value + 4) ∷ 0x06 ∷ length identifier ∷ []) o >>= λ x. put identifier x >>= λ y. put (leading ∷ length value ∷ []) y >>= put value)
pieces_written arcs tag contents identifier value leading e f l is most low are short o =
    let i = identifier_octets arcs in
    let s = plain arcs tag contents is most low (subst IsOctets f are) (omega (arith, short, ap length e, ap length f)) in
    rw (e, f, l) (put_written (type_and_value Bound) (pair arcs (record { tag = tag; contents = contents })) o s.valid ∙ ap (λ (u : List ℕ). put_some u o) (sym s.octets)
    ∙ in_four (0x30 ∷ (length i + length contents + 4) ∷ 0x06 ∷ length i ∷ []) i (leading_octet tag ∷ length contents ∷ []) contents o)

-- A call that writes what one function writes also writes what an equal function does.
pub writes_alike : (m : Bool) (old new : Out) (r : Result (Unit {0}) Error) (f g : Out → Result Out ErrorKind) → f old ≡ g old → Writes m old new r g → Writes m old new r f
writes_alike m old new (Ok u) f g e h = e ∙ h
writes_alike m old new (Err x) f g e h = λ free. e ∙ h free
