-- A shorter signature makes a certificate no longer.
use Rattle.std.proofs.Common.{ℕ, ◌≤◌, List, [], ◌++◌, length, None, arith}
use Rattle.std.proofs.Math.ListN.{length-append}
use Rattle.std.proofs.lemmas.Bool.Decides.{nat_tests}
use Rattle.cert_desk_listing.proofs.Oid.DigitLaws.{fewer_digits}
use Rattle.cert_desk_listing.specs.Der.TagTypes.Tag.{Tag}
use Rattle.cert_desk_listing.specs.Der.TagTypes.Tag.TheVariants as tags
use Rattle.cert_desk_listing.specs.Der.BitStrings.{Bits, IsBits, bit_contents}
use Rattle.cert_desk_listing.specs.Der.Heads.{head_octets, length_octets, tlv}
use Rattle.cert_desk_listing.specs.Der.Shapes.{IsBody, IsContent, IsValid, Shape, Value, body_octets, contents, done, field, octets_of, sequence}
use Rattle.cert_desk_listing.specs.Der.Tags.{tag_octets}
use Rattle.cert_desk_listing.specs.Oid.Bound.{Bound}
use Rattle.cert_desk_listing.specs.CertCertificates.Certificates.{tbs_certificate}
use Rattle.cert_desk_orders.specs.CertParts.Grammar.{algorithm_identifier, bit_string}
use Rattle.cert_desk.specs.Issuable.{ShorterBitsFit}

-- Lengths, headers and encodings of shorter contents.
shorter_length : (m n : ℕ) → m ≤ n → length (length_octets m) ≤ length (length_octets n)
unfolding length_octets
shorter_length m n h =
    let few = fewer_digits 256 m n (omega arith) h in
    grind (arith, nat_tests)

shorter : (t : Tag) (c d : List ℕ) → length c ≤ length d → length (tlv t c) ≤ length (tlv t d)
unfolding tlv head_octets
shorter t c d h =
    omega (
      arith,
      length-append (tag_octets t ++ length_octets (length c)) c,
      length-append (tag_octets t ++ length_octets (length d)) d,
      length-append (tag_octets t) (length_octets (length c)),
      length-append (tag_octets t) (length_octets (length d)),
      shorter_length (length c) (length d) h,
    )

-- Sequences of three fields of any shapes, of which the last is a shorter bit string.
shorter_fits : (s k : Shape) (t : Value s) (a : Value k) (longest bits : Bits) → IsValid (sequence (field s (field k (field bit_string done)))) (t, (a, (longest, tt))) → IsBits bits
    → length bits.octets ≤ length longest.octets → IsValid (sequence (field s (field k (field bit_string done)))) (t, (a, (bits, tt)))
unfolding IsValid IsContent IsBody octets_of contents body_octets
shorter_fits s k t a longest bits v b le =
    let bit = shorter tags.BitString (bit_contents bits) (bit_contents longest) (omega (arith, le)) in
    let part = octets_of s t in
    let algorithm = octets_of k a in
    let short = tlv tags.BitString (bit_contents bits) in
    let long = tlv tags.BitString (bit_contents longest) in
    let whole = shorter tags.Sequence (part ++ (algorithm ++ (short ++ []))) (part ++ (algorithm ++ (long ++ [])))
    (omega (arith, bit, length-append {A = ℕ})) in
    ((v.0.0, (v.0.1.0, ((b, v.0.1.1.0.1, omega (arith, bit, v.0.1.1.0.2)), tt))), v.1, omega (arith, whole, v.2))

pub shorter_bits_fit : ShorterBitsFit
shorter_bits_fit t a longest bits v b le = shorter_fits (tbs_certificate Bound None) (algorithm_identifier Bound) t a longest bits v b le
