-- A lemma about the encoding of a trust anchor's version.
use Rattle.std.proofs.Common.{◌≡◌, [], ◌∷◌, refl, arith, pos}
use Rattle.der_core.proofs.DigitLaws.{digits-one}
use Rattle.der_core.specs.Heads.{tlv, head_octets, length_octets}
use Rattle.der_core.specs.Integers.{integer_octets}
use Rattle.der_core.specs.Shapes.{octets_of, contents, IsValid, IsContent}
use Rattle.der_core.specs.Tags.{tag_octets}
use Rattle.x509_cert_anchors.specs.Anchors.{anchor_version, first_anchor_version_octets}

one : integer_octets (pos 1) ≡ 1 ∷ []
unfolding integer_octets
one = rw (digits-one 256 1 (omega arith)) refl

pub one_octets : octets_of anchor_version (pos 1) ≡ first_anchor_version_octets
unfolding octets_of contents tlv head_octets length_octets tag_octets
one_octets = rw one refl

pub one_valid : IsValid anchor_version (pos 1)
unfolding IsValid IsContent contents tlv head_octets length_octets tag_octets
one_valid = rw one ((0, omega arith, refl), omega arith, omega arith)
