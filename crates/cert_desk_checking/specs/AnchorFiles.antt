-- Files of trust anchors: concatenated encodings of trust anchors (RFC 5914 2).
use Rattle.std.specs.Prelude.{ℕ, List, None, Result, Ok, Err}
use Rattle.x509_cert_anchors.specs.Oid.Bound.{Bound}
use Rattle.x509_cert_anchors.specs.Der.Shapes.{Shape, octets_of}
use Rattle.x509_cert_anchors.specs.Anchors.{trust_anchor_choice, PlainAnchor as PlainChoice}
use Rattle.cert_desk_checking.specs.declared.anchor_error.AnchorError.TheVariants as errors
use Rattle.cert_desk_checking.specs.declared.anchor_fault.AnchorFault.{AnchorFault}
use Rattle.cert_desk_checking.specs.declared.anchor_fault.AnchorFault.TheVariants as faults
use Rattle.cert_desk_checking.specs.Anchors.{given_by}
use Rattle.cert_desk_checking.specs.Files.{IsFileOf, BeginsNone, BeginsRefused, HasFirstWrong}
use Rattle.cert_desk_rules.specs.Judging.{PlainAnchor}

-- The shape of a trust anchor as it is decoded, with the profile `Raw`.
abbrev pub raw_choice : Shape
raw_choice = trust_anchor_choice Bound None

-- The encoding of a trust anchor (RFC 5914 2).
abbrev pub choice_octets : PlainChoice → List ℕ
choice_octets c = octets_of raw_choice c

-- The bytes are the concatenated encodings of trust anchors with these names and keys.
abbrev pub IsAnchorFile : List ℕ → List PlainAnchor → Type 0
IsAnchorFile octets anchors = IsFileOf raw_choice given_by octets anchors

-- The error of bytes where a trust anchor should begin: they don't begin with one, or with one that
-- can't be used.
abbrev pub IsFaulty : AnchorFault → List ℕ → Type 0
IsFaulty faults.Malformed octets = BeginsNone raw_choice octets
IsFaulty faults.NoName octets = BeginsRefused raw_choice given_by errors.NoName octets
IsFaulty faults.PathControls octets = BeginsRefused raw_choice given_by errors.PathControls octets

-- After some trust anchors that can be used, at this offset, the first wrong one begins.
abbrev pub HasFirstFault : List ℕ → ℕ → AnchorFault → Type 0
HasFirstFault octets offset fault = HasFirstWrong raw_choice given_by (IsFaulty fault) octets offset

-- The bytes as a file of trust anchors: either their names and keys, or the offset and the error of
-- the first wrong one.
abbrev pub SaysAsFile : List ℕ → Result (List PlainAnchor) (ℕ × AnchorFault) → Type 0
SaysAsFile octets (Ok anchors) = IsAnchorFile octets anchors
SaysAsFile octets (Err p) = HasFirstFault octets p.0 p.1
