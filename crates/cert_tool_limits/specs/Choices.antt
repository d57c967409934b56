-- Files of trust anchors, with all fields of each.
use Rattle.std.specs.Prelude.{◌≡◌, ℕ, List, Result, Ok}
use Rattle.x509_cert_anchors.specs.Anchors.{PlainAnchor as PlainChoice}
use Rattle.cert_desk_checking.specs.declared.anchor_fault.AnchorFault.{AnchorFault}
use Rattle.cert_desk_checking.specs.declared.anchor_fault.AnchorFault.TheVariants as faults
use Rattle.cert_desk_checking.specs.declared.anchors_error.AnchorsError.{AnchorsError}
use Rattle.cert_desk_checking.specs.AnchorFiles.{raw_choice}
use Rattle.cert_desk_checking.specs.AnchorReading.{FailsBy}
use Rattle.cert_desk_checking.specs.Files.{BeginsNone, HasFirstWrong, IsFileOf}

-- A trust anchor, returned as it was decoded.
abbrev pub given_itself : PlainChoice → Result PlainChoice AnchorFault
given_itself a = Ok a

-- The bytes are the encodings of these trust anchors (RFC 5914 2), one after another.
abbrev pub AreChoices : List ℕ → List PlainChoice → Type 0
AreChoices octets choices = IsFileOf raw_choice given_itself octets choices

-- The bytes begin with encodings of trust anchors, and the bytes at this offset, which is after
-- them, aren't the encoding of one.
abbrev pub HasNoChoiceAt : List ℕ → ℕ → AnchorFault → Type 0
HasNoChoiceAt octets offset fault = (fault ≡ faults.Malformed)
    × HasFirstWrong raw_choice given_itself (BeginsNone raw_choice) octets offset

-- The reason why a file isn't a sequence of trust anchors.
abbrev pub IsNoChoice : List ℕ → AnchorsError → Type 0
IsNoChoice octets error = FailsBy (HasNoChoiceAt octets) error
