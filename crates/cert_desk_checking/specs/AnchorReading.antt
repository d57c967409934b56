-- Why bytes aren't a file of trust anchors.
use Rattle.std.specs.Prelude.{◌≡◌, ℕ, List, drop, Err}
use Rattle.x509_cert_anchors.specs.Anchors.{PlainAnchor as PlainChoice}
use Rattle.cert_desk_checking.specs.declared.anchor_error.AnchorError.TheVariants as reasons
use Rattle.cert_desk_checking.specs.declared.anchor_fault.AnchorFault.{AnchorFault}
use Rattle.cert_desk_checking.specs.declared.anchor_fault.AnchorFault.TheVariants as faults
use Rattle.cert_desk_checking.specs.declared.anchors_error.AnchorsError.{AnchorsError}
use Rattle.cert_desk_checking.specs.declared.anchors_error.AnchorsError.TheVariants as errors
use Rattle.cert_desk_checking.specs.Anchors.{given_by}
use Rattle.cert_desk_checking.specs.AnchorFiles.{IsFaulty, HasFirstFault}

-- The reason is an error at an offset, or memory ran out. It isn't an I/O error.
abbrev pub FailsBy : (ℕ → AnchorFault → Type 0) → AnchorsError → Type 0
FailsBy Faulty (errors.BadAnchors offset fault) = Faulty offset fault
FailsBy Faulty errors.Device = ⊥
FailsBy Faulty errors.OutOfMemory = Unit {0}

-- The reason why a trust anchor can't be used.
abbrev pub UngivenFor : PlainChoice → AnchorFault → Type 0
UngivenFor c faults.Malformed = ⊥
UngivenFor c faults.NoName = given_by c ≡ Err reasons.NoName
UngivenFor c faults.PathControls = given_by c ≡ Err reasons.PathControls

-- The error for a trust anchor that can't be used.
abbrev pub IsUngiven : PlainChoice → ℕ → AnchorsError → Type 0
IsUngiven c start error = FailsBy (λ offset fault. (offset ≡ start) × UngivenFor c fault) error

-- The reason why no usable trust anchor begins at the start.
abbrev pub GivesNone : List ℕ → ℕ → AnchorsError → Type 0
GivesNone octets start error =
    FailsBy (λ offset fault. (offset ≡ start) × IsFaulty fault (drop start octets)) error

-- The reason why the bytes aren't a file of usable trust anchors.
abbrev pub IsNoAnchorFile : List ℕ → AnchorsError → Type 0
IsNoAnchorFile octets error = FailsBy (HasFirstFault octets) error
