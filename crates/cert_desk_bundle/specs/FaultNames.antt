-- The words that are printed for the errors of an input.
use Rattle.std.specs.Prelude.{ℕ, List, codes}
use Rattle.cert_desk_bundle.specs.declared.fault_kind.FaultKind.{FaultKind}
use Rattle.cert_desk_bundle.specs.declared.fault_kind.FaultKind.TheVariants as kinds

-- The word for each kind of error.
abbrev pub kind_name : FaultKind → List ℕ
kind_name kinds.NoCertificate = codes "NoCertificate"
kind_name kinds.Indefinite = codes "Indefinite"
kind_name kinds.LengthTooWide = codes "LengthTooWide"
kind_name kinds.LengthNotShortest = codes "LengthNotShortest"
kind_name kinds.TooLarge = codes "TooLarge"
kind_name kinds.Malformed = codes "Malformed"
kind_name kinds.Truncated = codes "Truncated"
