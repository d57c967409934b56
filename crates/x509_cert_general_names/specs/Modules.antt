-- Hardware module names contained in an OtherName (RFC 4108 5).
use Rattle.std.specs.Prelude.{ℕ, List, [], ◌∷◌, Bool, Option, Some, Result, Ok}
use Rattle.der_core.specs.Oid.Comparing.{owned_eq}
use Rattle.der_core.specs.ErrorTypes.ErrorKind.{ErrorKind}
use Rattle.der_core.specs.TagTypes.Tag.TheVariants.{Sequence}
use Rattle.der_core.specs.Octets.{◌>>=◌}
use Rattle.der_core.specs.Shapes.{BodyValue, any, nested, sequence, octets_of, IsValid, Spells}
use Rattle.x509_cert_parts.specs.Types.Contents.{content_as, written_as}
use Rattle.x509_cert_general_names.specs.GeneralNames.{other_name_fields}
use Rattle.x509_cert_general_names.specs.GeneralNames.{hardware_module_name_fields}

-- The abstract values of a hardware module name and of an OtherName.
abbrev pub PlainModule : Type 0
PlainModule = BodyValue (hardware_module_name_fields 0)

abbrev pub PlainOther : Type 0
PlainOther = BodyValue (other_name_fields 0)

-- id-on-hardwareModuleName, 1.3.6.1.5.5.7.8.4 (RFC 4108 5).
abbrev pub module_arcs : List ℕ
module_arcs = 1 ∷ 3 ∷ 6 ∷ 1 ∷ 5 ∷ 5 ∷ 7 ∷ 8 ∷ 4 ∷ []

-- The OID of the name is id-on-hardwareModuleName.
abbrev pub is_of_module : PlainOther → Bool
is_of_module n = owned_eq n.0 module_arcs

-- The value of the name has an encoding.
abbrev pub HasEncoding : PlainOther → Type 0
HasEncoding n = IsValid any n.1.0

-- The value of the name encodes the module name.
abbrev pub HoldsModule : ℕ → PlainOther → PlainModule → Type 0
HoldsModule bound n m =
    Spells (sequence (hardware_module_name_fields bound)) m (octets_of any n.1.0)

-- The result of decoding the value of the name as a hardware module name.
abbrev pub module_read : ℕ → PlainOther → Result (Option PlainModule) ErrorKind
module_read bound n = content_as Sequence (nested (hardware_module_name_fields bound)) n.1.0
    >>= λ m. Ok (Some m)

-- The OtherName that contains the module name, if its encoding has fewer than 2^32 bytes.
abbrev pub module_held : ℕ → PlainModule → Result PlainOther ErrorKind
module_held bound m = written_as Sequence (nested (hardware_module_name_fields bound)) m
    >>= λ v. Ok (module_arcs, (v, tt))
