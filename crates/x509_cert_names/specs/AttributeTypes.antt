-- Looking up attributes of a name by type.
use Rattle.std.specs.Prelude.{◌≡◌, ℕ, List, [], ◌∷◌, Option, Some, None, Result, Ok, Err}
use Rattle.std.specs.Prelude.{if◌then◌else◌}
use Rattle.der_core.specs.Oid.Comparing.{owned_eq}
use Rattle.der_core.specs.ErrorTypes.Error.{Error}
use Rattle.der_core.specs.Shapes.{AnyValue}
use Rattle.x509_cert_names.specs.Names.{TypeAndValue, type_of, value_of}

-- The value of the first attribute of a type, in the order of the name.
abbrev pub first_value : List ℕ → List TypeAndValue → Option AnyValue
first_value arcs [] = None
first_value arcs (a ∷ left) = if owned_eq (type_of a) arcs then Some (value_of a)
    else first_value arcs left

-- The result of a lookup: None if there is no such value, otherwise the result of decoding it.
abbrev pub FirstGives : {T : Type 0} → (AnyValue → Result T Error → Type 0) → Option AnyValue
    → Result (Option T) Error → Type 0
FirstGives gives None r = r ≡ Ok None
FirstGives gives (Some a) (Ok None) = ⊥
FirstGives gives (Some a) (Ok (Some x)) = gives a (Ok x)
FirstGives gives (Some a) (Err e) = gives a (Err e)
