-- Looking up extensions by OID (RFC 5280 4.2).
use Rattle.std.specs.Prelude.{ℕ, List, [], ◌∷◌, Bool, if◌then◌else◌, Option, Some, None, Result, Ok}
use Rattle.std.specs.Prelude.{Err, ◌≡◌, MatchOption}
use Rattle.der_core.specs.Oid.Comparing.{owned_eq}
use Rattle.der_core.specs.ErrorTypes.Error.{Error}
use Rattle.der_core.specs.ErrorTypes.ErrorKind.{ErrorKind}
use Rattle.der_core.specs.ErrorTypes.ErrorKind.TheVariants as kinds
use Rattle.der_core.specs.Grammar.{read_whole}
use Rattle.der_core.specs.Octets.{◌>>=◌}
use Rattle.der_core.specs.Reading.{Gives}
use Rattle.der_core.specs.Shapes.{Shape, Value}
use Rattle.x509_cert_parts.specs.Grammar.{PlainExtension, extension_arcs, is_critical}
use Rattle.x509_cert_parts.specs.Grammar.{extension_octets}

-- The extensions with this OID, in their order.
abbrev pub of_identifier : List ℕ → List PlainExtension → List PlainExtension
of_identifier arcs [] = []
of_identifier arcs (e ∷ left) = if owned_eq (extension_arcs e) arcs then e ∷ of_identifier arcs left
    else of_identifier arcs left

-- The only extension of a list, if any. Two or more are rejected with Failed, since a certificate
-- must not contain two extensions with the same OID (RFC 5280 4.2).
abbrev pub only_one : List PlainExtension → Result (Option PlainExtension) ErrorKind
only_one [] = Ok None
only_one (e ∷ []) = Ok (Some e)
only_one (e ∷ f ∷ left) = Err kinds.Failed

-- An extension's criticality, and the value that its content encodes.
abbrev pub value_in : (s : Shape) → PlainExtension → Result (Bool × Value s) ErrorKind
value_in s e =
    read_whole s (extension_octets e) >>= λ (v : Value s × List ℕ). Ok (is_critical e, v.0)

-- The criticality and the value of an optional extension.
abbrev pub value_if : (s : Shape) → Option PlainExtension
    → Result (Option (Bool × Value s)) ErrorKind
value_if s None = Ok None
value_if s (Some e) = value_in s e >>= λ (v : Bool × Value s). Ok (Some v)

-- The criticality and the value of the only extension with this OID, if any.
abbrev pub only_value : (s : Shape) → List ℕ → List PlainExtension
    → Result (Option (Bool × Value s)) ErrorKind
only_value s arcs es = only_one (of_identifier arcs es) >>= value_if s

-- The first element and the others as one list.
abbrev pub with_first : Option (PlainExtension × List PlainExtension) → List PlainExtension
with_first None = []
with_first (Some (e, left)) = e ∷ left

-- The extensions of an optional field: none if the field is absent.
abbrev pub extensions_in_field : Option (List PlainExtension) → List PlainExtension
extensions_in_field None = []
extensions_in_field (Some es) = es

-- A step of an iterator: it yields the value of the first remaining extension and leaves the
-- others, or nothing remains.
abbrev pub YieldsFirstValue : {S X : Type 0} (s : Shape) → (X → Bool × Value s)
    → (S → List PlainExtension) → S → Option (Result X Error) → S → Type 0
YieldsFirstValue s view left old given new =
    MatchOption given ((left old ≡ []) × (left new ≡ [])) (λ r. (e : PlainExtension)
    × (left old ≡ e ∷ left new) × Gives view r (value_in s e))
