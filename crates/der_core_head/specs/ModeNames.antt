-- The names of tag modes (X.680 31.2.7) and of encoding rules (X.690 1).
use Rattle.std.specs.Prelude.{ℕ, List, Result, Ok, Err, bytes_eq, ◌||◌, if◌then◌else◌, codes}
use Rattle.der_core_head.specs.declared.error.ErrorKind.{ErrorKind}
use Rattle.der_core_head.specs.declared.error.ErrorKind.TheVariants as kinds
use Rattle.der_core_head.specs.declared.tag_mode.TagMode.{TagMode}
use Rattle.der_core_head.specs.declared.tag_mode.TagMode.TheVariants as modes
use Rattle.der_core_head.specs.declared.encoding_rules.EncodingRules.{EncodingRules}
use Rattle.der_core_head.specs.declared.encoding_rules.EncodingRules.TheVariants as rules

-- The name of a tag mode.
abbrev pub mode_name : TagMode → List ℕ
mode_name modes.Explicit = codes "EXPLICIT"
mode_name modes.Implicit = codes "IMPLICIT"

-- The tag mode of this name, in upper case or lower case.
abbrev pub mode_named : List ℕ → Result TagMode ErrorKind
mode_named w =
    if bytes_eq w (codes "EXPLICIT") || bytes_eq w (codes "explicit") then Ok modes.Explicit
    else if bytes_eq w (codes "IMPLICIT") || bytes_eq w (codes "implicit") then Ok modes.Implicit
    else Err kinds.TagModeUnknown

-- The name of encoding rules.
abbrev pub rules_name : EncodingRules → List ℕ
rules_name rules.Ber = codes "BER"
rules_name rules.Der = codes "DER"

-- The encoding rules of this name, in upper case or lower case.
abbrev pub rules_named : List ℕ → Result EncodingRules ErrorKind
rules_named w =
    if bytes_eq w (codes "BER") || bytes_eq w (codes "ber") then Ok rules.Ber
    else if bytes_eq w (codes "DER") || bytes_eq w (codes "der") then Ok rules.Der
    else Err kinds.EncodingRules
