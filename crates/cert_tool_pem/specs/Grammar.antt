-- The grammar of texts with PEM blocks (RFC 7468 3), over lines.
use Rattle.std.specs.Prelude.{◌≡◌, ℕ, ◌↔◌, List, [], ◌∷◌, ◌++◌, true, false, Some, None, Ok}
use Rattle.base64.specs.Engines.{standard}
use Rattle.base64.specs.GeneralPurpose.{decode_of}
use Rattle.cert_tool_pem.specs.declared.wanted.Wanted.{Wanted}
use Rattle.cert_tool_pem.specs.Pem.{begun_by, ended_by, is_boundary, trimmed, values_of, wants}

-- None of these lines is a boundary.
abbrev pub AreTexts : List (List ℕ) → Type 0
AreTexts [] = Unit {0}
AreTexts (line ∷ lines) = (is_boundary line ≡ false) × AreTexts lines

-- base64text: the concatenated lines between two boundaries, without the white space at either end
-- of each.
abbrev pub joined : List (List ℕ) → List ℕ
joined [] = []
joined (line ∷ lines) = trimmed line ++ joined lines

-- textualmsg: a BEGIN line with an expected label, base64, and an END line with the same label. The
-- value is what the base64 encodes.
pub record IsBlock (wanted : Wanted) (lines : List (List ℕ)) (octets : List ℕ) : Type 0 where
  pub label : List ℕ
  pub first : List ℕ
  pub body : List (List ℕ)
  pub last : List ℕ
  pub in_turn : lines ≡ first ∷ (body ++ last ∷ [])
  pub begins : begun_by first ≡ Some label
  pub is_wanted : wants wanted label ≡ true
  pub texts : AreTexts body
  pub encodes : decode_of standard (joined body) ≡ Ok octets
  pub ends : (begun_by last ≡ None) × (ended_by last ≡ Some label)

-- The lines are blocks with these values, and other text before, between and after them.
pub data AreBlocks (wanted : Wanted) : List (List ℕ) → List (List ℕ) → Type 0 where
  no_lines : AreBlocks wanted [] []
  other_line : (line : List ℕ) (lines values : List (List ℕ)) → is_boundary line ≡ false
      → AreBlocks wanted lines values → AreBlocks wanted (line ∷ lines) values
  block_of : (lines more : List (List ℕ)) (octets : List ℕ) (values : List (List ℕ))
      → IsBlock wanted lines octets → AreBlocks wanted more values
      → AreBlocks wanted (lines ++ more) (octets ∷ values)

-- Lines are decoded to the values that the grammar gives them, and to no others.
abbrev pub BlocksAreRead : Type 0
BlocksAreRead =
    (wanted : Wanted) (lines values : List (List ℕ))
    → (values_of wanted lines ≡ Ok values) ↔ AreBlocks wanted lines values
