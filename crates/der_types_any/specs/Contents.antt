-- Decoding the content of a value of any type as a value of a given type.
use Rattle.std.specs.Prelude.{ℕ, ℤ, List, [], None, false, Result, Err, if◌then◌else◌}
use Rattle.der_types_text.specs.Der.EncodingRulesTypes.EncodingRules.{EncodingRules}
use Rattle.der_types_text.specs.Der.EncodingRulesTypes.EncodingRules.TheVariants as encodings
use Rattle.der_types_text.specs.Der.ErrorTypes.Error.{Error}
use Rattle.der_types_text.specs.Der.ErrorTypes.ErrorKind.{ErrorKind}
use Rattle.der_types_text.specs.Der.ErrorTypes.ErrorKind.TheVariants as kinds
use Rattle.der_types_text.specs.Der.TagTypes.Tag.{Tag}
use Rattle.der_types_text.specs.Der.TagTypes.Tag.TheVariants as tags
use Rattle.der_types_text.specs.Der.Integers.{Numbers}
use Rattle.der_types_text.specs.Der.Octets.{◌>>=◌}
use Rattle.der_types_text.specs.Der.Tags.{same_tag}
use Rattle.der_types_text.specs.Der.Leaves.{Leaf, LeafValue, integer, leaf_read}
use Rattle.der_types_text.specs.Der.Shapes.{AnyValue, Content, ContentValue}
use Rattle.der_types_text.specs.Der.Grammar.{read_content_by, whole}
use Rattle.der_types_text.specs.Der.Reading.{GivesNow}
use Rattle.der_types_text.specs.Der.Writing.{write_content}
use Rattle.der_types_text.specs.Der.Fronts.{alone}
use Rattle.der_types_numbers.specs.Numbers.{if_countable}

-- Decodes the content as a value of a type with this tag, under these encoding rules.
unfoldable pub content_by : EncodingRules → Tag → (c : Content) → AnyValue
    → Result (ContentValue c) ErrorKind
content_by rules t c a = if same_tag a.tag t
    then alone (read_content_by rules c a.tag 64 a.contents >>= whole) else Err kinds.TagUnexpected

-- Decodes the content as a value of a type with this tag, under DER.
abbrev pub content_as : Tag → (c : Content) → AnyValue → Result (ContentValue c) ErrorKind
content_as t c a = content_by encodings.Der t c a

-- Decodes the content as a value of a type with this tag whose content isn't a sequence of values.
unfoldable pub leaf_as : Tag → (l : Leaf) → AnyValue → Result (LeafValue l) ErrorKind
leaf_as t l a = if same_tag a.tag t then leaf_read l a.tag a.contents else Err kinds.TagUnexpected

-- The function returned the INTEGER, if it is one of these numbers, or the error.
abbrev pub IntegerGives : {X : Type 0} → Numbers → (X → ℤ) → AnyValue → Result X Error → Type 0
IntegerGives numbers number a r = GivesNow number r (leaf_as tags.Integer (integer numbers) a)

-- The tag and the encoded content of a value.
unfoldable pub written_as : Tag → (c : Content) → ContentValue c → Result AnyValue ErrorKind
written_as t c v = write_content c v (record { written = []; room = None; failed = false })
    >>= λ o. if_countable o.written (record { tag = t; contents = o.written })

-- A tag and a content, or `Overflow` if the content has more than `length_max` bytes.
unfoldable pub any_from : Tag → List ℕ → Result AnyValue ErrorKind
any_from t w = if_countable w (record { tag = t; contents = w })
