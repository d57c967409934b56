-- The string form of names, by their abstract values.
use Rattle.std.specs.Prelude.{◌≡◌, ◌≢◌, ℕ, List, [], ◌∷◌, map, Option, Some, Ok, ⊤, IsPermutation}
use Rattle.std.specs.List.{AllByRecursion}
use Rattle.x509_cert_name_texts.specs.Keys.{key_of}
use Rattle.der_core.specs.Grammar.{plain_list}
use Rattle.x509_cert_names.specs.Names.{PlainName, TypeAndValue, type_of, value_of}
use Rattle.x509_cert_names.specs.Pairs.{pair, relative_plain}
use Rattle.x509_cert_names.specs.declared.attribute_type_and_value.AttributeTypeAndValue.{AttributeTypeAndValue}
use Rattle.x509_cert_names.specs.NameTexts.{ReadsName, name_printed}
use Rattle.x509_cert_names.specs.ValueTexts.{tag_for, text_of}

-- The attribute with this abstract value.
abbrev pub attribute_of : TypeAndValue → AttributeTypeAndValue
attribute_of a = record { oid = type_of a; value = value_of a }

-- The string form of a name as it is printed (RFC 4514 2).
unfoldable pub name_text : PlainName → List ℕ
name_text n = name_printed (map (map attribute_of) n)

-- The text parses to this name, with arcs below the bound (RFC 4514 2, 3).
abbrev pub SpellsName : ℕ → List ℕ → PlainName → Type 0
SpellsName bound text n =
    (relative_names : List (List AttributeTypeAndValue)) × ReadsName bound text (Ok relative_names)
    × (n ≡ plain_list relative_plain relative_names)

-- The attribute that the printed form of an attribute parses to: the text with the tag for the type
-- if it is printed as a name and a text, and otherwise the attribute itself.
abbrev pub read_by : Option (List ℕ) → Option (List ℕ) → TypeAndValue → TypeAndValue
read_by (Some key) (Some text) a = pair (type_of a)
    (record { tag = tag_for (type_of a); contents = text })
read_by _ _ a = a

-- The attribute that the printed form of an attribute parses to.
unfoldable pub as_read : TypeAndValue → TypeAndValue
as_read a = read_by (key_of (type_of a)) (text_of (value_of a)) a

-- Each RDN has an attribute, and the printed form of each attribute parses to the attribute itself.
abbrev pub IsAsRead : PlainName → Type 0
IsAsRead n = AllByRecursion (λ r. (r ≢ []) × AllByRecursion (λ a. as_read a ≡ a) r) n

-- The second name is what the printed form of the first parses to: each RDN of the first has an
-- attribute, and each RDN of the second has the parsed attributes, in any order.
abbrev pub IsReadBack : PlainName → PlainName → Type 0
IsReadBack [] [] = ⊤
IsReadBack (r ∷ n) (s ∷ m) = (r ≢ []) × IsPermutation (map as_read r) s × IsReadBack n m
IsReadBack _ _ = ⊥
