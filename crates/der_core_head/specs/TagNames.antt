-- The printed names of tags: for the universal class, those of the types (X.680 8.6), and otherwise
-- the class, the number and the form.
use Rattle.std.specs.Prelude.{ℕ, List, ◌++◌, Bool, if◌then◌else◌, codes, decimal}
use Rattle.der_core_head.specs.declared.class.Class.{Class}
use Rattle.der_core_head.specs.declared.class.Class.TheVariants as classes
use Rattle.der_core_head.specs.declared.tag.Tag.{Tag}
use Rattle.der_core_head.specs.declared.tag.Tag.TheVariants as tags

-- The name of a class.
abbrev pub class_name : Class → List ℕ
class_name classes.Universal = codes "UNIVERSAL"
class_name classes.Application = codes "APPLICATION"
class_name classes.ContextSpecific = codes "CONTEXT-SPECIFIC"
class_name classes.Private = codes "PRIVATE"

-- The name of the constructed or of the primitive form.
abbrev pub form_name : Bool → List ℕ
form_name constructed = if constructed then codes "constructed" else codes "primitive"

-- A name such as `CONTEXT-SPECIFIC [0] (constructed)`.
abbrev pub numbered_name : Class → ℕ → Bool → List ℕ
numbered_name class n constructed =
    class_name class
    ++ (codes " [" ++ (decimal n ++ (codes "] (" ++ (form_name constructed ++ codes ")"))))

-- The name of a tag.
abbrev pub tag_name : Tag → List ℕ
tag_name tags.Boolean = codes "BOOLEAN"
tag_name tags.Integer = codes "INTEGER"
tag_name tags.BitString = codes "BIT STRING"
tag_name tags.OctetString = codes "OCTET STRING"
tag_name tags.Null = codes "NULL"
tag_name tags.ObjectIdentifier = codes "OBJECT IDENTIFIER"
tag_name tags.Real = codes "REAL"
tag_name tags.Enumerated = codes "ENUMERATED"
tag_name tags.Utf8String = codes "UTF8String"
tag_name tags.RelativeOid = codes "RELATIVE OID"
tag_name tags.Sequence = codes "SEQUENCE"
tag_name tags.Set = codes "SET"
tag_name tags.NumericString = codes "NumericString"
tag_name tags.PrintableString = codes "PrintableString"
tag_name tags.TeletexString = codes "TeletexString"
tag_name tags.VideotexString = codes "VideotexString"
tag_name tags.Ia5String = codes "IA5String"
tag_name tags.UtcTime = codes "UTCTime"
tag_name tags.GeneralizedTime = codes "GeneralizedTime"
tag_name tags.VisibleString = codes "VisibleString"
tag_name tags.GeneralString = codes "GeneralString"
tag_name tags.BmpString = codes "BMPString"
tag_name (tags.Application constructed number) =
    numbered_name classes.Application number.value constructed
tag_name (tags.ContextSpecific constructed number) =
    numbered_name classes.ContextSpecific number.value constructed
tag_name (tags.Private constructed number) = numbered_name classes.Private number.value constructed
