-- Classes of tags (X.690 8.1.2.2).
use Rattle.std.specs.Prelude.{ℕ, ◌/◌}
use Rattle.der_core_head.specs.declared.class.Class.{Class}
use Rattle.der_core_head.specs.declared.class.Class.TheVariants as classes
use Rattle.der_core_head.specs.declared.tag.Tag.{Tag}
use Rattle.der_core_head.specs.Tags.{leading_octet}

-- The number of a class, which has two bits.
abbrev pub class_number : Class → ℕ
class_number classes.Universal = 0
class_number classes.Application = 1
class_number classes.ContextSpecific = 2
class_number classes.Private = 3

-- The class of a tag: the two highest bits of its first byte.
abbrev pub tag_class : Tag → ℕ
tag_class t = leading_octet t / 64
