-- An RDN's only attribute at a reader.
use Rattle.std.specs.Prelude.{◌≡◌, ◌<◌, ◌≤◌, ℕ, length, take, false}
use Rattle.der_core.specs.Reading.{State}
use Rattle.der_core.specs.Shapes.{Spells}
use Rattle.x509_cert_names.specs.Names.{type_and_value}
use Rattle.x509_cert_names.specs.Pairs.{pair_plain}
use Rattle.x509_cert_names.specs.declared.attribute_type_and_value.AttributeTypeAndValue.{AttributeTypeAndValue}

-- The next `len` bytes encode the attribute. The reader hasn't failed and allows two more levels.
pub record StandsAlone (bound : ℕ) (s : State) (len : ℕ) (a : AttributeTypeAndValue) : Type 0 where
  pub ready : s.failed ≡ false
  pub levels : 1 < s.room
  pub within : len ≤ length s.rest
  pub spelled : Spells (type_and_value bound) (pair_plain a) (take len s.rest)
