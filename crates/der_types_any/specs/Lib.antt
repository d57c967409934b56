pub mod Anys
pub mod Contents
pub mod AnyOrders
pub mod Opened
pub use Rattle.der_types_numbers.specs as TypesNumbers
pub use Rattle.der_types_text.specs as TypesText
pub use Rattle.der_types_values.specs as TypesValues
