-- Lemmas for definitions of other crates: bytes are the encoding of one value, or of none.
pub use Rattle.der_core_head.proofs.Results.{IsBytes, ok_is, bind_ok, unless_ok, whole_ok}
pub use Rattle.der_core_head.proofs.OneEncoding.{is_spelled, whole_again, octets_below, bytes_are}
