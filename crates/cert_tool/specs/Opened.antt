-- Definitions of other crates that the contracts of this crate unfold.
unfoldable pub use Rattle.cert_tool_explain.specs.DeskChecking.Arguments.{IsNumber}
