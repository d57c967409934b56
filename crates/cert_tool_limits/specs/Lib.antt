pub mod AnchorRules
pub mod Choices
pub mod Limits
pub mod DemandChecks
pub mod Unjudged
pub use Rattle.cert_tool_hosts.specs as Hosts
