pub mod KeptChains
pub use Rattle.cert_tool_describe.proofs.CertNames
pub use Rattle.cert_tool_describe.proofs.Der
pub use Rattle.cert_desk_checking.proofs.DeskBundle
pub use Rattle.cert_desk_checking.proofs as DeskChecking
pub use Rattle.cert_desk_checking.proofs.DeskIo
