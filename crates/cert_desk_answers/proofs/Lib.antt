pub mod Cuts
pub mod LineWords
pub mod KeptLines
pub mod Judged
pub use Rattle.cert_desk_checking.proofs.DeskBundle
pub use Rattle.cert_desk_checking.proofs as DeskChecking
pub use Rattle.cert_desk_checking.proofs.DeskRules
