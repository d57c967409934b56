pub mod Folds
pub mod FoundLaws
pub mod PathLaws
pub mod ExtensionLaws
pub mod Meanings
pub mod ConstraintLaws
pub mod MemoryLaws
pub mod Asking
pub mod RuleList
pub mod DigestOctets
pub mod DigestLaws
pub mod AnswerOrder
pub mod Returning
pub use Rattle.cert_desk_bundle.proofs as DeskBundle
pub use Rattle.cert_desk_bundle.proofs.DeskIo
