pub mod FaultTexts
pub mod AnswerLines
pub mod AnswerReading
pub mod Laws
pub mod Judged
pub use Rattle.cert_desk_checking.specs.DeskBundle
pub use Rattle.cert_desk_checking.specs as DeskChecking
pub use Rattle.cert_desk_checking.specs.DeskRules
