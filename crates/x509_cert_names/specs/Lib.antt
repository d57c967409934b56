pub mod Names
pub mod Pairs
pub mod Views
pub mod DirectoryStrings
pub mod AttributeTypes
pub mod Ordered
pub mod ValueTexts
pub mod NameTexts
pub mod PlainTexts
pub mod Stored
pub mod Alone
pub mod PlainParts
pub mod Opened
pub use Rattle.x509_cert_name_texts.specs as CertNameTexts
