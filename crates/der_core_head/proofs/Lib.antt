pub mod Results
pub mod TagLaws
pub mod HeadLaws
pub mod IntegerLaws
pub mod TextLaws
pub mod LeafLaws
pub mod Complete
pub mod OneEncoding
pub mod Written
pub mod BodyLaws
pub mod BoundLaws
pub use Rattle.const_oid.proofs as Oid
