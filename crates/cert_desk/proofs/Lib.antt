mod Words
pub mod AcceptedFronts
pub mod Auditing
pub mod FilesBecome
pub mod IssuedFronts
pub mod OnlyMemory
pub mod ShortBits
pub mod SignedParts
pub mod Told
pub mod Trusting
