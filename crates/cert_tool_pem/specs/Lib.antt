pub mod Pem
pub mod PemReading
pub mod Grammar
pub mod FileInputs
pub mod DecodedFiles
pub mod FileReading
