pub mod Optional_fields
