pub mod SplitFronts
