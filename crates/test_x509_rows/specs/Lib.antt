pub mod GivenWords
