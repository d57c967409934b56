pub mod EscapeSteps
pub mod PieceSteps
pub mod TextSteps
pub mod KeyLaws
pub mod RowLaws
pub mod PrintSteps
pub mod KeySteps
