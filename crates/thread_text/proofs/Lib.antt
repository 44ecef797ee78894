pub mod Lemmas
pub mod FieldLaws
pub mod Steps
pub mod PlaceSteps
pub mod DutySteps
pub mod BlockRules
