pub mod Beginning
pub mod Tools
pub mod NodeTurns
pub mod Keeping
pub mod NodeSteps
pub mod ChiefSteps
pub mod Reaching
