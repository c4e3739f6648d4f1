pub mod Run
pub mod ShowError
pub mod Shown
