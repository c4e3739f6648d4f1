pub mod ByteCount
pub mod Case
pub mod Form
pub mod FormError
pub mod Lemmas
pub mod Located
pub mod Rejecting
pub mod Stream
