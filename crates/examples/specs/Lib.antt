pub mod Content
pub mod PeerId
