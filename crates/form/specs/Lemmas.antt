-- Proved lemmas, which no contract cites: the laws that implementations cite. A reader need not trust or read them.
-- They are here since an `impl` can cite `proofs` of other crates alone.
pub mod Cases
pub mod Parts
pub mod Rejected
