pub mod BothLemmas
mod FormExamples
pub mod Common
pub mod FixedLemmas
pub mod FormLemmas
pub mod LocatedLemmas
pub mod StopLemmas
pub mod WholeLemmas
