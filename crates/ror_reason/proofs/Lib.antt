pub mod Parts
pub mod LawLemmas
pub mod FaultLemmas
pub mod SearchLemmas
pub mod FunctionLemmas
