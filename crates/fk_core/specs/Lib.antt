pub mod Numbers
pub mod Next
pub mod CodeAt
pub mod WellFormed
pub mod KeepsRuns
