pub mod LocalLemmas
pub mod ReadingLemmas
pub mod ScopedLemmas
pub mod TableLemmas
pub mod SurveyLemmas
pub mod WordLemmas
pub mod Apart
pub mod FindLemmas
