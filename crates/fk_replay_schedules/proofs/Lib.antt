pub mod Lawful
-- schedules, cut behind so many rounds
pub mod Prefixes
-- those who could act and are absent
pub mod Paced
-- rounds in which nobody acts
pub mod Idle
-- the moments of a trace
pub mod Moments
