mod MarkLemmas
pub mod Places
pub mod Finished
mod Keeping
mod LookLemmas
mod Beginning
pub mod Fillings
pub mod Finishing
pub mod OpenLemmas
mod Contents
mod Writes
pub mod Numbers
pub mod Reading
pub mod ReadingLemmas
pub mod StopLemmas
mod Apart
pub mod StartLemmas
pub mod Sound
pub mod Stamps
pub mod Refusals
mod Rising
pub mod Stretches
pub mod Whole
pub mod BitLemmas
mod Restored
pub mod ScanLemmas
pub mod LiveLemmas
pub mod FoundLemmas
pub mod Assembled
pub mod FoundTexts
pub mod FoundHistories
pub mod CrashLaws
pub mod CrashSteps
pub mod CrashWrites
pub mod CrashLosses
pub mod RejectLemmas
pub mod RejectMarks
pub mod Rejected
pub mod RejectLaws
pub mod Answered
pub mod SameBufferState
pub mod RememberedLemmas
