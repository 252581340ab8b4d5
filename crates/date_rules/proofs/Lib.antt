pub mod CivilTimes
