pub mod Apart
pub mod Sound
pub mod SoundExample
pub mod Started
