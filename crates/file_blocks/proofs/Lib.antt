pub mod AsideLemmas
pub mod CallLemmas
pub mod CopyLemmas
pub mod CutLemmas
pub mod HeadLemmas
pub mod KeptLemmas
pub mod OverlayLemmas
pub mod PlaceLemmas
pub mod RunLemmas
pub mod SeenLemmas
pub mod StoreLemmas
mod AskedLemmas
mod BlankLemmas
mod ZeroLemmas
