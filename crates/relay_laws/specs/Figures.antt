-- What the laws of a report's numbers speak of (docs/FORMATS.md, Report).
use Rattle.std.specs.Prelude.{◌≡◌, ◌≢◌, ℕ, ◌+◌, ◌≤◌, List, ◌∷◌, ◌++◌, All}
use Rattle.news_terms.specs.Places.{Buffer, Extent}
use Rattle.news_terms.specs.Settings.{IsBufferAt}
use Rattle.relay_model.specs.Figures.{buffer_figures, feed_figures}
use Rattle.relay_model.specs.Terms.{Terms}
use Rattle.relay_model.specs.World.{World}

-- this is the newest article of the buffer among these: it was begun there, and none behind it
pub record IsNewestIn (buffer : Buffer) (begun : List Extent) (one : Extent) : Type 0 where
  pub earlier : List Extent
  pub later : List Extent
  pub among : begun ≡ earlier ++ one ∷ later
  pub here : one.place.buffer.number ≡ buffer.number
  pub others : All (λ (other : Extent). other.place.buffer.number ≢ buffer.number) later

-- of the tokens that each feed gained so many were taken, so many wait, and all others were
-- overwritten, whatever its ring holds
abbrev pub FeedsAddUp : World → Type 0
FeedsAddUp x =
    (f size : ℕ) → let shown = feed_figures size (x.state.feed f) in
    shown.overwritten + shown.waiting + (x.state.feed f).taken ≡ shown.gained

-- in no buffer of a group more articles are stored than were begun there
abbrev pub StoresBegun : Terms → World → Type 0
StoresBegun w x =
    (g i : ℕ) (buffer : Buffer) → IsBufferAt w.groups g i buffer
    → (buffer_figures w x.state buffer).stored ≤ (buffer_figures w x.state buffer).begun
