-- The numbers that a report gives of buffers and of feeds (docs/FORMATS.md, Report).
use Rattle.std.specs.Prelude.{◌==◌, ℕ, ◌-◌, Bool, List, length, fold, count_by, if◌then◌else◌}
use Rattle.news_terms.specs.Places.{Buffer, Extent}
use Rattle.news_terms.specs.Ring.{ring}
use Rattle.relay_model.specs.Fetches.{extents_from, front_of}
use Rattle.relay_model.specs.Shares.{as_ring}
use Rattle.relay_model.specs.State.{State, Feed, Kept}
use Rattle.relay_model.specs.Terms.{Terms}

-- what is reported of a buffer: the cycle that its newest article is in, its front, how many
-- articles were begun in it, and how many of those were stored
pub record BufferFigures : Type 0 where
  pub cycle : ℕ
  pub front : ℕ
  pub begun : ℕ
  pub stored : ℕ

-- what is reported of a feed, in tokens: how many wait in its ring, how many it gained, and how
-- many of those were overwritten before they were taken
pub record FeedFigures : Type 0 where
  pub waiting : ℕ
  pub gained : ℕ
  pub overwritten : ℕ

-- the article was begun in this buffer
abbrev pub is_begun_in : Buffer → Extent → Bool
is_begun_in buffer e = e.place.buffer.number == buffer.number

-- the text is whole in this buffer
abbrev pub is_kept_in : Buffer → Kept → Bool
is_kept_in buffer one = one.token.buffer == buffer.number

-- the cycle of a buffer after one more article: where that is in it, the article's
abbrev pub cycle_past : Buffer → ℕ → Extent → ℕ
cycle_past buffer cycle e = if is_begun_in buffer e then e.place.cycle else cycle

-- the cycle of the last of these articles that was begun in the buffer, or its first cycle where
-- none was
abbrev pub cycle_after : Buffer → List Extent → ℕ
cycle_after buffer begun = fold (cycle_past buffer) buffer.first_cycle begun

-- the figures of a buffer
abbrev pub buffer_figures : Terms → State → Buffer → BufferFigures
buffer_figures w σ buffer =
    let begun = extents_from 0 w.groups σ.begun in
    record {
      cycle = cycle_after buffer begun;
      front = front_of w σ buffer;
      begun = count_by (is_begun_in buffer) begun;
      stored = count_by (is_kept_in buffer) σ.kept;
    }

-- the figures of a feed whose ring has room for so many tokens
abbrev pub feed_figures : (size : ℕ) → Feed → FeedFigures
feed_figures size feed =
    let waiting = length (ring size (as_ring feed)) in
    record {
      waiting = waiting;
      gained = length feed.gained;
      overwritten = length feed.gained - feed.taken - waiting;
    }
