-- The world after a clean stop and a start (docs/PROTOCOL.md, Clean stop and start).
use Rattle.std.specs.Prelude.{◌≡◌, ℕ, Option, Some, unwrap_or}
use Rattle.relay_model.specs.Run.{restarted}
use Rattle.relay_model.specs.Terms.{Terms}
use Rattle.relay_model.specs.World.{World}

-- the number of the newest session as the history has it: 0 where there was none
abbrev pub newest_kept : Option ℕ → ℕ
newest_kept newest = unwrap_or newest 0

-- The world after a stop and a start: that of a Restart. The history doesn't tell a relay without a
-- session from one whose newest session is number 0, so that number is taken in either.
abbrev pub started : World → (ℕ → ℕ) → World
started x failures =
    let y = restarted x failures in
    record y { state = record y.state { newest = Some (newest_kept x.state.newest) } }

-- the other settings have the same buffers, groups and feeds
pub record HasSameStore (w other : Terms) : Type 0 where
  pub buffers : other.buffers ≡ w.buffers
  pub groups : other.groups ≡ w.groups
  pub feeds : other.feeds ≡ w.feeds
