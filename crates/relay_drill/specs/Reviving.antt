-- What a crash between two events makes of the relay (docs/PROTOCOL.md, Crashes): it is found again
-- by a repair, which is then started.
use Rattle.std.specs.Prelude.{◌≡◌, ℕ, ◌==◌, min, Bool, false, Option, None, Some}
use Rattle.std.specs.List.{list_all}
use Rattle.block_shelf.specs.Leaving.{is_whole}
use Rattle.news_terms.specs.Places.{Buffer}
use Rattle.relay_facts.specs.Started.{started}
use Rattle.relay_model.specs.Crash.{Crash}
use Rattle.relay_model.specs.Terms.{Terms, last_moment}
use Rattle.relay_model.specs.World.{World}

-- no device of a buffer has failed
abbrev pub none_failed : Terms → World → Bool
none_failed w x = list_all (λ (buffer : Buffer). x.work.failures buffer.number == 0) w.buffers

-- The world of the relay that is killed in this one, repaired at this moment and started: each text
-- that was whole, and not gone, is found. Where a device has failed nothing is said of what that
-- has left, and so of no world from there on.
pub data Revives (w : Terms) (moment : ℕ) (x : World) : Option World → Type 0 where
  IsFound : (after : World) (crash : Crash w w (is_whole w x.state) x after)
      → crash.found.moment ≡ min moment last_moment
      → Revives w moment x (Some (started after after.work.failures))
  IsUnsaid : none_failed w x ≡ false → Revives w moment x None
