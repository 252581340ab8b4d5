-- The starts of the buffers of a relay are tried side by side (docs/PROTOCOL.md, Clean stop and
-- start).
use Rattle.std.specs.Prelude.{◌≡◌, ℕ, true, List, [], ◌∷◌, Option, None, Some}
use Rattle.block_shelf.specs.Starting.{buffer_over}
use Rattle.cyc_block.specs.declared.store.BlockStore as blocks
use Rattle.cyc_buffer.specs.Agreement.{store_of}
use Rattle.cyc_buffer.specs.Head.{inside, stop_of}
use Rattle.cyc_buffer.specs.History.{History}
use Rattle.cyc_buffer.specs.Reads.{IsBlamed, StaysHeld}
use Rattle.cyc_buffer.specs.Stopped.{HoldsStopped}
use Rattle.cyc_buffer.specs.declared.starting.Refused.{Refused}
use Rattle.live_store.specs.Started.{AreArticles, IsRefusedFor, IsUnentered, WasStopped}
use Rattle.live_store.specs.Started.{unopened_in}
use Rattle.live_store.specs.declared.record.StorePremises as store_premises
use Rattle.live_store.specs.declared.unopened.UnopenedNumbered.{UnopenedNumbered}
use Rattle.relay_live.specs.Starting.{IsStartedOver}
use Rattle.relay_live.specs.declared.side_by_side.Trial.{Trial}
use Rattle.relay_live.specs.declared.side_by_side.Trial.TheVariants as trials

-- The buffer of this number isn't started from a store, which is unwritten: an honest one for the
-- first reason that its blocks give, or as the text of a live article is none.
pub record IsRefusedOver {S : Type 0} (s : blocks.Ghosts S) (number : ℕ) (store : S)
    (refused : Refused S)
    : Type 0 where
  pub held : StaysHeld s store refused.store
  pub failed : IsBlamed s store refused.store refused.error
  pub reason : s.honest store
      → IsRefusedFor (s.heads store) (s.blocks store) (buffer_over s number store) refused.error
  -- where each text that it holds as stopped is an article, that is no reason
  pub outside : s.honest store → (stop : ℕ) (h : History)
      → HoldsStopped (s.heads store) (s.blocks store) stop h
      → h.buffer ≡ buffer_over s number store → IsUnentered (AreArticles h) refused.error

-- the buffer of this number is started from a store, and was stopped at this stop
abbrev pub IsStartedAt : {S J : Type 0} {s : blocks.Ghosts S} {j : store_premises.Ghosts J}
    → (number : ℕ) → S → UnopenedNumbered S J s j → (found : ℕ) → Type 0
IsStartedAt number store one found =
    IsStartedOver number store one × (stop_of (inside (unopened_in one)) ≡ found)

-- what came of a store's buffer of this number: it wasn't tried, or is started, or refused
abbrev pub IsTried : {S J : Type 0} {s : blocks.Ghosts S} {j : store_premises.Ghosts J}
    → (number : ℕ) → S → Trial S J s j → Type 0
IsTried number store (trials.Untried back) = back ≡ store
IsTried number store (trials.Started one found) = IsStartedAt number store one found
IsTried {s = s} number store (trials.Refused refused) = IsRefusedOver s number store refused

-- a place has what came of the buffer
abbrev pub IsTriedIn : {S J : Type 0} {s : blocks.Ghosts S} {j : store_premises.Ghosts J}
    → (number : ℕ) → S → Option (Trial S J s j) → Type 0
IsTriedIn number store None = ⊥
IsTriedIn number store (Some trial) = IsTried number store trial

-- what was of a store's buffer is of it still
abbrev pub Tries : {S J : Type 0} {s : blocks.Ghosts S} {j : store_premises.Ghosts J}
    → (number : ℕ) → (old new : Option (Trial S J s j)) → Type 0
Tries {S} number old new = (store : S) → IsTriedIn number store old → IsTriedIn number store new

-- the buffer of this number may be tried over a store: what is trusted is honest, and was stopped
abbrev pub CanTryAt : {S J : Type 0} (s : blocks.Ghosts S) (j : store_premises.Ghosts J)
    → (number : ℕ) → S → Type 0
CanTryAt s j number store =
    (j.trusted ≡ true → s.honest store)
    × (j.trusted ≡ true
    → ∥ WasStopped (s.heads store) (s.blocks store) (buffer_over s number store) ∥₁)

-- so it is if it wasn't tried yet
abbrev pub CanTry : {S J : Type 0} {s : blocks.Ghosts S} {j : store_premises.Ghosts J}
    → (number : ℕ) → Trial S J s j → Type 0
CanTry {s = s} {j = j} number (trials.Untried store) = CanTryAt s j number store
CanTry number (trials.Started one found) = Unit {0}
CanTry number (trials.Refused refused) = Unit {0}

-- there is a buffer at a place, which may be tried
abbrev pub CanTryIn : {S J : Type 0} {s : blocks.Ghosts S} {j : store_premises.Ghosts J}
    → (number : ℕ) → Option (Trial S J s j) → Type 0
CanTryIn number None = ⊥
CanTryIn number (Some trial) = CanTry number trial

-- the store of a buffer, whatever came of it
abbrev pub store_in : {S J : Type 0} {s : blocks.Ghosts S} {j : store_premises.Ghosts J}
    → Trial S J s j → S
store_in (trials.Untried store) = store
store_in (trials.Started one found) = store_of (inside (unopened_in one))
store_in (trials.Refused refused) = refused.store

-- those of the places that have one
abbrev pub stores_in : {S J : Type 0} {s : blocks.Ghosts S} {j : store_premises.Ghosts J}
    → List (Option (Trial S J s j)) → List S
stores_in [] = []
stores_in (None ∷ slots) = stores_in slots
stores_in (Some trial ∷ slots) = store_in trial ∷ stores_in slots

-- a place of a store whose buffer isn't tried
abbrev pub untried : {S J : Type 0} {s : blocks.Ghosts S} {j : store_premises.Ghosts J}
    → S → Option (Trial S J s j)
untried store = Some (trials.Untried store)
