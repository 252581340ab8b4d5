-- A relay that a crash has left is repaired and started: what it then agrees with, and why it isn't
-- (docs/PROTOCOL.md, Crashes).
use Rattle.std.specs.Prelude.{◌≡◌, ℕ, Bool, true, All, List, Option, min}
use Rattle.article_verdict.specs.Config.{terms_of}
use Rattle.cyc_block.specs.declared.store.BlockStore.{Ghosts}
use Rattle.id_history.specs.History as texts
use Rattle.news_terms.specs.Token.{Token}
use Rattle.relay_conf.specs.declared.settings.Config.{Config}
use Rattle.relay_core.specs.Agreement.{Agrees, AgreesLeft}
use Rattle.relay_core.specs.Killing.{IsLeftBy}
use Rattle.relay_core.specs.Starting.{IsNotStarted}
use Rattle.relay_core.specs.declared.stopped.NotStarted.{NotStarted}
use Rattle.relay_core.specs.declared.system.System.{System}
use Rattle.relay_facts.specs.Started.{HasSameStore, started}
use Rattle.relay_model.specs.Crash.{Crash}
use Rattle.relay_model.specs.Terms.{Terms, last_moment}
use Rattle.relay_model.specs.World.{World}
use Rattle.relay_repair.specs.Refusing.{IsUnrepaired}
use Rattle.relay_repair.specs.Repairing.{Repairs}
use Rattle.relay_repair.specs.Telling.{IsLast, last_listed}

-- The relay agrees with what a start makes of a world to which a crash leads from this one: with
-- the texts that are found, and the ids that the history of the last stop lists, at this moment.
pub record IsRevivedFrom {S : Type 0} {g : Ghosts S} (config : Config) (text : Option (List ℕ))
    (now : ℕ) (w : Terms) (saved : Token → Bool) (x : World) (system : System S g)
    : Type 0 where
  pub after : World
  pub crash : Crash w (terms_of config) saved x after
  pub last : Option texts.Kept
  pub is_last : IsLast config text last
  pub listed : crash.found.listed ≡ last_listed last
  pub moment : crash.found.moment ≡ min now last_moment
  pub agrees : Agrees true system (started after after.work.failures)
  -- and a crash may leave its stores again
  pub left : AgreesLeft system (started after after.work.failures)

-- so it does over honest stores, whatever relay with its buffers, groups and feeds was left on them
abbrev pub Revives : {S : Type 0} (g : Ghosts S) → Config → (stores : List S)
    → (text : Option (List ℕ)) → (now : ℕ) → System S g → Type 0
Revives g config stores text now system =
    All g.honest stores → (w : Terms) (saved : Token → Bool) (x : World)
    → HasSameStore w (terms_of config) → IsLeftBy g stores w saved x
    → IsRevivedFrom config text now w saved x system

-- why it isn't
pub data IsUnrevived {S : Type 0} (g : Ghosts S) (config : Config) (stores : List S)
    (text : Option (List ℕ)) (now : ℕ) (why : NotStarted S)
    : Type 0 where
  -- it wasn't repaired
  HasNoRepair : IsUnrepaired g config stores text why
      → IsUnrevived g config stores text now why
  -- it was, but what the repair gave wasn't started
  HasNoStart : (back : List S) (history : List ℕ)
      → Repairs g config stores text now back history → IsNotStarted g config back history why
      → IsUnrevived g config stores text now why
