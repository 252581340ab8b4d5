-- A relay that was not stopped is repaired: from what, and to what (docs/PROTOCOL.md, Crashes).
use Rattle.std.specs.Prelude.{◌≡◌, ℕ, ◌≤◌, Bool, All, List, [], min, length, map, Option}
use Rattle.article_verdict.specs.Config.{terms_of}
use Rattle.cyc_block.specs.declared.store.BlockStore.{Ghosts}
use Rattle.id_history.specs.History as texts
use Rattle.news_terms.specs.Token.{Token}
use Rattle.relay_conf.specs.declared.settings.Config.{Config}
use Rattle.relay_facts.specs.Started.{HasSameStore}
use Rattle.relay_model.specs.Crash.{Crash, Listed}
use Rattle.relay_model.specs.Terms.{Terms, last_moment}
use Rattle.relay_model.specs.World.{World}
use Rattle.buffer_repair.specs.Finding.{remains_in}
use Rattle.buffer_repair.specs.Remains.{AreTurns, all_texts_left, courses_left}
use Rattle.buffer_repair.specs.declared.found_set.FoundBufferSet.{FoundBufferSet}
use Rattle.relay_core.specs.Killing.{IsLeftBy}
use Rattle.relay_core.specs.Stopping.{IsShut, IsShutLeft, next_stop}
use Rattle.repair_laws.specs.FoundAll.{AreBuffersFound}
use Rattle.relay_repair.specs.Telling.{IsLast, last_listed, last_stop}

-- Stores and text are those of the stop of a world that a crash leads to from this one: with the
-- texts that are found, and the ids that the history of the last stop lists.
pub record IsRepairOf {S : Type 0} (g : Ghosts S) (config : Config) (last : Option texts.Kept)
    (now : ℕ) (w : Terms) (saved : Token → Bool) (x : World) (stores : List S)
    (history : List ℕ)
    : Type 0 where
  pub after : World
  pub crash : Crash w (terms_of config) saved x after
  pub listed : crash.found.listed ≡ last_listed last
  pub moment : crash.found.moment ≡ min now last_moment
  pub shut : IsShut g (terms_of config) (next_stop (last_stop last)) stores history after

-- what a repair gives over honest stores, whatever relay with these buffers, groups and feeds was
-- left on them, whose last history is this
abbrev pub RepairsFrom : {S : Type 0} (g : Ghosts S) → Config → (stores : List S)
    → (last : Option texts.Kept) → (now : ℕ) → (back : List S) → (history : List ℕ) → Type 0
RepairsFrom g config stores last now back history =
    All g.honest stores → (w : Terms) (saved : Token → Bool) (x : World)
    → HasSameStore w (terms_of config) → IsLeftBy g stores w saved x
    → IsRepairOf g config last now w saved x back history

-- so it does from the history that is handed in
abbrev pub Repairs : {S : Type 0} (g : Ghosts S) → Config → (stores : List S)
    → (text : Option (List ℕ)) → (now : ℕ) → (back : List S) → (history : List ℕ) → Type 0
Repairs g config stores text now back history =
    (last : Option texts.Kept) × IsLast config text last
    × RepairsFrom g config stores last now back history

-- they are, and a crash may leave the stores
pub record IsLeftRepairOf {S : Type 0} (g : Ghosts S) (config : Config) (last : Option texts.Kept)
    (now : ℕ) (w : Terms) (saved : Token → Bool) (x : World) (stores : List S)
    (history : List ℕ)
    : Type 0 where
  pub repair : IsRepairOf g config last now w saved x stores history
  pub left : IsShutLeft g (terms_of config) (next_stop (last_stop last)) stores repair.after

-- a repair gives such, whatever relay was left
abbrev pub RepairsLeftFrom : {S : Type 0} (g : Ghosts S) → Config → (stores : List S)
    → (last : Option texts.Kept) → (now : ℕ) → (back : List S) → (history : List ℕ) → Type 0
RepairsLeftFrom g config stores last now back history =
    All g.honest stores → (w : Terms) (saved : Token → Bool) (x : World)
    → HasSameStore w (terms_of config) → IsLeftBy g stores w saved x
    → IsLeftRepairOf g config last now w saved x back history

-- so it does from the history that is handed in
abbrev pub RepairsLeft : {S : Type 0} (g : Ghosts S) → Config → (stores : List S)
    → (text : Option (List ℕ)) → (now : ℕ) → (back : List S) → (history : List ℕ) → Type 0
RepairsLeft g config stores text now back history =
    (last : Option texts.Kept) × IsLast config text last
    × RepairsLeftFrom g config stores last now back history

-- how many blocks each store has
abbrev pub counts_of : {S : Type 0} → Ghosts S → List S → List ℕ
counts_of {S} g stores = map (λ (store : S). length (g.blocks store)) stores

-- STEP BY STEP

-- each listed moment is one that there is
abbrev pub AreInTime : List Listed → Type 0
AreInTime listed = All (λ (one : Listed). one.moment ≤ last_moment) listed

-- what is found in these buffers is of a relay that was in this world, whosever turn it is
abbrev pub IsFoundOf : {S : Type 0} {g : Ghosts S} → FoundBufferSet S g → (w v : Terms)
    → (saved : Token → Bool) → World → Type 0
IsFoundOf found_set w v saved x =
    (turns : ℕ → ℕ) → AreTurns v.groups turns
    → AreBuffersFound found_set w v saved x
    (courses_left v.groups turns (remains_in found_set))
    (all_texts_left (λ token. []) (remains_in found_set))

-- what the shutting of buffers that were found again gives
abbrev pub ShutsFound : {S : Type 0} {g : Ghosts S} → Config → FoundBufferSet S g
    → (last : Option texts.Kept) → (now : ℕ) → (back : List S) → (history : List ℕ) → Type 0
ShutsFound {g = g} config found_set last now back history =
    (w : Terms) (saved : Token → Bool) (x : World)
    → IsFoundOf found_set w (terms_of config) saved x
    → IsLeftRepairOf g config last now w saved x back history
