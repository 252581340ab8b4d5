-- What is made of what a relay that was killed has left: what contracts of private functions say.
use Rattle.std.specs.Prelude.{◌≡◌, ℕ, List, length, map, Option}
use Rattle.article_verdict.specs.Config.{terms_of}
use Rattle.block_shelf.specs.Leaving.{is_whole}
use Rattle.cyc_block.specs.declared.store.BlockStore.{Ghosts}
use Rattle.relay_conf.specs.declared.cycbuff.BufferConf.{BufferConf}
use Rattle.relay_conf.specs.declared.settings.Config.{Config}
use Rattle.relay_core.specs.Killing.{IsLeftBy}
use Rattle.relay_core.specs.declared.system.System.{System}
use Rattle.relay_model.specs.World.{World}
use Rattle.relay_drill.specs.Progress.{Follows, Under}
use Rattle.relay_drill.specs.Reviving.{Revives}

-- there is a store for each of the buffers, of its blocks
abbrev pub AreSized : {S : Type 0} (g : Ghosts S) → (stores : List S) → List BufferConf → Type 0
AreSized {S} g stores buffers =
    map (λ (store : S). length (g.blocks store)) stores ≡ map (λ buffer. buffer.blocks) buffers

-- the blocks of each store are what they were
abbrev pub HoldSame : {S : Type 0} (g : Ghosts S) → (old new : List S) → Type 0
HoldSame {S} g old new =
    map (λ (store : S). g.blocks store) new ≡ map (λ (store : S). g.blocks store) old

-- The relay was repaired at this moment from what was left on these stores, and started: it agrees
-- with the world that a crash leads to from each that they may have been left by.
abbrev pub StartsOf : {S : Type 0} (g : Ghosts S) → Config → (stores : List S) → (moment : ℕ)
    → System S g → Type 0
StartsOf g config stores moment new =
    (x : World) → IsLeftBy g stores (terms_of config) (is_whole (terms_of config) x.state) x
    → (y : Option World) × Revives (terms_of config) moment x y × Follows config new y

-- so it does of each world that the relay agreed with; where a device has failed nothing is said
abbrev pub RevivesTo : {S : Type 0} {g : Ghosts S} → (moment : ℕ) → (old new : System S g) → Type 0
RevivesTo moment old new =
    (config : Config) (x : World) → Under config old x
    → (y : Option World) × Revives (terms_of config) moment x y × Follows config new y
