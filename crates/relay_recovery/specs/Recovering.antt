-- What is told of a relay while it is repaired (docs/FORMATS.md, Reports).
use Rattle.std.specs.Prelude.{◌≡◌, ℕ, ◌++◌, ◌∷◌, [], List, codes, flat_map, Option, Result, IfErr}
use Rattle.std.specs.Prelude.{IfOk}
use Rattle.cyc_block.specs.declared.store.BlockStore.{Ghosts}
use Rattle.relay_conf.specs.declared.cycbuff.BufferConf.{BufferConf}
use Rattle.relay_conf.specs.declared.settings.Config.{Config}
use Rattle.relay_core.specs.declared.stopped.NotStarted.{NotStarted}
use Rattle.relay_core.specs.declared.stopped.Stopped.{Stopped}
use Rattle.relay_repair.specs.Refusing.{IsUnrepaired}
use Rattle.relay_repair.specs.Repairing.{Repairs, counts_of}

-- the line of a buffer
abbrev pub buffer_line : BufferConf → List ℕ
buffer_line buffer = codes "buffer " ++ (buffer.name ++ 10 ∷ [])

-- that the relay is recovering, and which buffers it has
abbrev pub told_recovering : List BufferConf → List ℕ
told_recovering buffers = codes "recovering\n" ++ flat_map buffer_line buffers

-- what a repair of these stores answers
pub record IsRepairAnswer {S : Type 0} (g : Ghosts S) (config : Config) (stores : List S)
    (text : Option (List ℕ)) (now : ℕ) (result : Result (Stopped S) (NotStarted S))
    : Type 0 where
  pub repaired : IfOk result (λ stopped.
      Repairs g config stores text now stopped.stores.items stopped.history.items)
  pub counts : IfOk result (λ stopped.
      counts_of g stopped.stores.items ≡ counts_of g stores)
  pub refused : IfErr result (IsUnrepaired g config stores text)
