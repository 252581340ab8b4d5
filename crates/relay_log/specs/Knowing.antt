-- What shards know of all that was said of message-ids, once it was said from its end on.
use Rattle.std.specs.Prelude.{List, ◌++◌}
use Rattle.id_history.specs.History.{KeptId}
use Rattle.id_history.specs.Lasting.{put_all}
use Rattle.id_history.specs.Shards.{KeepsAll}
use Rattle.id_history.specs.declared.shards.Shards.{Shards}
use Rattle.relay_log.specs.Folding.{nothing}

-- shards that knew what was said later know what was said before it too
abbrev pub KnowsBefore : (old new : Shards) → (said : List KeptId) → Type 0
KnowsBefore old new said =
    (later : List KeptId) → KeepsAll old (put_all nothing later)
    → KeepsAll new (put_all nothing (said ++ later))
