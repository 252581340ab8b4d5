-- What contracts see of a shard that remembers its posts.
use Rattle.std.specs.Prelude.{List, map}
use Rattle.id_history.specs.declared.claims.Shard.{Shard}
use Rattle.post_history.specs.declared.book.Naming.{Ghosts}
use Rattle.post_history.specs.declared.remembering.RememberingShard.{RememberingShard}

-- the shard itself
abbrev pub shard_in : {J : Type 0} {g : Ghosts J} → RememberingShard J g → Shard
shard_in remembering = remembering.shard

-- the shards themselves
abbrev pub shards_in : {J : Type 0} {g : Ghosts J} → List (RememberingShard J g) → List Shard
shards_in {J} {g} shards = map (λ (one : RememberingShard J g). one.shard) shards
