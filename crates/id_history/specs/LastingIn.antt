-- What outlives a stop in the maps of shards (docs/PROTOCOL.md, Clean stop and start).
use Rattle.std.specs.Prelude.{ℕ, List, [], ◌∷◌, length, Option, None, Some, String, option_map}
use Rattle.std.specs.declared.alloc.Global.{Global}
use Rattle.std.specs.List.{flat_map, sum_by}
use Rattle.std.specs.String.{string_bytes}
use Rattle.cyc_token.specs.Token.{token_view}
use Rattle.cyc_token.specs.declared.Token as code
use Rattle.id_history.specs.History.{KeptId}
use Rattle.id_history.specs.declared.claims.Entry.{Entry}
use Rattle.id_history.specs.declared.claims.Entry.TheVariants as entry
use Rattle.id_history.specs.declared.claims.Shard.{Shard}
use Rattle.id_history.specs.declared.shards.Shards.{Shards}

-- what is left of an entry of this id
abbrev pub kept_by : List ℕ → Entry → List KeptId
kept_by id (entry.Offered session since) = []
kept_by id (entry.Storing session) = []
kept_by id (entry.Stored token moment) =
    record { id = id; token = Some (token_view token); moment = moment } ∷ []
kept_by id (entry.Refused moment) = record { id = id; token = None; moment = moment } ∷ []

-- an id with the token and the moment, where something is left of it
abbrev pub kept_with : List ℕ → Option (Option code.Token × ℕ) → List KeptId
kept_with id None = []
kept_with id (Some fate) =
    record { id = id; token = option_map token_view fate.0; moment = fate.1 } ∷ []

-- what is left of an entry of the map
abbrev pub kept_of : String Global × Entry → List KeptId
kept_of pair = kept_by (string_bytes pair.0) pair.1

-- how many ids of the shard are left
abbrev pub lasting_count : Shard → ℕ
lasting_count shard = length (flat_map kept_of shard.entries.entries)

-- how many ids of all shards are left
abbrev pub all_lasting : Shards → ℕ
all_lasting shards = sum_by lasting_count shards.shards.items
