-- What the text of a history tells of the parts of a relay (docs/FORMATS.md, History file).
use Rattle.std.specs.Prelude.{ℕ, List, map}
use Rattle.id_history.specs.Views.{id_view}
use Rattle.id_history.specs.declared.kept.KeptId.{KeptId}
use Rattle.id_history.specs.Lasting.{AreLasting}
use Rattle.id_history.specs.Shards.{EachKeeps}
use Rattle.id_history.specs.declared.claims.Shard.{Shard}
use Rattle.relay_model.specs.Claims.{Claim}

-- these ids are left of the claims that the shards keep, each of its own ids
abbrev pub AreEntries : List Shard → List KeptId → Type 0
AreEntries shards entries =
    (claims : List ℕ → Claim) → EachKeeps shards claims → AreLasting (map id_view entries) claims
