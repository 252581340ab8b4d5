use Rattle.std.proofs.Common.{map}
use Rattle.id_history.specs.Views.{id_view}
use Rattle.relay_model.specs.Claims.{Unknown}
use Rattle.id_history.specs.Lasting.{put_all}
use Rattle.id_history.specs.Shards.{KeepsAll}
use Rattle.id_history.proofs.shards.Shards.resume.Given as goal

-- the shards have what was put so far
abbrev pub invariant-loop-one : goal.invariant-loop-one
invariant-loop-one l = KeepsAll l.shards (put_all (λ id. Unknown) (map id_view l.yielded))
