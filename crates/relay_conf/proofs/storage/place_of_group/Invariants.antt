use Rattle.std.proofs.Common.{◌≡◌, ◌+◌, drop, map}
use Rattle.std.specs.Prelude.{bytes_eq}
use Rattle.std.specs.List.{position_or_len}
use Rattle.relay_conf.specs.Places.{group_view}
use Rattle.relay_conf.specs.StorageFile.{group_number}
use Rattle.relay_conf.proofs.storage.place_of_group.Given as goal

-- no group so far has the name
abbrev pub invariant-loop-place : goal.invariant-loop-place
invariant-loop-place l =
    group_number (map group_view l.groups) l.name
    ≡ l.place + position_or_len (λ group. bytes_eq l.name group.name) (drop l.place l.groups)
