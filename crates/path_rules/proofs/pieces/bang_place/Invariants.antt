use Rattle.std.proofs.Common.{◌≡◌, ◌+◌, drop}
use Rattle.std.specs.Prelude.{◌==◌}
use Rattle.std.specs.List.{position_or_len}
use Rattle.std.specs.Str.{byte}
use Rattle.path_rules.proofs.pieces.bang_place.Given as goal

-- no octet so far is `!`
abbrev pub invariant-loop-place : goal.invariant-loop-place
invariant-loop-place l =
    position_or_len (λ c. c == byte "!") l.path
    ≡ l.place + position_or_len (λ c. c == byte "!") (drop l.place l.path)
