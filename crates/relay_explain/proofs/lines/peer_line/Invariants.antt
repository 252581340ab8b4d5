use Rattle.std.proofs.Common.{◌≡◌, ◌+◌, drop, map}
use Rattle.relay_explain.specs.Lines.{begins_with, line_where, words_in}
use Rattle.relay_explain.proofs.lines.peer_line.Given as goal

-- no line so far is it
abbrev pub invariant-loop-at : goal.invariant-loop-at
invariant-loop-at l =
    line_where (λ line. begins_with l.key l.name (words_in line)) (map (λ line. line.now) l.lines)
    ≡ l.at + line_where (λ line. begins_with l.key l.name (words_in line))
    (map (λ line. line.now) (drop l.at l.lines))
