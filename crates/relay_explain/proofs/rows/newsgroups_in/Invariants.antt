use Rattle.std.proofs.Common.{◌≡◌, map, drop}
use Rattle.relay_explain.specs.Entries.{newsgroups_in}
use Rattle.relay_explain.proofs.rows.newsgroups_in.Given as goal

-- no line so far says an expression
abbrev pub invariant-loop-line : goal.invariant-loop-line
invariant-loop-line l =
    newsgroups_in (map (λ line. line.now) (drop l.line-index l.lines))
    ≡ newsgroups_in (map (λ line. line.now) l.lines)
