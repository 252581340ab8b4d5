use Rattle.std.proofs.Common.{◌≡◌, map, drop}
use Rattle.news_terms.specs.Pattern.{permits}
use Rattle.feed_queue.specs.Permission.{octets_of, permits_rest}
use Rattle.feed_queue.proofs.permission.is_wanted.Given as goal

-- what is left decides, with whether one was Match
abbrev pub invariant-loop-group : goal.invariant-loop-group
invariant-loop-group l =
    permits l.expression (map octets_of l.groups)
    ≡ permits_rest l.expression l.has_match (map octets_of (drop l.group-index l.groups))
