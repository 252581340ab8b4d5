use Rattle.std.proofs.Common.{◌-◌, length}
use Rattle.article_parse.specs.Header.{IsContent}
use Rattle.article_parse.proofs.header.content_end.Given as goal

-- the content may end here
abbrev pub invariant-loop-line : goal.invariant-loop-line
invariant-loop-line l = IsContent l.text l.first l.end

abbrev pub decreases-loop-line : goal.decreases-loop-line
decreases-loop-line l = length l.text - l.end
