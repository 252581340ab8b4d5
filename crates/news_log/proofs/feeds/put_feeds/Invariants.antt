use Rattle.std.proofs.Common.{◌≡◌, ◌++◌, take}
use Rattle.news_log.specs.Lines.{feed_words}
use Rattle.news_log.proofs.feeds.put_feeds.Given as goal

-- the names of the feeds so far are there
abbrev pub invariant-loop-number : goal.invariant-loop-number
invariant-loop-number l =
    l.line.items ≡ l.fn.line.items ++ feed_words l.relay (take l.number-index l.feeds)
