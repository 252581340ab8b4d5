use Rattle.relay_explain.specs.Peers.{feed_told_on}
use Rattle.relay_explain.proofs.Puts.{two}
use Rattle.relay_explain.proofs.feeds.put_told_on.Goals as goal

pub returns : goal.returns
unfolding feed_told_on
returns c =
    rw (← c.name_of.ensures, ← c.port_of.ensures, ← c.is_whole.ensures)
    (two (two (two (two c.put_feed_line-text.ensures c.put_pattern_odds-text.ensures)
    c.put_odd-text.ensures) c.put_odd-text-2.ensures) c.put_odd.ensures)
