use Rattle.relay_explain.specs.Lines.{told_line}
use Rattle.relay_explain.specs.Peers.{feed_told}
use Rattle.relay_explain.proofs.Puts.{two}
use Rattle.relay_explain.proofs.feeds.put_feed_line.Goals as goal

pub returns : goal.returns
unfolding feed_told told_line
returns c =
    two (two c.begin_line-text.ensures
    (two (two (two c.put-text.ensures c.put_hash.ensures) c.add.ensures) c.add_number.ensures))
    c.add-2.ensures
