use Rattle.relay_metrics.proofs.whole.exposition.Goals as goal

pub returns : goal.returns
returns c = rw (c.deref.ensures.value, c.in_ok-lines.ensures) at c.text_of-text.ensures
