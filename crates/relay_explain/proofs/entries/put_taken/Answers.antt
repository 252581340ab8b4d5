use Rattle.relay_explain.specs.Entries.{taken_text}
use Rattle.relay_explain.proofs.Puts.{two}
use Rattle.relay_explain.proofs.entries.put_taken.Goals as goal

pub returns : goal.returns
unfolding taken_text
returns c =
    let newsgroups = rw (← c.row.view_is) at c.put_newsgroups.ensures in
    rw (← c.row.view_is) (two c.put_sizes-text.ensures newsgroups)
