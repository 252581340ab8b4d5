use Rattle.relay_explain.proofs.feeds.put_feed.Goals as goal

pub returns : goal.returns
returns c =
    rw (
      ← c.peer_at-peer.ensures,
      ← c.name_of.ensures,
      ← c.peer_line-line.ensures,
      ← c.newsgroups_at-newsgroups.ensures,
    ) c.put_told_on.ensures
