use Rattle.live_store.specs.Tied.{number_at}
use Rattle.live_store.proofs.StopLemmas.{said_again}
use Rattle.live_store.proofs.laws.restarted_is_handed_in.Goals as goal

pub returns : goal.returns
returns c before after stop heads blocks shut numbers numbered cycle first article there =
    said_again before after shut.history.buffer cycle first article
    (number_at shut.numbers first) (number_at numbers first)
    (shut.numbered cycle first article there.finished there.live)
    (numbered cycle first article there.finished there.live)
