use Rattle.live_store.specs.Tied.{number_at}
use Rattle.live_store.proofs.StopLemmas.{article_of}
use Rattle.live_store.proofs.laws.shut_are_articles.Goals as goal

pub returns : goal.returns
returns c register stop heads blocks shut cycle first article there =
    article_of register shut.history.buffer cycle first article (number_at shut.numbers first)
    (shut.numbered cycle first article there.finished there.live)
