use Rattle.std.proofs.Common.{◌≡◌, ◌∙◌, ap, arith, length, subst, sym, take, Some}
use Rattle.feed_queue.specs.Permission.{HasFeeds}
use Rattle.article_parse.specs.Article.{article_view}
use Rattle.news_terms.specs.Article.{IsArticleText}
use Rattle.relay_model.specs.Judging.{permitted}
use Rattle.found_texts.proofs.JudgeLemmas.{no_article, peers_counted}
use Rattle.found_texts.proofs.judging.judge.Goals as goal

pub returns-in_ok-feeds-in-Ok-clause-judged : goal.returns-in_ok-feeds-in-Ok-clause-judged
returns-in_ok-feeds-in-Ok-clause-judged c = λ w one is token octets.
    let article = article_view c.in-Ok.article in
    let peers : c.len.result ≡ length w.peers =
    omega (arith, c.len.ensures, peers_counted w c.args.relay.now is) in
    let set_up : HasFeeds w c.deref.result.now (take 65536 c.deref-in-Ok.result.now) =
    rw (c.deref.ensures.value, c.deref-in-Ok.ensures.value) is in
    record {
      article = article;
      is_read = subst (λ text. IsArticleText text article) octets c.in-Ok.ensures.read.article;
      token = sym token;
      id = ap Some (c.in_ok-id-in-Ok.ensures ∙ c.id.ensures.kept ∙ c.in-Ok.ensures.read.id);
      feeds = c.in_ok-feeds-in-Ok.ensures w set_up ∙ ap (λ n. permitted w n article) peers;
    }

pub returns-in_ok-unless_memory-in-Err-clause-judged :
    goal.returns-in_ok-unless_memory-in-Err-clause-judged
returns-in_ok-unless_memory-in-Err-clause-judged c = λ w one is token octets article reads.
    no_article c.args.text.now c.in-Err.error c.in_ok-unless_memory-in-Err.ensures
    c.in-Err.ensures.fault article (subst (λ text. IsArticleText text article) (sym octets) reads)
