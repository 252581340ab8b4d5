use Rattle.std.proofs.Common.{◌∙◌, subst}
use Rattle.news_terms.specs.ArticleTexts.{IsArticle}
use Rattle.cyc_buffer.specs.Head.{inside}
use Rattle.cyc_buffer.proofs.ReadingLemmas.{told}
use Rattle.live_store.specs.Started.{EntersArticle, IsNoArticle}
use Rattle.live_store.proofs.ReadBackLemmas.{unentered_article, unjudged_article}
use Rattle.live_store.proofs.ReadBackLemmas.{unread_article}
use Rattle.live_store.proofs.writing.reading_back.enter_article.Goals as goal

pub returns-in_err-text : goal.returns-in_err-text
returns-in_err-text g c =
    let a = inside c.args.buffer.now in
    let b = inside c.read_text.new.buffer in
    told _ _ c.from_residual.ensures (EntersArticle c.args.register.now a b c.args.token.now)
    (unread_article c.args.register.now a b c.args.token.now c.in_err-text.field-0.0
    c.in_err-text.ensures)

pub returns-in_err-judge : goal.returns-in_err-judge
returns-in_err-judge g c =
    let a = inside c.args.buffer.now in
    let b = inside c.read_text.new.buffer in
    told _ _ c.from_residual-in_err-judge.ensures
    (EntersArticle c.args.register.now a b c.args.token.now)
    (unjudged_article c.args.register.now a b c.args.token.now c.in_ok-text.text
    c.in_err-judge.field-0.0 c.in_ok-text.ensures
    (subst (λ octets. IsNoArticle octets c.in_err-judge.field-0.0) c.deref.ensures.value
    c.in_err-judge.ensures.refused))

pub returns-in-Ok : goal.returns-in-Ok
returns-in-Ok g c =
    let was = c.in_ok-text.ensures in
    record {
      shown = c.in-Ok.ensures.shown;
      named = c.in-Ok.ensures.token;
      text = λ h agrees live. c.in-Ok.ensures.text ∙ was.text h agrees live;
      refused = λ h agrees live. tt;
      reads = record {
        read = was.reads.read;
        fault = tt;
        failed = tt;
        no_failure = was.reads.no_failure;
      };
    }

pub returns : goal.returns
returns g c =
    unentered_article c.args.register.now (inside c.args.buffer.now) (inside c.read_text.new.buffer)
    c.args.token.now c.in_ok-text.text c.in_ok-text.ensures

-- what was judged is the text
pub enter_once-requires : goal.enter_once-requires
enter_once-requires g c = record {
  article = subst (λ octets. ∥ IsArticle octets ∥₁) c.deref.ensures.value
      c.in_ok-judge.ensures.article;
}
