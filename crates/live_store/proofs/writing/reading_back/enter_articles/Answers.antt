use Rattle.std.proofs.Common.{◌∙◌, ◌<◌, ap, arith, subst, length, slice_index_or}
use Rattle.std.proofs.Common.{Bool, true, Some}
use Rattle.std.proofs.lemmas.List.{length-set}
use Rattle.std.specs.Prelude.{IfErr}
use Rattle.news_terms.specs.ArticleTexts.{IsArticle}
use Rattle.cyc_buffer.specs.Agreement.{Agrees}
use Rattle.cyc_buffer.specs.Head.{inside}
use Rattle.cyc_buffer.proofs.ReadingLemmas.{told}
use Rattle.cyc_token.specs.declared.Token as codes
use Rattle.live_store.specs.Started.{AreArticles, IsUnentered, ReadsArticles}
use Rattle.live_store.proofs.NumberLemmas.{shown_set}
use Rattle.live_store.proofs.ReadBackLemmas.{merely_next, refused_after}
use Rattle.live_store.proofs.ReadBackLemmas.{unentered_by}
use Rattle.live_store.proofs.StartLemmas.{firsts_item, live_at, none_token, numbered_item}
use Rattle.live_store.proofs.writing.reading_back.enter_articles.Goals as goal

pub returns-in_err-shown-clause-reads : goal.returns-in_err-shown-clause-reads
returns-in_err-shown-clause-reads g c =
    let a = inside c.args.buffer.now in
    let b = inside c.loop-token.buffer in
    let d = inside c.enter_article.new.buffer in
    told _ _ c.from_residual.ensures (ReadsArticles a d)
    (refused_after a b d c.in_err-shown.field-0.0 c.loop-token.invariant.read
    c.loop-token.invariant.failures c.in_err-shown.ensures.reads)

pub returns-clause-reads : goal.returns-clause-reads
returns-clause-reads g c = record {
  read = c.loop-token.invariant.read;
  fault = tt;
  failed = tt;
  no_failure = c.loop-token.invariant.failures;
}

pub returns-in_err-shown-clause-refused : goal.returns-in_err-shown-clause-refused
returns-in_err-shown-clause-refused g c h agrees lists =
    let items = c.args.tokens.now in
    let n = c.loop-token.token-index in
    let live = live_at h items n none_token c.loop-token-test.true lists in
    let token = slice_index_or items n none_token in
    told _ _ c.from_residual.ensures (λ r. IfErr r (IsUnentered (AreArticles h)))
    (unentered_by ∥ IsArticle live.article.text ∥₁ (AreArticles h) c.in_err-shown.field-0.0
    (λ all. all token.cycle token.first live.article
    (record { finished = live.finished; live = live.live }))
    (c.in_err-shown.ensures.refused h (c.loop-token.invariant.read.same true h agrees) live))

pub loop-token-preserved : goal.loop-token-preserved
loop-token-preserved g c =
    let was = c.loop-token.invariant in
    let items = c.args.tokens.now in
    let n = c.loop-token.token-index in
    let token = slice_index_or items n none_token in
    let numbers = c.loop-token.numbers.items in
    let now = c.in_ok-shown.ensures in
    let within : token.first < length numbers =
    omega (arith, c.requires.within n none_token c.loop-token-test.true, was.room) in
    record {
      read = merely_next (inside c.args.buffer.now) (inside c.loop-token.buffer)
          (inside c.enter_article.new.buffer) was.read now.reads.read;
      failures = now.reads.no_failure ∙ was.failures;
      firsts = firsts_item items n none_token c.in_ok-shown.shown numbers c.loop-token-test.true
          (ap (λ (t : codes.Token). t.first) now.named) within was.firsts;
      room = length-set numbers token.first (Some c.in_ok-shown.shown) ∙ was.room;
      shown = λ all. shown_set c.args.register.now numbers token.first c.in_ok-shown.shown within
          now.shown (was.shown all);
      numbered = λ trusted h agrees lists.
          numbered_item trusted c.args.register.now h items n none_token c.in_ok-shown.shown
          numbers c.loop-token-test.true lists now.shown now.named
          (λ honest. now.text h (subst (λ (b : Bool). Agrees b (inside c.loop-token.buffer) h)
          honest (was.read.same trusted h agrees)))
          within (was.numbered trusted h agrees lists);
    }

pub returns-clause-numbered : goal.returns-clause-numbered
returns-clause-numbered g c trusted h agrees lists cycle first article there j less is =
    c.loop-token.invariant.numbered trusted h agrees lists cycle first article there j
    (omega (arith, less, c.loop-token-test.false)) is

pub returns-clause-firsts : goal.returns-clause-firsts
returns-clause-firsts g c j d less inside =
    c.loop-token.invariant.firsts j d (omega (arith, less, c.loop-token-test.false)) inside
