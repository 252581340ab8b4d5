-- Where another article begins inside one, none begins at its first block; else it is found.
use Rattle.std.proofs.Common.{◌∙◌, refl, sym, ap, arith}
use Rattle.std.proofs.lemmas.Bool.{false≢true}
use Rattle.news_terms.specs.Token as terms
use Rattle.cyc_token.specs.Token.{token_view}
use Rattle.cyc_buffer.specs.Readings.{ReadsWhole}
use Rattle.cyc_buffer.proofs.ReadingLemmas.{reads_damaged, reads_err, told}
use Rattle.cyc_buffer.proofs.Refusals.{damage_by, same_token}
use Rattle.cyc_buffer.proofs.articles.read_whole.Goals as goal

pub returns-then-not-are_clear : goal.returns-then-not-are_clear
returns-then-not-are_clear g c = record {
  found = λ honest. tt;
  place = tt;
  refused = λ honest t here read clear.
      let found = c.in_ok-token.ensures in
      let is = found.read honest in
      let same = same_token (g.S.BlockStore.blocks c.args.store.now) c.args.stretch.now.number
      c.args.stretch.now.cycle c.args.stretch.now.end c.args.first t
      (token_view c.in_ok-token.token)
      (found.only honest) is.buffer is.cycle found.place.0 here read in
      let length = ap (λ (u : terms.Token). u.length) same in
      let mark = c.are_clear.ensures.marked c.if-not-are_clear.true in
      false≢true (sym (clear mark.at (omega (arith, mark.behind, here))
      (omega (arith, mark.before, here, length, c.size_of.ensures))) ∙ mark.marked);
  calls = tt;
  reads = reads_damaged g.S.BlockStore c.args.store.now c.read_article.new.store
      c.in_ok-token.ensures.reads.held c.in_ok-token.ensures.reads.no_failure;
}

pub returns-in_err-token : goal.returns-in_err-token
returns-in_err-token g c =
    told c.from_residual.result c.in_err-token.field-0.0 c.from_residual.ensures
    (λ r. ReadsWhole g.S.BlockStore c.args.store.now c.read_article.new.store
    c.args.starts.now.words.items c.args.stretch.now c.args.first r)
    (record {
      found = λ honest. tt;
      place = tt;
      refused = λ honest. damage_by c.in_err-token.field-0.0
          (λ none t here read clear. none t here read (λ j behind before. refl))
          (c.in_err-token.ensures.refused honest);
      calls = tt;
      reads = reads_err g.S.BlockStore c.args.store.now c.read_article.new.store
          c.in_err-token.field-0.0 c.in_err-token.ensures.reads;
    })

pub returns : goal.returns
returns g c =
    let found = c.in_ok-token.ensures in
    record {
      found = λ honest. record {
        here = found.place.0;
        read = found.read honest;
        clear = λ j behind before. c.are_clear.ensures.clear c.if-not-are_clear.false j
            (omega (arith, behind, found.place.0))
            (omega (arith, before, found.place.0, c.size_of.ensures));
        only = found.only honest;
      };
      place = found.place;
      refused = λ honest. tt;
      calls = found.calls;
      reads = found.reads;
    }
