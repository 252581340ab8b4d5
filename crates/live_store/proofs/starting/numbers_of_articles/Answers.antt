use Rattle.std.proofs.Common.{◌∙◌, ap, length, refl, subst, sym}
use Rattle.cyc_buffer.specs.Agreement.{store_of}
use Rattle.cyc_buffer.specs.Head.{inside}
use Rattle.cyc_buffer.specs.Remembered.{AreWithin}
use Rattle.cyc_buffer.specs.declared.answers.StartError.TheVariants as errors
use Rattle.live_store.proofs.ReadBackLemmas.{merely_none, refused_reads}
use Rattle.live_store.proofs.StartLemmas.{all_numbered, as_many}
use Rattle.live_store.proofs.TiedLemmas.{none_shown}
use Rattle.live_store.proofs.starting.numbers_of_articles.Goals as goal

-- there is a place for the number of each block
pub enter_articles-requires : goal.enter_articles-requires
enter_articles-requires g c = record {
  within = subst (λ n. AreWithin n c.args.tokens.now)
      (sym (as_many c.blocks-2.result c.in-Ok.numbers.items _ c.in-Ok.ensures
      (c.blocks-2.ensures.store
      ∙ ap (λ b. length (g.S.BlockStore.blocks (store_of b))) c.buffer.ensures)))
      c.requires.within;
}

pub returns-in-Err : goal.returns-in-Err
returns-in-Err g c =
    let a = inside c.args.buffer.now in
    record {
      numbered = tt;
      shown = tt;
      firsts = tt;
      length = tt;
      reads = refused_reads a a errors.Memory (merely_none a) tt refl;
      refused = λ h agrees lists. tt;
    }

pub returns-in-Ok-enter_articles : goal.returns-in-Ok-enter_articles
returns-in-Ok-enter_articles g c =
    let was = c.in-Ok-enter_articles.ensures in
    record {
      numbered = λ trusted h agrees lists. all_numbered trusted c.args.register.now h
          c.args.tokens.now c.enter_articles.new.numbers.items lists
          (was.numbered trusted h agrees lists);
      shown = was.shown
          (none_shown c.args.register.now c.blocks-2.result c.in-Ok.numbers.items c.in-Ok.ensures);
      firsts = was.firsts;
      length = was.length
          ∙ as_many c.blocks-2.result c.in-Ok.numbers.items _ c.in-Ok.ensures
          (c.blocks-2.ensures.store
          ∙ ap (λ b. length (g.S.BlockStore.blocks (store_of b))) c.buffer.ensures);
      reads = record {
        read = was.reads.read;
        fault = tt;
        failed = tt;
        no_failure = was.reads.no_failure;
      };
      refused = λ h agrees lists. tt;
    }

pub returns-in-Err-enter_articles : goal.returns-in-Err-enter_articles
returns-in-Err-enter_articles g c =
    let was = c.in-Err-enter_articles.ensures in
    record {
      numbered = tt;
      shown = tt;
      firsts = tt;
      length = tt;
      reads = refused_reads (inside c.args.buffer.now) (inside c.enter_articles.new.buffer)
          c.in-Err-enter_articles.error was.reads.read was.reads.fault was.reads.failed;
      refused = was.refused;
    }
