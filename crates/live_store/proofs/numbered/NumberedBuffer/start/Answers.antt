use Rattle.std.proofs.Common.{◌∙◌, ap, is_some, length, subst, sym, true, inl}
use Rattle.cyc_buffer.proofs.Refusals.{held_on}
use Rattle.cyc_buffer.specs.Agreement.{store_of}
use Rattle.cyc_buffer.specs.BufferState.{numbers_in}
use Rattle.cyc_buffer.specs.Head.{inside}
use Rattle.cyc_buffer.specs.Stopped.{Says}
use Rattle.cyc_buffer.specs.declared.buffer_state.BufferState.{BufferState}
use Rattle.news_terms.specs.HeadBlocks.{Closed}
use Rattle.live_store.specs.Started.{AreArticles, unopened_in}
use Rattle.live_store.proofs.StartedLemmas.{blamed_later, outside_unentered, refused_for}
use Rattle.live_store.proofs.StartedLemmas.{started_of}
use Rattle.live_store.proofs.numbered.NumberedBuffer.start.Goals as goal

pub read_back-requires-clause-started : goal.read_back-requires-clause-started
read_back-requires-clause-started g c trusted =
    let honest = c.requires.honest trusted in
    started_of (inside c.in-Ok.started.buffer) c.in-Ok.started.tokens.items
    (g.S.BlockStore.heads c.args.store) (g.S.BlockStore.blocks c.args.store) (record {
      number = c.args.number;
      blocks = length (g.S.BlockStore.blocks c.args.store);
      first_cycle = c.args.first_cycle;
    }) (c.requires.stopped trusted) (c.in-Ok.ensures.agrees honest)
    (c.in-Ok.ensures.tokens honest)

pub returns-in-Err : goal.returns-in-Err
returns-in-Err g c =
    let was = c.in-Err.ensures in
    record {
      agrees = λ honest. tt;
      stop = λ honest. tt;
      numbered = λ honest. tt;
      refused = λ honest stop h held same. outside_unentered (AreArticles h)
          c.in-Err.refused.error (was.held honest stop h held same);
      started = λ honest. tt;
      reason = λ honest. inl (was.reason honest);
      said = λ honest. tt;
      unopened = tt;
      idle = tt;
      under = tt;
      same = tt;
      held = record {
        honest = was.honest;
        blocks = was.blocks;
        heads = was.heads;
        count = was.count;
      };
      failed = was.failed;
      no_failure = tt;
    }

pub returns-in-Ok-read_back : goal.returns-in-Ok-read_back
returns-in-Ok-read_back g c =
    let was = c.in-Ok.ensures in
    let read = c.in-Ok-read_back.ensures in
    record {
      agrees = λ honest stop h held same. read.read.same true h
          (was.agrees honest stop h held same);
      stop = was.stop;
      numbered = λ honest stop h held same. read.numbered true h
          (was.agrees honest stop h held same) (was.tokens honest stop h held);
      refused = λ honest stop h held same. tt;
      started = λ honest. record {
        tokens = c.in-Ok.started.tokens.items;
        starts = was.started honest;
      };
      reason = λ honest. tt;
      said = λ honest. subst
          (λ (r : BufferState). Says (g.S.BlockStore.heads c.args.store) (record {
            number = c.args.number;
            blocks = length (g.S.BlockStore.blocks c.args.store);
            first_cycle = c.args.first_cycle;
          }) (numbers_in r Closed c.in-Ok.started.stop)) (sym read.read.buffer_state)
          (was.said honest);
      unopened = read.read.opened ∙ was.unopened;
      idle = ap (λ (r : BufferState). is_some r.progress) read.read.buffer_state ∙ was.idle;
      under = read.read.stop ∙ was.under;
      same = held_on g.S.BlockStore c.args.store (store_of (inside c.in-Ok.started.buffer))
          (store_of (inside (unopened_in c.in-Ok-read_back.numbered))) was.same read.read.held;
      held = tt;
      failed = tt;
      no_failure = read.no_failure ∙ was.no_failure;
    }

pub returns-in-Err-read_back : goal.returns-in-Err-read_back
returns-in-Err-read_back g c =
    let was = c.in-Ok.ensures in
    let read = c.in-Err-read_back.ensures in
    record {
      agrees = λ honest. tt;
      stop = λ honest. tt;
      numbered = λ honest. tt;
      refused = λ honest stop h held same. read.refused h
          (was.agrees honest stop h held same) (was.tokens honest stop h held);
      started = λ honest. tt;
      reason = λ honest. refused_for (g.S.BlockStore.heads c.args.store)
          (g.S.BlockStore.blocks c.args.store) (record {
            number = c.args.number;
            blocks = length (g.S.BlockStore.blocks c.args.store);
            first_cycle = c.args.first_cycle;
          }) c.in-Ok.started.stop c.in-Ok.started.tokens.items (was.started honest)
          c.in-Err-read_back.refused.error read.fault
          (λ under h held same. read.refused h (was.agrees honest under h held same)
          (was.tokens honest under h held));
      said = λ honest. tt;
      unopened = tt;
      idle = tt;
      under = tt;
      same = tt;
      held = held_on g.S.BlockStore c.args.store (store_of (inside c.in-Ok.started.buffer))
          c.in-Err-read_back.refused.store was.same read.held;
      failed = blamed_later g.S.BlockStore c.args.store (store_of (inside c.in-Ok.started.buffer))
          c.in-Err-read_back.refused.store c.in-Err-read_back.refused.error was.no_failure
          read.failed;
      no_failure = tt;
    }
