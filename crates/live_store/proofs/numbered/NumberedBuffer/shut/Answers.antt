use Rattle.std.proofs.Common.{◌+◌, ◌∙◌, ap, length, subst, sym, true, Option}
use Rattle.std.proofs.Math.Logic.{∥∥₁_map}
use Rattle.std.specs.Global.{Vec}
use Rattle.boxcar.specs.Table.{Where}
use Rattle.news_terms.specs.HeadBlocks.{head_blocks}
use Rattle.cyc_buffer.specs.Agreement.{Agrees, Follows, store_of}
use Rattle.cyc_buffer.specs.Head.{IsInOrder, IsStopRefusal, LeavesBuffer}
use Rattle.cyc_buffer.specs.declared.buffer.Buffer.{Buffer}
use Rattle.live_store.specs.Tied.{Tied}
use Rattle.live_store.specs.declared.writing.entering.Record.{Record}
use Rattle.live_store.proofs.StopLemmas.{never_shut, parts_tied, shut_with}
use Rattle.live_store.proofs.TiedLemmas.{tied_same}
use Rattle.live_store.proofs.numbered.NumberedBuffer.shut.Goals as goal

pub unreachable-requires : goal.unreachable-requires
unreachable-requires g c = never_shut g.J.StorePremises.register g.J.StorePremises.trusted
    c.into_parts-buffer.result.0 c.into_parts-buffer.result.2.items c.in-Some.field-0
    (subst (λ o. ∥ Tied g.J.StorePremises.trusted g.J.StorePremises.register
    c.into_parts-buffer.result.0 o
    c.into_parts-buffer.result.2.items ∥₁) c.in-Some.is
    (parts_tied g.J.StorePremises.register g.J.StorePremises.trusted c.args.self.buffer
    c.into_parts-buffer.result.0 c.args.self.open_write c.into_parts-buffer.result.1
    c.args.self.numbers.items c.into_parts-buffer.result.2.items
    c.into_parts-buffer.ensures.buffer c.into_parts-buffer.ensures.open_write
    (ap (λ (v : Vec (Option (Where Record))). v.items) c.into_parts-buffer.ensures.numbers)
    c.args.self.tied))
    c.in-Ok.ensures.busy

pub invariant_of-result : goal.invariant_of-result
invariant_of-result g c = record {
  tied = ∥∥₁_map (parts_tied g.J.StorePremises.register g.J.StorePremises.trusted c.args.self.buffer
      c.into_parts-buffer.result.0 c.args.self.open_write c.into_parts-buffer.result.1
      c.args.self.numbers.items c.into_parts-buffer.result.2.items
      c.into_parts-buffer.ensures.buffer c.into_parts-buffer.ensures.open_write
      (ap (λ (v : Vec (Option (Where Record))). v.items) c.into_parts-buffer.ensures.numbers)
      c.args.self.tied) (λ t. tied_same g.J.StorePremises.register g.J.StorePremises.trusted
      c.into_parts-buffer.result.0 c.in-Err.refused.buffer c.into_parts-buffer.result.2.items
      c.into_parts-buffer.result.1 t c.in-Err.ensures.same c.in-Err.ensures.rest.buffer_state
      c.in-Err.ensures.rest.store.count);
}

pub returns-in-None : goal.returns-in-None
returns-in-None g c =
    let was = c.in-Ok.ensures in
    let parts = c.into_parts-buffer.ensures in
    record {
      held = λ h agrees. was.held h (subst (λ (b : Buffer g.row.S.Denot g.S.BlockStore).
          Agrees true b h) (sym parts.buffer) agrees);
      known = shut_with g.J.StorePremises.register g.J.StorePremises.trusted
          c.into_parts-buffer.result.0 c.into_parts-buffer.result.2.items
          c.into_parts-buffer.result.1 c.args.stop c.in-Ok.store
          (parts_tied g.J.StorePremises.register g.J.StorePremises.trusted c.args.self.buffer
          c.into_parts-buffer.result.0 c.args.self.open_write c.into_parts-buffer.result.1
          c.args.self.numbers.items c.into_parts-buffer.result.2.items
          parts.buffer parts.open_write
          (ap (λ (v : Vec (Option (Where Record))). v.items) parts.numbers)
          c.args.self.tied)
          was.held;
      honest = subst (λ (b : Buffer g.row.S.Denot g.S.BlockStore).
          g.S.BlockStore.honest (store_of b) → g.S.BlockStore.honest c.in-Ok.store) parts.buffer
          was.honest;
      count = was.count ∙ ap (λ (b : Buffer g.row.S.Denot g.S.BlockStore).
          length (g.S.BlockStore.blocks (store_of b))) parts.buffer;
      calls = was.calls ∙ ap (λ (b : Buffer g.row.S.Denot g.S.BlockStore).
          g.S.BlockStore.calls (store_of b)
          + head_blocks (length (g.S.BlockStore.blocks (store_of b)))) parts.buffer;
      no_failure = was.no_failure ∙ ap (λ (b : Buffer g.row.S.Denot g.S.BlockStore).
          g.S.BlockStore.failures (store_of b)) parts.buffer;
      free = sym parts.open_write ∙ c.in-None.is;
      refusal = tt;
      same = tt;
      rest = tt;
      order = tt;
      open_write = tt;
      numbers = tt;
    }

pub returns-in-Err : goal.returns-in-Err
returns-in-Err g c =
    let was = c.in-Err.ensures in
    let parts = c.into_parts-buffer.ensures in
    record {
      held = tt;
      known = tt;
      honest = tt;
      count = tt;
      calls = tt;
      no_failure = tt;
      free = tt;
      refusal = subst (λ (b : Buffer g.row.S.Denot g.S.BlockStore).
          IsStopRefusal b c.in-Err.refused.error c.in-Err.refused.buffer) parts.buffer was.refusal;
      same = subst (λ (b : Buffer g.row.S.Denot g.S.BlockStore).
          Follows (λ h. h) b c.in-Err.refused.buffer) parts.buffer was.same;
      rest = subst (λ (b : Buffer g.row.S.Denot g.S.BlockStore).
          LeavesBuffer b c.in-Err.refused.buffer) parts.buffer was.rest;
      order = subst (λ (b : Buffer g.row.S.Denot g.S.BlockStore).
          g.S.BlockStore.honest (store_of b) → IsInOrder b c.in-Err.refused.buffer) parts.buffer
          was.order;
      open_write = parts.open_write;
      numbers = ap (λ (v : Vec (Option (Where Record))). v.items) parts.numbers;
    }
