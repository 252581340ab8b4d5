use Rattle.std.proofs.Common.{◌∙◌, Some, arith, refl, sym}
use Rattle.block_shelf.proofs.Stops.{fails_next, stays_failed, stops_next}
use Rattle.live_store.specs.Steps.{buffer_of}
use Rattle.relay_live.proofs.Shuts.{known_failed, known_more}
use Rattle.relay_live.proofs.stopping.shut_next.Goals as goal

pub returns-then-is_some-clause-stops : goal.returns-then-is_some-clause-stops
returns-then-is_some-clause-stops g c = λ before idle had.
    stays_failed c.args.stop (buffer_of c.args.buffer) before c.args.stores.now.items c.args.failed
    c.into_store.result c.push_reserved.new.self.items
    (sym c.is_some.ensures ∙ c.if-is_some.true) c.into_store.ensures c.push_reserved.ensures.items
    had

pub returns-then-is_some-clause-known : goal.returns-then-is_some-clause-known
returns-then-is_some-clause-known g c = λ had.
    known_failed g.S.BlockStore g.J.StorePremises c.args.stop c.args.failed c.args.stores.now.items
    c.push_reserved.new.self.items c.args.failed (sym c.is_some.ensures ∙ c.if-is_some.true)

pub returns-in-Ok-clause-stops : goal.returns-in-Ok-clause-stops
returns-in-Ok-clause-stops g c = λ before idle had.
    stops_next c.args.stop (buffer_of c.args.buffer) before c.args.stores.now.items c.args.failed
    c.in-Ok.store c.push_reserved-in-Ok.new.self.items
    (sym c.is_some.ensures ∙ c.if-is_some.false) c.push_reserved-in-Ok.ensures.items
    (record {
      held = c.in-Ok.ensures.held;
      honest = c.in-Ok.ensures.honest;
      count = c.in-Ok.ensures.count;
      calls = c.in-Ok.ensures.calls;
      no_failure = c.in-Ok.ensures.no_failure;
    })
    had

pub returns-in-Ok-clause-known : goal.returns-in-Ok-clause-known
returns-in-Ok-clause-known g c = λ had.
    known_more g.S.BlockStore g.J.StorePremises c.args.stop c.args.failed c.args.stores.now.items
    c.push_reserved-in-Ok.new.self.items c.in-Ok.store c.push_reserved-in-Ok.ensures.items
    (sym c.is_some.ensures ∙ c.if-is_some.false) c.in-Ok.ensures.known had

pub returns-in-Err-clause-stops : goal.returns-in-Err-clause-stops
returns-in-Err-clause-stops g c = λ before idle had.
    fails_next c.args.stop (buffer_of c.args.buffer) before c.args.stores.now.items c.args.failed
    c.in-Err.field-0.error (buffer_of c.in-Err.field-0.buffer) c.into_store-in-Err.result
    c.push_reserved-in-Err.new.self.items c.len-place.result
    (sym c.is_some.ensures ∙ c.if-is_some.false) idle c.in-Err.ensures.refusal
    c.in-Err.ensures.rest
    (omega (arith, c.len-place.ensures, c.args.stores.now.ok))
    (cc (c.into_store-in-Err.ensures, c.in-Err.buffer-is))
    c.push_reserved-in-Err.ensures.items had

pub returns-in-Err-clause-known : goal.returns-in-Err-clause-known
returns-in-Err-clause-known g c = λ had.
    known_failed g.S.BlockStore g.J.StorePremises c.args.stop c.args.failed c.args.stores.now.items
    c.push_reserved-in-Err.new.self.items (Some c.len-place.result) refl
