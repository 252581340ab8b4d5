use Rattle.std.proofs.Common.{length, subst, sym}
use Rattle.boxcar.specs.Table.{Shelves}
use Rattle.cyc_buffer.specs.Agreement.{store_of}
use Rattle.cyc_buffer.specs.Head.{inside}
use Rattle.cyc_buffer.specs.Reads.{IsBlamed, StaysHeld}
use Rattle.cyc_buffer.specs.Starting.{ListsLive}
use Rattle.live_store.specs.Started.{HaveFirsts}
use Rattle.live_store.specs.Tied.{AreNumbered, AreShown}
use Rattle.live_store.proofs.StartedLemmas.{have_numbers, tied_started}
use Rattle.live_store.proofs.numbered.NumberedBuffer.read_back.Goals as goal

pub invariant_of-result : goal.invariant_of-result
invariant_of-result g c = record {
  tied = tied_started g.J.StorePremises.register g.J.StorePremises.trusted
      (inside c.args.started.buffer)
      (inside c.numbers_of_articles.new.buffer) c.in-Ok.numbers.items
      c.args.started.tokens.items c.requires.started c.requires.idle
      c.numbers_of_articles.ensures.reads.read
      (have_numbers (inside c.args.started.buffer) c.args.started.tokens.items
      c.in-Ok.numbers.items c.requires.listed c.in-Ok.ensures.length
      (subst (λ tokens. HaveFirsts tokens (length tokens) c.in-Ok.numbers.items)
      c.deref.ensures.value c.in-Ok.ensures.firsts))
      (λ trusted h agrees lists.
      subst (λ (r : Shelves). AreNumbered trusted r h c.in-Ok.numbers.items) c.requires.register
      (c.in-Ok.ensures.numbered trusted h agrees
      (subst (λ tokens. ListsLive tokens h) (sym c.deref.ensures.value) lists)))
      (subst (λ (r : Shelves). AreShown r c.in-Ok.numbers.items) c.requires.register
      c.in-Ok.ensures.shown)
      c.in-Ok.ensures.length;
}

pub returns-in-Ok : goal.returns-in-Ok
returns-in-Ok g c =
    let was = c.in-Ok.ensures in
    record {
      read = was.reads.read;
      numbered = λ trusted h agrees lists.
          subst (λ (r : Shelves). AreNumbered trusted r h c.in-Ok.numbers.items) c.requires.register
          (was.numbered trusted h agrees
          (subst (λ tokens. ListsLive tokens h) (sym c.deref.ensures.value) lists));
      refused = λ h agrees lists. tt;
      held = tt;
      fault = tt;
      failed = tt;
      no_failure = was.reads.no_failure;
    }

pub returns : goal.returns
returns g c =
    let was = c.in-Err.ensures in
    let store = store_of (inside c.args.started.buffer) in
    record {
      read = tt;
      numbered = tt;
      refused = λ h agrees lists. was.refused h agrees
          (subst (λ tokens. ListsLive tokens h) (sym c.deref.ensures.value) lists);
      held = subst (StaysHeld g.S.BlockStore store) (sym c.into_store.ensures) was.reads.read.held;
      fault = was.reads.fault;
      failed = subst (λ s. IsBlamed g.S.BlockStore store s c.in-Err.error)
          (sym c.into_store.ensures) was.reads.failed;
      no_failure = tt;
    }
