use Rattle.std.proofs.Common.{◌≡◌, false, ap, append_assoc, arith, length, refl, Some}
use Rattle.std.proofs.lemmas.List.{length-append}
use Rattle.block_shelf.proofs.EachLemmas.{count_through, here_through, none_each, none_left}
use Rattle.cyc_buffer.specs.Head.{is_busy}
use Rattle.news_terms.proofs.ListPlaces.{holds_at}
use Rattle.buffer_repair.proofs.Shut.{holds_found, holds_left}
use Rattle.buffer_repair.specs.Parts.{buffer_in}
use Rattle.buffer_repair.specs.Shutting.{IsShutFound}
use Rattle.buffer_repair.proofs.found_set.FoundBufferSet.shut.Goals as goal

pub loop-one-preserved : goal.loop-one-preserved
loop-one-preserved g c = record {
  all = rw (append_assoc, ← c.in-Some.ensures.steps.0) c.loop-one.invariant.all;
  shut = c.shut_next-failed.ensures.shuts c.loop-one.yielded c.loop-one.invariant.shut;
  count = simp length-append (omega (arith, c.shut_next-failed.ensures.count));
  room = omega (arith, c.shut_next-failed.ensures.room);
}

pub returns-in-None-failed : goal.returns-in-None-failed
returns-in-None-failed g c =
    let through = none_left c.loop-one.yielded c.loop-one.one-iterator.rest.items
    c.loop-one.invariant.all (omega (arith, c.in-None.ensures.steps.0)) in
    let shut = rw through at (rw c.in-None-failed.is at c.loop-one.invariant.shut) in
    record {
      held = holds_found c.args.stop c.args.self c.loop-one.stores.items shut;
      left = holds_left c.args.stop c.args.self c.loop-one.stores.items shut;
      shut = shut;
      refusal = tt;
    }

pub shut_next-failed-requires-clause-room : goal.shut_next-failed-requires-clause-room
shut_next-failed-requires-clause-room g c = omega (
  arith,
  c.loop-one.invariant.count,
  c.loop-one.invariant.room,
  count_through c.loop-one.yielded c.loop-one.one-iterator.rest.items
      c.args.self.found.items c.in-Some.one c.next.new.self.rest.items
      c.loop-one.invariant.all c.in-Some.ensures.steps.0,
)

pub shut_next-failed-requires-clause-idle : goal.shut_next-failed-requires-clause-idle
shut_next-failed-requires-clause-idle g c =
    holds_at (λ one. is_busy (buffer_in one) ≡ false) c.args.self.found.items c.args.self.idle
    (length c.loop-one.yielded)
    c.in-Some.one
    (here_through c.loop-one.yielded c.loop-one.one-iterator.rest.items
    c.args.self.found.items c.in-Some.one c.next.new.self.rest.items
    c.loop-one.invariant.all c.in-Some.ensures.steps.0)

pub returns-in-Some-failed : goal.returns-in-Some-failed
returns-in-Some-failed g c =
    let through = none_left c.loop-one.yielded c.loop-one.one-iterator.rest.items
    c.loop-one.invariant.all (omega (arith, c.in-None.ensures.steps.0)) in
    let was = rw c.in-Some-failed.is at c.loop-one.invariant.shut in
    record {
      held = tt;
      left = tt;
      shut = tt;
      refusal = record {
        device = refl;
        place = c.in-Some-failed.place;
        within = omega (arith, was.0, ap length through);
        told = ap Some (c.number_of.ensures (omega (
          arith,
          was.0,
          ap length through,
          c.args.self.few,
          c.args.self.found.ok,
        )));
        each = rw through at was.1;
      };
    }

pub loop-one-init : goal.loop-one-init
loop-one-init g c = record {
  all = c.into_iter-one-iterator.ensures.into_iter_gives.0;
  shut = rw c.args.self.none_back (none_each (IsShutFound c.args.stop));
  count = omega (arith, c.args.self.stores.ok, ap length c.args.self.none_back);
  room = omega (arith, c.args.self.found.ok, c.args.self.stores_room);
}
