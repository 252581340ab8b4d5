use Rattle.std.proofs.Common.{◌∙◌, ◌+◌, ◌∷◌, [], None, Some, ap, arith, length, map, subst, sym}
use Rattle.std.proofs.lemmas.List.{length-append, length-map, map_push, nil_from_length}
use Rattle.std.proofs.lemmas.Option.{none-some}
use Rattle.block_shelf.proofs.EachLemmas.{all_through, count_through, none_each, one_through}
use Rattle.block_shelf.specs.Each.{AreEach}
use Rattle.block_shelf.specs.Stopping.{IsShutOver, IsStopped}
use Rattle.live_store.specs.Steps.{buffer_of}
use Rattle.relay_live.proofs.Rooms.{place_fits, room_of, still_fits}
use Rattle.relay_live.proofs.Shuts.{idle_here, known_none}
use Rattle.relay_live.specs.Stopping.{AreKnown}
use Rattle.relay_live.proofs.stopping.shut_all.Goals as goal

pub loop-buffer-init : goal.loop-buffer-init
loop-buffer-init g c = record {
  all = c.into_iter-buffer-iterator.ensures.into_iter_gives.0;
  stopped = λ idle. subst (AreEach (IsShutOver c.args.stop) []) (sym c.requires.none)
      (none_each (IsShutOver c.args.stop));
  known = known_none g.S.BlockStore g.J.StorePremises c.args.stop None c.args.room.items
      c.requires.none;
  count = c.args.room.ok.0 ∙ ap length c.requires.none;
  room = room_of _ _ _ c.requires.room c.args.buffers.ok.0;
}

pub shut_next-failed-requires : goal.shut_next-failed-requires
shut_next-failed-requires g c =
    place_fits _ _ _ _ _ c.loop-buffer.invariant.count
    (count_through c.loop-buffer.yielded c.loop-buffer.buffer-iterator.rest.items
    c.args.buffers.items c.in-Some.buffer c.next.new.self.rest.items
    c.loop-buffer.invariant.all c.in-Some.ensures.steps.0)
    c.loop-buffer.invariant.room

pub loop-buffer-preserved : goal.loop-buffer-preserved
loop-buffer-preserved g c = record {
  all = one_through c.loop-buffer.yielded c.loop-buffer.buffer-iterator.rest.items
      c.args.buffers.items c.in-Some.buffer c.next.new.self.rest.items
      c.loop-buffer.invariant.all c.in-Some.ensures.steps.0;
  stopped = λ idle.
      subst
      (λ codes. IsStopped c.args.stop codes c.shut_next-failed.result
      c.shut_next-failed.new.stores.items)
      (sym (map_push buffer_of c.loop-buffer.yielded c.in-Some.buffer))
      (c.shut_next-failed.ensures.stops (map buffer_of c.loop-buffer.yielded)
      (idle_here c.loop-buffer.yielded c.loop-buffer.buffer-iterator.rest.items
      c.args.buffers.items c.in-Some.buffer c.next.new.self.rest.items
      c.loop-buffer.invariant.all c.in-Some.ensures.steps.0 idle)
      (c.loop-buffer.invariant.stopped idle));
  known = c.shut_next-failed.ensures.known c.loop-buffer.invariant.known;
  count = c.shut_next-failed.ensures.count ∙ ap (λ n. n + 1) c.loop-buffer.invariant.count
      ∙ sym (length-append c.loop-buffer.yielded (c.in-Some.buffer ∷ []));
  room = still_fits _ _ _ c.loop-buffer.invariant.room c.shut_next-failed.ensures.room;
}

-- the device of a buffer has failed
pub returns-in-Some-failed : goal.returns-in-Some-failed
returns-in-Some-failed g c = λ idle.
    let through = all_through c.loop-buffer.yielded c.loop-buffer.buffer-iterator.rest.items
    c.args.buffers.items c.loop-buffer.invariant.all
    (nil_from_length c.loop-buffer.buffer-iterator.rest.items
    (sym c.loop-buffer.buffer-iterator.rest.ok.0 ∙ c.in-None.ensures.steps.0)) in
    let was =
    subst
    (λ items. IsStopped c.args.stop (map buffer_of items) (Some c.in-Some-failed.place)
    c.loop-buffer.stores.items) through
    (subst
    (λ failed. IsStopped c.args.stop (map buffer_of c.loop-buffer.yielded) failed
    c.loop-buffer.stores.items) c.in-Some-failed.is (c.loop-buffer.invariant.stopped idle)) in (
      subst
          (λ n. IsStopped c.args.stop (map buffer_of c.args.buffers.items) (Some n)
          c.loop-buffer.stores.items)
          (sym (c.number_of.ensures
          (omega (
            arith,
            was.0,
            length-map c.args.buffers.items buffer_of,
            c.requires.few,
            c.args.buffers.ok,
          ))))
          was,
      λ e trusted. absurd (none-some c.number_of.result (sym e)),
    )

-- or none
pub returns-in-None-failed : goal.returns-in-None-failed
returns-in-None-failed g c = λ idle.
    let through = all_through c.loop-buffer.yielded c.loop-buffer.buffer-iterator.rest.items
    c.args.buffers.items c.loop-buffer.invariant.all
    (nil_from_length c.loop-buffer.buffer-iterator.rest.items
    (sym c.loop-buffer.buffer-iterator.rest.ok.0 ∙ c.in-None.ensures.steps.0)) in (
      subst
          (λ items. IsStopped c.args.stop (map buffer_of items) None c.loop-buffer.stores.items)
          through
          (subst
          (λ failed. IsStopped c.args.stop (map buffer_of c.loop-buffer.yielded) failed
          c.loop-buffer.stores.items) c.in-None-failed.is (c.loop-buffer.invariant.stopped idle)),
      subst
          (λ failed. AreKnown g.S.BlockStore g.J.StorePremises c.args.stop failed
          c.loop-buffer.stores.items)
          c.in-None-failed.is c.loop-buffer.invariant.known,
    )
