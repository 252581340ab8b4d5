use Rattle.std.proofs.Common.{◌≡◌, Option, Some, ap, map, refl, slice_get, subst, sym}
use Rattle.id_history.specs.Shards.{EachKeeps}
use Rattle.live_store.specs.Steps.{buffer_of}
use Rattle.post_history.specs.Shards.{shards_in}
use Rattle.relay_live.proofs.Rest.{at_rest, rest_of}
use Rattle.relay_live.proofs.Rooms.{no_more, room_of}
use Rattle.relay_live.proofs.Shuts.{shut_partly, shuts}
use Rattle.relay_live.specs.Stopping.{HasClaim, HasWrite, IsShutAll}
use Rattle.relay_live.proofs.alone.Alone.shut.Goals as goal

-- an id is being stored
pub returns-then-not-none_is_stored : goal.returns-then-not-none_is_stored
returns-then-not-none_is_stored g c = record {
  shut = tt;
  gained = λ found. tt;
  back = (
    refl,
    HasClaim (λ claims keeps. c.none_is_stored.ensures.some c.if-not-none_is_stored.true
        claims (subst (λ items. EachKeeps (shards_in items) claims)
        (sym c.deref.ensures.value) keeps)),
  );
}

-- a write is open
pub returns-then-not-none_is_written : goal.returns-then-not-none_is_written
returns-then-not-none_is_written g c =
    let some = c.none_is_written.ensures.some c.if-not-none_is_written.true in
    record {
      shut = tt;
      gained = λ found. tt;
      back = (
        refl,
        HasWrite some.0 some.1
            (subst (λ items. slice_get (map buffer_of items) some.0 ≡ Some some.1)
            c.deref-2.ensures.value some.2)
            some.3,
      );
    }

-- memory was refused
pub returns-in-Err : goal.returns-in-Err
returns-in-Err g c = record {
  shut = tt;
  gained = λ found. tt;
  back = (
    refl,
    at_rest c.args.self _ _ (ap shards_in c.deref.ensures.value) c.deref-2.ensures.value
        (rest_of _ (c.none_is_stored.ensures.none c.if-not-none_is_stored.false))
        (c.none_is_written.ensures.none c.if-not-none_is_written.false),
  );
}

pub returns-in_default : goal.returns-in_default
returns-in_default g c = record {
  shut = tt;
  gained = λ found. tt;
  back = (
    refl,
    at_rest c.args.self _ _ (ap shards_in c.deref.ensures.value) c.deref-2.ensures.value
        (rest_of _ (c.none_is_stored.ensures.none c.if-not-none_is_stored.false))
        (c.none_is_written.ensures.none c.if-not-none_is_written.false),
  );
}

-- there is room for the stores of all buffers
pub shut_all-requires-clause-few : goal.shut_all-requires-clause-few
shut_all-requires-clause-few g c = no_more _ _ _ c.args.self.buffers.ok.0 c.args.self.few

pub shut_all-requires-clause-none : goal.shut_all-requires-clause-none
shut_all-requires-clause-none g c = c.in-Ok-with_capacity.ensures.items

pub shut_all-requires-clause-room : goal.shut_all-requires-clause-room
shut_all-requires-clause-room g c =
    room_of _ _ _ c.in-Ok-with_capacity.ensures.capacity c.len.ensures

-- it is stopped
pub returns-in-None-default : goal.returns-in-None-default
returns-in-None-default g c =
    let rest = at_rest c.args.self _ _ (ap shards_in c.deref.ensures.value) c.deref-2.ensures.value
    (rest_of _ (c.none_is_stored.ensures.none c.if-not-none_is_stored.false))
    (c.none_is_written.ensures.none c.if-not-none_is_written.false) in
    record {
      shut = shuts c.args.self rest c.next_stop-stop.result c.shut_all.result.1.items
          c.in-Ok.history.items c.next_stop-stop.ensures c.in-Ok.ensures.tells
          (subst
          (λ (failed : Option _). IsShutAll c.next_stop-stop.result c.args.self.buffers.items failed
          c.shut_all.result.1.items)
          c.in-None-default.is-0 c.shut_all.ensures);
      gained = c.in-Ok.ensures.gained;
      back = tt;
    }

-- or the device of a buffer has failed
pub returns : goal.returns
returns g c =
    let rest = at_rest c.args.self _ _ (ap shards_in c.deref.ensures.value) c.deref-2.ensures.value
    (rest_of _ (c.none_is_stored.ensures.none c.if-not-none_is_stored.false))
    (c.none_is_written.ensures.none c.if-not-none_is_written.false) in
    record {
      shut = tt;
      gained = λ found. tt;
      back = (
        rest,
        shut_partly c.args.self rest c.next_stop-stop.result c.in-Some-default.number
            c.shut_all.result.1.items
            (subst
            (λ (failed : Option _). IsShutAll c.next_stop-stop.result c.args.self.buffers.items
            failed c.shut_all.result.1.items)
            c.in-Some-default.is-0 c.shut_all.ensures),
      );
    }
