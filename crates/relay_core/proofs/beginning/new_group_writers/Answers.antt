use Rattle.std.proofs.Common.{◌∙◌, ◌+◌, All, ap, refl, subst, sym}
use Rattle.std.proofs.lemmas.List.Elements.{All-nil, All-push}
use Rattle.relay_core.proofs.Fillings.{has_room_at, room_stays}
use Rattle.relay_core.specs.Beginning.{IsIdle}
use Rattle.relay_core.proofs.beginning.new_group_writers.Goals as goal

-- none yet
pub loop-init : goal.loop-init
loop-init c = record {
  count = c.in_ok-group_writers.ensures.len;
  room = c.in_ok-group_writers.ensures.capacity;
  idle = subst (All IsIdle) (sym c.in_ok-group_writers.ensures.items) (All-nil IsIdle);
}

-- there is room for the next
pub push_reserved-requires : goal.push_reserved-requires
push_reserved-requires c =
    has_room_at c.loop.invariant.count c.loop-test.true c.loop.invariant.room

-- one group writer more, which is idle
pub loop-preserved : goal.loop-preserved
loop-preserved c = record {
  count = c.push_reserved.ensures.len ∙ ap (λ n. n + 1) c.loop.invariant.count;
  room = room_stays c.loop.invariant.room c.push_reserved.ensures.capacity;
  idle = subst (All IsIdle) (sym c.push_reserved.ensures.items)
      (All-push IsIdle c.loop.group_writers.items _ c.loop.invariant.idle
      (record { none = c.in_ok-new.ensures; idle = refl }));
}
