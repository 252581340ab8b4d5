use Rattle.std.proofs.Common.{◌∙◌, ◌+◌, ap, arith, length, map, refl}
use Rattle.std.proofs.lemmas.List.{take_all}
use Rattle.std.proofs.lemmas.Option.{slice_get_read}
use Rattle.article_verdict.proofs.SoundTerms.{are_sound}
use Rattle.article_verdict.specs.Config.{terms_of}
use Rattle.block_shelf.proofs.NewBufferSet.{group_at}
use Rattle.relay_conf.specs.Places.{group_over, group_view, numbered_buffers}
use Rattle.relay_conf.specs.Settings.{places_of_groups}
use Rattle.relay_core.proofs.Beginnings.{groups_count}
use Rattle.relay_core.proofs.Fillings.{few_members, sizes_join}
use Rattle.relay_core.specs.Desks.{members_of}
use Rattle.relay_core.proofs.desks.group_sizes.Goals as goal

-- a group has few buffers
pub overflow_cast-members : goal.overflow_cast-members
overflow_cast-members c =
    let config = c.args.config.now in
    let k = c.loop-group.group-index in
    let one = c.group-item.result in
    let there = rw c.deref-group-items.ensures.value at
    (slice_get_read c.deref-group-items.result.now _ k one refl c.loop-group-test.true
    c.group-item.is) in
    omega (
      arith,
      c.members.ensures,
      few_members (terms_of config) (are_sound config) k
          (group_over (numbered_buffers config.buffers.buffers.items) (group_view one))
          (group_at config.buffers k one there),
    )

-- there is room for the next
pub push_reserved-requires : goal.push_reserved-requires
push_reserved-requires c = omega (
  arith,
  c.loop-group-test.true,
  ap length c.deref-group-items.ensures.value,
  c.loop-group.invariant.count,
  c.loop-group.invariant.room,
)

-- one group more
pub loop-group-preserved : goal.loop-group-preserved
loop-group-preserved c =
    let config = c.args.config.now in
    let k = c.loop-group.group-index in
    let one = c.group-item.result in
    let there = rw c.deref-group-items.ensures.value at
    (slice_get_read c.deref-group-items.result.now _ k one refl c.loop-group-test.true
    c.group-item.is) in
    record {
      count = c.push_reserved.ensures.len ∙ ap (λ n. n + 1) c.loop-group.invariant.count;
      room = omega (arith, c.push_reserved.ensures.capacity, c.loop-group.invariant.room);
      said = sizes_join (places_of_groups config.buffers) k
          (group_over (numbered_buffers config.buffers.buffers.items) (group_view one))
          c.loop-group.sizes.items c.push_reserved.new.self.items c.members.result
          (group_at config.buffers k one there) c.members.ensures
          c.push_reserved.ensures.items c.loop-group.invariant.said;
    }

-- that was the last
pub returns : goal.returns
returns c =
    let places = places_of_groups c.args.config.now.buffers in
    c.loop-group.invariant.said
    ∙ ap (map members_of) (take_all c.loop-group.group-index places
    (omega (
      arith,
      c.loop-group-test.false,
      ap length c.deref-group-items.ensures.value,
      groups_count c.args.config.now,
    )))
