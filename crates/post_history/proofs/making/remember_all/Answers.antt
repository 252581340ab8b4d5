use Rattle.std.proofs.Common.{◌≡◌, ◌∙◌, ◌≤◌, ℕ, All, ap, arith, length, map, subst, sym}
use Rattle.std.specs.Prelude.{vec_capacity}
use Rattle.std.proofs.lemmas.List.{length-map, nil_from_length}
use Rattle.std.proofs.lemmas.List.Elements.{All-nil}
use Rattle.std.specs.List.{range_with_len}
use Rattle.post_history.proofs.ShardsLemmas.{all_through, made_more, next_fits, one_there}
use Rattle.post_history.proofs.ShardsLemmas.{all_more, numbered_more, one_through}
use Rattle.post_history.specs.Began.{Takes}
use Rattle.post_history.proofs.making.remember_all.Goals as goal

pub loop-shard-init : goal.loop-shard-init
loop-shard-init g c = record {
  all = c.into_iter-shard-iterator.ensures.into_iter_gives.0;
  shards = ap (map (λ one. one.shard)) c.in_ok-remembering.ensures.items;
  numbers = ap (map (λ one. one.posts.number)) c.in_ok-remembering.ensures.items
      ∙ ap (λ (none : ℕ). range_with_len 0 none)
      (sym (ap length c.in_ok-remembering.ensures.items));
  rooms = subst (All (λ one. c.args.buffers ≤ vec_capacity one.posts.used))
      (sym c.in_ok-remembering.ensures.items) (All-nil _);
  room = omega (arith, c.in_ok-remembering.ensures.capacity, c.len.ensures, c.args.shards.ok.0);
}

-- the shard at the place takes what is its own
pub over-requires-clause-takes : goal.over-requires-clause-takes
over-requires-clause-takes g c =
    let inv = c.loop-shard.invariant in
    let place = length c.loop-shard.yielded in
    let there = one_there c.loop-shard.yielded c.loop-shard.shard-iterator.rest.items
    c.args.shards.items c.in-Some.shard c.next.new.self.rest.items inv.all
    c.in-Some.ensures.steps.0 in
    let number : place ≡ c.len-number.result =
    sym (ap length inv.shards) ∙ length-map c.loop-shard.remembering.items (λ one. one.shard)
    ∙ sym (c.len-number.ensures ∙ c.loop-shard.remembering.ok.0) in
    subst (λ (k : ℕ). Takes g.J.Naming.began k c.in-Some.shard) number
    (c.requires.take place c.in-Some.shard there)

pub push_reserved-requires : goal.push_reserved-requires
push_reserved-requires g c =
    let inv = c.loop-shard.invariant in
    next_fits (λ one. one.shard) c.loop-shard.remembering.items c.loop-shard.yielded
    c.loop-shard.shard-iterator.rest.items c.args.shards.items c.in-Some.shard
    c.next.new.self.rest.items _ _ inv.shards inv.all c.in-Some.ensures.steps.0
    c.loop-shard.remembering.ok.0 inv.room

pub loop-shard-preserved : goal.loop-shard-preserved
loop-shard-preserved g c =
    let inv = c.loop-shard.invariant in
    record {
      all = one_through c.loop-shard.yielded c.loop-shard.shard-iterator.rest.items
          c.args.shards.items c.in-Some.shard c.next.new.self.rest.items inv.all
          c.in-Some.ensures.steps.0;
      shards = made_more (λ one. one.shard) c.loop-shard.remembering.items
          c.push_reserved.new.self.items _ c.loop-shard.yielded c.in-Some.shard inv.shards
          c.push_reserved.ensures.items c.in_ok-one.ensures.shard;
      numbers = numbered_more (λ one. one.posts.number) c.loop-shard.remembering.items
          c.push_reserved.new.self.items _ _ inv.numbers c.push_reserved.ensures.items
          c.in_ok-one.ensures.number (c.len-number.ensures ∙ c.loop-shard.remembering.ok.0);
      rooms = all_more (λ one. c.args.buffers ≤ vec_capacity one.posts.used)
          c.loop-shard.remembering.items c.push_reserved.new.self.items _ inv.rooms
          c.push_reserved.ensures.items c.in_ok-one.ensures.room;
      room = omega (arith, inv.room, c.push_reserved.ensures.capacity);
    }

pub returns : goal.returns
returns g c =
    let rest = c.loop-shard.shard-iterator.rest in
    let inv = c.loop-shard.invariant in
    let remembering = c.loop-shard.remembering.items in
    let shards : map (λ one. one.shard) remembering ≡ c.args.shards.items =
    inv.shards
    ∙ all_through c.loop-shard.yielded rest.items c.args.shards.items inv.all
    (nil_from_length rest.items (sym rest.ok.0 ∙ c.in-None.ensures.steps.0)) in
    record {
      shards = shards;
      numbers = inv.numbers ∙ ap (range_with_len 0)
          (sym (length-map remembering (λ one. one.shard)) ∙ ap length shards);
      room = inv.rooms;
    }
