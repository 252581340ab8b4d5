use Rattle.std.proofs.Common.{arith, refl, None}
use Rattle.std.proofs.lemmas.Option.{none-some}
use Rattle.block_shelf.proofs.Starts.{buffers_keep, buffers_left, err_so, mixed_buffer_set}
use Rattle.block_shelf.proofs.Starts.{never_other, ok_so, few_stores, refused_buffer_set}
use Rattle.block_shelf.proofs.Starts.{refused_cause, started_stores, untouched_stores}
use Rattle.block_shelf.proofs.starting.start.Goals as goal

pub returns-in-Refused : goal.returns-in-Refused
returns-in-Refused g c = record {
  held = tt;
  keeps = tt;
  started = tt;
  refusal =
      refused_buffer_set g.S.BlockStore c.args.stores.items c.args.stop
      (rw c.in-Refused.is at c.start_each.ensures.tried);
  cause = λ w begun kept failures held.
      refused_cause c.args.settings.now c.requires held
      (rw c.in-Refused.is at c.start_each.ensures.tried);
}

pub returns-in-Some : goal.returns-in-Some
returns-in-Some g c =
    let tried = rw c.in-Started.is at c.start_each.ensures.tried in
    let first = rw c.in-Some.is at tried.2 in
    record {
      held = tt;
      keeps = tt;
      started = tt;
      refusal = mixed_buffer_set c.args.stop c.in-Some.number tried.0 tried.1 first
          c.give_back.ensures.items;
      cause = λ w begun kept failures held.
          absurd (never_other c.args.settings.now c.requires held tried.0 c.in-Some.number
          first);
    }

pub returns-in-None : goal.returns-in-None
returns-in-None g c =
    let tried = rw c.in-Started.is at c.start_each.ensures.tried in
    let unwritten = started_stores None tried.0 (λ b within e. none-some b e) in
    record {
      held = ok_so c.shelve.result c.shelve.ensures.buffers c.shelve.ensures.buffers
          (λ buffer_set same also w begun kept failures held.
          rw same (buffers_keep c.args.settings.now c.requires held tried.0));
      keeps = ok_so c.shelve.result c.shelve.ensures.buffers c.shelve.ensures.placed_groups
          (λ buffer_set same resume may_be_left w begun kept failures held left are_at.
          let texts = buffers_keep c.args.settings.now c.requires held tried.0 in
          record {
            texts = rw same texts;
            left = λ yes.
                rw same (buffers_left c.args.settings.now c.requires held tried.0 (left yes));
            placed_groups = resume w begun kept failures held.1 texts are_at;
          });
      started = ok_so c.shelve.result c.shelve.ensures.buffers c.shelve.ensures.buffers
          (λ buffer_set same also. record {
            started = grind arith;
            unwritten = rw same unwritten;
          });
      refusal = err_so c.shelve.result c.shelve.ensures.memory c.shelve.ensures.stores
          (λ refused is made. rw (is.1, made) (is.0, unwritten));
      cause = err_so c.shelve.result c.shelve.ensures.memory c.shelve.ensures.memory
          (λ refused is also w begun kept failures held. rw is.1 tt);
    }

pub returns-in_default : goal.returns-in_default
returns-in_default g c = record {
  held = tt;
  keeps = tt;
  started = tt;
  refusal =
      (refl, untouched_stores g.S.BlockStore c.args.stores.items);
  cause = λ w begun kept failures held. tt;
}

pub start_each-requires-clause-few : goal.start_each-requires-clause-few
start_each-requires-clause-few g c =
    omega (
      arith,
      c.args.stores.ok,
      few_stores g.S.BlockStore c.args.settings.now c.args.stores.items c.requires,
    )

pub give_back-requires : goal.give_back-requires
give_back-requires g c = omega (
  arith,
  rw c.in-Started.is at c.start_each.ensures.count,
  rw c.in-Started.is at c.start_each.ensures.room,
)

pub shelve-requires-clause-few : goal.shelve-requires-clause-few
shelve-requires-clause-few g c = omega (
  arith,
  c.args.stores.ok,
  few_stores g.S.BlockStore c.args.settings.now c.args.stores.items c.requires,
  rw c.in-Started.is at c.start_each.ensures.count,
)

pub shelve-requires-clause-none_back : goal.shelve-requires-clause-none_back
shelve-requires-clause-none_back g c = (rw c.in-Started.is at c.start_each.ensures.tried).1

pub shelve-requires-clause-stores_room : goal.shelve-requires-clause-stores_room
shelve-requires-clause-stores_room g c = omega (
  arith,
  rw c.in-Started.is at c.start_each.ensures.count,
  rw c.in-Started.is at c.start_each.ensures.room,
)

pub shelve-requires-clause-opened_room : goal.shelve-requires-clause-opened_room
shelve-requires-clause-opened_room g c = omega (
  arith,
  rw c.in-Started.is at c.start_each.ensures.count,
  c.in-Ok.ensures.room.1,
  c.len.ensures,
)
