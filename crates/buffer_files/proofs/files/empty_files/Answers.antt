use Rattle.std.proofs.Common.{◌≡◌, ◌∙◌, ◌++◌, [], ap, arith, map, subst, sym}
use Rattle.std.proofs.lemmas.List.{nil_from_length}
use Rattle.std.proofs.lemmas.List.Elements.{All-nil, All-push}
use Rattle.std.specs.Prelude.{All, length}
use Rattle.std.specs.Vec.Iter.{into_iter_items}
use Rattle.file_blocks.specs.Store.{count_of, was_blank}
use Rattle.buffer_files.proofs.Rows.{longer, none_left, one_more_read}
use Rattle.buffer_files.specs.Files.{WasEmptied}
use Rattle.buffer_files.proofs.files.empty_files.Goals as goal

pub loop-store-init : goal.loop-store-init
loop-store-init c =
    let gives = c.into_iter-store-iterator.ensures.into_iter_gives in
    let none = c.in_ok-emptied.ensures.items in
    record {
      count = omega (arith, ap length none, gives.1 ∙ c.args.stores.ok.0);
      room = omega (
        arith,
        c.in_ok-emptied.ensures.capacity,
        c.len.ensures ∙ c.args.stores.ok.0,
      );
      blocks = λ i. map count_of (none i) ++ map count_of (gives.0 i);
      found = λ i. map was_blank (none i) ++ map was_blank (gives.0 i);
      emptied = subst (All WasEmptied) (sym none) (All-nil WasEmptied);
    }

-- there is room for one more
pub push_reserved-requires : goal.push_reserved-requires
push_reserved-requires c =
    omega (
      arith,
      c.loop-store.emptied.ok.0,
      c.in-Some.ensures.steps.1,
      c.loop-store.invariant.count,
      c.loop-store.invariant.room,
    )

-- one store more
pub loop-store-preserved : goal.loop-store-preserved
loop-store-preserved c =
    let old = c.loop-store.emptied.items in
    let new = c.push_reserved.new.self.items in
    let one = c.in_ok-store.store in
    let before = c.loop-store.invariant in
    let steps = c.in-Some.ensures.steps in
    let pushed = c.push_reserved.ensures in
    let is = c.in_ok-store.ensures in
    record {
      count = omega (arith, longer count_of old new one pushed.items, steps.1, before.count);
      room = omega (arith, before.room, pushed.capacity);
      blocks = one_more_read count_of old new one pushed.items (map count_of c.args.stores.items)
          (map count_of (into_iter_items c.loop-store.store-iterator))
          (map count_of (into_iter_items c.next.new.self)) (count_of c.in-Some.store)
          (ap (map count_of) steps.0) is.blocks before.blocks;
      found = one_more_read was_blank old new one pushed.items (map was_blank c.args.stores.items)
          (map was_blank (into_iter_items c.loop-store.store-iterator))
          (map was_blank (into_iter_items c.next.new.self)) (was_blank c.in-Some.store)
          (ap (map was_blank) steps.0) is.found before.found;
      emptied = subst (All WasEmptied) (sym pushed.items)
          (All-push WasEmptied old one before.emptied is.emptied);
    }

-- that was the last
pub returns : goal.returns
returns c =
    let rest = c.loop-store.store-iterator in
    let none : into_iter_items rest ≡ [] =
    nil_from_length rest.rest.items (sym rest.rest.ok.0 ∙ c.in-None.ensures.steps.0) in
    record {
      blocks = none_left (map count_of c.loop-store.emptied.items)
          (map count_of (into_iter_items rest)) (map count_of c.args.stores.items)
          (ap (map count_of) none) c.loop-store.invariant.blocks;
      found = none_left (map was_blank c.loop-store.emptied.items)
          (map was_blank (into_iter_items rest)) (map was_blank c.args.stores.items)
          (ap (map was_blank) none) c.loop-store.invariant.found;
      emptied = c.loop-store.invariant.emptied;
      fault = tt;
    }
