use Rattle.std.proofs.Common.{◌≡◌, ◌∙◌, ◌++◌, ◌∷◌, [], ap, arith, vec_capacity, vec_len}
use Rattle.std.specs.Prelude.{Ok}
use Rattle.std.specs.Global.{Vec}
use Rattle.id_history.specs.declared.kept.KeptFeed.{KeptFeed}
use Rattle.relay_core.proofs.Stops.{all_left, feed_missing, kept_joins, some_of, waits_join}
use Rattle.relay_core.proofs.stopping.kept_feeds.Goals as goal
use Rattle.relay_core.proofs.stopping.kept_feeds.Goals.{in-Some, in_default}

-- there are fewer feeds than numbers
pub overflow_cast-number : goal.overflow_cast-number
overflow_cast-number c = omega (arith, c.requires, c.loop-number-test.true)

-- one feed more
pub loop-number-preserved : goal.loop-number-preserved
loop-number-preserved c =
    let n = c.loop-number.number in
    elim c.match-branch-3.branch [
      | in-Some w ↦
          let more : c.match-branch-3.kept.items ≡ c.loop-number.kept.items ++ w.in-Some.one ∷ [] =
          ap (λ (v : Vec KeptFeed). v.items) w.kept-is ∙ w.push_reserved.ensures.items in
          record {
            count = omega (
              arith,
              ap vec_len w.kept-is,
              w.push_reserved.ensures.len,
              c.loop-number.invariant.count,
            );
            room = omega (
              arith,
              ap vec_capacity w.kept-is,
              w.push_reserved.ensures.capacity,
              c.loop-number.invariant.room,
            );
            waits = waits_join c.loop-number.kept.items c.match-branch-3.kept.items w.in-Some.one
                more c.loop-number.invariant.waits
                (some_of _ _ w.in-Some.one w.in-Some.is c.in_ok-one.ensures.fits);
            left = λ sizes feed keeps all. kept_joins n c.loop-number.kept.items
                c.match-branch-3.kept.items w.in-Some.one sizes feed more
                (c.loop-number.invariant.left sizes feed keeps all)
                (some_of _ _ w.in-Some.one w.in-Some.is c.in_ok-one.ensures.left sizes feed keeps);
          }
      | in_default w ↦
          record {
            count = omega (arith, ap vec_len w.kept-is, c.loop-number.invariant.count);
            room = omega (arith, ap vec_capacity w.kept-is, c.loop-number.invariant.room);
            waits = rw w.kept-is c.loop-number.invariant.waits;
            left = λ sizes feed keeps all.
                absurd (feed_missing c.args.desk.now sizes feed n keeps
                (omega (arith, all, c.loop-number-test.true))
                (c.kept.ensures.missing.0 (c.in_ok-one.was ∙ ap Ok w.in_default.is)));
          }
    ]

-- that was the last
pub returns : goal.returns
returns c =
    record {
      left = λ sizes feed keeps all.
          all_left c.loop-number.number _ sizes feed
          (omega (arith, c.loop-number-test.false, c.loop-number.auto.number-end, all))
          (c.loop-number.invariant.left sizes feed keeps all);
      room = (
        omega (
          arith,
          c.loop-number.invariant.count,
          c.loop-number.kept.ok,
          c.loop-number.auto.number-end,
          c.requires,
        ),
        c.loop-number.invariant.waits,
      );
    }
