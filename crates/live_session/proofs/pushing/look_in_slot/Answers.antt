use Rattle.std.proofs.Common.{◌-◌, ◌∙◌, ◌++◌, ◌∷◌, [], ap, refl, sym}
use Rattle.live_jobs.specs.declared.store_result.KeptJob.{KeptJob}
use Rattle.live_session.proofs.Differs.{slot-memory}
use Rattle.live_session.proofs.Sharings.{slot_empty, slot_failed, slot_kept}
use Rattle.live_session.proofs.pushing.look_in_slot.Goals as goal
use Rattle.live_session.specs.Going.{hands_at}

pub returns-then-handed-eq0 : goal.returns-then-handed-eq0
returns-then-handed-eq0 g c = record {
  seat = refl;
  place = record { number = refl; end_is = refl };
  shared = λ w. slot_empty w c.args.live.now;
  reads = tt;
  slot = sym c.handed-handed.ensures ∙ c.if-handed-eq0.true;
  push = λ channels step. tt;
  memory = λ is. absurd (slot-memory _ is);
}

-- memory was refused
pub returns-then-is_err : goal.returns-then-is_err
returns-then-is_err g c = record {
  seat = refl;
  place = record { number = refl; end_is = refl };
  shared = λ w honest trusts m d gathered planned is fits other. absurd (other refl);
  reads = tt;
  slot = tt;
  push = λ channels step. tt;
  memory = λ same. record {
    session = refl;
    reads = refl;
    hands = ap (λ l. hands_at c.args.live.now.seat l) c.reserve.ensures.items;
  };
}

pub returns-in-Some : goal.returns-in-Some
returns-in-Some g c =
    let live = c.args.live.now in
    let one : KeptJob g.row.J.Denot g.J.StorePremises = c.new.result in
    record {
      seat = refl;
      place = record { number = refl; end_is = refl };
      shared = λ w. slot_kept w live
          (record live { kept = c.push_reserved.new.self }) one refl refl refl
          (c.push_reserved.ensures.items ∙ ap (λ l. l ++ one ∷ []) c.reserve.ensures.items)
          (c.new.ensures.0 ∙ c.outcome-number.ensures ∙ ap (λ n. n - 1) c.handed-handed.ensures);
      reads = tt;
      slot = tt;
      push = λ channels step. tt;
      memory = λ is. absurd (slot-memory _ is);
    }

pub returns-in-None : goal.returns-in-None
returns-in-None g c =
    let live = c.args.live.now in
    record {
      seat = refl;
      place = record { number = refl; end_is = refl };
      shared = λ w. slot_failed w live
          (record live { kept = c.reserve.new.self }) refl
          (ap (λ l. hands_at live.seat l) c.reserve.ensures.items);
      reads = tt;
      slot = tt;
      push = λ channels step. tt;
      memory = λ is. absurd (slot-memory _ is);
    }
