use Rattle.std.proofs.Common.{arith, inl, inr, refl}
use Rattle.std.proofs.lemmas.Option.{same_Some}
use Rattle.live_session.proofs.Differs.{pushed-memory}
use Rattle.live_session.proofs.Sharings.{none_in_hand, not_pushed, pushed}
use Rattle.live_session.proofs.pushing.push.Goals as goal

pub returns-then-group-channels-clause-did : goal.returns-then-group-channels-clause-did
returns-then-group-channels-clause-did g c = record {
  seat = c.requires.seat;
  place = record { number = refl; end_is = refl };
  shared = λ w. not_pushed w c.args.live.now c.args.group;
  reads = tt;
  slot = tt;
  push = λ group is. ∣ inl (omega (
    arith,
    same_Some c.args.group group is,
    c.if-group-channels.true,
  )) ∣₁;
  memory = λ is. absurd (pushed-memory _ is);
}

pub returns-then-handed-ge-JOB_NUMBERS-clause-did :
    goal.returns-then-handed-ge-JOB_NUMBERS-clause-did
returns-then-handed-ge-JOB_NUMBERS-clause-did g c = record {
  seat = c.requires.seat;
  place = record { number = refl; end_is = refl };
  shared = λ w. not_pushed w c.args.live.now c.args.group;
  reads = tt;
  slot = tt;
  push = λ group is. ∣ inr (inl (omega (arith, c.if-handed-ge-JOB_NUMBERS.true, c.handed.ensures)))
      ∣₁;
  memory = λ is. absurd (pushed-memory _ is);
}

pub returns-in-Some-clause-did : goal.returns-in-Some-clause-did
returns-in-Some-clause-did g c =
    let live = c.args.live.now in
    let given = c.hand_over-number in
    record {
      seat = given.ensures.seat;
      place = record { number = refl; end_is = given.ensures.end };
      shared = λ w. pushed w live c.args.group c.in-Some.job
          (record live { session = c.hand_over.new.self; seat = given.new.self }) c.in-Some.ensures
          given.ensures.taken given.ensures.count refl;
      reads = tt;
      slot = tt;
      push = tt;
      memory = λ is. absurd (pushed-memory _ is);
    }

pub returns-in-None-clause-did : goal.returns-in-None-clause-did
returns-in-None-clause-did g c =
    let live = c.args.live.now in
    record {
      seat = c.requires.seat;
      place = record { number = refl; end_is = refl };
      shared = λ w. none_in_hand w live c.args.group
          (record live { session = c.hand_over.new.self }) c.in-None.ensures;
      reads = tt;
      slot = tt;
      push = λ group is. ∣ inr (inr (c.hand_over.new.self, c.in-None.ensures)) ∣₁;
      memory = λ is. absurd (pushed-memory _ is);
    }
