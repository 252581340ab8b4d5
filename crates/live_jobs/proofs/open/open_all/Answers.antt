use Rattle.std.proofs.Common.{◌∙◌, ◌+◌, ◌≡◌, ℕ, ap, arith, length, rules, subst, sym}
use Rattle.std.proofs.lemmas.Result.{IfOk-from_err}
use Rattle.live_jobs.specs.Started.{AreOpened, Ready}
use Rattle.live_jobs.proofs.Rows.{from_none}
use Rattle.live_jobs.proofs.Unused.{fresh_unused}
use Rattle.live_jobs.proofs.Writers.{rests_none}
use Rattle.live_jobs.proofs.open.open_all.Goals as goal

-- one part was split off, for one group more
one_split : (left left' group groups : ℕ) → left + group ≡ groups → left' + 1 ≡ left
    → left' + (group + 1) ≡ groups
one_split left left' group groups so_far split = omega (arith, so_far, split)

-- where nothing is counted, nothing is where none of it was split off
none_counted : (left was : ℕ) → left + 0 ≡ was → was ≡ 0 → left ≡ 0
none_counted left was same none = omega (arith, same, none)

pub loop-group-init : goal.loop-group-init
loop-group-init g c =
    let none = c.new.ensures.items in
    record {
      services = c.in_ok-plans.ensures.services;
      parts = (omega (arith, c.requires.parts.0), c.requires.parts.1);
      fit = record {
        channels = ap length none;
        count = ap length c.new-3.ensures.items;
        ends_count = c.in_ok-plans.ensures.ends;
        plans = λ k p at. fresh_unused c.new.result.items (0 + k) p.seat none
            (c.in_ok-plans.ensures.fresh k p at);
        rests = rests_none _ _ _ none c.new-2.ensures.items;
        writers = from_none (λ n w. Ready c.new.result.items
            (length c.args.services.items) n w.pass w.lent w.closed.items) _
            (ap length c.new-3.ensures.items);
      };
    }

pub loop-group-preserved : goal.loop-group-preserved
loop-group-preserved g c =
    let inv = c.loop-group.invariant in
    let add = c.in_ok-add_group.ensures in
    record {
      services = add.services ∙ inv.services;
      parts = (
        one_split _ _ _ _ inv.parts.0 c.split_off-share.ensures.parts_left,
        none_counted _ _ c.split_off-share.ensures.amount_left inv.parts.1,
      );
      fit = subst (λ (x : ℕ × ℕ). AreOpened (x.0 + 1) x.1 c.add_group.new.opened)
          (λ i. (inv.fit.channels i, (c.len-ends.ensures ∙ c.args.services.ok.0) i)) add.fit;
    }

pub add_group-requires-clause-fit : goal.add_group-requires-clause-fit
add_group-requires-clause-fit g c =
    let inv = c.loop-group.invariant in
    subst (λ (x : ℕ × ℕ). AreOpened x.0 x.1 c.loop-group.opened)
    (λ i. (sym inv.fit.channels i, sym (c.len-ends.ensures ∙ c.args.services.ok.0) i)) inv.fit

-- where memory is refused nothing is opened
pub returns-in_err-plans : goal.returns-in_err-plans
returns-in_err-plans g c =
    let told = c.from_residual in
    record {
      channels = IfOk-from_err told.result _ told.ensures.0;
      rests = IfOk-from_err told.result _ told.ensures.0;
      ends = IfOk-from_err told.result _ told.ensures.0;
      services = IfOk-from_err told.result _ told.ensures.0;
      writers = IfOk-from_err told.result _ told.ensures.0;
    }

pub returns-in_err-add_group : goal.returns-in_err-add_group
returns-in_err-add_group g c =
    let told = c.from_residual-in_err-add_group in
    record {
      channels = IfOk-from_err told.result _ told.ensures.0;
      rests = IfOk-from_err told.result _ told.ensures.0;
      ends = IfOk-from_err told.result _ told.ensures.0;
      services = IfOk-from_err told.result _ told.ensures.0;
      writers = IfOk-from_err told.result _ told.ensures.0;
    }

-- that was the last
pub returns : goal.returns
returns g c =
    let inv = c.loop-group.invariant in
    let past : c.loop-group._group ≡ c.args.groups = search rules in
    record {
      channels = (inv.fit.channels ∙ past, inv.fit.count ∙ past, inv.fit.ends_count);
      rests = inv.fit.rests;
      ends = inv.fit.plans;
      services = inv.services;
      writers = inv.fit.writers;
    }
