use Rattle.std.proofs.Common.{◌≡◌, refl, ap, ◌∙◌, ℕ, false, arith}
use lib.Dec.{ltb}
use Rattle.std.proofs.lemmas.Bool.Decides.{nat_tests}
use Rattle.live_jobs.proofs.Passes.{fits_at, fits_marks, mark_step, handed_more}
use Rattle.live_jobs.proofs.Rows.{below_past}
use Rattle.live_jobs.proofs.session.push_marks.Goals as goal

pub loop-group-init : goal.loop-group-init
loop-group-init g c = (fits_marks _ _ _ _ _ c.requires.fits (λ k below. none k), refl)
  where
    none : (k : ℕ) → false ≡ ltb k 0
    none k = grind (arith, nat_tests)

pub close_end-requires-clause-pass : goal.close_end-requires-clause-pass
close_end-requires-clause-pass g c =
    let below = below_past _ _ _ c.loop-group-test.true c.requires.groups in
    (fits_at _ _ _ _ _ _ _ c.loop-group.invariant.0 below c.index-channels-group.is
    c.index_mut.ensures.value).1

pub close_end-requires-clause-open : goal.close_end-requires-clause-open
close_end-requires-clause-open g c =
    let unmarked : ltb c.loop-group.group c.loop-group.group ≡ false = grind (arith, nat_tests) in
    let below = below_past _ _ _ c.loop-group-test.true c.requires.groups in
    let at = fits_at _ _ _ _ _ _ _ c.loop-group.invariant.0 below c.index-channels-group.is
    c.index_mut.ensures.value in
    (at.2, at.3 ∙ unmarked)

pub loop-group-preserved : goal.loop-group-preserved
loop-group-preserved g c =
    let below = below_past _ _ _ c.loop-group-test.true c.requires.groups in
    let at = fits_at _ _ _ _ _ _ _ c.loop-group.invariant.0 below c.index-channels-group.is
    c.index_mut.ensures.value in
    let step = mark_step _ _ _ _ _ _ c.close_end.new.pass c.loop-group.invariant.0 below
    c.index-channels-group.is c.index_mut.ensures.value
    c.close_end.ensures.pass (handed_more _ _ _ _ at.2 c.close_end.ensures.marked) in
    (step.0, step.1 ∙ c.loop-group.invariant.1)

pub returns : goal.returns
returns g c =
    let end : c.loop-group.group ≡ c.args.groups = omega arith in
    record {
      fits = fits_marks _ _ _ _ _ c.loop-group.invariant.0 (λ k less. ap (ltb k) end);
      handed = c.loop-group.invariant.1;
    }
