use Rattle.std.proofs.Common.{◌≡◌, ◌+◌, ◌∙◌, ◌++◌, ◌∷◌, [], ℕ, ap, sym, refl, subst}
use Rattle.std.proofs.Common.{length, arith, false}
use Rattle.std.proofs.lemmas.Result.{IfOk-from_err}
use Rattle.job_queue.specs.declared.known.Known.{Known}
use Rattle.job_queue.specs.Delivery.{knows, end_knows, end_limit}
use Rattle.live_jobs.specs.Started.{IsUnused}
use Rattle.live_jobs.proofs.Passes.{read_at, length_set, fits_snoc, map_set_same}
use Rattle.live_jobs.proofs.Plans.{finished_next, todo_next}
use Rattle.live_jobs.proofs.Rows.{below_same, zero_add}
use Rattle.live_jobs.proofs.Unused.{unused_snoc}
use Rattle.live_jobs.proofs.Writers.{within}
use Rattle.live_jobs.proofs.open.give_passes.Goals as goal

pub loop-end-init : goal.loop-end-init
loop-end-init g c = record {
  long = refl;
  first = c.requires.first;
  services = refl;
  finished = λ k p none at. absurd (omega arith);
  todo = λ k p from at. subst (λ (n : ℕ). IsUnused c.args.channels.now n p.seat)
      (zero_add k) (c.requires.fit k p at);
}

pub loop-end-preserved : goal.loop-end-preserved
loop-end-preserved g c =
    let inv = c.loop-end.invariant in
    let below = below_same _ _ _ c.loop-end-test.true
    (c.len-end-end.ensures ∙ c.args.plans.now.ok.0 ∙ sym inv.long) in
    let at = read_at _ _ _ below c.index_mut.ensures.value in
    let was = inv.todo c.loop-end.end c.index_mut.result.now (omega arith) at in
    let cut = c.end_pass-pass.ensures in
    let fresh = cut.end ∙ ap (λ (v : Known). end_knows v.low []) inv.first.1
    ∙ ap (λ (n : ℕ). end_knows n []) (sym was.0.0) in
    let pushed = c.in_ok-push.ensures.items in
    record {
      long = length_set c.loop-end.plans.items c.loop-end.end _ ∙ inv.long;
      first = (
        cut.passes.0,
        cut.first ∙ ap
            (λ (v : Known). knows (v.low + 1) v.high v.handed v.takes v.taken) inv.first.1,
      );
      services = map_set_same (λ p. p.service) _ _ _ _ at refl ∙ inv.services;
      finished = finished_next
          (λ n p. IsUnused (c.args.channels.now ++ c.args.channel.now ∷ []) n p.seat) _ _
          _ inv.finished (
            (was.0.0, fits_snoc _ _ _ _ _ _ was.0.1 pushed cut.passes.1 fresh),
            was.1,
            unused_snoc _ _ _ _ _ _ was.2 pushed fresh,
          );
      todo = todo_next (λ n p. IsUnused c.args.channels.now n p.seat) _ _ _ inv.todo;
    }

pub returns : goal.returns
returns g c =
    let inv = c.loop-end.invariant in
    let past : c.loop-end.end ≡ length c.args.plans.now.items =
    omega (arith, inv.long, c.len-end-end.ensures, c.args.plans.now.ok.0) in
    record {
      rest = (
        inv.first.0,
        inv.first.1 ∙ ap (λ (n : ℕ). knows n end_limit [] false []) past,
      );
      ends = inv.long;
      services = inv.services;
      fit = λ k p at.
          let less = within c.loop-end.plans.items k p at in
          subst (λ (n : ℕ). IsUnused (c.args.channels.now ++ c.args.channel.now ∷ []) n p.seat)
          (sym (zero_add k)) (inv.finished k p (omega (arith, inv.long, past)) at);
    }

-- where memory is refused there is none
pub returns-in_err-push : goal.returns-in_err-push
returns-in_err-push g c =
    let told = c.from_residual in
    record {
      rest = IfOk-from_err told.result _ told.ensures.0;
      ends = IfOk-from_err told.result _ told.ensures.0;
      services = IfOk-from_err told.result _ told.ensures.0;
      fit = IfOk-from_err told.result _ told.ensures.0;
    }
