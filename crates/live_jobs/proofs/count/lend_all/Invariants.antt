use Rattle.std.proofs.Common.{◌≡◌, ◌≤◌, ℕ, false, length, map, take, Some}
use Rattle.std.specs.Prelude.{slice_get}
use Rattle.live_jobs.specs.Gathered.{kept_by_all}
use Rattle.live_jobs.proofs.count.lend_all.Given as goal

abbrev pub invariant-loop-group : goal.invariant-loop-group
invariant-loop-group g l = record {
  count : length l.writers.items ≡ length l.fn.writers.items;
  parts : l.all.parts ≡ l.group;
  amount : l.all.amount
      ≡ kept_by_all g.O.Outcome.kept
      (take l.group (map (λ w. w.finished.items) l.fn.writers.items));
  here : (k : ℕ) (w : _) → l.group ≤ k → slice_get l.writers.items k ≡ Some w → w.lent ≡ false;
  finished : map (λ w. w.finished.items) l.writers.items
      ≡ map (λ w. w.finished.items) l.fn.writers.items;
  pass : map (λ w. w.pass) l.writers.items ≡ map (λ w. w.pass) l.fn.writers.items;
  closed : map (λ w. w.closed.items) l.writers.items ≡ map (λ w. w.closed.items) l.fn.writers.items;
}
