use Rattle.std.proofs.Common.{◌≡◌, ◌+◌, length, map}
use Rattle.live_jobs.specs.Started.{AreOpened}
use Rattle.live_jobs.proofs.open.open_all.Given as goal

abbrev pub invariant-loop-group : goal.invariant-loop-group
invariant-loop-group g l = record {
  services : map (λ p. p.service) l.opened.plans.items ≡ l.fn.services.items;
  parts : (l.rest.parts + l._group ≡ l.groups) × (l.rest.amount ≡ 0);
  fit : AreOpened l._group (length l.fn.services.items) l.opened;
}
