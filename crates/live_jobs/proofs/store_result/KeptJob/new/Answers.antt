use Rattle.std.proofs.Common.{sym}
use Rattle.live_jobs.proofs.store_result.KeptJob.new.Goals as goal

-- the receipt's own record
pub invariant_of-result : goal.invariant_of-result
invariant_of-result g c = record {
  shown = ∣ (c.args.receipt.now.shown, c.args.receipt.now.here, sym c.number.ensures) ∣₁;
}
