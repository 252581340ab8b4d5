use Rattle.cyc_buffer.proofs.FoundHistories.{found_counted, found_told}
use Rattle.cyc_buffer.proofs.crash_laws.found_is_told.Goals as goal

pub returns : goal.returns
returns c = record {
  told = λ buffer blocks cycle used tokens some count first_fits blocks_fit front lists.
      found_told buffer blocks cycle used tokens some front lists count first_fits blocks_fit;
  counted = λ buffer blocks cycle used tokens some front lists.
      found_counted buffer blocks cycle used tokens some front lists;
}
