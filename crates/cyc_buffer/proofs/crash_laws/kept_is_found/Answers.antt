use Rattle.cyc_buffer.proofs.CrashLaws.{front_before, found_begun, kept_found}
use Rattle.cyc_buffer.proofs.crash_laws.kept_is_found.Goals as goal

pub returns : goal.returns
returns c = record {
  kept = λ h kept blocks cycle used t left front k.
      kept_found h kept blocks left cycle used front t k;
  begun = λ h kept blocks cycle used t left front found.
      found_begun h kept blocks left cycle used front t found;
  front = λ h kept blocks cycle used left front. front_before h kept blocks left cycle used front;
}
