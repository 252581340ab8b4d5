-- What a call that adds buffers was handed.
use Rattle.std.proofs.Common.{ℕ, List, Option, Result, refl}
use denote.Ref.{Bor, MutBor}
use Rattle.relay_conf.specs.declared.settings.Config.{Config}
use Rattle.relay_report.specs.declared.fault.ServeError.{ServeError}
use Rattle.relay_command.specs.Adding.{HandedTo}

-- What `post` says of a call is what the call was handed, and its answer.
pub handed_to : {W : Type 0} (contents : W → Option (List ℕ))
    (post : Bor Config → Bor (List ℕ) → MutBor W → Result (Unit {0}) ServeError → MutBor W
    → Type 0)
    (config : Bor Config) (folder : Bor (List ℕ)) (writer : MutBor W)
    (answer : Result (Unit {0}) ServeError) (after : MutBor W)
    → post config folder writer answer after
    → HandedTo contents post config.now folder.now answer (contents writer.now)
    (contents after.now)
handed_to contents post config folder writer answer after posts = record {
  lent = config;
  named = folder;
  writer = writer;
  left = after;
  posts = posts;
  of_config = refl;
  of_folder = refl;
  of_before = refl;
  of_after = refl;
}
