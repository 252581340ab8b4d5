-- What a call that serves was handed.
use Rattle.std.proofs.Common.{ℕ, Bool, List, Option, Result, refl}
use denote.Ref.{Bor, MutBor}
use Rattle.relay_conf.specs.declared.settings.Config.{Config}
use Rattle.relay_report.specs.declared.fault.ServeError.{ServeError}
use Rattle.relay_command.specs.Serving.{Handed}

-- What `post` says of a call is what the call was handed, and its answer.
pub handed : {W : Type 0} (contents : W → Option (List ℕ))
    (post : Bor Config → Bor (List ℕ) → Option ℕ → Bool → MutBor W
    → Result (Unit {0}) ServeError → MutBor W → Type 0)
    (config : Bor Config) (folder : Bor (List ℕ)) (sessions : Option ℕ) (fresh : Bool)
    (writer : MutBor W) (answer : Result (Unit {0}) ServeError) (after : MutBor W)
    → post config folder sessions fresh writer answer after
    → Handed contents post config.now folder.now sessions fresh answer (contents writer.now)
    (contents after.now)
handed contents post config folder sessions fresh writer answer after posts = record {
  lent = config;
  named = folder;
  writer = writer;
  left = after;
  posts = posts;
  of_config = refl;
  of_folder = refl;
  of_before = refl;
  of_after = refl;
}
