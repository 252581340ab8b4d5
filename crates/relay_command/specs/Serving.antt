-- What whatever serves was handed, and how it answered (docs/PROTOCOL.md, `serve`, `reload`).
use Rattle.std.specs.Prelude.{◌≡◌, ℕ, Bool, List, Option, Result, Ok, Err}
use denote.Ref.{Bor, MutBor}
use Rattle.relay_conf.specs.declared.settings.Config.{Config}
use Rattle.relay_command.specs.Check.{IsIn}
use Rattle.relay_report.specs.Serve.{ServeGives}
use Rattle.relay_report.specs.declared.fault.ServeError.{ServeError}

-- what serving may come to: of a configuration, the folder of its files, the number of connections
-- after which each port ends, and whether all buffers are formatted, how it answers, with what was
-- written before and after
abbrev pub Serving : Type 1
Serving = Config → (folder : List ℕ) → (sessions : Option ℕ) → (fresh : Bool)
    → Result (Unit {0}) ServeError → (before after : Option (List ℕ)) → Type 0

-- A call that serves was handed this configuration, this folder, this number of connections,
-- whether all is formatted and a writer with what was written before, and gave this answer, and a
-- writer with what was written after: `post` says so of the call.
pub record Handed {W : Type 0} (contents : W → Option (List ℕ))
    (post : Bor Config → Bor (List ℕ) → Option ℕ → Bool → MutBor W
    → Result (Unit {0}) ServeError → MutBor W → Type 0)
    (config : Config) (folder : List ℕ) (sessions : Option ℕ) (fresh : Bool)
    (answer : Result (Unit {0}) ServeError) (before after : Option (List ℕ)) : Type 0 where
  pub lent : Bor Config
  pub named : Bor (List ℕ)
  pub writer : MutBor W
  pub left : MutBor W
  pub posts : post lent named sessions fresh writer answer left
  pub of_config : lent.now ≡ config
  pub of_folder : named.now ≡ folder
  pub of_before : contents writer.now ≡ before
  pub of_after : contents left.now ≡ after

-- What lives of a relay give that are served one after the other: the first with this configuration,
-- each further one with it again, or with one that `IsOf` says its folder had. The answer is that of
-- the last, and each has written behind the others what serving a relay of its configuration gives.
pub data LivesGive (IsOf : Config → Type 0)
    : Config → Result (Unit {0}) ServeError → Option (List ℕ) → Option (List ℕ) → Type 0 where
  -- it was the last
  last : (config : Config) (result : Result (Unit {0}) ServeError)
      (before after : Option (List ℕ)) → ServeGives config result before after
      → LivesGive IsOf config result before after
  -- it ended well, and the relay went on with another configuration
  again : (config next : Config) (result : Result (Unit {0}) ServeError)
      (before between after : Option (List ℕ)) → ServeGives config (Ok tt) before between
      → IsOf next → LivesGive IsOf next result between after
      → LivesGive IsOf config result before after
  -- it ended well, and the relay went on as it was: no other configuration could be had
  kept : (config : Config) (result : Result (Unit {0}) ServeError)
      (before between after : Option (List ℕ)) → ServeGives config (Ok tt) before between
      → LivesGive IsOf config result between after → LivesGive IsOf config result before after
  -- it ended well, and the relay went on as it was: a life with another was refused
  back : (config next : Config) (error : ServeError) (result : Result (Unit {0}) ServeError)
      (before between told after : Option (List ℕ)) → ServeGives config (Ok tt) before between
      → IsOf next → ServeGives next (Err error) between told
      → LivesGive IsOf config result told after → LivesGive IsOf config result before after

-- Whatever serves serves lives rightly: where `post` says what it may answer of a configuration, a
-- folder, a number of connections, whether all is formatted and a writer, and what writer it
-- leaves, that is what lives of a relay give, the first with the configuration, each other with it
-- or with one of the folder.
abbrev pub LivesRightly : {W : Type 0} → (contents : W → Option (List ℕ))
    → (post : Bor Config → Bor (List ℕ) → Option ℕ → Bool → MutBor W
    → Result (Unit {0}) ServeError → MutBor W → Type 0) → Type 0
LivesRightly {W} contents post =
    (config : Bor Config) (folder : Bor (List ℕ)) (sessions : Option ℕ) (fresh : Bool)
    (writer : MutBor W) (answer : Result (Unit {0}) ServeError) (after : MutBor W)
    → post config folder sessions fresh writer answer after
    → LivesGive (IsIn folder.now) config.now answer (contents writer.now) (contents after.now)
