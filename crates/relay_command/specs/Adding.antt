-- What whatever adds buffers, or tells how a relay stands, was handed, and how it answered
-- (docs/PROTOCOL.md, `add-buffer` and `check`).
use Rattle.std.specs.Prelude.{◌≡◌, ℕ, List, Option, Result}
use denote.Ref.{Bor, MutBor}
use Rattle.relay_conf.specs.declared.settings.Config.{Config}
use Rattle.relay_report.specs.declared.fault.ServeError.{ServeError}

-- what adding buffers may come to: of a configuration and the folder of its files, how it answers,
-- with what was written before and after
abbrev pub Adding : Type 1
Adding = Config → (folder : List ℕ) → Result (Unit {0}) ServeError
    → (before after : Option (List ℕ)) → Type 0

-- what telling how the relay of a folder stands may come to, in the same way
abbrev pub Standing : Type 1
Standing = Adding

-- A call that adds buffers, or tells how a relay stands, was handed this configuration, this folder
-- and a writer with what was written before, and gave this answer, and a writer with what was
-- written after: `post` says so of the call.
pub record HandedTo {W : Type 0} (contents : W → Option (List ℕ))
    (post : Bor Config → Bor (List ℕ) → MutBor W → Result (Unit {0}) ServeError → MutBor W
    → Type 0)
    (config : Config) (folder : List ℕ) (answer : Result (Unit {0}) ServeError)
    (before after : Option (List ℕ)) : Type 0 where
  pub lent : Bor Config
  pub named : Bor (List ℕ)
  pub writer : MutBor W
  pub left : MutBor W
  pub posts : post lent named writer answer left
  pub of_config : lent.now ≡ config
  pub of_folder : named.now ≡ folder
  pub of_before : contents writer.now ≡ before
  pub of_after : contents left.now ≡ after
