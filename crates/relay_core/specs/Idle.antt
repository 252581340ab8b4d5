-- Whether a message-id is being stored.
use Rattle.std.specs.Prelude.{◌≡◌, ℕ, Bool, true, false, List}
use Rattle.id_history.specs.Shards.{KeepsAll}
use Rattle.id_history.specs.declared.shards.Shards.{Shards}
use Rattle.relay_model.specs.Claims.{Claim, is_storing}

-- by these claims an id is being stored, or none is
abbrev pub IsIdleAs : (List ℕ → Claim) → Bool → Type 0
IsIdleAs claims true = (id : List ℕ) → is_storing (claims id) ≡ false
IsIdleAs claims false = (id : List ℕ) × (is_storing (claims id) ≡ true)

-- the answer says of all claims that the shards keep whether an id is being stored
abbrev pub TellsIdle : Shards → Bool → Type 0
TellsIdle shards answer = (claims : List ℕ → Claim) → KeepsAll shards claims
    → IsIdleAs claims answer
