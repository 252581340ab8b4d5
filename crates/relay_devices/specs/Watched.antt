-- A store whose failures are told.
use Rattle.std.specs.Prelude.{ℕ, List}
use Rattle.relay_devices.specs.declared.watched.Watched.{Watched}

-- the store that is asked
abbrev pub store_in : {S R : Type 0} → Watched S R → S
store_in watched = watched.store

-- by which name they are told
abbrev pub name_in : {S R : Type 0} → Watched S R → List ℕ
name_in watched = watched.name.now
