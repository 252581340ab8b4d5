-- Whether a relay was left without a stop (docs/PROTOCOL.md, Crashes: the relay).
use Rattle.std.specs.Prelude.{◌≡◌, ◌∷◌, ℕ, Bool, true, false, List, [], Option, None, Some}
use Rattle.cyc_block.specs.declared.store.BlockStore.{Ghosts}
use Rattle.relay_conf.specs.declared.settings.Config.{Config}
use Rattle.relay_remains.specs.Heads.{HaveEnded}
use Rattle.relay_remains.specs.declared.heads.Standing.TheVariants as standings
use Rattle.relay_startup.specs.StopNumbers.{IsStopIn}

-- the history that a text is, none where it is empty
abbrev pub kept_text : List ℕ → Option (List ℕ)
kept_text [] = None
kept_text (octet ∷ octets) = Some (octet ∷ octets)

-- the number of the last stop: that of the text, 0 where no history was kept
abbrev pub IsLastStop : Config → (kept : Option (List ℕ)) → (stop : ℕ) → Type 0
IsLastStop config None stop = stop ≡ 0
IsLastStop config (Some text) stop = IsStopIn config text stop

-- The heads say so whether a relay was left without a stop: it was where one of them says that; it
-- was not where each is closed at the last stop, and where no history was kept nothing is said.
abbrev pub IsSaidByHeads : {S : Type 0} → Ghosts S → (kept : Option (List ℕ)) → (stop : ℕ)
    → (stores : List S) → (unstopped : Bool) → Type 0
IsSaidByHeads g kept stop stores true = HaveEnded g stop stores standings.Unstopped
IsSaidByHeads g None stop stores false = Unit {0}
IsSaidByHeads g (Some text) stop stores false = HaveEnded g stop stores standings.Stopped

-- it is said of the last stop that is kept
pub record IsUnstoppedBy {S : Type 0} (g : Ghosts S) (config : Config) (text : List ℕ)
    (stores : List S) (unstopped : Bool)
    : Type 0 where
  pub stop : ℕ
  pub last : IsLastStop config (kept_text text) stop
  pub said : IsSaidByHeads g (kept_text text) stop stores unstopped
