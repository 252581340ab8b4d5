-- The lives of the relay: runs, and crashes between them.
use Rattle.std.specs.Prelude.{◌≡◌, ℕ, Bool, true, List, [], ◌∷◌}
use Rattle.news_terms.specs.Token.{Token}
use Rattle.relay_model.specs.Run.{Event, Run}
use Rattle.relay_model.specs.Terms.{Terms}
use Rattle.relay_model.specs.World.{World, Output}
use Rattle.relay_facts.specs.Sound.{IsSound}
use Rattle.relay_facts.specs.Started.{HasSameStore}
use Rattle.relay_laws.specs.Laws.{Remembers, RunRemembering}
use Rattle.relay_model.specs.Fetches.{IsGoneToken}
use Rattle.relay_model.specs.Crash.{Crash}

-- a run, or a crash after which the relay is found again under these settings, where the devices
-- had to keep what was saved
pub data Episode : Type 0 where
  Lived : (events : List Event) (outputs : List Output) → Episode
  Crashed : (terms : Terms) (saved : Token → Bool) → Episode

-- the settings may be those of the relay that is found again
pub record GoesOn (w v : Terms) : Type 0 where
  pub sound : IsSound v
  pub same : HasSameStore w v

-- one episode after the other leads from this world, under these settings, to that
abbrev pub Lives : Terms → World → List Episode → Terms → World → Type 0
Lives w x [] v y = (v ≡ w) × (y ≡ x)
Lives w x (Lived events outputs ∷ later) v y =
    (mid : World) × Run w x events outputs mid × Lives w mid later v y
Lives w x (Crashed next saved ∷ later) v y =
    (mid : World) × GoesOn w next × Crash w next saved x mid × Lives next mid later v y

-- lives in which the id isn't forgotten: neither by a step nor by a crash
abbrev pub LivesRemembering : List ℕ → Terms → World → List Episode → Terms → World → Type 0
LivesRemembering id w x [] v y = (v ≡ w) × (y ≡ x)
LivesRemembering id w x (Lived events outputs ∷ later) v y =
    (mid : World) × RunRemembering id w x events outputs mid × LivesRemembering id w mid later v y
LivesRemembering id w x (Crashed next saved ∷ later) v y =
    (mid : World) × Crash w next saved x mid × Remembers id x mid
    × LivesRemembering id next mid later v y

-- lives in which what lies under the token was saved at each crash, and no front had passed it then
abbrev pub LivesSaving : Token → Terms → World → List Episode → Terms → World → Type 0
LivesSaving token w x [] v y = (v ≡ w) × (y ≡ x)
LivesSaving token w x (Lived events outputs ∷ later) v y =
    (mid : World) × Run w x events outputs mid × LivesSaving token w mid later v y
LivesSaving token w x (Crashed next saved ∷ later) v y =
    (mid : World) × GoesOn w next × Crash w next saved x mid × (saved token ≡ true)
    × (¬ IsGoneToken w x.state token) × LivesSaving token next mid later v y
