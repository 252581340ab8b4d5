-- What a crash may leave of a relay's stores, at whatever moment it comes (docs/PROTOCOL.md,
-- Crashes).
use Rattle.std.specs.Prelude.{◌≡◌, ℕ, ◌&&◌, ◌==◌, Bool, true, false, All, List, Option, Some}
use Rattle.std.specs.Prelude.{slice_get}
use Rattle.cyc_block.specs.Store.{block_at}
use Rattle.cyc_block.specs.declared.store.BlockStore.{Ghosts}
use Rattle.cyc_buffer.specs.Crash.{IsLeftOf}
use Rattle.cyc_buffer.specs.History.{History}
use Rattle.cyc_buffer.specs.Stopped.{IsImageUnder}
use Rattle.news_terms.specs.Courses.{Course, IsLaid}
use Rattle.news_terms.specs.Fronts.{FitsGroup}
use Rattle.news_terms.specs.Places as places
use Rattle.news_terms.specs.Places.{Extent, Group}
use Rattle.news_terms.specs.Token.{Token}
use Rattle.relay_model.specs.Fetches as fetches
use Rattle.relay_model.specs.Fetches.{Fetched, fetched}
use Rattle.relay_model.specs.State.{Kept, State}
use Rattle.relay_model.specs.Terms.{Terms}
use Rattle.block_shelf.specs.Histories.{IsHistoryOf}
use Rattle.block_shelf.specs.Openings.{Opening}

-- WHAT IS TAKEN FOR GRANTED

-- What is taken for granted of stores: whether they are honest, and whether a crash may leave them.
pub record Trust : Type 0 where
  pub honest : Bool
  pub left : Bool

-- they are honest or not, and nothing is said of a crash
abbrev pub plain : (honest : Bool) → Trust
plain honest = record { honest = honest; left = false }

-- they are honest, and a crash may leave them or not
abbrev pub honestly : (left : Bool) → Trust
honestly left = record { honest = true; left = left }

-- ONE STORE

-- A crash of which nothing is asked may leave the store of a buffer with this history. It is said
-- where no call of the device has failed: a write that failed may have left any octets.
abbrev pub MayBeLeft : {S : Type 0} → Ghosts S → S → History → Type 0
MayBeLeft g store h = g.failures store ≡ 0 → IsLeftOf h (λ t. false) (g.blocks store)

-- An honest store that has no block of any article, as a fresh start needs it: where articles of an
-- earlier life lie a crash would leave those.
pub record IsFresh {S : Type 0} (g : Ghosts S) (store : S) : Type 0 where
  pub honest : g.honest store
  pub blank : (j : ℕ) (t : Token) (k : ℕ) → IsImageUnder (block_at (g.blocks store) j) t k → ⊥

-- ALL STORES

-- the tokens of one buffer, of those that were saved
abbrev pub saved_in : (saved : Token → Bool) → places.Buffer → Token → Bool
saved_in saved buffer t = t.buffer == buffer.number && saved t

-- the store at this place may be what a crash has left of a buffer whose history was what the
-- relay's state says of it
pub record HasLeft {S : Type 0} (g : Ghosts S) (stores : List S) (groups : List Group)
    (begun : ℕ → Course) (kept : List Kept) (openings : ℕ → Option Opening)
    (saved : Token → Bool) (b : ℕ) (buffer : places.Buffer)
    : Type 0 where
  pub store : S
  pub there : slice_get stores b ≡ Some store
  pub history : History
  pub is_of_buffer : history.buffer ≡ buffer
  pub is_said : IsHistoryOf groups begun kept openings history
  pub left : IsLeftOf history (saved_in saved buffer) (g.blocks store)

-- The stores may be what a crash has left of a relay with these buffers and groups, that was on
-- these courses and kept these texts; those that were saved had to be left.
pub record AreLeftOf {S : Type 0} (g : Ghosts S) (stores : List S) (w : Terms)
    (begun : ℕ → Course) (kept : List Kept) (openings : ℕ → Option Opening)
    (saved : Token → Bool)
    : Type 0 where
  pub fit : (h : ℕ) (group : Group) → slice_get w.groups h ≡ Some group
      → All (λ (one : Extent). FitsGroup group one.size) (begun h).articles
  pub laid : (h : ℕ) (group : Group) → slice_get w.groups h ≡ Some group
      → IsLaid group (begun h)
  pub buffers : (b : ℕ) (buffer : places.Buffer) → slice_get w.buffers b ≡ Some buffer
      → HasLeft g stores w.groups begun kept openings saved b buffer

-- WHAT A KILL LEAVES

-- a fetch finds a text
abbrev pub is_text : Fetched → Bool
is_text fetches.Gone = false
is_text fetches.NotKnown = false
is_text (fetches.Article text) = true
is_text fetches.NotRead = false

-- a text is whole under the token, and not gone
abbrev pub is_whole : Terms → State → Token → Bool
is_whole w σ token = is_text (fetched w σ token)
