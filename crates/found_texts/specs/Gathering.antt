-- What is gathered of a text that is found, whatever the buffers keep (docs/PROTOCOL.md, Crashes).
use Rattle.std.specs.Prelude.{◌≡◌, ℕ, ◌*◌, ◌<◌, Bool, true, List, ◌++◌, length, take, Option, None}
use Rattle.std.specs.Prelude.{Some, Vec}
use Rattle.std.specs.declared.alloc.Global.{Global}
use Rattle.buffer_repair.specs.Keeping.{KeepsFound}
use Rattle.buffer_repair.specs.declared.found_set.FoundBufferSet.{FoundBufferSet}
use Rattle.cyc_block.specs.declared.store.BlockStore.{Ghosts}
use Rattle.news_terms.specs.BlockImage.{chunk, chunk_size}
use Rattle.news_terms.specs.Courses.{Course}
use Rattle.news_terms.specs.Places.{size_of}
use Rattle.news_terms.specs.Token.{Token}
use Rattle.relay_model.specs.Fetches.{text_under}
use Rattle.relay_model.specs.State.{Kept}
use Rattle.relay_model.specs.Terms.{Terms}

-- block k of a text was found and put behind the octets before it, and all is kept as it was
pub record HasNext {S : Type 0} {g : Ghosts S} (text : List ℕ) (k : ℕ) (before : List ℕ)
    (was : Bool) (after : List ℕ) (w : Terms) (begun : ℕ → Course) (kept : List Kept)
    (failures : ℕ → ℕ) (new : FoundBufferSet S g)
    : Type 0 where
  pub found : was ≡ true
  pub octets : after ≡ before ++ chunk k text
  pub keeps : KeepsFound new w begun kept failures

-- so it is of whatever text is kept under the token, where it has such a block
abbrev pub ReadsNext : {S : Type 0} {g : Ghosts S} → Token → (k : ℕ) → (old : FoundBufferSet S g)
    → (before : List ℕ) → (was : Bool) → (after : List ℕ) → (new : FoundBufferSet S g) → Type 0
ReadsNext token k old before was after new =
    (w : Terms) (begun : ℕ → Course) (kept : List Kept) (failures : ℕ → ℕ) (text : List ℕ)
    → KeepsFound old w begun kept failures → text_under kept token ≡ Some text
    → k < size_of token.length → HasNext text k before was after w begun kept failures new

-- these octets are the text
abbrev pub IsGathered : (text : List ℕ) → Option (Vec ℕ Global) → Type 0
IsGathered text None = ⊥
IsGathered text (Some octets) = octets.items ≡ text

-- the text was gathered, and all is kept as it was
pub record HasText {S : Type 0} {g : Ghosts S} (text : List ℕ) (octets : Option (Vec ℕ Global))
    (w : Terms) (begun : ℕ → Course) (kept : List Kept) (failures : ℕ → ℕ)
    (new : FoundBufferSet S g)
    : Type 0 where
  pub gathered : IsGathered text octets
  pub keeps : KeepsFound new w begun kept failures

-- so it is of whatever text is kept under the token, as long as that says
abbrev pub ReadsText : {S : Type 0} {g : Ghosts S} → Token → (old : FoundBufferSet S g)
    → Option (Vec ℕ Global) → (new : FoundBufferSet S g) → Type 0
ReadsText token old octets new =
    (w : Terms) (begun : ℕ → Course) (kept : List Kept) (failures : ℕ → ℕ) (text : List ℕ)
    → KeepsFound old w begun kept failures → text_under kept token ≡ Some text
    → token.length ≡ length text → HasText text octets w begun kept failures new

-- the blocks below k of the text were gathered, and all is kept as it was
pub record HasFront {S : Type 0} {g : Ghosts S} (text : List ℕ) (k : ℕ) (octets : List ℕ)
    (w : Terms) (begun : ℕ → Course) (kept : List Kept) (failures : ℕ → ℕ)
    (new : FoundBufferSet S g)
    : Type 0 where
  pub gathered : octets ≡ take (chunk_size * k) text
  pub keeps : KeepsFound new w begun kept failures

-- so it is of whatever text is kept under the token
abbrev pub ReadsFront : {S : Type 0} {g : Ghosts S} → Token → (k : ℕ) → (old : FoundBufferSet S g)
    → (octets : List ℕ) → (new : FoundBufferSet S g) → Type 0
ReadsFront token k old octets new =
    (w : Terms) (begun : ℕ → Course) (kept : List Kept) (failures : ℕ → ℕ) (text : List ℕ)
    → KeepsFound old w begun kept failures → text_under kept token ≡ Some text
    → HasFront text k octets w begun kept failures new
