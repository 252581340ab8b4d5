-- What a fetch answers.
use Rattle.std.specs.Prelude.{◌≡◌, ℕ, ◌*◌, Bool, true, List, [], length, take, Option, None, Some}
use Rattle.std.specs.Prelude.{IfSome}
use Rattle.boxcar.specs.Table.{Where}
use Rattle.live_store.specs.declared.fetched.Fetched.{Fetched}
use Rattle.live_store.specs.declared.fetched.Fetched.TheVariants as fetched
use Rattle.live_store.specs.declared.record.StorePremises.{Ghosts}
use Rattle.live_store.specs.declared.writing.entering.Record.{Record}
use Rattle.live_store.specs.Causes.{cause_of, IsCauseOf}
use Rattle.live_store.specs.Steps.{IsGoneBy, IsReadFault}
use Rattle.live_store.specs.Tied.{token_in, text_in}
use Rattle.news_terms.specs.BlockImage.{chunk_size}
use Rattle.news_terms.specs.Places.{size_of}
use Rattle.news_terms.specs.Token.{Token}

-- Of a fetch out of so many buffers: the record of a whole text has the token, where the stores are
-- trusted; by the front the token is gone; nothing is there for its cause; or a read of the token's
-- article failed.
abbrev pub IsFetched : {J : Type 0} {g : Ghosts J} → (trusted : Bool) → (count : ℕ) → Token
    → Fetched J g → Type 0
IsFetched trusted count token (fetched.Whole text) = trusted ≡ true → token_in text.shown ≡ token
IsFetched trusted count token (fetched.Gone front) = IsGoneBy front token
IsFetched trusted count token (fetched.Unknown unfound) = IsCauseOf count token (cause_of unfound)
IsFetched trusted count token (fetched.Device fault) = IsReadFault token fault

-- the record has the token and this text
pub record IsWholeOf (token : Token) (octets : List ℕ) (shown : Where Record) : Type 0 where
  pub named : token_in shown ≡ token
  pub text : octets ≡ text_in shown

-- all of a text was gathered, that of the record that the reads are of: they are of one unless the
-- token has no block
pub record IsAllGathered (trusted : Bool) (token : Token) (shown : Option (Where Record))
    (octets : List ℕ) : Type 0 where
  pub whole : trusted ≡ true → IfSome shown (IsWholeOf token octets)
  pub some : shown ≡ None → size_of token.length ≡ 0

-- all of a text was gathered; or this is the answer of the fetch
abbrev pub IsGathered : {J : Type 0} {g : Ghosts J} → (trusted : Bool) → (count : ℕ) → Token
    → Option (Where Record) → List ℕ → Option (Fetched J g) → Type 0
IsGathered trusted count token shown octets None = IsAllGathered trusted token shown octets
IsGathered trusted count token shown octets (Some fetched) = IsFetched trusted count token fetched

-- the record has the token, and these octets are those of its first k blocks
pub record HasFront (token : Token) (k : ℕ) (octets : List ℕ) (shown : Where Record) : Type 0 where
  pub named : token_in shown ≡ token
  pub long : length (text_in shown) ≡ token.length
  pub front : octets ≡ take (chunk_size * k) (text_in shown)

-- of the record that the reads are of the first k blocks were gathered; before the first block they
-- are of none
abbrev pub AreGathered : Token → Option (Where Record) → (k : ℕ) → List ℕ → Type 0
AreGathered token None k octets = (k ≡ 0) × (octets ≡ [])
AreGathered token (Some shown) k octets = HasFront token k octets shown
