-- Why reads of an article found no chunk.
use Rattle.std.specs.Prelude.{◌≡◌, ℕ, ◌<◌, ◌≤◌, Option, IsSome}
use Rattle.boxcar.specs.Table.{Where}
use Rattle.live_store.specs.declared.steps.unfound.Unfound.{Unfound}
use Rattle.live_store.specs.declared.steps.unfound.UnfoundCause.{UnfoundCause}
use Rattle.live_store.specs.declared.steps.unfound.UnfoundCause.TheVariants as causes
use Rattle.live_store.specs.declared.writing.entering.Record.{Record}
use Rattle.news_terms.specs.Places.{size_of}
use Rattle.news_terms.specs.Token.{Token}

-- why no chunk was found
abbrev pub cause_of : Unfound → UnfoundCause
cause_of unfound = unfound.cause

-- the cause is of a read of block k, by reads that had this record: of another record only what had
-- one before
abbrev pub IsCauseAt : (k : ℕ) → Option (Where Record) → UnfoundCause → Type 0
IsCauseAt k own causes.NoOctets = ⊥
IsCauseAt k own causes.NoBuffer = Unit {0}
IsCauseAt k own (causes.NoChunk block) = block ≡ k
IsCauseAt k own (causes.Another block) = (block ≡ k) × IsSome own

-- the cause is that there are only so many buffers, where it is that none has the token's number
abbrev pub IsNowhere : (count : ℕ) → Token → UnfoundCause → Type 0
IsNowhere count token causes.NoOctets = Unit {0}
IsNowhere count token causes.NoBuffer = count ≤ token.buffer
IsNowhere count token (causes.NoChunk block) = Unit {0}
IsNowhere count token (causes.Another block) = Unit {0}

-- The cause is of a fetch of the token out of so many buffers: it has no block, or none of the
-- buffers is its own; a block of it isn't there, or one behind the first is another record's.
abbrev pub IsCauseOf : (count : ℕ) → Token → UnfoundCause → Type 0
IsCauseOf count token causes.NoOctets = size_of token.length ≡ 0
IsCauseOf count token causes.NoBuffer = count ≤ token.buffer
IsCauseOf count token (causes.NoChunk block) = block < size_of token.length
IsCauseOf count token (causes.Another block) = (0 < block) × (block < size_of token.length)
