-- How far the open write of a buffer has come.
use Rattle.std.specs.Prelude.{◌≡◌, ℕ, ◌+◌, ◌<◌, Bool, true, false, List, length, Option, None, Some}
use Rattle.cyc_block.specs.declared.image.Stamp.{Stamp}
use Rattle.cyc_token.specs.declared.Token.{Token}
use Rattle.cyc_buffer.specs.declared.buffer_state.Open.{Open}
use Rattle.cyc_buffer.specs.declared.buffer_state.Progress.{Progress}
use Rattle.news_terms.specs.Places.{size_of}

-- the block after those of the open write, or 0 where there is none
abbrev pub end_of : Option Progress → ℕ
end_of None = 0
end_of (Some p) = p.token.first + size_of p.token.length

-- the block after the first one of the open write, or 0 where there is none
abbrev pub start_of : Option Progress → ℕ
start_of None = 0
start_of (Some p) = p.token.first + 1

-- 1 where there is an open write, else 0
abbrev pub open_count : Option Progress → ℕ
open_count None = 0
open_count (Some p) = 1

-- this is the open write
abbrev pub IsTheOpen : Open → Option Progress → Type 0
IsTheOpen write None = ⊥
IsTheOpen write (Some p) = p.token ≡ write.token

-- the blocks of the open write that are written
abbrev pub written_of : Option Progress → ℕ
written_of None = 0
written_of (Some p) = p.written

-- a write of the open write has failed
abbrev pub has_failed : Option Progress → Bool
has_failed None = false
has_failed (Some p) = p.broken

-- The next block of a text can be written: the write is the open one, it isn't broken, a block of
-- it is left, and the text has the article's length.
pub record CanWriteOn (p : Option Progress) (write : Open) (text : List ℕ) : Type 0 where
  pub owned : IsTheOpen write p
  pub whole : has_failed p ≡ false
  pub left : written_of p < size_of write.token.length
  pub octets : length text ≡ write.token.length

-- An open write can be finished: it is the open one, it isn't broken, and all of it is written.
pub record CanFinishOn (p : Option Progress) (write : Open) : Type 0 where
  pub owned : IsTheOpen write p
  pub whole : has_failed p ≡ false
  pub written : written_of p ≡ size_of write.token.length

-- the progress of a write that is begun
abbrev pub started : Token → Option Progress
started token = Some (record { token = token; written = 0; broken = false })

-- the progress after one more block
abbrev pub counted : Option Progress → Option Progress
counted None = None
counted (Some p) = Some (record p { written = p.written + 1 })

-- the progress after a write of a block failed
abbrev pub failed : Option Progress → Option Progress
failed None = None
failed (Some p) = Some (record p { broken = true })

-- the stamp of block k of the article under a token
abbrev pub stamp_of : Token → (k : ℕ) → Stamp
stamp_of token k = record {
  cycle = token.cycle;
  first = token.first;
  index = k;
  article_length = token.length;
  class = token.class;
}
