-- What the register says of a block that is asked for.
use Rattle.std.specs.Prelude.{ℕ, ◌+◌, ◌&&◌, Bool, Option, None, Some, if◌then◌else◌}
use Rattle.cyc_buffer.specs.Answers.{Answer, Chunk, Gone, Unknown, by_numbers}
use Rattle.cyc_buffer.specs.Marks.{is_marked}
use Rattle.cyc_buffer.specs.BufferState.{buffer_of}
use Rattle.cyc_buffer.specs.declared.buffer_state.Look.{Look}
use Rattle.cyc_buffer.specs.declared.buffer_state.Look.TheVariants as look
use Rattle.cyc_buffer.specs.declared.buffer_state.BufferState.{BufferState}
use Rattle.cyc_token.specs.Token.{token_view}
use Rattle.cyc_token.specs.declared.Token.{Token}
use Rattle.news_terms.specs.Places.{on_line}

-- what is said where the numbers give this, and the marks say whether the block is to be read
abbrev pub look_by : Option Answer → (marked : Bool) → (block : ℕ) → Look
look_by None marked block = if marked then look.Block block else look.Unknown
look_by (Some (Chunk octets)) marked block = look.Unknown
look_by (Some (Gone front)) marked block = look.Gone
look_by (Some Unknown) marked block = look.Unknown

-- a finished article begins at the token's first block,
-- and block k after it is one of a finished article
abbrev pub has_marks : BufferState → Token → (k : ℕ) → Bool
has_marks r token k =
    is_marked r.starts.words.items token.first && is_marked r.kept.words.items (token.first + k)

-- the answer that the numbers of the register decide, if they do
abbrev pub numbers_of : BufferState → Token → (k : ℕ) → Option Answer
numbers_of r token k =
    by_numbers (buffer_of r.line) (on_line r.line.blocks r.line.cycle r.line.used)
    (token_view token) k

-- what is said of block k of the article under a token
abbrev pub look_of : BufferState → Token → (k : ℕ) → Look
look_of r token k = look_by (numbers_of r token k) (has_marks r token k) (token.first + k)
