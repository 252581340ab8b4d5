-- What a cyclic buffer was asked to keep: what was begun in it, and what became of each begin
-- (docs/PROTOCOL.md, Store).
use Rattle.std.specs.Prelude.{◌≡◌, ℕ, ◌+◌, ◌*◌, ◌==◌, ◌&&◌, Bool, true, false, List, [], ◌∷◌}
use Rattle.std.specs.Prelude.{◌++◌, length, map, filter, take, Option, None, Some, is_some}
use Rattle.std.specs.Prelude.{if◌then◌else◌}
use Rattle.news_terms.specs.BlockImage.{chunk_size}
use Rattle.news_terms.specs.Picks as picks
use Rattle.news_terms.specs.Picks.{place_after, front_at}
use Rattle.news_terms.specs.Places.{Buffer, Head, size_of}
use Rattle.news_terms.specs.Token.{Token}

-- an article that was finished: its class and its text
pub record Article : Type 0 where
  pub class : ℕ
  pub text : List ℕ

-- one begin: the blocks that it took, whether it was asked to be fresh, and the article once it is
-- finished; none while it is written, and for ever where it was abandoned
pub record Begin : Type 0 where
  pub size : ℕ
  pub fresh : Bool
  pub finished : Option Article

-- an open write: the class and the octets of its article, the octets and the blocks that are
-- written, and whether a write failed
pub record Writing : Type 0 where
  pub class : ℕ
  pub octets : ℕ
  pub text : List ℕ
  pub blocks : ℕ
  pub broken : Bool

-- a buffer, all that was begun in it, the newest first, and the open write,
-- which is the newest begin's
pub record History : Type 0 where
  pub buffer : Buffer
  pub begins : List Begin
  pub writing : Option Writing

-- a buffer in which nothing was begun
abbrev pub new_history : Buffer → History
new_history buffer = record { buffer = buffer; begins = []; writing = None }

-- the article of a begin was finished
abbrev pub is_stored : Begin → Bool
is_stored b = is_some b.finished

-- how many of these begins have their article finished
abbrev pub stored_count : List Begin → ℕ
stored_count begins = length (filter is_stored begins)

-- a begin as its place asks for it: its size, and whether it was fresh
abbrev pub asked : Begin → ℕ × Bool
asked b = (b.size, b.fresh)

-- the head after these begins, the newest first
abbrev pub head_of : (blocks : ℕ) → List Begin → Head
head_of blocks begins = picks.head_of blocks (map asked begins)

-- the front of a history's buffer
abbrev pub front_of : History → ℕ
front_of h = front_at h.buffer (head_of h.buffer.blocks h.begins)

-- the cycle of the newest begin, or the first one where nothing was begun
abbrev pub cycle_of : History → ℕ
cycle_of h = h.buffer.first_cycle + (head_of h.buffer.blocks h.begins).run

-- the place of the next begin
abbrev pub next_place : History → (fresh : Bool) → (size : ℕ) → Head
next_place h fresh size = place_after h.buffer.blocks (head_of h.buffer.blocks h.begins) fresh size

-- the cycle of the next begin
abbrev pub next_cycle : History → (fresh : Bool) → (size : ℕ) → ℕ
next_cycle h fresh size = h.buffer.first_cycle + (next_place h fresh size).run

-- the history after a begin
abbrev pub with_begin : (class octets : ℕ) → (fresh : Bool) → History → History
with_begin class octets fresh h = record {
  buffer = h.buffer;
  begins = record { size = size_of octets; fresh = fresh; finished = None } ∷ h.begins;
  writing = Some (record { class = class; octets = octets; text = []; blocks = 0; broken = false });
}

-- an open write with one more block of the text written
abbrev pub with_next_block : List ℕ → Writing → Writing
with_next_block text w =
    record w { text = take (chunk_size * (w.blocks + 1)) text; blocks = w.blocks + 1 }

-- an open write of which a block's write failed
abbrev pub as_broken : Writing → Writing
as_broken w = record w { broken = true }

-- the open write, changed
abbrev pub changed : (Writing → Writing) → Option Writing → Option Writing
changed change None = None
changed change (Some w) = Some (change w)

-- the history after one more block of the text was written
abbrev pub with_block : List ℕ → History → History
with_block text h = record h { writing = changed (with_next_block text) h.writing }

-- the history after a write of a block failed
abbrev pub with_failure : History → History
with_failure h = record h { writing = changed as_broken h.writing }

-- the newest begin, finished
abbrev pub finish_newest : Article → List Begin → List Begin
finish_newest article [] = []
finish_newest article (b ∷ earlier) = record b { finished = Some article } ∷ earlier

-- the begins after the open write, where there is one, was finished
abbrev pub finish_begins : Option Writing → List Begin → List Begin
finish_begins None begins = begins
finish_begins (Some w) begins = finish_newest (record { class = w.class; text = w.text }) begins

-- the history after the open write was finished
abbrev pub with_finish : History → History
with_finish h = record h { begins = finish_begins h.writing h.begins; writing = None }

-- the history after the open write was abandoned
abbrev pub without_write : History → History
without_write h = record h { writing = None }

-- the token of an article that is put here
abbrev pub token_at : Buffer → Head → (class octets : ℕ) → Token
token_at buffer at class octets = record {
  class = class;
  buffer = buffer.number;
  cycle = buffer.first_cycle + at.run;
  first = at.used;
  length = octets;
}

-- the token of the newest begin, of this class and length
abbrev pub newest_token : Buffer → List Begin → (class octets : ℕ) → Option Token
newest_token buffer [] class octets = None
newest_token buffer (b ∷ earlier) class octets = Some (token_at buffer
    (place_after buffer.blocks (head_of buffer.blocks earlier) b.fresh b.size) class octets)

-- the token that an open write of these begins is finished under
abbrev pub token_of_open : Buffer → List Begin → Option Writing → Option Token
token_of_open buffer begins None = None
token_of_open buffer begins (Some w) = newest_token buffer begins w.class w.octets

-- the token that the open write is finished under, where there is one
abbrev pub open_token : History → Option Token
open_token h = token_of_open h.buffer h.begins h.writing

-- a begin put here has this cycle and first block
abbrev pub is_at : Buffer → Head → (cycle first : ℕ) → Bool
is_at buffer at cycle first = (buffer.first_cycle + at.run == cycle) && (at.used == first)

-- the article that was begun at this cycle and block and finished, if one was
abbrev pub finished_at : Buffer → List Begin → (cycle first : ℕ) → Option Article
finished_at buffer [] cycle first = None
finished_at buffer (b ∷ earlier) cycle first =
    if is_at buffer (place_after buffer.blocks (head_of buffer.blocks earlier) b.fresh b.size)
    cycle first
    then b.finished else finished_at buffer earlier cycle first

-- the blocks of the article that was begun at this cycle and block, if one was
abbrev pub begun_at : Buffer → List Begin → (cycle first : ℕ) → Option ℕ
begun_at buffer [] cycle first = None
begun_at buffer (b ∷ earlier) cycle first =
    if is_at buffer (place_after buffer.blocks (head_of buffer.blocks earlier) b.fresh b.size)
    cycle first
    then Some b.size else begun_at buffer earlier cycle first

-- the text of an article of this class and length
abbrev pub text_of : (class octets : ℕ) → Option Article → Option (List ℕ)
text_of class octets None = None
text_of class octets (Some article) =
    if (article.class == class) && (length article.text == octets) then Some article.text else None

-- the text that was finished under exactly this token
abbrev pub text_under : History → Token → Option (List ℕ)
text_under h token =
    if token.buffer == h.buffer.number
    then text_of token.class token.length (finished_at h.buffer h.begins token.cycle token.first)
    else None

-- the sizes of these begins, in the order in which they were begun
abbrev pub sizes_of : List Begin → List ℕ
sizes_of [] = []
sizes_of (b ∷ earlier) = sizes_of earlier ++ b.size ∷ []

-- the begin was not asked to be fresh
pub record IsPlain (b : Begin) : Type 0 where
  pub plain : b.fresh ≡ false
