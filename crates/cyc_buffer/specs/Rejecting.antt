-- What becomes of a history where an article is rejected: it is all there, but the layer above
-- finds that its text is no article (docs/PROTOCOL.md, Crashes).
use Rattle.std.specs.Prelude.{◌≡◌, ◌⊎◌, ℕ, ◌<◌, ◌≤◌, nat_lt, true, false, List, [], ◌∷◌, None, Some}
use Rattle.std.specs.Prelude.{if◌then◌else◌}
use Rattle.std.specs.List.{Contains}
use Rattle.news_terms.specs.Picks.{place_after}
use Rattle.news_terms.specs.Places.{Buffer}
use Rattle.news_terms.specs.Token.{Token}
use Rattle.cyc_token.specs.Token.{token_view}
use Rattle.cyc_token.specs.declared.Token as codes
use Rattle.cyc_buffer.specs.BufferState.{IsUnpassed, IsUnpassedBy}
use Rattle.cyc_buffer.specs.History.{Article, Begin, History, cycle_of, finished_at, head_of, is_at}
use Rattle.cyc_buffer.specs.Marks.{is_marked}
use Rattle.cyc_buffer.specs.Stopped.{used_of}
use Rattle.cyc_buffer.specs.declared.buffer_state.BufferState.{BufferState}
use Rattle.cyc_buffer.specs.declared.line.Line.{Line}

-- the begins, as if the one at this cycle and block had never been finished
abbrev pub begins_without : Buffer → (cycle first : ℕ) → List Begin → List Begin
begins_without buffer cycle first [] = []
begins_without buffer cycle first (b ∷ earlier) =
    if is_at buffer (place_after buffer.blocks (head_of buffer.blocks earlier) b.fresh b.size)
    cycle first
    then record b { finished = None } ∷ earlier
    else b ∷ begins_without buffer cycle first earlier

-- the history, as if the article that begins at the token's place had never been finished
abbrev pub without_article : Token → History → History
without_article t h = record h { begins = begins_without h.buffer t.cycle t.first h.begins }

-- the history without the articles that begin at these tokens' places
abbrev pub without_articles : List codes.Token → History → History
without_articles [] h = h
without_articles (t ∷ ts) h = without_articles ts (without_article (token_view t) h)

-- a live finished article of the history begins at the token's place
pub record IsLiveAt (h : History) (t : Token) : Type 0 where
  pub article : Article
  pub finished : finished_at h.buffer h.begins t.cycle t.first ≡ Some article
  pub buffer : t.buffer ≡ h.buffer.number
  pub unpassed : IsUnpassedBy (cycle_of h) (used_of h) t.cycle t.first

-- two articles of a buffer begin at the same place
pub record IsSamePlace (t u : Token) : Type 0 where
  pub cycle : t.cycle ≡ u.cycle
  pub first : t.first ≡ u.first

-- the article under the token begins at the place of none that was rejected
abbrev pub IsUnrejected : (rejected : List codes.Token) → Token → Type 0
IsUnrejected rejected t =
    (r : codes.Token) → Contains rejected r → IsSamePlace (token_view r) t → ⊥

-- the register says that a live finished article begins at the token's place
pub record IsMarkedAt (r : BufferState) (t : codes.Token) : Type 0 where
  pub buffer : t.buffer ≡ r.line.number
  pub within : t.first < r.line.blocks
  pub unpassed : IsUnpassed r.line t.cycle t.first
  pub marked : is_marked r.starts.words.items t.first ≡ true

-- where the articles of a block's cycle end at the latest: at the head, or at the last block
abbrev pub limit_of : Line → (block : ℕ) → ℕ
limit_of line block = if nat_lt block line.used then line.used else line.blocks

-- The article that begins at a block ends at this one, by the marks: in between each block is
-- marked as kept, and no other article begins; and this is the limit, or isn't kept, or another
-- begins here.
pub record EndsAt (starts kept : List ℕ) (first limit end : ℕ) : Type 0 where
  pub behind : first < end
  pub within : end ≤ limit
  pub inside : (j : ℕ) → first < j → j < end → is_marked kept j ≡ true
  pub clear : (j : ℕ) → first < j → j < end → is_marked starts j ≡ false
  pub stops : (end ≡ limit) ⊎ (is_marked kept end ≡ false) ⊎ (is_marked starts end ≡ true)
