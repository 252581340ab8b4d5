-- What is left of a relay on its devices, in the words of the relay: the course of each group, and
-- the texts that are whole (docs/PROTOCOL.md, Crashes). How often something was begun isn't on a
-- device, so a course is what the devices tell: each article that is found is one begin, and each
-- other block that a front passed is one of its own.
use Rattle.std.specs.Prelude.{◌≡◌, ℕ, ◌<◌, List, [], ◌∷◌, ◌++◌, map, length, All, Option, None}
use Rattle.std.specs.Prelude.{Some, slice_get}
use Rattle.cyc_buffer.specs.Crash.{IsUnused}
use Rattle.cyc_buffer.specs.FoundHistory.{article_in, found_history}
use Rattle.cyc_buffer.specs.History.{History, asked}
use Rattle.cyc_token.specs.Token.{token_view}
use Rattle.cyc_token.specs.declared.Token as codes
use Rattle.news_terms.specs.Courses.{Course, articles_of}
use Rattle.news_terms.specs.Fronts.{FitsGroup}
use Rattle.news_terms.specs.Places.{Buffer, Extent, Group, size_of}
use Rattle.news_terms.specs.Settings.{IsBufferAt}
use Rattle.news_terms.specs.Token.{Token}
use Rattle.relay_model.specs.State.{Kept}

-- what is left of a buffer: its device's blocks, the front that they tell, and the tokens of the
-- articles that are found, rising by place
pub record Remains : Type 0 where
  pub buffer : Buffer
  pub blocks : List (List ℕ)
  pub cycle : ℕ
  pub used : ℕ
  pub tokens : List codes.Token

-- the history that it is found again with
abbrev pub history_left : Remains → History
history_left r = found_history r.buffer r.blocks r.cycle r.used r.tokens

-- the articles begun in it, in order, each where it lies
abbrev pub extents_left : Remains → List Extent
extents_left r = articles_of r.buffer (map asked (history_left r).begins)

-- those of the buffer at a place, where there is one
abbrev pub extents_at : Option Remains → List Extent
extents_at None = []
extents_at (Some r) = extents_left r

-- those of these buffers, one buffer after the other
abbrev pub extents_in : (all : List Remains) → List Buffer → List Extent
extents_in all [] = []
extents_in all (buffer ∷ later) =
    extents_at (slice_get all buffer.number) ++ extents_in all later

-- the course that a group is found on, where it is the turn of this buffer
abbrev pub course_left : (all : List Remains) → (turn : ℕ) → Option Group → Course
course_left all turn None = record { turn = turn; articles = [] }
course_left all turn (Some group) =
    record { turn = turn; articles = extents_in all group.buffers }

-- the courses that the groups are found on, by whose turn it is in each
abbrev pub courses_left : List Group → (turns : ℕ → ℕ) → List Remains → ℕ → Course
courses_left groups turns all g = course_left all (turns g) (slice_get groups g)

-- in each group that has a buffer it is the turn of one of them
abbrev pub AreTurns : List Group → (turns : ℕ → ℕ) → Type 0
AreTurns groups turns =
    (g : ℕ) (group : Group) → slice_get groups g ≡ Some group
    → 0 < length group.buffers → turns g < length group.buffers

-- the text that a device has under a token, for the id that it is given
abbrev pub text_left : (ids : Token → List ℕ) → (blocks : List (List ℕ)) → codes.Token → Kept
text_left ids blocks t = record {
  token = token_view t;
  id = ids (token_view t);
  text = (article_in blocks t).text;
}

-- the texts that are found in a buffer
abbrev pub texts_left : (ids : Token → List ℕ) → Remains → List Kept
texts_left ids r = map (text_left ids r.blocks) r.tokens

-- the texts that are found in all buffers, one buffer after the other
abbrev pub all_texts_left : (ids : Token → List ℕ) → List Remains → List Kept
all_texts_left ids [] = []
all_texts_left ids (r ∷ later) = texts_left ids r ++ all_texts_left ids later

-- What is left is a relay's with these groups: nothing is begun in a buffer that no group has, and
-- each article that is found fits each buffer of its group.
pub record AreOfGroups (groups : List Group) (all : List Remains) : Type 0 where
  pub unused : (b : ℕ) (r : Remains) → slice_get all b ≡ Some r
      → ((g i : ℕ) → IsBufferAt groups g i r.buffer → ⊥) → IsUnused r.buffer r.cycle r.used
  pub fit : (b g i : ℕ) (r : Remains) (group : Group) → slice_get all b ≡ Some r
      → slice_get groups g ≡ Some group → slice_get group.buffers i ≡ Some r.buffer
      → All (λ (t : codes.Token). FitsGroup group (size_of t.length)) r.tokens
