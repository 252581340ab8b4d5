-- What the relay's state says of the history of one buffer: its begins are its group's articles in
-- it, what is whole under its tokens was finished there, as many as are whole, and the open write
-- of its group that is in it is the history's (docs/PROTOCOL.md, Store).
use Rattle.std.specs.Prelude.{◌≡◌, ◌≢◌, ℕ, ◌*◌, true, false, List, [], map, take}
use Rattle.std.specs.Prelude.{Option, None, Some, filter, slice_get, count_by}
use Rattle.cyc_buffer.specs.History as histories
use Rattle.cyc_buffer.specs.History.{History, Writing, asked, open_token, stored_count}
use Rattle.news_terms.specs.Courses.{Course, articles_of, is_in_buffer}
use Rattle.news_terms.specs.BlockImage.{chunk_size}
use Rattle.news_terms.specs.Places.{Group}
use Rattle.news_terms.specs.Token.{Token}
use Rattle.relay_model.specs.Fetches as fetches
use Rattle.relay_model.specs.Figures.{is_kept_in}
use Rattle.relay_model.specs.State.{Kept}
use Rattle.block_shelf.specs.Openings.{Opening, IsOpen, IsBroken, token_in}
use Rattle.news_terms.specs.Settings.{IsBufferAt}

-- the begins of a buffer are its group's articles in it, each where it lies; in a buffer of no
-- group nothing was begun
pub record HasBegins (groups : List Group) (begun : ℕ → Course) (h : History) : Type 0 where
  pub picked : (g i : ℕ) (group : Group) → slice_get groups g ≡ Some group
      → slice_get group.buffers i ≡ Some h.buffer
      → articles_of h.buffer (map asked h.begins)
      ≡ filter (is_in_buffer h.buffer) (begun g).articles
  pub none : ((g i : ℕ) → IsBufferAt groups g i h.buffer → ⊥) → h.begins ≡ []

-- what was finished in a buffer is what is whole under its tokens
abbrev pub HasTexts : List Kept → History → Type 0
HasTexts kept h =
    (token : Token) → token.buffer ≡ h.buffer.number
    → histories.text_under h token ≡ fetches.text_under kept token

-- the open write of a history is this one: its class and length are the token's, and where no write
-- has failed, what is written of it is the front of its text
abbrev pub IsWriting : Opening → Option Writing → Type 0
IsWriting opening None = ⊥
IsWriting (IsOpen token text written) (Some w) =
    w ≡ record {
      class = token.class;
      octets = token.length;
      text = take (chunk_size * written) text;
      blocks = written;
      broken = false;
    }
IsWriting (IsBroken token) (Some w) = w.broken ≡ true

-- a buffer's history has the open write whose token is of this buffer, if a group has one
pub data HasWriting (openings : ℕ → Option Opening) (h : History) : Type 0 where
  -- no group has
  IsFree : h.writing ≡ None
      → ((g : ℕ) (one : Opening) → openings g ≡ Some one → (token_in one).buffer ≢ h.buffer.number)
      → HasWriting openings h
  -- this group has
  IsBusy : (g : ℕ) (one : Opening) → openings g ≡ Some one
      → open_token h ≡ Some (token_in one) → IsWriting one h.writing → HasWriting openings h

-- a buffer's history is what the relay's state says of it
pub record IsHistoryOf (groups : List Group) (begun : ℕ → Course) (kept : List Kept)
    (openings : ℕ → Option Opening) (h : History) : Type 0 where
  pub begins : HasBegins groups begun h
  pub texts : HasTexts kept h
  -- as many articles were finished in it as texts are whole there
  pub stored : stored_count h.begins ≡ count_by (is_kept_in h.buffer) kept
  pub writing : HasWriting openings h
