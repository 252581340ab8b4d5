-- Fetch: what an article's token gives (docs/PROTOCOL.md, Fronts and liveness, Reading).
use Rattle.std.specs.Prelude.{ℕ, ◌+◌, ◌==◌, ◌&&◌, ◌||◌, nat_lt, nat_le, Bool, List, [], ◌∷◌, ◌++◌}
use Rattle.std.specs.Prelude.{◌≡◌, find, Option}
use Rattle.std.specs.Prelude.{None, Some, option_map, unwrap_or, if◌then◌else◌}
use Rattle.news_terms.specs.Courses.{Course}
use Rattle.news_terms.specs.Places.{Buffer, Group, Extent, IsGone, front_after, on_line, size_of}
use Rattle.news_terms.specs.Token.{Token, same_token}
use Rattle.relay_model.specs.State.{State, Kept}
use Rattle.relay_model.specs.Terms.{Terms}

-- what a fetch finds
pub data Fetched : Type 0 where
  -- the front has passed the article: it is overwritten
  Gone : Fetched
  -- no article was stored under this token, or it isn't whole
  NotKnown : Fetched
  -- the whole article
  Article : (text : List ℕ) → Fetched
  -- the device failed, which says nothing of the article
  NotRead : Fetched

-- the articles that all groups began, group by group
abbrev pub extents_from : ℕ → List Group → (ℕ → Course) → List Extent
extents_from g [] begun = []
extents_from g (group ∷ groups) begun = (begun g).articles ++ extents_from (g + 1) groups begun

-- the front of a buffer: where its next article can begin at the earliest
abbrev pub front_of : Terms → State → Buffer → ℕ
front_of w σ buffer = front_after buffer (extents_from 0 w.groups σ.begun)

-- the buffer that a token names
abbrev pub buffer_of : Terms → Token → Option Buffer
buffer_of w token = find (λ buffer. buffer.number == token.buffer) w.buffers

-- the front of the buffer that the token names has passed its place
pub record IsGoneToken (w : Terms) (σ : State) (token : Token) : Type 0 where
  pub buffer : Buffer
  pub named : buffer_of w token ≡ Some buffer
  pub gone : IsGone buffer.blocks (front_of w σ buffer)
      (on_line buffer.blocks token.cycle token.first)

-- the text lies at this cycle and block of the buffer
abbrev pub is_at : ℕ → ℕ → ℕ → Kept → Bool
is_at buffer cycle first kept =
    kept.token.buffer == buffer && kept.token.cycle == cycle && kept.token.first == first

-- the text of the first article that is whole under this token, which agrees in all five parts
abbrev pub text_under : List Kept → Token → Option (List ℕ)
text_under kept token =
    option_map (λ (one : Kept). one.text) (find (λ (one : Kept). same_token one.token token) kept)

-- the article of such a text
abbrev pub article_of : Option (List ℕ) → Fetched
article_of None = NotKnown
article_of (Some text) = Article text

-- what the numbers decide, by the place of the token on the endless line and the front of its
-- buffer; None where that place is live, and the device has to be asked
abbrev pub decided_at : Token → Buffer → (place front : ℕ) → Option Fetched
decided_at token buffer place front =
    if token.length == 0 || nat_lt buffer.blocks (token.first + size_of token.length)
    || nat_le front place
    then Some NotKnown
    else (if nat_lt (place + buffer.blocks) front then Some Gone else None)

-- by the buffer that the token names, if it names one
abbrev pub decided_in : Terms → State → Token → Option Buffer → Option Fetched
decided_in w σ token None = Some NotKnown
decided_in w σ token (Some buffer) =
    decided_at token buffer (on_line buffer.blocks token.cycle token.first) (front_of w σ buffer)

-- what the numbers decide of a fetch of this token
abbrev pub decided : Terms → State → Token → Option Fetched
decided w σ token = decided_in w σ token (buffer_of w token)

-- what a fetch of this token finds: what the numbers decide, or else what is whole under it
abbrev pub fetched : Terms → State → Token → Fetched
fetched w σ token = unwrap_or (decided w σ token) (article_of (text_under σ.kept token))
