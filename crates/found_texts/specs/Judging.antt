-- What is judged of a text that is found (docs/PROTOCOL.md, Crashes).
use Rattle.std.specs.Prelude.{◌≡◌, ℕ, List, length, take, Option, None, Some}
use Rattle.buffer_repair.specs.Keeping.{KeepsFound}
use Rattle.buffer_repair.specs.declared.found_set.FoundBufferSet.{FoundBufferSet}
use Rattle.cyc_block.specs.declared.store.BlockStore.{Ghosts}
use Rattle.cyc_token.specs.Token.{token_view}
use Rattle.cyc_token.specs.declared.Token as code
use Rattle.feed_queue.specs.Permission.{HasFeeds}
use Rattle.found_again.specs.Reading.{IsArticleOf, IsNoArticle}
use Rattle.found_again.specs.declared.text.FoundText.{FoundText}
use Rattle.news_terms.specs.Courses.{Course}
use Rattle.relay_conf.specs.declared.settings.Relay.{Relay}
use Rattle.relay_model.specs.Fetches.{text_under}
use Rattle.relay_model.specs.State.{Kept}
use Rattle.relay_model.specs.Terms.{Terms}

-- the relay is set up with the peers of these settings, and with those of their feeds that have a
-- number
abbrev pub IsSetUp : Terms → Relay → Type 0
IsSetUp w relay = HasFeeds w relay.peers.items (take 65536 relay.feeds.items)

-- what the program has of a text: it is an article, and this is its value; or it is none
abbrev pub IsJudged : (w : Terms) → Option FoundText → Kept → Type 0
IsJudged w None one = IsNoArticle one
IsJudged w (Some text) one = IsArticleOf w text one

-- so it is of whatever text has these octets and this token
abbrev pub Judges : Relay → code.Token → (octets : List ℕ) → Option FoundText → Type 0
Judges relay token octets judged =
    (w : Terms) (one : Kept) → IsSetUp w relay → one.token ≡ token_view token
    → octets ≡ one.text → IsJudged w judged one

-- a text was read and judged, and all is kept as it was
pub record HasJudged {S : Type 0} {g : Ghosts S} (judged : Option FoundText) (one : Kept)
    (w : Terms) (begun : ℕ → Course) (kept : List Kept) (failures : ℕ → ℕ)
    (new : FoundBufferSet S g)
    : Type 0 where
  pub is_judged : IsJudged w judged one
  pub keeps : KeepsFound new w begun kept failures

-- so it is of whatever text is kept under the token, as long as that says
abbrev pub ReadsOne : {S : Type 0} {g : Ghosts S} → Relay → code.Token
    → (old : FoundBufferSet S g) → Option FoundText → (new : FoundBufferSet S g) → Type 0
ReadsOne relay token old judged new =
    (w : Terms) (begun : ℕ → Course) (kept : List Kept) (failures : ℕ → ℕ) (one : Kept)
    → IsSetUp w relay → KeepsFound old w begun kept failures → one.token ≡ token_view token
    → text_under kept (token_view token) ≡ Some one.text
    → (token_view token).length ≡ length one.text
    → HasJudged judged one w begun kept failures new
