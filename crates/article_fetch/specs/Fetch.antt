-- A fetch in progress: what it asks, what it has, and what it makes of the next block (RFC 3977,
-- sections 6.2 and 8.3; docs/PROTOCOL.md, Sessions).
use Rattle.std.specs.Prelude.{◌≡◌, ◌≤◌, ℕ, ◌+◌, ◌*◌, Bool, true, false, List, [], length, take}
use Rattle.std.specs.Prelude.{Option, None, Some}
use Rattle.std.specs.Global.{Vec}
use Rattle.news_terms.specs.Article.{Article, IsArticleText}
use Rattle.news_terms.specs.BlockImage.{chunk, chunk_size}
use Rattle.news_terms.specs.Reply.{Reply, reply_text}
use Rattle.news_terms.specs.Token.{Token}
use Rattle.nntp_text.specs.Command.{part_view}
use Rattle.relay_model.specs.Fetches.{Fetched}
use Rattle.relay_model.specs.Fetches as fetches
use Rattle.relay_model.specs.Hears.{goes_on, ReplyIs}
use Rattle.relay_model.specs.State as states
use Rattle.article_fetch.specs.declared.asked.Asked.{Asked}
use Rattle.article_fetch.specs.declared.asked.Asked.TheVariants as asks
use Rattle.article_fetch.specs.declared.chunk.Chunk.{Chunk}
use Rattle.article_fetch.specs.declared.chunk.Chunk.TheVariants as chunks

-- what a fetch asks, as the definitions have it
abbrev pub asked_view : Asked → states.Asked
asked_view (asks.OfId part id) = states.OfId (part_view part) id
asked_view asks.OfToken = states.OfToken

-- a fetch: what it asks, of which token, how many of its Turns it has had, the octets that they
-- gathered, and whether memory is there for whatever comes of the next one
pub record Fetch : Type 0 where
  pub asked : states.Asked
  pub token : Token
  pub had : ℕ
  pub gathered : List ℕ
  pub prepared : Bool

-- a fetch that has had no Turn
abbrev pub new_fetch : states.Asked → Token → Fetch
new_fetch asked token =
    record { asked = asked; token = token; had = 0; gathered = []; prepared = false }

-- the fetch has memory for whatever comes of the next block
abbrev pub prepared_fetch : Fetch → Fetch
prepared_fetch fetch = record fetch { prepared = true }

-- the fetch has had one Turn more
abbrev pub went_on : Fetch → List ℕ → Fetch
went_on fetch text =
    record fetch {
      had = fetch.had + 1;
      gathered = take (chunk_size * (fetch.had + 1)) text;
      prepared = false;
    }

-- the fetch has ended: nothing stays of what it gathered
abbrev pub ended : Fetch → Fetch
ended fetch = record fetch { gathered = []; prepared = false }

-- the octets are the next block of this text, of the length that the token tells, whose front is
-- gathered; and the text is an article's
pub record IsNextOf (fetch : Fetch) (octets text : List ℕ) : Type 0 where
  pub article : Article
  pub is_article : IsArticleText text article
  pub whole : length text ≡ fetch.token.length
  pub front : fetch.gathered ≡ take (chunk_size * fetch.had) text
  pub next : octets ≡ chunk fetch.had text

-- what was read of the next block is that of a fetch that finds this
abbrev pub FoundAs : Fetch → Chunk → Fetched → Type 0
FoundAs fetch (chunks.Found octets) found =
    (text : List ℕ) × (found ≡ fetches.Article text) × IsNextOf fetch octets text
FoundAs fetch (chunks.Gone front) found = found ≡ fetches.Gone
FoundAs fetch chunks.Unknown found = found ≡ fetches.NotKnown
FoundAs fetch (chunks.Device fault) found = found ≡ fetches.NotRead

-- these are the octets of what is said of a fetch that finds this
abbrev pub Replies : states.Asked → Token → Fetched → List ℕ → Type 0
Replies asked token found octets =
    (reply : Reply) × ReplyIs asked token found reply × (octets ≡ reply_text reply)
    × (1 ≤ length octets)

-- where it goes on, nothing is said, and the fetch has had one Turn more; else the octets of the
-- reply are given, and it has ended
abbrev pub HearsBlock : Fetch → Fetched → Option (Vec ℕ) → Fetch → Type 0
HearsBlock fetch found None new =
    (goes_on fetch.asked fetch.token fetch.had found ≡ true)
    × (text : List ℕ) × (found ≡ fetches.Article text) × (new ≡ went_on fetch text)
HearsBlock fetch found (Some octets) new =
    (goes_on fetch.asked fetch.token fetch.had found ≡ false)
    × Replies fetch.asked fetch.token found octets.items × (new ≡ ended fetch)

-- whatever was read: where nothing is said, the fetch has had one Turn more; else something is
-- said, and it has ended; what it asks, and of which token, stays
abbrev pub StaysSame : Fetch → Option (Vec ℕ) → Fetch → Type 0
StaysSame fetch None new =
    new ≡ record fetch { had = fetch.had + 1; gathered = new.gathered; prepared = false }
StaysSame fetch (Some octets) new = (1 ≤ length octets.items) × (new ≡ ended fetch)
