-- What is said of a fetch whatever its reads gave: a text, be it an article's or not, or why there
-- is none (RFC 3977, sections 6.2 and 8.3; docs/PROTOCOL.md, Sessions).
use Rattle.std.specs.Prelude.{◌≡◌, ◌⊎◌, ◌≤◌, ℕ, ◌+◌, ◌++◌, true, false, List, [], length, flat_map}
use Rattle.std.specs.Prelude.{Option, None, Some}
use Rattle.std.specs.Global.{Vec}
use Rattle.news_terms.specs.Article.{Article, IsLaidOut, field_text}
use Rattle.news_terms.specs.Command.{Part, WholeText, Header, BodyLines, OverviewLine, Presence}
use Rattle.news_terms.specs.Overview.{overview_line}
use Rattle.news_terms.specs.Reply.{Reply, ArticleFollows, HeaderFollows, BodyFollows, Exists}
use Rattle.news_terms.specs.Reply.{OverviewFollows, TokenFollows, DeviceFault, reply_text}
use Rattle.news_terms.specs.Token.{Token}
use Rattle.relay_model.specs.Fetches.{Fetched}
use Rattle.relay_model.specs.Fetches as fetches
use Rattle.relay_model.specs.Hears.{ReplyIs, goes_on}
use Rattle.relay_model.specs.State.{Asked, OfId, OfToken}
use Rattle.article_fetch.specs.Fetch.{Fetch, ended}
use Rattle.article_fetch.specs.Malformed.{IsNoArticle}
use Rattle.article_fetch.specs.declared.chunk.Chunk.{Chunk}
use Rattle.article_fetch.specs.declared.chunk.Chunk.TheVariants as chunks

-- of a text that is laid out as an article this part of the article follows; of any other the
-- device is at fault
abbrev pub ShowsLaid : List ℕ → (Article → List ℕ) → (List ℕ → Reply) → Reply → Type 0
ShowsLaid text part follows reply =
    (IsNoArticle text × (reply ≡ DeviceFault))
    ⊎ ((octets : List ℕ) × (IsNoArticle text → ⊥)
    × ((a : Article) → IsLaidOut text a → octets ≡ part a) × (reply ≡ follows octets))

-- the reply that sends this part of a text, whatever the text is
abbrev pub ShowsAny : Part → (id text : List ℕ) → Reply → Type 0
ShowsAny WholeText id text reply = reply ≡ ArticleFollows id text
ShowsAny Header id text reply =
    ShowsLaid text (λ a. flat_map field_text a.fields) (HeaderFollows id) reply
ShowsAny BodyLines id text reply = ShowsLaid text (λ a. a.body) (BodyFollows id) reply
ShowsAny OverviewLine id text reply = ShowsLaid text overview_line OverviewFollows reply
ShowsAny Presence id text reply = reply ≡ Exists id

-- the same of what a fetch asks: XFETCH shows the whole text
abbrev pub ShowsAsked : Asked → Token → List ℕ → Reply → Type 0
ShowsAsked (OfId part id) token text reply = ShowsAny part id text reply
ShowsAsked OfToken token text reply = reply ≡ TokenFollows token text

-- what is said of what a fetch was given, whatever text that is
abbrev pub ReplyToAny : Asked → Token → Fetched → Reply → Type 0
ReplyToAny asked token (fetches.Article text) reply = ShowsAsked asked token text reply
ReplyToAny asked token fetches.Gone reply = ReplyIs asked token fetches.Gone reply
ReplyToAny asked token fetches.NotKnown reply = ReplyIs asked token fetches.NotKnown reply
ReplyToAny asked token fetches.NotRead reply = ReplyIs asked token fetches.NotRead reply

-- these are the octets of such a reply, and there are some
abbrev pub SaysSuch : (Reply → Type 0) → List ℕ → Type 0
SaysSuch IsSuch octets =
    (reply : Reply) × IsSuch reply × (octets ≡ reply_text reply) × (1 ≤ length octets)

-- what a fetch was given with the last block that it read, once this text is gathered
abbrev pub found_with : Chunk → List ℕ → Fetched
found_with (chunks.Found octets) text = fetches.Article text
found_with (chunks.Gone front) text = fetches.Gone
found_with chunks.Unknown text = fetches.NotKnown
found_with (chunks.Device fault) text = fetches.NotRead

-- what is gathered once this was read of the next block
abbrev pub gathered_with : List ℕ → Chunk → List ℕ
gathered_with gathered (chunks.Found octets) = gathered ++ octets
gathered_with gathered (chunks.Gone front) = []
gathered_with gathered chunks.Unknown = []
gathered_with gathered (chunks.Device fault) = []

-- what a fetch that has gathered this was given with the next block
abbrev pub given : List ℕ → Chunk → Fetched
given gathered chunk = found_with chunk (gathered_with gathered chunk)

-- Whatever was read: where the fetch goes on, nothing is said, and it has had one Turn more; else
-- the octets of the reply are given, and it has ended.
abbrev pub HearsAny : Fetch → Chunk → Option (Vec ℕ) → Fetch → Type 0
HearsAny fetch chunk None new =
    (goes_on fetch.asked fetch.token fetch.had (given fetch.gathered chunk) ≡ true)
    × (new ≡ record fetch {
      had = fetch.had + 1;
      gathered = gathered_with fetch.gathered chunk;
      prepared = false;
    })
HearsAny fetch chunk (Some said) new =
    (goes_on fetch.asked fetch.token fetch.had (given fetch.gathered chunk) ≡ false)
    × SaysSuch (ReplyToAny fetch.asked fetch.token (given fetch.gathered chunk)) said.items
    × (new ≡ ended fetch)
