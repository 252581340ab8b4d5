-- What is shown of the text that a fetch has gathered. No public contract cites it.
use Rattle.std.specs.Prelude.{◌≡◌, ◌≤◌, ℕ, ◌+◌, List, length}
use Rattle.news_terms.specs.Article.{Article, IsArticleText}
use Rattle.news_terms.specs.Blocks.{stuffed_room}
use Rattle.news_terms.specs.Command.{Part, WholeText, Header, BodyLines, OverviewLine, Presence}
use Rattle.news_terms.specs.Reply.{Reply, reply_text}
use Rattle.news_terms.specs.Token.{Token}
use Rattle.nntp_text.specs.Reply.{reply_room}
use Rattle.relay_model.specs.Fetches as fetches
use Rattle.relay_model.specs.Hears.{Shows}
use Rattle.relay_model.specs.State.{Asked, OfId, OfToken}
use Rattle.article_fetch.specs.Fetch.{Replies}
use Rattle.article_fetch.specs.declared.chunk.Chunk.{Chunk}
use Rattle.article_fetch.specs.declared.chunk.Chunk.TheVariants as chunks

-- these octets are all that has to be there to show this part of a text: the text, of STAT nothing
abbrev pub Serves : Part → (octets text : List ℕ) → Type 0
Serves WholeText octets text = octets ≡ text
Serves Header octets text = octets ≡ text
Serves BodyLines octets text = octets ≡ text
Serves OverviewLine octets text = octets ≡ text
Serves Presence octets text = Unit {0}

-- the same of what a fetch asks
abbrev pub ServesAsked : Asked → (octets text : List ℕ) → Type 0
ServesAsked (OfId part id) octets text = Serves part octets text
ServesAsked OfToken octets text = octets ≡ text

-- these are the octets of the reply that shows this part of each article's text that the gathered
-- octets serve
abbrev pub ShowsPart : Part → List ℕ → (gathered octets : List ℕ) → Type 0
ShowsPart part id gathered octets =
    (text : List ℕ) (a : Article) → IsArticleText text a → Serves part gathered text
    → (reply : Reply) × Shows part id text reply × (octets ≡ reply_text reply)
    × (1 ≤ length octets)

-- these are the octets of what is said of a fetch that finds an article, once its text is gathered
abbrev pub ShowsArticle : Asked → Token → (gathered octets : List ℕ) → Type 0
ShowsArticle asked token gathered octets =
    (text : List ℕ) (a : Article) → IsArticleText text a → ServesAsked asked gathered text
    → Replies asked token (fetches.Article text) octets

-- these are the octets of what is said at the end of a fetch, by what was read last
abbrev pub SaysLast : Asked → Token → Chunk → (gathered octets : List ℕ) → Type 0
SaysLast asked token (chunks.Found _) gathered octets = ShowsArticle asked token gathered octets
SaysLast asked token (chunks.Gone front) gathered octets = Replies asked token fetches.Gone octets
SaysLast asked token chunks.Unknown gathered octets = Replies asked token fetches.NotKnown octets
SaysLast asked token (chunks.Device fault) gathered octets =
    Replies asked token fetches.NotRead octets

-- the most octets of what is said, by what was read last: a text is shown where a block was read
abbrev pub most_by : Chunk → (gathered : List ℕ) → ℕ
most_by (chunks.Found _) gathered = reply_room + stuffed_room (length gathered)
most_by (chunks.Gone front) gathered = reply_room
most_by chunks.Unknown gathered = reply_room
most_by (chunks.Device fault) gathered = reply_room
