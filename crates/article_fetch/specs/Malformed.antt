-- What is said of a text that isn't laid out as an article. None is ever stored, so such a text was
-- not read as it was stored: the device is at fault (docs/PROTOCOL.md, Sessions).
use Rattle.std.specs.Prelude.{◌≡◌, ℕ, ◌++◌, List, Option, None, Some}
use Rattle.std.specs.Global.{Vec}
use Rattle.news_terms.specs.Article.{Article, IsLaidOut}
use Rattle.news_terms.specs.Command.{Part, WholeText, Header, BodyLines, OverviewLine, Presence}
use Rattle.news_terms.specs.Reply.{DeviceFault, reply_text}
use Rattle.relay_model.specs.State.{Asked, OfId, OfToken}
use Rattle.article_fetch.specs.Fetch.{Fetch}
use Rattle.article_fetch.specs.declared.chunk.Chunk.{Chunk}
use Rattle.article_fetch.specs.declared.chunk.Chunk.TheVariants as chunks

-- the text isn't laid out as an article
abbrev pub IsNoArticle : List ℕ → Type 0
IsNoArticle text = (a : Article) → ¬ IsLaidOut text a

-- where a part is asked for that can't be told in such a text, the device is at fault; the whole
-- text, and that it is there, are shown of any text
abbrev pub FaultsPart : Part → (text said : List ℕ) → Type 0
FaultsPart WholeText text said = Unit {0}
FaultsPart Header text said = IsNoArticle text → said ≡ reply_text DeviceFault
FaultsPart BodyLines text said = IsNoArticle text → said ≡ reply_text DeviceFault
FaultsPart OverviewLine text said = IsNoArticle text → said ≡ reply_text DeviceFault
FaultsPart Presence text said = Unit {0}

-- the same of what a fetch asks: XFETCH shows any text
abbrev pub FaultsAsked : Asked → (text said : List ℕ) → Type 0
FaultsAsked (OfId part id) text said = FaultsPart part text said
FaultsAsked OfToken text said = Unit {0}

-- the same by what was read last, once the text is gathered
abbrev pub FaultsLast : Asked → Chunk → (text said : List ℕ) → Type 0
FaultsLast asked (chunks.Found octets) text said = FaultsAsked asked text said
FaultsLast asked (chunks.Gone front) text said = Unit {0}
FaultsLast asked chunks.Unknown text said = Unit {0}
FaultsLast asked (chunks.Device fault) text said = Unit {0}

-- the same of a fetch that has heard its last block: the text is what it had gathered and the block
abbrev pub SaysFault : Fetch → Chunk → Option (Vec ℕ) → Type 0
SaysFault fetch chunk None = Unit {0}
SaysFault fetch (chunks.Found octets) (Some said) =
    FaultsAsked fetch.asked (fetch.gathered ++ octets) said.items
SaysFault fetch (chunks.Gone front) (Some said) = Unit {0}
SaysFault fetch chunks.Unknown (Some said) = Unit {0}
SaysFault fetch (chunks.Device fault) (Some said) = Unit {0}
