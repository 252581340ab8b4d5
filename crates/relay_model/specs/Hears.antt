-- What a session makes of the answer: what it says, and how it goes on (RFC 3977, RFC 4644;
-- docs/PROTOCOL.md, Sessions).
use Rattle.std.specs.Prelude.{◌≡◌, ℕ, ◌+◌, nat_lt, max, Bool, true, false, List, flat_map, Option}
use Rattle.std.specs.Prelude.{None, Some}
use Rattle.news_terms.specs.Article.{Article, IsArticleText, field_text}
use Rattle.news_terms.specs.Command.{Part, WholeText, Header, BodyLines, OverviewLine, Presence}
use Rattle.news_terms.specs.Overview.{overview_line}
use Rattle.news_terms.specs.Places.{size_of}
use Rattle.news_terms.specs.Reply.{Reply, SendIt, IhaveSend, NotWanted, IhaveNotWanted, IhaveLater}
use Rattle.news_terms.specs.Reply.{Kept, Rejected, NotStored, IhaveKept, IhaveRejected}
use Rattle.news_terms.specs.Reply.{ArticleFollows, HeaderFollows, BodyFollows, Exists}
use Rattle.news_terms.specs.Reply.{OverviewFollows, NoArticle, DeviceFault, QueueFollows}
use Rattle.news_terms.specs.Reply.{TokenFollows, TokenGone, TokenUnknown}
use Rattle.news_terms.specs.Token.{Token}
use Rattle.relay_model.specs.Asks.{Ask, Rests, GoesOn, Says, Leaves, Offers, Looks, Reads}
use Rattle.relay_model.specs.Asks.{TakesQueue, Refuses, Takes, Pushes, LooksInSlot, Releases, Ends}
use Rattle.relay_model.specs.Asks.{without_offer, later}
use Rattle.relay_model.specs.Claims.{Accepted, OfferAnswer, Wanted, Later, Seen, TakeAnswer, Mine}
use Rattle.relay_model.specs.Claims.{Held, Had}
use Rattle.relay_model.specs.Fetches.{Fetched, Gone, NotKnown, NotRead}
use Rattle.relay_model.specs.Fetches as fetches
use Rattle.relay_model.specs.Shares.{Answer, ToOffer, ToLook, ToRead, ToTakeQueue, ToTake, ToPush}
use Rattle.relay_model.specs.Shares.{InSlot}
use Rattle.relay_model.specs.State.{Session, Ready, AwaitsBlock, Holds, Waits, Fetches, Leaving}
use Rattle.relay_model.specs.State.{Ended}
use Rattle.relay_model.specs.State.{Transfer, TakesThis, Has, Asked, OfId, OfToken, in_phase}
use Rattle.relay_model.specs.State.{with_offers}
use Rattle.relay_model.specs.World.{Outcome, IsKept, HasFailed, Said, Silent, Speaks, Parts}

-- what a session says, and the session after it
pub record Heard : Type 0 where
  pub said : Said
  pub session : Session

-- it says nothing
abbrev pub silent : Session → Heard
silent session = record { said = Silent; session = session }

-- it says this
abbrev pub says : Session → Reply → Heard
says session reply = record { said = Speaks reply; session = session }

-- it says this, and leaves
abbrev pub parts : Session → Reply → Heard
parts session reply = record { said = Parts reply; session = in_phase session Leaving }

-- the article is wanted: its id stays an open offer, and after IHAVE its block is owed
abbrev pub wanted : Session → Transfer → List ℕ → Heard
wanted session TakesThis id = says session (SendIt id)
wanted session Has id = says (in_phase session (AwaitsBlock Has (Some id))) IhaveSend

-- what is said of an id that is remembered
abbrev pub not_wanted : Transfer → List ℕ → Reply
not_wanted TakesThis id = NotWanted id
not_wanted Has id = IhaveNotWanted

-- CHECK and IHAVE: what is wanted is an open offer, and what isn't is none (RFC 4644 section 2.4)
abbrev pub offer_heard : Session → Transfer → List ℕ → OfferAnswer → Heard
offer_heard session transfer id Wanted = wanted session transfer id
offer_heard session transfer id Later =
    says (with_offers session (without_offer session.offers id)) (later transfer id)
offer_heard session transfer id Seen =
    says (with_offers session (without_offer session.offers id)) (not_wanted transfer id)

-- an id that isn't stored has no article, else its token is fetched from the next Turn on
abbrev pub look_heard : Session → Part → List ℕ → Option Token → Heard
look_heard session part id None = says session NoArticle
look_heard session part id (Some token) =
    silent (in_phase session (Fetches (OfId part id) token 0))

-- what is said of an article that isn't taken
abbrev pub rejected : Transfer → List ℕ → Reply
rejected TakesThis id = Rejected id
rejected Has id = IhaveRejected

-- an accepted article: it is in the hand of the session, which waits; or the id is remembered; or
-- another article of the id is being stored, and TAKETHIS holds this one (RFC 4644 section 2.5)
abbrev pub take_heard : ℕ → Session → Transfer → List ℕ → Accepted → TakeAnswer → Heard
take_heard s session transfer id article Mine =
    silent (record session {
      phase = Waits transfer id;
      hand = Some (record { session = s; id = id; article = article });
    })
take_heard s session transfer id article Had = says session (rejected transfer id)
take_heard s session TakesThis id article Held = silent (in_phase session (Holds id article))
take_heard s session Has id article Held = says session IhaveLater

-- how the storing of the session's article ended (RFC 4644 section 2.5, RFC 3977 section 6.3.2)
abbrev pub outcome_heard : Session → Transfer → List ℕ → Outcome → Heard
outcome_heard session TakesThis id IsKept = says (in_phase session Ready) (Kept id)
outcome_heard session TakesThis id HasFailed = parts session NotStored
outcome_heard session Has id IsKept = says (in_phase session Ready) IhaveKept
outcome_heard session Has id HasFailed = says (in_phase session Ready) IhaveLater

-- the slot has the outcome, or the session goes on waiting
abbrev pub slot_heard : Session → Transfer → List ℕ → Option Outcome → Heard
slot_heard session transfer id None = silent session
slot_heard session transfer id (Some outcome) = outcome_heard session transfer id outcome

-- the job is pushed, or stays in the hand
abbrev pub push_heard : Session → Bool → Heard
push_heard session true = silent (record session { hand = None })
push_heard session false = silent session

-- the Turns that reading a token takes: one for each block, the first in any case; STAT reads one
abbrev pub turns_of : Asked → Token → ℕ
turns_of (OfId Presence id) token = 1
turns_of (OfId WholeText id) token = max 1 (size_of token.length)
turns_of (OfId Header id) token = max 1 (size_of token.length)
turns_of (OfId BodyLines id) token = max 1 (size_of token.length)
turns_of (OfId OverviewLine id) token = max 1 (size_of token.length)
turns_of OfToken token = max 1 (size_of token.length)

-- the reply that sends this part of an article's text (RFC 3977 sections 6.2 and 8.3)
abbrev pub Shows : Part → List ℕ → List ℕ → Reply → Type 0
Shows WholeText id text reply = reply ≡ ArticleFollows id text
Shows Header id text reply =
    (a : Article) × IsArticleText text a
    × (reply ≡ HeaderFollows id (flat_map field_text a.fields))
Shows BodyLines id text reply =
    (a : Article) × IsArticleText text a × (reply ≡ BodyFollows id a.body)
Shows OverviewLine id text reply =
    (a : Article) × IsArticleText text a × (reply ≡ OverviewFollows (overview_line a))
Shows Presence id text reply = reply ≡ Exists id

-- what is said of what a fetch finds
abbrev pub ReplyIs : Asked → Token → Fetched → Reply → Type 0
ReplyIs (OfId part id) token Gone reply = reply ≡ NoArticle
ReplyIs (OfId part id) token NotKnown reply = reply ≡ NoArticle
ReplyIs (OfId part id) token (fetches.Article text) reply = Shows part id text reply
ReplyIs (OfId part id) token NotRead reply = reply ≡ DeviceFault
ReplyIs OfToken token Gone reply = reply ≡ TokenGone token
ReplyIs OfToken token NotKnown reply = reply ≡ TokenUnknown token
ReplyIs OfToken token (fetches.Article text) reply = reply ≡ TokenFollows token text
ReplyIs OfToken token NotRead reply = reply ≡ DeviceFault

-- the article is still there, and this was not the last of the Turns that reading it takes
abbrev pub goes_on : Asked → Token → ℕ → Fetched → Bool
goes_on asked token had Gone = false
goes_on asked token had NotKnown = false
goes_on asked token had (fetches.Article text) = nat_lt (had + 1) (turns_of asked token)
goes_on asked token had NotRead = false

-- while it goes on it says nothing; it says what it found by the last Turn
abbrev pub ReadHeard : Session → Asked → Token → ℕ → Fetched → Bool → Heard → Type 0
ReadHeard session asked token had found true heard =
    heard ≡ silent (in_phase session (Fetches asked token (had + 1)))
ReadHeard session asked token had found false heard =
    (reply : Reply) × ReplyIs asked token found reply × (heard ≡ says session reply)

-- what session s makes of the answer to what it asked; `session` is what it is once what it read
-- counts as read
abbrev pub Hears : ℕ → Session → Ask → Answer → Heard → Type 0
Hears s session Rests answer heard = heard ≡ silent session
Hears s session GoesOn answer heard = heard ≡ silent session
Hears s session (Says reply) answer heard = heard ≡ says session reply
Hears s session (Leaves reply) answer heard = heard ≡ parts session reply
Hears s session (Offers transfer id) answer heard =
    (told : OfferAnswer) × (answer ≡ ToOffer told) × (heard ≡ offer_heard session transfer id told)
Hears s session (Looks part id) answer heard =
    (token : Option Token) × (answer ≡ ToLook token) × (heard ≡ look_heard session part id token)
Hears s session (Reads asked token had) answer heard =
    (found : Fetched) × (answer ≡ ToRead found)
    × ReadHeard session asked token had found (goes_on asked token had found) heard
Hears s session (TakesQueue feed most) answer heard =
    (missed : ℕ) × (items : List (ℕ × Token)) × (answer ≡ ToTakeQueue missed items)
    × (heard ≡ says session (QueueFollows missed items))
Hears s session (Refuses transfer id reason) answer heard =
    heard ≡ says session (rejected transfer id)
Hears s session (Takes transfer id article) answer heard =
    (told : TakeAnswer) × (answer ≡ ToTake told)
    × (heard ≡ take_heard s session transfer id article told)
Hears s session (Pushes job) answer heard =
    (has_room : Bool) × (answer ≡ ToPush has_room) × (heard ≡ push_heard session has_room)
Hears s session (LooksInSlot transfer id) answer heard =
    (outcome : Option Outcome) × (answer ≡ InSlot outcome)
    × (heard ≡ slot_heard session transfer id outcome)
Hears s session (Releases id) answer heard = heard ≡ silent session
Hears s session Ends answer heard = heard ≡ silent (in_phase session Ended)
