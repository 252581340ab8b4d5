-- A Turn, computed where no device fails.
use Rattle.std.proofs.Common.{◌≡◌, ℕ, ◌+◌, Bool, true, false, nat_lt, List, Some}
use Rattle.std.proofs.Common.{[], length, slice_get, refl, le_refl}
use Rattle.std.specs.Prelude.{flat_map}
use Rattle.news_terms.specs.Article.{Article, IsArticleText, field_text}
use Rattle.news_terms.specs.Overview.{overview_line}
use Rattle.news_terms.specs.Command.{Part, WholeText, Header, BodyLines, OverviewLine, Presence}
use Rattle.news_terms.specs.Reply.{Reply, ArticleFollows, HeaderFollows, BodyFollows}
use Rattle.news_terms.specs.Reply.{OverviewFollows, Exists}
use Rattle.news_terms.specs.Reply.{NoArticle, DeviceFault}
use Rattle.news_terms.specs.Reply.{QueueFollows, TokenFollows, TokenGone, TokenUnknown}
use Rattle.news_terms.specs.Ring as rings
use Rattle.news_terms.specs.Token.{Token}
use Rattle.relay_model.specs.Asks.{Ask, Rests, GoesOn, Says, Leaves, Offers, Looks, Reads}
use Rattle.relay_model.specs.Asks.{TakesQueue, Refuses, Takes, Pushes, LooksInSlot, Releases, Ends}
use Rattle.relay_model.specs.Asks.{Due, reason_of}
use Rattle.relay_model.specs.Claims.{offer_answer, after_offer, take_answer, after_take}
use Rattle.relay_model.specs.Claims.{after_refuse, after_release, look_answer}
use Rattle.relay_model.specs.Fetches.{Fetched, Gone, NotKnown, NotRead, fetched}
use Rattle.relay_model.specs.Fetches as fetches
use Rattle.relay_model.specs.Hears.{Heard, Hears, ReadHeard, ReplyIs, goes_on, says, silent, parts}
use Rattle.relay_model.specs.Hears.{offer_heard, look_heard, take_heard, push_heard, slot_heard}
use Rattle.relay_model.specs.Hears.{Shows, rejected}
use Rattle.relay_model.specs.Run.{Turns}
use Rattle.relay_model.specs.Shares.{known_at, Answer, Shares, IsFound, Pushing, Nothing, ToOffer}
use Rattle.relay_model.specs.Shares.{ToLook}
use Rattle.relay_model.specs.Shares.{known_at, ToRead, ToTakeQueue, ToTake, ToPush, InSlot, as_ring}
use Rattle.relay_model.specs.Shares.{ring_of}
use Rattle.relay_model.specs.Shares.{known_at, queue_taken, pushed, untold}
use Rattle.relay_model.specs.State.{Session, Asked, OfId, OfToken, Fetches, Ended, Job, in_phase}
use Rattle.relay_model.specs.Terms.{Terms, queue_limit}
use Rattle.relay_model.specs.World.{World, Output, output_of, with_claim, with_session}
use Rattle.relay_laws.proofs.Dues.{Hint, NoHint, ReadsAs, NamesToken, HasDigits}
use Rattle.relay_laws.proofs.Dues.{due_in, phase_premise, phase_due}
use Rattle.relay_laws.proofs.Premises.{Premise, Free, Needs, Both, IsMet}

-- there is room for the job
abbrev has_room : World → Job → Bool
has_room x job = nat_lt (length (x.work.queue job.article.group)) queue_limit

-- what a step of what is shared answers
abbrev answer_to : Terms → World → (s now : ℕ) → Ask → Answer
answer_to w x s now Rests = Nothing
answer_to w x s now GoesOn = Nothing
answer_to w x s now (Says reply) = Nothing
answer_to w x s now (Leaves reply) = Nothing
answer_to w x s now (Offers transfer id) =
    ToOffer (offer_answer s (known_at w x now id))
answer_to w x s now (Looks part id) = ToLook (look_answer (x.state.claim id))
answer_to w x s now (Reads asked token had) = ToRead (fetched w x.state token)
answer_to w x s now (TakesQueue feed most) =
    let ring = ring_of (slice_get w.feeds feed) in
    ToTakeQueue (rings.missed ring (as_ring (x.state.feed feed)))
    (rings.taken_items ring most (as_ring (x.state.feed feed)))
answer_to w x s now (Refuses transfer id reason) = Nothing
answer_to w x s now (Takes transfer id article) = ToTake (take_answer s (x.state.claim id))
answer_to w x s now (Pushes job) = ToPush (has_room x job)
answer_to w x s now (LooksInSlot transfer id) = InSlot (x.work.slot s)
answer_to w x s now (Releases id) = Nothing
answer_to w x s now Ends = Nothing

-- the world after a push, or as it was
abbrev after_push : World → Job → Bool → World
after_push x job true = pushed x job
after_push x job false = x

-- the world after it
abbrev world_after : Terms → World → (s now : ℕ) → Ask → World
world_after w x s now Rests = x
world_after w x s now GoesOn = x
world_after w x s now (Says reply) = x
world_after w x s now (Leaves reply) = x
world_after w x s now (Offers transfer id) =
    with_claim x id (after_offer s now (known_at w x now id))
world_after w x s now (Looks part id) = x
world_after w x s now (Reads asked token had) = x
world_after w x s now (TakesQueue feed most) =
    queue_taken x (ring_of (slice_get w.feeds feed)) feed most
world_after w x s now (Refuses transfer id reason) =
    with_claim x id (after_refuse s now (known_at w x now id))
world_after w x s now (Takes transfer id article) =
    with_claim x id (after_take s article (x.state.claim id))
world_after w x s now (Pushes job) = after_push x job (has_room x job)
world_after w x s now (LooksInSlot transfer id) = untold x s
world_after w x s now (Releases id) = with_claim x id (after_release s (x.state.claim id))
world_after w x s now Ends = x

-- a push
pushes : (x : World) (job : Job) (room : Bool)
    → Pushing x job room (ToPush room) (after_push x job room)
pushes x job true = (refl, refl)
pushes x job false = (refl, refl)

-- the step does so
shares : (w : Terms) (x : World) (s now : ℕ) (ask : Ask)
    → Shares w x s now ask (answer_to w x s now ask) (world_after w x s now ask)
shares w x s now Rests = (refl, refl)
shares w x s now GoesOn = (refl, refl)
shares w x s now (Says reply) = (refl, refl)
shares w x s now (Leaves reply) = (refl, refl)
shares w x s now (Offers transfer id) = (refl, refl)
shares w x s now (Looks part id) = (refl, refl)
shares w x s now (Reads asked token had) =
    IsFound x.work.failures (λ buffer. le_refl (x.work.failures buffer)) refl refl
shares w x s now (TakesQueue feed most) = (refl, refl)
shares w x s now (Refuses transfer id reason) = (refl, refl)
shares w x s now (Takes transfer id article) = (refl, refl)
shares w x s now (Pushes job) = pushes x job (has_room x job)
shares w x s now (LooksInSlot transfer id) = (refl, refl)
shares w x s now (Releases id) = (refl, refl)
shares w x s now Ends = (refl, refl)

-- a push calls no device
push_calm : (x : World) (job : Job) (room : Bool)
    → (after_push x job room).work.failures ≡ x.work.failures
push_calm x job true = refl
push_calm x job false = refl

-- no device fails in it
share_calm : (w : Terms) (x : World) (s now : ℕ) (ask : Ask)
    → (world_after w x s now ask).work.failures ≡ x.work.failures
share_calm w x s now Rests = refl
share_calm w x s now GoesOn = refl
share_calm w x s now (Says reply) = refl
share_calm w x s now (Leaves reply) = refl
share_calm w x s now (Offers transfer id) = refl
share_calm w x s now (Looks part id) = refl
share_calm w x s now (Reads asked token had) = refl
share_calm w x s now (TakesQueue feed most) = refl
share_calm w x s now (Refuses transfer id reason) = refl
share_calm w x s now (Takes transfer id article) = refl
share_calm w x s now (Pushes job) = push_calm x job (has_room x job)
share_calm w x s now (LooksInSlot transfer id) = refl
share_calm w x s now (Releases id) = refl
share_calm w x s now Ends = refl

-- the article of a text, by the hint
abbrev article_read : Hint → Article
article_read NoHint = record { fields = []; body = [] }
article_read (ReadsAs a) = a
article_read (NamesToken token) = record { fields = []; body = [] }
article_read (HasDigits digits) = record { fields = []; body = [] }

-- the reply that sends a part
abbrev shown_as : Part → List ℕ → List ℕ → Article → Reply
shown_as WholeText id text a = ArticleFollows id text
shown_as Header id text a = HeaderFollows id (flat_map field_text a.fields)
shown_as BodyLines id text a = BodyFollows id a.body
shown_as OverviewLine id text a = OverviewFollows (overview_line a)
shown_as Presence id text a = Exists id

-- what is said of what a fetch finds
abbrev reply_to : Asked → Token → Article → Fetched → Reply
reply_to (OfId part id) token a Gone = NoArticle
reply_to (OfId part id) token a NotKnown = NoArticle
reply_to (OfId part id) token a (fetches.Article text) = shown_as part id text a
reply_to (OfId part id) token a NotRead = DeviceFault
reply_to OfToken token a Gone = TokenGone token
reply_to OfToken token a NotKnown = TokenUnknown token
reply_to OfToken token a (fetches.Article text) = TokenFollows token text
reply_to OfToken token a NotRead = DeviceFault

-- which article the text is, where a part of it is shown
abbrev part_premise : Part → List ℕ → Article → Premise
part_premise WholeText text a = Free
part_premise Header text a = Needs (IsArticleText text a)
part_premise BodyLines text a = Needs (IsArticleText text a)
part_premise OverviewLine text a = Needs (IsArticleText text a)
part_premise Presence text a = Free

-- the same of what is found
abbrev found_premise : Asked → Article → Fetched → Premise
found_premise (OfId part id) a Gone = Free
found_premise (OfId part id) a NotKnown = Free
found_premise (OfId part id) a (fetches.Article text) = part_premise part text a
found_premise (OfId part id) a NotRead = Free
found_premise OfToken a found = Free

-- that is shown
is_shown : (part : Part) (id text : List ℕ) (a : Article) → IsMet (part_premise part text a)
    → Shows part id text (shown_as part id text a)
is_shown WholeText id text a knows = refl
is_shown Header id text a knows = (a, knows, refl)
is_shown BodyLines id text a knows = (a, knows, refl)
is_shown OverviewLine id text a knows = (a, knows, refl)
is_shown Presence id text a knows = refl

-- that is said
is_reply : (asked : Asked) (token : Token) (a : Article) (found : Fetched)
    → IsMet (found_premise asked a found) → ReplyIs asked token found (reply_to asked token a found)
is_reply (OfId part id) token a Gone knows = refl
is_reply (OfId part id) token a NotKnown knows = refl
is_reply (OfId part id) token a (fetches.Article text) knows = is_shown part id text a knows
is_reply (OfId part id) token a NotRead knows = refl
is_reply OfToken token a Gone knows = refl
is_reply OfToken token a NotKnown knows = refl
is_reply OfToken token a (fetches.Article text) knows = refl
is_reply OfToken token a NotRead knows = refl

-- what the session makes of what a fetch finds
abbrev read_heard : Session → Asked → Token → ℕ → Article → Fetched → Bool → Heard
read_heard session asked token had a found true =
    silent (in_phase session (Fetches asked token (had + 1)))
read_heard session asked token had a found false = says session (reply_to asked token a found)

-- what has to be known for that
abbrev read_premise : Asked → Article → Fetched → Bool → Premise
read_premise asked a found true = Free
read_premise asked a found false = found_premise asked a found

-- it makes that of it
is_read_heard : (session : Session) (asked : Asked) (token : Token) (had : ℕ) (a : Article)
    (found : Fetched) (more : Bool) → IsMet (read_premise asked a found more)
    → ReadHeard session asked token had found more
    (read_heard session asked token had a found more)
is_read_heard session asked token had a found true knows = refl
is_read_heard session asked token had a found false knows =
    (reply_to asked token a found, is_reply asked token a found knows, refl)

-- what the session makes of an answer
abbrev heard_of : Terms → World → (s now : ℕ) → Article → Session → Ask → Heard
heard_of w x s now a session Rests = silent session
heard_of w x s now a session GoesOn = silent session
heard_of w x s now a session (Says reply) = says session reply
heard_of w x s now a session (Leaves reply) = parts session reply
heard_of w x s now a session (Offers transfer id) =
    offer_heard session transfer id (offer_answer s (known_at w x now id))
heard_of w x s now a session (Looks part id) =
    look_heard session part id (look_answer (x.state.claim id))
heard_of w x s now a session (Reads asked token had) =
    read_heard session asked token had a (fetched w x.state token)
    (goes_on asked token had (fetched w x.state token))
heard_of w x s now a session (TakesQueue feed most) =
    let ring = ring_of (slice_get w.feeds feed) in
    says session
    (QueueFollows (rings.missed ring (as_ring (x.state.feed feed)))
    (rings.taken_items ring most (as_ring (x.state.feed feed))))
heard_of w x s now a session (Refuses transfer id reason) = says session (rejected transfer id)
heard_of w x s now a session (Takes transfer id article) =
    take_heard s session transfer id article (take_answer s (x.state.claim id))
heard_of w x s now a session (Pushes job) = push_heard session (has_room x job)
heard_of w x s now a session (LooksInSlot transfer id) =
    slot_heard session transfer id (x.work.slot s)
heard_of w x s now a session (Releases id) = silent session
heard_of w x s now a session Ends = silent (in_phase session Ended)

-- what has to be known of what is asked
abbrev ask_premise : Terms → World → Article → Ask → Premise
ask_premise w x a Rests = Free
ask_premise w x a GoesOn = Free
ask_premise w x a (Says reply) = Free
ask_premise w x a (Leaves reply) = Free
ask_premise w x a (Offers transfer id) = Free
ask_premise w x a (Looks part id) = Free
ask_premise w x a (Reads asked token had) =
    read_premise asked a (fetched w x.state token)
    (goes_on asked token had (fetched w x.state token))
ask_premise w x a (TakesQueue feed most) = Free
ask_premise w x a (Refuses transfer id reason) = Free
ask_premise w x a (Takes transfer id article) = Free
ask_premise w x a (Pushes job) = Free
ask_premise w x a (LooksInSlot transfer id) = Free
ask_premise w x a (Releases id) = Free
ask_premise w x a Ends = Free

-- it makes that of it
hears : (w : Terms) (x : World) (s now : ℕ) (a : Article) (session : Session) (ask : Ask)
    → IsMet (ask_premise w x a ask)
    → Hears s session ask (answer_to w x s now ask) (heard_of w x s now a session ask)
hears w x s now a session Rests knows = refl
hears w x s now a session GoesOn knows = refl
hears w x s now a session (Says reply) knows = refl
hears w x s now a session (Leaves reply) knows = refl
hears w x s now a session (Offers transfer id) knows =
    (offer_answer s (known_at w x now id), refl, refl)
hears w x s now a session (Looks part id) knows = (look_answer (x.state.claim id), refl, refl)
hears w x s now a session (Reads asked token had) knows = (
  fetched w x.state token,
  refl,
  is_read_heard session asked token had a (fetched w x.state token)
      (goes_on asked token had (fetched w x.state token)) knows,
)
hears w x s now a session (TakesQueue feed most) knows =
    let ring = ring_of (slice_get w.feeds feed) in (
      rings.missed ring (as_ring (x.state.feed feed)),
      rings.taken_items ring most (as_ring (x.state.feed feed)),
      refl,
      refl,
    )
hears w x s now a session (Refuses transfer id reason) knows = refl
hears w x s now a session (Takes transfer id article) knows =
    (take_answer s (x.state.claim id), refl, refl)
hears w x s now a session (Pushes job) knows = (has_room x job, refl, refl)
hears w x s now a session (LooksInSlot transfer id) knows = (x.work.slot s, refl, refl)
hears w x s now a session (Releases id) knows = refl
hears w x s now a session Ends knows = refl

-- an output and the world after it
pub record Played : Type 0 where
  pub output : Output
  pub world : World

-- by what is due
abbrev played_due : Terms → World → (s now : ℕ) → Article → Due → Played
played_due w x s now a due =
    let heard = heard_of w x s now a due.after due.ask in
    record {
      output = output_of s heard.said (reason_of due.ask);
      world = with_session (world_after w x s now due.ask) s heard.session;
    }

-- a Turn of the session
abbrev pub played_turn : Terms → World → (s now : ℕ) → Hint → Session → Played
played_turn w x s now hint session =
    played_due w x s now (article_read hint) (due_in w session now hint session.phase)

-- what has to be known of a Turn of the session
abbrev pub turn_premise : Terms → World → (now : ℕ) → Hint → Session → Premise
turn_premise w x now hint session =
    Both (phase_premise w session now hint session.phase)
    (ask_premise w x (article_read hint) (due_in w session now hint session.phase).ask)

-- the Turn may go so
pub turns : (w : Terms) (x : World) (s now : ℕ) (hint : Hint) (session : Session)
    → x.state.session s ≡ Some session → IsMet (turn_premise w x now hint session)
    → Turns w x s now (played_turn w x s now hint session).output
    (played_turn w x s now hint session).world
turns w x s now hint session there knows =
    let due = due_in w session now hint session.phase in
    record {
      session = session;
      there = there;
      due = due;
      is_due = phase_due w session now hint session.phase knows.0;
      answer = answer_to w x s now due.ask;
      between = world_after w x s now due.ask;
      shares = shares w x s now due.ask;
      heard = heard_of w x s now (article_read hint) due.after due.ask;
      hears = hears w x s now (article_read hint) due.after due.ask knows.1;
      output_is = refl;
      after = refl;
    }

-- no device fails in it
pub turn_calm : (w : Terms) (x : World) (s now : ℕ) (hint : Hint) (session : Session)
    → (played_turn w x s now hint session).world.work.failures ≡ x.work.failures
turn_calm w x s now hint session =
    share_calm w x s now (due_in w session now hint session.phase).ask
