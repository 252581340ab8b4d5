-- A Turn in which no device fails has one answer.
use Rattle.std.proofs.Common.{◌≡◌, ◌∙◌, ◌<◌, ℕ, Bool, true, false, nat_lt, List, Option}
use Rattle.std.proofs.Common.{length, sym, ap, subst, arith}
use Rattle.std.proofs.lemmas.Option.{same_Some}
use Rattle.std.specs.Prelude.{flat_map}
use Rattle.news_terms.specs.Article.{Article, field_text}
use Rattle.news_terms.specs.Command.{Part, WholeText, Header, BodyLines, OverviewLine, Presence}
use Rattle.news_terms.specs.Overview.{overview_line}
use Rattle.news_terms.specs.Reply.{Reply, HeaderFollows, BodyFollows, OverviewFollows, QueueFollows}
use Rattle.news_terms.specs.Token.{Token}
use Rattle.news_terms.proofs.ArticleReadings.{one_article}
use Rattle.relay_model.specs.Asks.{Ask, Rests, GoesOn, Says, Leaves, Offers, Looks, Reads}
use Rattle.relay_model.specs.Asks.{TakesQueue, Refuses, Takes, Pushes, LooksInSlot, Releases, Ends}
use Rattle.relay_model.specs.Asks.{Due, IsDue, reason_of}
use Rattle.relay_model.specs.Claims.{OfferAnswer, TakeAnswer}
use Rattle.relay_model.specs.Fetches.{Fetched, Gone, NotKnown, NotRead, fetched}
use Rattle.relay_model.specs.Fetches as fetches
use Rattle.relay_model.specs.Hears.{Heard, Hears, ReadHeard, ReplyIs, Shows, goes_on, says}
use Rattle.relay_model.specs.Hears.{offer_heard, look_heard, take_heard, push_heard, slot_heard}
use Rattle.relay_model.specs.Shares.{Answer, Shares, Reading, IsFound, HasNotRead, Pushing}
use Rattle.relay_model.specs.Shares.{ToOffer, ToLook, ToRead, ToTakeQueue, ToTake, ToPush, InSlot}
use Rattle.relay_model.specs.State.{Session, Asked, OfId, OfToken, Job}
use Rattle.relay_model.specs.Terms.{Terms, queue_limit}
use Rattle.relay_model.specs.World.{World, Output, Outcome, output_of, with_session, with_failures}
use Rattle.relay_model.specs.Run.{Turns}
use Rattle.relay_laws.proofs.OneDue.{one_due}

-- one answer, and one world after it
pub record IsOne (a b : Answer) (y z : World) : Type 0 where
  pub answer : a ≡ b
  pub world : y ≡ z

-- what is pushed or not
one_push : (x : World) (job : Job) (room : Bool) (a b : Answer) (y z : World)
    → Pushing x job room a y → Pushing x job room b z → IsOne a b y z
one_push x job true a b y z one other =
    record { answer = one.0 ∙ sym other.0; world = one.1 ∙ sym other.1 }
one_push x job false a b y z one other =
    record { answer = one.0 ∙ sym other.0; world = one.1 ∙ sym other.1 }

-- what is read where no device fails
found_as : (w : Terms) (x : World) (token : Token) (a : Answer) (y : World)
    → Reading w x token a y → y.work.failures ≡ x.work.failures
    → IsOne a (ToRead (fetched w x.state token)) y x
found_as w x token a y (IsFound failures rises e after) calm =
    let same : failures ≡ x.work.failures =
    sym (ap (λ (one : World). one.work.failures) after) ∙ calm in
    record { answer = e; world = after ∙ ap (with_failures x) same }
found_as w x token a y (HasNotRead failures undecided failed e after) calm =
    let same : failures ≡ x.work.failures =
    sym (ap (λ (one : World). one.work.failures) after) ∙ calm in
    let more : x.work.failures token.buffer < x.work.failures token.buffer =
    subst (λ (f : ℕ → ℕ). x.work.failures token.buffer < f token.buffer) same failed.here in
    absurd (omega (arith, more))

-- the step of what is shared
one_share : (w : Terms) (x : World) (s now : ℕ) (ask : Ask) (a b : Answer) (y z : World)
    → Shares w x s now ask a y → Shares w x s now ask b z
    → y.work.failures ≡ x.work.failures → z.work.failures ≡ x.work.failures → IsOne a b y z
one_share w x s now Rests a b y z one other c d =
    record { answer = one.0 ∙ sym other.0; world = one.1 ∙ sym other.1 }
one_share w x s now GoesOn a b y z one other c d =
    record { answer = one.0 ∙ sym other.0; world = one.1 ∙ sym other.1 }
one_share w x s now (Says reply) a b y z one other c d =
    record { answer = one.0 ∙ sym other.0; world = one.1 ∙ sym other.1 }
one_share w x s now (Leaves reply) a b y z one other c d =
    record { answer = one.0 ∙ sym other.0; world = one.1 ∙ sym other.1 }
one_share w x s now (Offers transfer id) a b y z one other c d =
    record { answer = one.0 ∙ sym other.0; world = one.1 ∙ sym other.1 }
one_share w x s now (Looks part id) a b y z one other c d =
    record { answer = one.0 ∙ sym other.0; world = one.1 ∙ sym other.1 }
one_share w x s now (Reads asked token had) a b y z one other c d =
    let first = found_as w x token a y one c in
    let second = found_as w x token b z other d in
    record { answer = first.answer ∙ sym second.answer; world = first.world ∙ sym second.world }
one_share w x s now (TakesQueue feed most) a b y z one other c d =
    record { answer = one.0 ∙ sym other.0; world = one.1 ∙ sym other.1 }
one_share w x s now (Refuses transfer id reason) a b y z one other c d =
    record { answer = one.0 ∙ sym other.0; world = one.1 ∙ sym other.1 }
one_share w x s now (Takes transfer id article) a b y z one other c d =
    record { answer = one.0 ∙ sym other.0; world = one.1 ∙ sym other.1 }
one_share w x s now (Pushes job) a b y z one other c d =
    one_push x job (nat_lt (length (x.work.queue job.article.group)) queue_limit) a b y z one other
one_share w x s now (LooksInSlot transfer id) a b y z one other c d =
    record { answer = one.0 ∙ sym other.0; world = one.1 ∙ sym other.1 }
one_share w x s now (Releases id) a b y z one other c d =
    record { answer = one.0 ∙ sym other.0; world = one.1 ∙ sym other.1 }
one_share w x s now Ends a b y z one other c d =
    record { answer = one.0 ∙ sym other.0; world = one.1 ∙ sym other.1 }

-- what is said of a text
one_shown : (part : Part) (id text : List ℕ) (a b : Reply) → Shows part id text a
    → Shows part id text b → a ≡ b
one_shown WholeText id text a b one other = one ∙ sym other
one_shown Header id text a b one other =
    let same = one_article text one.0 other.0 one.1.laid_out other.1.laid_out in
    one.2 ∙ ap (λ (read : Article). HeaderFollows id (flat_map field_text read.fields)) same
    ∙ sym other.2
one_shown BodyLines id text a b one other =
    let same = one_article text one.0 other.0 one.1.laid_out other.1.laid_out in
    one.2 ∙ ap (λ (read : Article). BodyFollows id read.body) same ∙ sym other.2
one_shown OverviewLine id text a b one other =
    let same = one_article text one.0 other.0 one.1.laid_out other.1.laid_out in
    one.2 ∙ ap (λ (read : Article). OverviewFollows (overview_line read)) same ∙ sym other.2
one_shown Presence id text a b one other = one ∙ sym other

-- what is said of what is found
one_reply : (asked : Asked) (token : Token) (found : Fetched) (a b : Reply)
    → ReplyIs asked token found a → ReplyIs asked token found b → a ≡ b
one_reply (OfId part id) token Gone a b one other = one ∙ sym other
one_reply (OfId part id) token NotKnown a b one other = one ∙ sym other
one_reply (OfId part id) token (fetches.Article text) a b one other =
    one_shown part id text a b one other
one_reply (OfId part id) token NotRead a b one other = one ∙ sym other
one_reply OfToken token Gone a b one other = one ∙ sym other
one_reply OfToken token NotKnown a b one other = one ∙ sym other
one_reply OfToken token (fetches.Article text) a b one other = one ∙ sym other
one_reply OfToken token NotRead a b one other = one ∙ sym other

-- what is heard of what is found
one_read : (session : Session) (asked : Asked) (token : Token) (had : ℕ) (found : Fetched)
    (more : Bool) (a b : Heard) → ReadHeard session asked token had found more a
    → ReadHeard session asked token had found more b → a ≡ b
one_read session asked token had found true a b one other = one ∙ sym other
one_read session asked token had found false a b one other =
    one.2 ∙ ap (says session) (one_reply asked token found one.0 other.0 one.1 other.1)
    ∙ sym other.2

-- what the session hears of one answer
one_heard : (s : ℕ) (session : Session) (ask : Ask) (answer : Answer) (a b : Heard)
    → Hears s session ask answer a → Hears s session ask answer b → a ≡ b
one_heard s session Rests answer a b one other = one ∙ sym other
one_heard s session GoesOn answer a b one other = one ∙ sym other
one_heard s session (Says reply) answer a b one other = one ∙ sym other
one_heard s session (Leaves reply) answer a b one other = one ∙ sym other
one_heard s session (Offers transfer id) answer a b one other =
    let told : OfferAnswer = one.0 in
    let told' : OfferAnswer = other.0 in
    let answers : ◌≡◌ {A = Answer} (ToOffer told) (ToOffer told') = sym one.1 ∙ other.1 in
    let same : told ≡ told' = cc in
    one.2 ∙ ap (offer_heard session transfer id) same ∙ sym other.2
one_heard s session (Looks part id) answer a b one other =
    let token : Option Token = one.0 in
    let token' : Option Token = other.0 in
    let answers : ◌≡◌ {A = Answer} (ToLook token) (ToLook token') = sym one.1 ∙ other.1 in
    let same : token ≡ token' = cc in
    one.2 ∙ ap (look_heard session part id) same ∙ sym other.2
one_heard s session (Reads asked token had) answer a b one other =
    let found : Fetched = one.0 in
    let found' : Fetched = other.0 in
    let answers : ◌≡◌ {A = Answer} (ToRead found) (ToRead found') = sym one.1 ∙ other.1 in
    let same : found ≡ found' = cc in
    one_read session asked token had other.0 (goes_on asked token had other.0) a b
    (subst (λ (f : Fetched). ReadHeard session asked token had f (goes_on asked token had f) a)
    same one.2) other.2
one_heard s session (TakesQueue feed most) answer a b one other =
    let missed : ℕ = one.0 in
    let missed' : ℕ = other.0 in
    let items : List (ℕ × Token) = one.1 in
    let items' : List (ℕ × Token) = other.1 in
    let answers : ◌≡◌ {A = Answer} (ToTakeQueue missed items) (ToTakeQueue missed' items') =
    sym one.2 ∙ other.2 in
    let numbers : missed ≡ missed' = cc in
    let tokens : items ≡ items' = cc in
    one.3 ∙ ap (λ n. says session (QueueFollows n items)) numbers
    ∙ ap (λ list. says session (QueueFollows missed' list)) tokens ∙ sym other.3
one_heard s session (Refuses transfer id reason) answer a b one other = one ∙ sym other
one_heard s session (Takes transfer id article) answer a b one other =
    let told : TakeAnswer = one.0 in
    let told' : TakeAnswer = other.0 in
    let answers : ◌≡◌ {A = Answer} (ToTake told) (ToTake told') = sym one.1 ∙ other.1 in
    let same : told ≡ told' = cc in
    one.2 ∙ ap (take_heard s session transfer id article) same ∙ sym other.2
one_heard s session (Pushes job) answer a b one other =
    let room : Bool = one.0 in
    let room' : Bool = other.0 in
    let answers : ◌≡◌ {A = Answer} (ToPush room) (ToPush room') = sym one.1 ∙ other.1 in
    let same : room ≡ room' = cc in
    one.2 ∙ ap (push_heard session) same ∙ sym other.2
one_heard s session (LooksInSlot transfer id) answer a b one other =
    let outcome : Option Outcome = one.0 in
    let outcome' : Option Outcome = other.0 in
    let answers : ◌≡◌ {A = Answer} (InSlot outcome) (InSlot outcome') = sym one.1 ∙ other.1 in
    let same : outcome ≡ outcome' = cc in
    one.2 ∙ ap (slot_heard session transfer id) same ∙ sym other.2
one_heard s session (Releases id) answer a b one other = one ∙ sym other
one_heard s session Ends answer a b one other = one ∙ sym other

-- one output, and one world after it
pub record IsSame (one other : Output) (y z : World) : Type 0 where
  pub output : one ≡ other
  pub world : y ≡ z

-- devices failed as often between as after
between_calm : (x y : World) (w : Terms) (s now : ℕ) (output : Output)
    → (t : Turns w x s now output y) → y.work.failures ≡ x.work.failures
    → t.between.work.failures ≡ x.work.failures
between_calm x y w s now output t calm =
    sym (ap (λ (one : World). one.work.failures) t.after) ∙ calm

-- two Turns in which no device fails
pub one_turn : (w : Terms) (x y z : World) (s now : ℕ) (one other : Output)
    → Turns w x s now one y → Turns w x s now other z
    → y.work.failures ≡ x.work.failures → z.work.failures ≡ x.work.failures
    → IsSame one other y z
one_turn w x y z s now one other t u c d =
    let session : t.session ≡ u.session =
    same_Some t.session u.session (sym t.there ∙ u.there) in
    let due : t.due ≡ u.due =
    one_due w u.session now t.due u.due
    (subst (λ (v : Session). IsDue w v now t.due) session t.is_due) u.is_due in
    let shared : IsOne t.answer u.answer t.between u.between =
    one_share w x s now u.due.ask t.answer u.answer t.between u.between
    (subst (λ (v : Due). Shares w x s now v.ask t.answer t.between) due t.shares) u.shares
    (between_calm x y w s now one t c) (between_calm x z w s now other u d) in
    let heard : t.heard ≡ u.heard =
    one_heard s u.due.after u.due.ask u.answer t.heard u.heard
    (subst (λ (v : Answer). Hears s u.due.after u.due.ask v t.heard) shared.answer
    (subst (λ (v : Due). Hears s v.after v.ask t.answer t.heard) due t.hears)) u.hears in
    record {
      output = t.output_is ∙ ap (λ (h : Heard). output_of s h.said (reason_of t.due.ask)) heard
          ∙ ap (λ (d : Due). output_of s u.heard.said (reason_of d.ask)) due ∙ sym u.output_is;
      world = t.after ∙ ap (λ (v : World). with_session v s t.heard.session) shared.world
          ∙ ap (λ (h : Heard). with_session u.between s h.session) heard ∙ sym u.after;
    }
