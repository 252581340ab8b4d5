-- The one step of what is shared that a Turn may take: its answer, and the world after it. Each is
-- one method of one shard, buffer, feed desk, queue or slot (docs/PROTOCOL.md, Atomic steps).
use Rattle.std.specs.Prelude.{◌≡◌, ℕ, ◌+◌, ◌++◌, nat_lt, Bool, true, false, List, [], ◌∷◌, length}
use Rattle.std.specs.Prelude.{slice_get, Option, None, Some}
use Rattle.news_terms.specs.Ring as rings
use Rattle.news_terms.specs.Token.{Token}
use Rattle.relay_model.specs.Asks.{Ask, Rests, GoesOn, Says, Leaves, Offers, Looks, Reads}
use Rattle.relay_model.specs.Asks.{TakesQueue, Refuses, Takes, Pushes, LooksInSlot, Releases, Ends}
use Rattle.relay_model.specs.Claims.{Claim, OfferAnswer, TakeAnswer, offer_answer, after_offer}
use Rattle.relay_model.specs.Claims.{take_answer, after_take, after_refuse, after_release}
use Rattle.relay_model.specs.Claims.{look_answer, standing}
use Rattle.relay_model.specs.Fetches.{Fetched, NotRead, decided, fetched}
use Rattle.relay_model.specs.State.{Feed, Job, put_at}
use Rattle.relay_model.specs.Terms.{Terms, FeedTerms, queue_limit}
use Rattle.relay_model.specs.World.{World, Outcome, Rises, HasFailedAt, with_claim, with_failures}

-- what a step of what is shared answers
pub data Answer : Type 0 where
  Nothing : Answer
  ToOffer : (answer : OfferAnswer) → Answer
  -- the token of an id that is stored
  ToLook : (token : Option Token) → Answer
  ToRead : (found : Fetched) → Answer
  -- how many tokens were overwritten untaken, and those that are taken, with their serial numbers
  ToTakeQueue : (missed : ℕ) (items : List (ℕ × Token)) → Answer
  ToTake : (answer : TakeAnswer) → Answer
  ToPush : (has_room : Bool) → Answer
  InSlot : (outcome : Option Outcome) → Answer

-- a feed as the rings have it
abbrev pub as_ring : Feed → rings.Feed Token
as_ring feed = record { gained = feed.gained; passed = feed.passed }

-- how many tokens a feed's ring holds
abbrev pub ring_of : Option FeedTerms → ℕ
ring_of None = 0
ring_of (Some feed) = feed.ring

-- the feed after a take of at most so many (docs/PROTOCOL.md, Rings)
abbrev pub after_take_of : (ring most : ℕ) → Feed → Feed
after_take_of ring most feed =
    record feed {
      passed = (rings.after_take ring most (as_ring feed)).passed;
      taken = feed.taken + length (rings.taken_items ring most (as_ring feed));
    }

-- the world with this feed under the number
abbrev pub with_feed : World → ℕ → Feed → World
with_feed x f feed = record x { state = record x.state { feed = put_at x.state.feed f feed } }

-- the world after a take of at most so many of a feed's queue
abbrev pub queue_taken : World → ℕ → ℕ → ℕ → World
queue_taken x ring feed most = with_feed x feed (after_take_of ring most (x.state.feed feed))

-- the job joins its group's queue
abbrev pub pushed : World → Job → World
pushed x job =
    record x {
      work = record x.work {
        queue = put_at x.work.queue job.article.group
            (x.work.queue job.article.group ++ job ∷ []);
      };
    }

-- the slot is empty
abbrev pub untold : World → ℕ → World
untold x s = record x { work = record x.work { slot = put_at x.work.slot s None } }

-- what is found of the token now; or, where the numbers don't decide it, its device failed
-- (docs/PROTOCOL.md, Reading)
pub data Reading (w : Terms) (x : World) (token : Token) (answer : Answer) (y : World)
    : Type 0 where
  IsFound : (failures : ℕ → ℕ) → Rises x.work.failures failures
      → answer ≡ ToRead (fetched w x.state token) → y ≡ with_failures x failures
      → Reading w x token answer y
  HasNotRead : (failures : ℕ → ℕ) → decided w x.state token ≡ None
      → HasFailedAt token.buffer x.work.failures failures
      → answer ≡ ToRead NotRead → y ≡ with_failures x failures → Reading w x token answer y

-- a push finds room, or leaves all as it is
abbrev pub Pushing : World → Job → Bool → Answer → World → Type 0
Pushing x job true answer y = (answer ≡ ToPush true) × (y ≡ pushed x job)
Pushing x job false answer y = (answer ≡ ToPush false) × (y ≡ x)

-- what is known of a message-id at this moment
abbrev pub known_at : Terms → World → (now : ℕ) → List ℕ → Claim
known_at w x now id = standing w.offers now (x.state.claim id)

-- what is asked for session s at this moment is done and answered so, and y is the world after it
abbrev pub Shares : Terms → World → (s now : ℕ) → Ask → Answer → World → Type 0
Shares w x s now Rests answer y = (answer ≡ Nothing) × (y ≡ x)
Shares w x s now GoesOn answer y = (answer ≡ Nothing) × (y ≡ x)
Shares w x s now (Says reply) answer y = (answer ≡ Nothing) × (y ≡ x)
Shares w x s now (Leaves reply) answer y = (answer ≡ Nothing) × (y ≡ x)
Shares w x s now (Offers transfer id) answer y =
    (answer ≡ ToOffer (offer_answer s (known_at w x now id)))
    × (y ≡ with_claim x id (after_offer s now (known_at w x now id)))
Shares w x s now (Looks part id) answer y =
    (answer ≡ ToLook (look_answer (x.state.claim id))) × (y ≡ x)
Shares w x s now (Reads asked token had) answer y = Reading w x token answer y
Shares w x s now (TakesQueue feed most) answer y =
    let ring = ring_of (slice_get w.feeds feed) in
    (answer ≡ ToTakeQueue (rings.missed ring (as_ring (x.state.feed feed)))
    (rings.taken_items ring most (as_ring (x.state.feed feed))))
    × (y ≡ queue_taken x ring feed most)
Shares w x s now (Refuses transfer id reason) answer y =
    (answer ≡ Nothing) × (y ≡ with_claim x id (after_refuse s now (known_at w x now id)))
Shares w x s now (Takes transfer id article) answer y =
    (answer ≡ ToTake (take_answer s (x.state.claim id)))
    × (y ≡ with_claim x id (after_take s article (x.state.claim id)))
Shares w x s now (Pushes job) answer y =
    Pushing x job (nat_lt (length (x.work.queue job.article.group)) queue_limit) answer y
Shares w x s now (LooksInSlot transfer id) answer y =
    (answer ≡ InSlot (x.work.slot s)) × (y ≡ untold x s)
Shares w x s now (Releases id) answer y =
    (answer ≡ Nothing) × (y ≡ with_claim x id (after_release s (x.state.claim id)))
Shares w x s now Ends answer y = (answer ≡ Nothing) × (y ≡ x)
