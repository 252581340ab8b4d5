-- What a session hears leaves it in a phase that holds nothing but what is of its id.
use Rattle.std.proofs.Common.{◌≡◌, ℕ, Bool, true, false, List, Option, None, Some, sym, subst}
use Rattle.news_terms.specs.Command.{Part}
use Rattle.news_terms.specs.Token.{Token}
use Rattle.relay_model.specs.Asks.{Ask, Rests, GoesOn, Says, Leaves, Offers, Looks, Reads}
use Rattle.relay_model.specs.Asks.{TakesQueue, Refuses, Takes, Pushes, LooksInSlot, Releases, Ends}
use Rattle.relay_model.specs.Claims.{Accepted, TakeAnswer, Mine, Held, Had, OfferAnswer, Wanted}
use Rattle.relay_model.specs.Claims.{Later, Seen}
use Rattle.relay_model.specs.Fetches.{Fetched}
use Rattle.relay_model.specs.Hears.{Heard, Hears, ReadHeard, goes_on, look_heard, offer_heard}
use Rattle.relay_model.specs.Hears.{push_heard, slot_heard, take_heard}
use Rattle.relay_model.specs.Shares.{Answer}
use Rattle.relay_model.specs.State.{Session, Transfer, TakesThis, Has, Asked}
use Rattle.relay_model.specs.World.{Outcome, IsKept, HasFailed}
use Rattle.relay_crashes.proofs.OwnDues.{IsOf, AskOwn, PhaseOwn}

-- what is heard, named
heard_own : (one other : Heard) → one ≡ other → PhaseOwn other.session.phase
    → PhaseOwn one.session.phase
heard_own one other e own = subst (λ (each : Heard). PhaseOwn each.session.phase) (sym e) own

-- an offer
offer_own : (session : Session) (transfer : Transfer) (id : List ℕ) (told : OfferAnswer)
    → PhaseOwn session.phase → PhaseOwn (offer_heard session transfer id told).session.phase
offer_own session TakesThis id Wanted own = own
offer_own session Has id Wanted own = tt
offer_own session transfer id Later own = own
offer_own session transfer id Seen own = own

-- a look
look_own : (session : Session) (part : Part) (id : List ℕ) (token : Option Token)
    → PhaseOwn session.phase → PhaseOwn (look_heard session part id token).session.phase
look_own session part id None own = own
look_own session part id (Some token) own = tt

-- a read
read_own : (session : Session) (asked : Asked) (token : Token) (had : ℕ) (found : Fetched)
    (goes : Bool) (heard : Heard) → PhaseOwn session.phase
    → ReadHeard session asked token had found goes heard → PhaseOwn heard.session.phase
read_own session asked token had found true heard own is = heard_own heard _ is tt
read_own session asked token had found false heard own is = heard_own heard _ is.2 own

-- a take
taken_own : (s : ℕ) (session : Session) (transfer : Transfer) (id : List ℕ) (article : Accepted)
    (told : TakeAnswer) → IsOf id article.text → PhaseOwn session.phase
    → PhaseOwn (take_heard s session transfer id article told).session.phase
taken_own s session transfer id article Mine is own = tt
taken_own s session transfer id article Had is own = own
taken_own s session TakesThis id article Held is own = is
taken_own s session Has id article Held is own = own

-- a push
push_own : (session : Session) (room : Bool) → PhaseOwn session.phase
    → PhaseOwn (push_heard session room).session.phase
push_own session true own = own
push_own session false own = own

-- the slot
slot_own : (session : Session) (transfer : Transfer) (id : List ℕ) (outcome : Option Outcome)
    → PhaseOwn session.phase → PhaseOwn (slot_heard session transfer id outcome).session.phase
slot_own session transfer id None own = own
slot_own session TakesThis id (Some IsKept) own = tt
slot_own session TakesThis id (Some HasFailed) own = tt
slot_own session Has id (Some IsKept) own = tt
slot_own session Has id (Some HasFailed) own = tt

-- what is heard
pub hears_own : (s : ℕ) (session : Session) (ask : Ask) (answer : Answer) (heard : Heard)
    → AskOwn ask → PhaseOwn session.phase → Hears s session ask answer heard
    → PhaseOwn heard.session.phase
hears_own s session Rests answer heard asks own is = heard_own heard _ is own
hears_own s session GoesOn answer heard asks own is = heard_own heard _ is own
hears_own s session (Says reply) answer heard asks own is = heard_own heard _ is own
hears_own s session (Leaves reply) answer heard asks own is = heard_own heard _ is tt
hears_own s session (Offers transfer id) answer heard asks own is =
    heard_own heard _ is.2 (offer_own session transfer id is.0 own)
hears_own s session (Looks part id) answer heard asks own is =
    heard_own heard _ is.2 (look_own session part id is.0 own)
hears_own s session (Reads asked token had) answer heard asks own is =
    read_own session asked token had is.0 (goes_on asked token had is.0) heard own is.2
hears_own s session (TakesQueue feed most) answer heard asks own is = heard_own heard _ is.3 own
hears_own s session (Refuses transfer id reason) answer heard asks own is = heard_own heard _ is own
hears_own s session (Takes transfer id article) answer heard asks own is =
    heard_own heard _ is.2 (taken_own s session transfer id article is.0 asks own)
hears_own s session (Pushes job) answer heard asks own is =
    heard_own heard _ is.2 (push_own session is.0 own)
hears_own s session (LooksInSlot transfer id) answer heard asks own is =
    heard_own heard _ is.2 (slot_own session transfer id is.0 own)
hears_own s session (Releases id) answer heard asks own is = heard_own heard _ is own
hears_own s session Ends answer heard asks own is = heard_own heard _ is tt
