-- What the step of a session's plan is in the definitions, and what its answer is.
use Rattle.std.specs.Prelude.{◌≡◌, ◌≢◌, ◌⊎◌, ℕ, ◌≤◌, ◌<◌, Bool, true, false, List, []}
use Rattle.std.specs.Prelude.{length, map, option_map, Option, None, Some}
use Rattle.article_fetch.specs.Fetch.{Fetch, FoundAs}
use Rattle.article_fetch.specs.declared.chunk.Chunk.{Chunk}
use Rattle.article_verdict.specs.Verdict.{reason_view}
use Rattle.cyc_token.specs.Token.{token_view}
use Rattle.cyc_token.specs.declared.Token.{Token}
use Rattle.feed_queue.specs.declared.desk.Taken.{Taken}
use Rattle.id_history.specs.Answers.{offer_view, take_view}
use Rattle.id_history.specs.declared.claims.Offer.{Offer}
use Rattle.id_history.specs.declared.claims.Take.{Take}
use Rattle.news_terms.specs.Command.{Part}
use Rattle.nntp_text.specs.Reply.{item_view}
use Rattle.relay_model.specs.Asks as asks
use Rattle.relay_model.specs.Asks.{Ask}
use Rattle.relay_model.specs.Claims.{Accepted}
use Rattle.relay_model.specs.Fetches.{Fetched}
use Rattle.relay_model.specs.Shares as shares
use Rattle.relay_model.specs.State as model
use Rattle.relay_model.specs.Terms.{Terms, Reason}
use Rattle.peer_session.specs.Session.{outcome_view}
use Rattle.peer_session.specs.declared.phase.Todo.{Todo}
use Rattle.peer_session.specs.declared.phase.Todo.TheVariants as todos
use Rattle.peer_session.specs.declared.steps.Answer.{Answer}
use Rattle.peer_session.specs.declared.steps.Answer.TheVariants as answers
use Rattle.peer_session.specs.declared.steps.Outcome.{Outcome}
use Rattle.peer_session.specs.declared.steps.Step.{Step}
use Rattle.peer_session.specs.declared.steps.Step.TheVariants as steps

-- nothing is shared
abbrev pub SharesNone : Ask → Type 0
SharesNone asks.Rests = Unit {0}
SharesNone asks.GoesOn = Unit {0}
SharesNone (asks.Says reply) = Unit {0}
SharesNone (asks.Leaves reply) = Unit {0}
SharesNone asks.Ends = Unit {0}
SharesNone (asks.Offers transfer id) = ⊥
SharesNone (asks.Looks part id) = ⊥
SharesNone (asks.Reads asked token had) = ⊥
SharesNone (asks.TakesQueue feed most) = ⊥
SharesNone (asks.Refuses transfer id reason) = ⊥
SharesNone (asks.Takes transfer id article) = ⊥
SharesNone (asks.Pushes job) = ⊥
SharesNone (asks.LooksInSlot transfer id) = ⊥
SharesNone (asks.Releases id) = ⊥

-- the step is what is asked
abbrev pub IsStepOf : Step → Ask → Type 0
IsStepOf steps.Nothing ask = SharesNone ask
IsStepOf (steps.Offer id) ask = (transfer : model.Transfer) × (ask ≡ asks.Offers transfer id)
IsStepOf (steps.Look id) ask = (part : Part) × (ask ≡ asks.Looks part id)
IsStepOf (steps.Read token k) ask =
    (asked : model.Asked) × (ask ≡ asks.Reads asked (token_view token) k)
IsStepOf (steps.TakeQueue feed most) ask = ask ≡ asks.TakesQueue feed most
IsStepOf (steps.Refuse id reason) ask =
    (transfer : model.Transfer) × (ask ≡ asks.Refuses transfer id (reason_view reason))
IsStepOf (steps.Take id) ask =
    (transfer : model.Transfer) × (article : Accepted) × (ask ≡ asks.Takes transfer id article)
IsStepOf (steps.Push group) ask =
    (job : model.Job) × (ask ≡ asks.Pushes job) × (job.article.group ≡ group)
IsStepOf steps.Slot ask =
    (transfer : model.Transfer) × (id : List ℕ) × (ask ≡ asks.LooksInSlot transfer id)
IsStepOf (steps.Release id) ask = ask ≡ asks.Releases id

-- the reason for which a step refuses an article, if it does
abbrev pub reason_in : Step → Option Reason
reason_in (steps.Refuse id reason) = Some (reason_view reason)
reason_in other = None

-- what is asked is of the session's phase and hand, and of the terms: a fetch that is under way, or
-- one that begins; the job in hand; a feed that is there
abbrev pub AsksOf : Terms → model.Session → List ℕ → Ask → Type 0
AsksOf w m gathered (asks.Reads asked token had) =
    (m.phase ≡ model.Fetches asked token had) ⊎ (gathered ≡ [] × had ≡ 0)
AsksOf w m gathered (asks.Pushes job) = m.hand ≡ Some job
AsksOf w m gathered asks.Rests = Unit {0}
AsksOf w m gathered asks.GoesOn = Unit {0}
AsksOf w m gathered (asks.Says reply) = Unit {0}
AsksOf w m gathered (asks.Leaves reply) = Unit {0}
AsksOf w m gathered asks.Ends = Unit {0}
AsksOf w m gathered (asks.Offers transfer id) = Unit {0}
AsksOf w m gathered (asks.Looks part id) = Unit {0}
AsksOf w m gathered (asks.TakesQueue feed most) = feed < length w.feeds
AsksOf w m gathered (asks.Refuses transfer id reason) = Unit {0}
AsksOf w m gathered (asks.Takes transfer id article) = Unit {0}
AsksOf w m gathered (asks.LooksInSlot transfer id) = Unit {0}
AsksOf w m gathered (asks.Releases id) = Unit {0}

-- what was read of the next block of this fetch is what the definitions find
abbrev pub ReadAnswer : Fetch → Answer → shares.Answer → Type 0
ReadAnswer fetch answer told =
    (chunk : Chunk) × (found : Fetched) × (answer ≡ answers.Chunk chunk)
    × (told ≡ shares.ToRead found) × FoundAs fetch chunk found

-- The code's answer to what was asked is that of the definitions; `gathered` is what the session
-- has of the text so far.
abbrev pub IsAnswerTo : Ask → List ℕ → Answer → shares.Answer → Type 0
IsAnswerTo (asks.Offers transfer id) gathered answer told =
    (offer : Offer) × (answer ≡ answers.Offer offer) × (told ≡ shares.ToOffer (offer_view offer))
IsAnswerTo (asks.Looks part id) gathered answer told =
    (token : Option Token) × (answer ≡ answers.Look token)
    × (told ≡ shares.ToLook (option_map token_view token))
IsAnswerTo (asks.Reads asked token had) gathered answer told =
    ReadAnswer (record {
      asked = asked;
      token = token;
      had = had;
      gathered = gathered;
      prepared = true;
    }) answer told
IsAnswerTo (asks.TakesQueue feed most) gathered answer told =
    (taken : Taken) × (answer ≡ answers.Queue taken) × (length taken.items.items ≤ most)
    × (told ≡ shares.ToTakeQueue taken.missed (map item_view taken.items.items))
IsAnswerTo (asks.Takes transfer id article) gathered answer told =
    (take_one : Take) × (answer ≡ answers.Take take_one)
    × (told ≡ shares.ToTake (take_view take_one))
IsAnswerTo (asks.Pushes job) gathered answer told =
    (has_room : Bool) × (answer ≡ answers.Pushed has_room) × (told ≡ shares.ToPush has_room)
IsAnswerTo (asks.LooksInSlot transfer id) gathered answer told =
    (outcome : Option Outcome) × (answer ≡ answers.Slot outcome)
    × (told ≡ shares.InSlot (option_map outcome_view outcome))
IsAnswerTo (asks.Refuses transfer id reason) gathered answer told = answer ≡ answers.Nothing
IsAnswerTo (asks.Releases id) gathered answer told = answer ≡ answers.Nothing
IsAnswerTo asks.Rests gathered answer told = answer ≡ answers.Nothing
IsAnswerTo asks.GoesOn gathered answer told = answer ≡ answers.Nothing
IsAnswerTo (asks.Says reply) gathered answer told = answer ≡ answers.Nothing
IsAnswerTo (asks.Leaves reply) gathered answer told = answer ≡ answers.Nothing
IsAnswerTo asks.Ends gathered answer told = answer ≡ answers.Nothing

-- the job of a push was handed over before this answer is heard
abbrev pub handed : Answer → Bool
handed (answers.Pushed has_room) = has_room
handed answers.Memory = false
handed answers.Nothing = false
handed (answers.Offer offer) = false
handed (answers.Look token) = false
handed (answers.Chunk chunk) = false
handed (answers.Queue taken) = false
handed (answers.Take told) = false
handed (answers.Slot outcome) = false

-- no answer to what is planned, but to something else
abbrev pub IsOther : Todo → Answer → Type 0
IsOther todos.Rest answer = answer ≢ answers.Nothing
IsOther (todos.Owe id) answer = answer ≢ answers.Nothing
IsOther (todos.Say octets) answer = answer ≢ answers.Nothing
IsOther (todos.Leave octets) answer = answer ≢ answers.Nothing
IsOther (todos.Check id room since) answer = (told : Offer) → answer ≢ answers.Offer told
IsOther (todos.Ihave id copy room since) answer = (told : Offer) → answer ≢ answers.Offer told
IsOther (todos.Look part id room) answer = (told : Option Token) → answer ≢ answers.Look told
IsOther (todos.Fetch reading) answer = (chunk : Chunk) → answer ≢ answers.Chunk chunk
IsOther todos.ReadOn answer = (chunk : Chunk) → answer ≢ answers.Chunk chunk
IsOther (todos.Queue room) answer = (taken : Taken) → answer ≢ answers.Queue taken
IsOther (todos.Refuse room) answer = answer ≢ answers.Nothing
IsOther (todos.Take id article room) answer = (told : Take) → answer ≢ answers.Take told
IsOther (todos.TakeHeld id) answer = (told : Take) → answer ≢ answers.Take told
IsOther todos.Push answer = (has_room : Bool) → answer ≢ answers.Pushed has_room
IsOther todos.Slot answer = (told : Option Outcome) → answer ≢ answers.Slot told
IsOther todos.Release answer = answer ≢ answers.Nothing
IsOther todos.End answer = answer ≢ answers.Nothing
