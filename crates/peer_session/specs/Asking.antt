-- What the parts of a plan are. No public contract cites it.
use Rattle.std.specs.Prelude.{◌≡◌, ℕ, ◌+◌, List, [], ◌∷◌, drop, true, false}
use Rattle.std.specs.Prelude.{Option, None, Some, Result, Ok, Err, vec_capacity, IfOk, IsOk, OnErr}
use Rattle.std.specs.declared.alloc.AllocError.{AllocError}
use Rattle.std.specs.Global.{Vec}
use Rattle.article_fetch.specs.Fetch.{Fetch, prepared_fetch}
use Rattle.article_verdict.specs.Verdict.{reason_view}
use Rattle.article_verdict.specs.declared.reasons.Reason.{Reason}
use Rattle.buffer_group.specs.Jobs.{article_view}
use Rattle.buffer_group.specs.declared.job.Accepted.{Accepted}
use Rattle.buffer_group.specs.declared.job.Job.{Job}
use Rattle.cyc_token.specs.Token.{token_view}
use Rattle.cyc_token.specs.declared.Token.{Token}
use Rattle.news_terms.specs.Blocks.{next_block}
use Rattle.news_terms.specs.Blocks as blocks
use Rattle.news_terms.specs.Command.{Command, CommandFault}
use Rattle.news_terms.specs.Reply.{Reply, SyntaxError}
use Rattle.nntp_text.specs.Reply.{reply_room}
use Rattle.nntp_text.specs.declared.command.Part.{Part}
use Rattle.relay_model.specs.Asks.{Due, IsDueOfLine, TokenAsked, is_full}
use Rattle.relay_model.specs.Asks as asks
use Rattle.relay_model.specs.Judging.{Judges}
use Rattle.relay_model.specs.State as model
use Rattle.relay_model.specs.State.{OpenOffer}
use Rattle.relay_model.specs.Terms.{Terms}
use Rattle.stream_cut.specs.Stream.{Stream}
use Rattle.peer_session.specs.Answers.{AsksOf, IsStepOf}
use Rattle.peer_session.specs.Planning.{DueIs, FitsPhase, Plans, block_passed}
use Rattle.peer_session.specs.Said.{IsReply}
use Rattle.peer_session.specs.Session.{IsBounded, PlansFree, StandsAsBefore, passed, session_view}
use Rattle.peer_session.specs.declared.phase.Due.{Due as CodeDue}
use Rattle.peer_session.specs.declared.phase.Phase.{Phase}
use Rattle.peer_session.specs.declared.phase.Phase.TheVariants as phases
use Rattle.peer_session.specs.declared.phase.Todo.{Todo}
use Rattle.peer_session.specs.declared.phase.Todo.TheVariants as todos
use Rattle.peer_session.specs.declared.phase.Transfer.{Transfer}
use Rattle.peer_session.specs.declared.session.Session.{Session}
use Rattle.peer_session.specs.declared.steps.Step.{Step}
use Rattle.peer_session.specs.declared.steps.Step.TheVariants as steps

-- What a command asks of a session that reads one, where so many octets hold its line: what is
-- planned for it, with its step.
pub record AskedFor (w : Terms) (now read : ℕ) (session : Session)
    (asked : Result Command CommandFault) (one : Todo × Step) : Type 0 where
  pub due : Due
  pub is_due : IsDueOfLine w (passed read session) now asked due
  pub due_is : DueIs one.0 read session due
  pub fits : FitsPhase one.0 session.phase
  pub is_step : IsStepOf one.1 due.ask
  pub asks_of : AsksOf w (session_view session) [] due.ask

abbrev pub IsAskedBy : Terms → ℕ → Session → Result Command CommandFault → Todo × Step → Type 0
IsAskedBy w now session asked one =
    (read : ℕ) → session.phase ≡ phases.Ready → AskedFor w now read session asked one

-- this is said, in room that shows no items, and nothing is shared
pub record IsSaying (reply : Reply) (one : Todo × Step) : Type 0 where
  pub octets : Vec ℕ
  pub said : IsReply octets.items reply
  pub room : vec_capacity octets ≡ reply_room
  pub is : one ≡ (todos.Say octets, steps.Nothing)

-- this is said, in room that shows no items, and the session leaves
pub record IsLeaving (reply : Reply) (one : Todo × Step) : Type 0 where
  pub octets : Vec ℕ
  pub said : IsReply octets.items reply
  pub room : vec_capacity octets ≡ reply_room
  pub is : one ≡ (todos.Leave octets, steps.Nothing)

-- what is planned where an id is offered at a moment; the reply has room for no items
abbrev pub offer_planned : model.Transfer → List ℕ → (now : ℕ) → Todo
offer_planned model.TakesThis id now = todos.Check id 0 now
offer_planned model.Has id now = todos.Ihave id id 0 now

-- the id is offered at this moment, where these offers are open; where no further one may be
-- opened, that is said
pub data IsOffering (offers : List OpenOffer) (now : ℕ) (transfer : model.Transfer) (id : List ℕ)
    (one : Todo × Step) : Type 0 where
  IsFull : is_full offers id ≡ true → IsSaying (asks.later transfer id) one
      → IsOffering offers now transfer id one
  IsOffered : is_full offers id ≡ false → one ≡ (offer_planned transfer id now, steps.Offer id)
      → IsOffering offers now transfer id one

-- the id is looked up for this part, and the reply has room for no items
abbrev pub IsLooking : Part → List ℕ → Todo × Step → Type 0
IsLooking part id one = one ≡ (todos.Look part id 0, steps.Look id)

-- the word is a token whose first block is read, or none
pub data IsFetching (word : List ℕ) (one : Todo × Step) : Type 0 where
  IsToken : (token : Token) → (reading : Fetch)
      → TokenAsked word (asks.Reads model.OfToken (token_view token) 0)
      → reading ≡ record {
        asked = model.OfToken;
        token = token_view token;
        had = 0;
        gathered = [];
        prepared = true;
      } → one ≡ (todos.Fetch reading, steps.Read token 0) → IsFetching word one
  IsNone : TokenAsked word (asks.Says SyntaxError) → IsSaying SyntaxError one
      → IsFetching word one

-- a block is owed
abbrev pub IsAwaitingBlock : Phase → Type 0
IsAwaitingBlock phase = (transfer : Transfer) × (id : Option (List ℕ))
    × (phase ≡ phases.AwaitsBlock transfer id)

-- what stands at the front of a stream is a block with this text, None where it is oversize
abbrev pub next_text : Option (List ℕ) → List ℕ → blocks.NextBlock
next_text None rest = blocks.Oversize rest
next_text (Some text) rest = blocks.Whole text rest

-- the first block's text is this, None where it is oversize, and so many of the octets that are
-- kept belong to it
abbrev pub TextAt : ℕ → Option (List ℕ) → Stream → Type 0
TextAt read text stream =
    next_block stream.limit stream.unread
    ≡ next_text text (drop (stream.dropped + read) stream.unread)

-- what is asked of a text that was judged: it is refused, or taken; the reply has room for no items
pub data IsJudged (w : Terms) (from now : ℕ) (id : List ℕ) (text : Option (List ℕ))
    (one : Todo × Step) : Type 0 where
  IsRefused : (reason : Reason) → Judges w from id now text (Err (reason_view reason))
      → one ≡ (todos.Refuse 0, steps.Refuse id reason) → IsJudged w from now id text one
  IsAccepted : (article : Accepted) → Judges w from id now text (Ok (article_view article))
      → one ≡ (todos.Take id article 0, steps.Take id) → IsJudged w from now id text one

-- what is asked of a block that was owed under this id; where there is none, that is said
abbrev pub IsOwedAsked : Terms → (from now : ℕ) → Option (List ℕ) → Option (List ℕ) → Todo × Step
    → Type 0
IsOwedAsked w from now None text one = IsSaying SyntaxError one
IsOwedAsked w from now (Some id) text one = IsJudged w from now id text one

-- What a session gives that owed the block of an id: it is ready, the octets count as read, and the
-- open offer of the id has ended.
pub record Owed (read : ℕ) (old : Session) (id : List ℕ) (new : Session) : Type 0 where
  pub is : session_view new ≡ block_passed read old id
  pub ready : new.phase ≡ phases.Ready
  pub kept : new.cutter.dropped ≡ 0
  pub limit : new.cutter.limit ≡ old.cutter.limit

-- what was owed is given; where none was, nothing changes
abbrev pub TakesOwed : ℕ → Session → Option (Transfer × List ℕ) → Session → Type 0
TakesOwed read old None new =
    (new ≡ old)
    × ((transfer : Transfer) (id : List ℕ) → ¬ (old.phase ≡ phases.AwaitsBlock transfer (Some id)))
TakesOwed read old (Some owed) new =
    (old.phase ≡ phases.AwaitsBlock owed.0 (Some owed.1))
    × Owed read old owed.1 new

-- What is due by the phase: what is planned; where memory was refused the session stays as it was;
-- what asks for none; and what is kept of a block that isn't whole.
pub record DueOf (w : Terms) (now : ℕ) (old : Session) (result : Result CodeDue AllocError)
    (new : Session) : Type 0 where
  pub due : IfOk result (λ due. Plans w old now due new)
  pub err : OnErr result (StandsAsBefore old new)
  pub free : PlansFree w.offers now old → IsOk result
  pub bounded : IsAwaitingBlock old.phase → IsBounded new.cutter

-- the held article of this id is tried again
abbrev pub IsHeldAsked : List ℕ → CodeDue → Type 0
IsHeldAsked id one =
    one ≡ record { todo = todos.TakeHeld id; read = 0; step = steps.Take id }

-- the job is pushed
abbrev pub IsPushOf : Job → CodeDue → Type 0
IsPushOf job one =
    one ≡ record { todo = todos.Push; read = 0; step = steps.Push job.article.group }

-- the job in hand is pushed, or the outcome is looked for
abbrev pub IsWaitingAsked : Option Job → CodeDue → Type 0
IsWaitingAsked (Some job) one = IsPushOf job one
IsWaitingAsked None one = one ≡ record { todo = todos.Slot; read = 0; step = steps.Slot }

-- the open offer of this id is released
abbrev pub IsReleaseOf : List ℕ → CodeDue → Type 0
IsReleaseOf id one = one ≡ record { todo = todos.Release; read = 0; step = steps.Release id }

-- the job in hand is pushed, or the oldest open offer is released, or nothing is left
abbrev pub IsLeavingAsked : Option Job → List OpenOffer → CodeDue → Type 0
IsLeavingAsked (Some job) offers one = IsPushOf job one
IsLeavingAsked None [] one = one ≡ record { todo = todos.End; read = 0; step = steps.Nothing }
IsLeavingAsked None (offer ∷ offers) one = IsReleaseOf offer.id one

-- the next block of the fetch is read, which is prepared for it
pub record IsReadingAsked (old new : Fetch) (one : CodeDue) : Type 0 where
  pub prepared : new ≡ prepared_fetch old
  pub token : Token
  pub token_is : token_view token ≡ old.token
  pub asked : one ≡ record { todo = todos.ReadOn; read = 0; step = steps.Read token old.had }

-- the fetch that is under way is given, and the session is ready; where none is, nothing changes
abbrev pub TakesReading : Session → Option Fetch → Session → Type 0
TakesReading old None new =
    (new ≡ old) × ((reading : Fetch) → ¬ (old.phase ≡ phases.Fetches reading))
TakesReading old (Some reading) new =
    (old.phase ≡ phases.Fetches reading) × (new ≡ record old { phase = phases.Ready })
