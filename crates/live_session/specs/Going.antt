-- Where the session of a thread is on its course.
use Rattle.std.specs.Prelude.{◌≡◌, ◌≢◌, ◌⊎◌, ℕ, ◌*◌, ◌++◌, Bool, true, false, List, [], ◌∷◌, take}
use Rattle.std.specs.Prelude.{map, ◌==◌, IfOk, Option, None, Some, Result, if◌then◌else◌}
use Rattle.std.specs.Option.{IsSomeAnd}
use Rattle.article_fetch.specs.Chunks.{chunk_view}
use Rattle.article_fetch.specs.Fetch.{Fetch, FoundAs}
use Rattle.article_fetch.specs.Given.{given}
use Rattle.article_fetch.specs.declared.chunk.Chunk.{Chunk}
use Rattle.boxcar.specs.Table.{Shelves, Where}
use Rattle.cyc_buffer.specs.declared.answers.Fault.{Fault}
use Rattle.live_jobs.specs.declared.store_result.KeptJob.{KeptJob}
use Rattle.live_jobs.specs.Seats.{count_of, end_of, handed_by}
use Rattle.live_session.specs.Course.{Course, Hands, HandsAfter, HearsBy, IsFoundUnder, IsHeldOnce}
use Rattle.live_session.specs.Course.{IsToldFor, Point, gathered_after}
use Rattle.live_jobs.specs.declared.session.SessionSeat.{SessionSeat}
use Rattle.live_session.specs.declared.live.LiveSession.{LiveSession}
use Rattle.live_session.specs.declared.live.Turned.{Turned}
use Rattle.live_session.specs.declared.live.Turned.TheVariants as turned
use Rattle.live_store.specs.Steps.{IsOneUnfound, IsRecordAfter, ones_found}
use Rattle.live_store.specs.Tied.{text_in}
use Rattle.live_store.specs.declared.answers.OneRead.{OneRead}
use Rattle.live_store.specs.declared.record.StorePremises.{Ghosts}
use Rattle.live_store.specs.declared.writing.entering.Record.{Record}
use Rattle.news_terms.specs.BlockImage.{chunk_size}
use Rattle.news_terms.specs.Token.{Token}
use Rattle.peer_session.specs.Answers.{IsAnswerTo, IsStepOf, handed}
use Rattle.peer_session.specs.Hearing.{Forgets, Gathers}
use Rattle.peer_session.specs.Planning.{DueGiven, Planned}
use Rattle.peer_session.specs.Said.{IsSaid}
use Rattle.peer_session.specs.Session.{Stands, has_parted}
use Rattle.peer_session.specs.declared.session.Session.{Session}
use Rattle.peer_session.specs.declared.steps.Answer.{Answer}
use Rattle.peer_session.specs.declared.steps.Answer.TheVariants as answers
use Rattle.peer_session.specs.declared.steps.Step.{Step}
use Rattle.peer_session.specs.declared.steps.Step.TheVariants as steps
use Rattle.relay_model.specs.Asks as asks
use Rattle.relay_model.specs.Asks.{Ask, Due}
use Rattle.relay_model.specs.Fetches as fetches
use Rattle.relay_model.specs.Fetches.{Fetched}
use Rattle.relay_model.specs.Hears.{Heard}
use Rattle.relay_model.specs.Shares as shares
use Rattle.relay_model.specs.State as model
use Rattle.relay_model.specs.Terms.{Terms}

-- the numbers of jobs that were answered kept
abbrev pub numbers_of : {J : Type 0} {g : Ghosts J} → List (KeptJob J g) → List ℕ
numbers_of kept = map (λ one. one.number) kept

-- what an end has handed over, by its seat and the jobs that were answered kept
abbrev pub hands_at : {J : Type 0} {g : Ghosts J} → SessionSeat → List (KeptJob J g) → Hands
hands_at seat kept =
    record { jobs = handed_by seat; count = count_of seat; kept = numbers_of kept }

-- the same of the end of a session
abbrev pub hands_of : {J : Type 0} {g : Ghosts J} → LiveSession J g → Hands
hands_of live = hands_at live.seat live.kept.items

-- a fetch that has had no Turn has gathered nothing; else it has the front of the text of the
-- record that its reads are of
abbrev pub IsFrontOf : Option (Where Record) → (had : ℕ) → List ℕ → Type 0
IsFrontOf shown had gathered =
    (had ≡ 0 × gathered ≡ [])
    ⊎ IsSomeAnd shown (λ one. gathered ≡ take (chunk_size * had) (text_in one))

-- the same in the phase of a fetch
abbrev pub FrontFits : Option (Where Record) → model.Phase → List ℕ → Type 0
FrontFits shown phase gathered =
    (asked : model.Asked) (token : Token) (had : ℕ) → phase ≡ model.Fetches asked token had
    → IsFrontOf shown had gathered

-- the session of the thread, of this number and end, came to this point from the first one
pub record Going {J : Type 0} {g : Ghosts J} (honest : Bool) (w : Terms) (s end : ℕ)
    (first : Point) (live : LiveSession J g) (p : Point) : Type 0 where
  pub course : Course honest g.register w s end first p
  pub stands : Stands w live.session p.session p.gathered
  pub front : honest ≡ true → FrontFits live.reads.shown p.session.phase p.gathered
  pub hands : p.hands ≡ hands_of live
  pub number : live.number ≡ s
  pub end_is : end_of live.seat ≡ end

-- an article that is read is the text of the record that the reads are of
abbrev pub IsReadOf : Option (Where Record) → shares.Answer → Type 0
IsReadOf shown (shares.ToRead (fetches.Article text)) = IsSomeAnd shown (λ one. text ≡ text_in one)
IsReadOf shown other = Unit {0}

-- what was gathered of the fetch that is asked for is the front of its record's text
abbrev pub AskFits : Option (Where Record) → Ask → List ℕ → Type 0
AskFits shown (asks.Reads asked token had) gathered = IsFrontOf shown had gathered
AskFits shown other gathered = Unit {0}

-- what was read of the next block is that of a fetch that finds this; where nothing is said of the
-- stores it finds what it was given
abbrev pub FoundBy : (honest : Bool) → Fetch → Chunk → Fetched → Type 0
FoundBy true fetch chunk found = FoundAs fetch chunk found
FoundBy false fetch chunk found = found ≡ given fetch.gathered chunk

-- What a read of block k finds is the next block of a fetch of the token that has gathered this.
-- Over honest stores that is the front of its record's text, and the record is one of the register
-- and has the token. Over any, it is gone by the front that the chunk carries, and wasn't read by
-- the fault that it carries.
pub record ReadOf (honest : Bool) (register : Shelves) (asked : model.Asked) (token : Token) (k : ℕ)
    (gathered : List ℕ) (chunk : Chunk) (shown : Option (Where Record)) : Type 0 where
  pub found : fetches.Fetched
  pub is_found : FoundBy honest (record {
    asked = asked;
    token = token;
    had = k;
    gathered = gathered;
    prepared = true;
  }) chunk found
  pub read : honest ≡ true → IsReadOf shown (shares.ToRead found)
  pub under : IsFoundUnder honest register token k gathered chunk found

-- block k of the token is read for whatever fetch has gathered the front of its record's text
abbrev pub ReadsFor : (honest : Bool) → Shelves → Token → (k : ℕ) → Option (Where Record) → Chunk
    → Option (Where Record) → Type 0
ReadsFor honest register token k old chunk new =
    (asked : model.Asked) (gathered : List ℕ) → (honest ≡ true → IsFrontOf old k gathered)
    → ∥ ReadOf honest register asked token k gathered chunk new ∥₁

-- the record that reads have at their block k: none at their first
abbrev pub begun_at : (k : ℕ) → Option (Where Record) → Option (Where Record)
begun_at k own = if k == 0 then None else own

-- What a session heard of block k is what one read of it gave, by reads that had the record that
-- they have there: nothing was found only for a cause of such a read, so that a first block is
-- never taken for that of another record.
pub record IsReadAt (k : ℕ) (old new : Option (Where Record)) (chunk : Chunk) : Type 0 where
  pub read : Result OneRead Fault
  pub octets : List ℕ
  pub given_is : chunk ≡ chunk_view (ones_found read) octets
  pub after : IsRecordAfter (ones_found read) (begun_at k old) new
  pub unknown : IfOk read (IsOneUnfound k (begun_at k old))

-- the block that a step reads
abbrev pub block_in : Step → Option ℕ
block_in (steps.Read token k) = Some k
block_in other = None

-- the group that a step hands a job over to
abbrev pub group_in : Step → Option ℕ
group_in (steps.Push group) = Some group
group_in other = None

-- a step that reads a block, and is answered by what was read, read it so
abbrev pub IsStepRead : Step → Answer → (old new : Option (Where Record)) → Type 0
IsStepRead step (answers.Chunk chunk) old new =
    (k : ℕ) → block_in step ≡ Some k → ∥ IsReadAt k old new chunk ∥₁
IsStepRead step other old new = Unit {0}

-- the code's answer to what was asked is this, whatever a read gave
abbrev pub IsAnyAnswerTo : Ask → List ℕ → Answer → shares.Answer → Type 0
IsAnyAnswerTo (asks.Reads asked token had) gathered answer told =
    (chunk : Chunk) × (answer ≡ answers.Chunk chunk)
    × (told ≡ shares.ToRead (given gathered chunk))
IsAnyAnswerTo other gathered answer told = IsAnswerTo other gathered answer told

-- the code's answer to what was asked is that of the definitions, over honest stores or any
abbrev pub AnswersBy : (honest : Bool) → Ask → List ℕ → Answer → shares.Answer → Type 0
AnswersBy true ask gathered answer told = IsAnswerTo ask gathered answer told
AnswersBy false ask gathered answer told = IsAnyAnswerTo ask gathered answer told

-- what was read of a block, where the answer is to a read
abbrev pub chunk_in : Answer → Option Chunk
chunk_in (answers.Chunk chunk) = Some chunk
chunk_in answers.Memory = None
chunk_in answers.Nothing = None
chunk_in (answers.Offer offer) = None
chunk_in (answers.Look token) = None
chunk_in (answers.Queue taken) = None
chunk_in (answers.Take told) = None
chunk_in (answers.Pushed has_room) = None
chunk_in (answers.Slot outcome) = None

-- the step was done, and is answered as the definitions say
pub record Shared {J : Type 0} {g : Ghosts J} (honest : Bool) (w : Terms) (m : model.Session)
    (d : Due) (gathered : List ℕ) (old : LiveSession J g) (answer : Answer) (new : LiveSession J g)
    : Type 0 where
  pub told : shares.Answer
  pub answers : AnswersBy honest d.ask gathered answer told
  pub read : honest ≡ true → IsReadOf new.reads.shown told
  pub found : IsToldFor honest g.register gathered d.ask (chunk_in answer) told
  pub held : IsHeldOnce m.phase told
  pub hands : HandsAfter (end_of old.seat) d.ask told (hands_of old) (hands_of new)
  pub planned : Planned w new.session m d gathered (handed answer)

-- the step that a session planned is done, unless memory was refused
abbrev pub SharesFor : {J : Type 0} {g : Ghosts J} → Terms → Step → LiveSession J g → Answer
    → LiveSession J g
    → Type 0
SharesFor {J} {g} w step old answer new =
    (honest : Bool) → (honest ≡ true → g.trusted ≡ true)
    → (m : model.Session) (d : Due) (gathered : List ℕ)
    → Planned w old.session m d gathered false → IsStepOf step d.ask
    → (honest ≡ true → AskFits old.reads.shown d.ask gathered) → answer ≢ answers.Memory
    → ∥ Shared honest w m d gathered old answer new ∥₁

-- nothing has changed that anybody can see
pub record StaysSame {J : Type 0} {g : Ghosts J} (old new : LiveSession J g) : Type 0 where
  pub session : new.session ≡ old.session
  pub reads : new.reads.shown ≡ old.reads.shown
  pub hands : hands_of new ≡ hands_of old

-- session number and end stay
pub record KeepsPlace {J : Type 0} {g : Ghosts J} (old new : LiveSession J g) : Type 0 where
  pub number : new.number ≡ old.number
  pub end_is : end_of new.seat ≡ end_of old.seat

-- nothing but the reads has changed
pub record KeepsButReads {J : Type 0} {g : Ghosts J} (old new : LiveSession J g) : Type 0 where
  pub session : new.session ≡ old.session
  pub hands : hands_of new ≡ hands_of old
  pub place : KeepsPlace old new

-- nothing but the session has changed
pub record KeepsButSession {J : Type 0} {g : Ghosts J} (old new : LiveSession J g) : Type 0 where
  pub reads : new.reads.shown ≡ old.reads.shown
  pub hands : hands_of new ≡ hands_of old
  pub place : KeepsPlace old new

-- what the session of this number, which had gathered this, made of the answer: what it says, in
-- octets, and what it stands for and has gathered
pub record HeardFor (honest : Bool) (w : Terms) (s : ℕ) (d : Due) (gathered : List ℕ)
    (answer : Answer) (told : shares.Answer) (said : List ℕ) (new : Session) : Type 0 where
  pub heard : Heard
  pub later : List ℕ
  pub later_is : later ≡ gathered_after d.ask (chunk_in answer) told gathered
  pub hears : HearsBy honest s d.after d.ask told heard
  pub is_said : IsSaid said (has_parted new) heard.said
  pub stands : Stands w new heard.session later
  pub gathers : honest ≡ true → Gathers d.ask told heard.session.phase later

-- the session heard an answer that isn't want of memory
abbrev pub HearsAnswer : {J : Type 0} {g : Ghosts J} → LiveSession J g → Answer → List ℕ
    → LiveSession J g
    → Type 0
HearsAnswer old answer said new =
    (honest : Bool) (w : Terms) (m : model.Session) (d : Due) (gathered : List ℕ)
    (told : shares.Answer) → answer ≢ answers.Memory
    → Planned w old.session m d gathered (handed answer)
    → AnswersBy honest d.ask gathered answer told
    → HeardFor honest w old.number d gathered answer told said new.session

-- what was planned is planned no more, and nothing was said
pub record LetsGo {J : Type 0} {g : Ghosts J} (old : LiveSession J g) (said : List ℕ)
    (new : LiveSession J g)
    : Type 0 where
  pub forgets : Forgets old.session new.session
  pub silent : said ≡ []

-- what a turn says
abbrev pub said_in : Turned → List ℕ
said_in (turned.Says octets) = octets.items
said_in turned.Rests = []
said_in turned.Held = []
said_in turned.Memory = []

-- the octets of the last reply, once it is said: `leaves` tells whether the session leaves
abbrev pub parted_after : Option (List ℕ) → (leaves : Bool) → List ℕ → Option (List ℕ)
parted_after parted leaves [] = parted
parted_after parted false (octet ∷ octets) = parted
parted_after parted true (octet ∷ octets) = Some (octet ∷ octets)

-- the session went on to another point: it heard nothing new, and this is what it said
pub record WentTo {J : Type 0} {g : Ghosts J} (honest : Bool) (w : Terms) (s end : ℕ)
    (first p : Point) (said : List ℕ) (live : LiveSession J g) : Type 0 where
  pub at : Point
  pub going : Going honest w s end first live at
  pub heard : at.heard ≡ p.heard
  pub said_is : at.said ≡ p.said ++ said
  pub parted : at.parted ≡ parted_after p.parted (has_parted live.session) said

-- wherever the session was on its course, it went on; of honest stores something is said where the
-- stores are trusted
abbrev pub WentOn : {J : Type 0} {g : Ghosts J} → Terms → LiveSession J g → List ℕ
    → LiveSession J g → Type 0
WentOn {J} {g} w old said new =
    (honest : Bool) → (honest ≡ true → g.trusted ≡ true)
    → (s end : ℕ) (first p : Point) → Going honest w s end first old p
    → ∥ WentTo honest w s end first p said new ∥₁

-- from wherever the session planned this step at this moment, it went on
abbrev pub TakesPlanned : {J : Type 0} {g : Ghosts J} → Terms → (now : ℕ) → Step → LiveSession J g
    → List ℕ → LiveSession J g → Type 0
TakesPlanned {J} {g} w now step planned said new =
    (old : LiveSession J g) → DueGiven w old.session now step planned.session
    → KeepsButSession old planned → WentOn w old said new
