-- What buffers that were found again keep, in the relay's own words, before they are shut
-- (docs/PROTOCOL.md, Crashes).
use Rattle.std.specs.Prelude.{◌≡◌, ◌≢◌, ℕ, ◌+◌, ◌<◌, ◌≤◌, not, Bool, true, List, filter, length}
use Rattle.std.specs.Prelude.{take, All, count_by, Option, None, Some, slice_get, Result, Ok, Err}
use Rattle.cyc_block.specs.declared.store.BlockStore.{Ghosts}
use Rattle.cyc_buffer.specs.Agreement.{Agrees, buffer_state_of}
use Rattle.cyc_buffer.specs.Calls.{ReadsBlock}
use Rattle.cyc_buffer.specs.Head.{has_open_head, is_busy}
use Rattle.cyc_buffer.specs.History.{History}
use Rattle.cyc_buffer.specs.Reads.{StaysHeld}
use Rattle.cyc_buffer.specs.Rejecting.{IsLiveAt, without_article}
use Rattle.cyc_buffer.specs.declared.answers.BufError.{BufError}
use Rattle.cyc_buffer.specs.declared.answers.FaultKind.TheVariants as kinds
use Rattle.cyc_buffer.specs.declared.answers.Found.{Found}
use Rattle.cyc_buffer.specs.declared.answers.Found.TheVariants as found
use Rattle.cyc_buffer.specs.declared.starting.Started.{Started}
use Rattle.cyc_token.specs.Token.{token_view}
use Rattle.cyc_token.specs.declared.Token as code
use Rattle.news_terms.specs.BlockImage.{chunk}
use Rattle.news_terms.specs.Courses.{Course}
use Rattle.news_terms.specs.Places as places
use Rattle.news_terms.specs.Places.{Extent, Group, front_after, on_line, size_of}
use Rattle.news_terms.specs.Token.{Token}
use Rattle.relay_conf.specs.Settings.{places_of_buffers, places_of_groups}
use Rattle.relay_conf.specs.declared.settings.Buffers.{Buffers}
use Rattle.relay_model.specs.Counted.{IsInTime}
use Rattle.relay_model.specs.Fetches.{extents_from, is_at, text_under}
use Rattle.relay_model.specs.OnRecord.{IsBelow}
use Rattle.relay_model.specs.State.{Kept, empty_state}
use Rattle.relay_model.specs.Terms.{Terms}
use Rattle.relay_model.specs.World.{HasFailedAt}
use Rattle.block_shelf.specs.Calls.{IsFaultAt}
use Rattle.block_shelf.specs.Filling.{failures_in}
use Rattle.block_shelf.specs.Keeping.{AreLeft}
use Rattle.block_shelf.specs.Leaving.{AreLeftOf}
use Rattle.block_shelf.specs.Openings.{Opening}
use Rattle.block_shelf.specs.Starting.{BuffersKeep}
use Rattle.buffer_repair.specs.Finding.{buffers_in, remains_in}
use Rattle.buffer_repair.specs.Parts.{buffer_in, store_in}
use Rattle.buffer_repair.specs.Remains.{AreOfGroups, AreTurns, all_texts_left, courses_left}
use Rattle.buffer_repair.specs.declared.found_set.FoundBufferSet.{FoundBufferSet}

-- WHAT IS KEPT

-- a text lies in a buffer whose front hasn't passed it
pub record IsLiveText (w : Terms) (begun : ℕ → Course) (one : Kept) : Type 0 where
  pub buffer : places.Buffer
  pub there : slice_get w.buffers one.token.buffer ≡ Some buffer
  pub unpassed : front_after buffer (extents_from 0 w.groups begun)
      ≤ on_line buffer.blocks one.token.cycle one.token.first + buffer.blocks

-- The buffers that were found again keep, with these buffers and groups, these courses, texts and
-- counts of failures: each text is live, and at a place lies one at most; a crash may leave their
-- stores. It is said of honest stores alone.
pub record KeepsFound {S : Type 0} {g : Ghosts S} (found_set : FoundBufferSet S g) (w : Terms)
    (begun : ℕ → Course) (kept : List Kept) (failures : ℕ → ℕ)
    : Type 0 where
  pub texts : BuffersKeep (buffers_in found_set) w begun kept failures
  pub live : All (IsLiveText w begun) kept
  pub places : (buffer cycle first : ℕ) → count_by (is_at buffer cycle first) kept ≤ 1
  pub left : AreLeft (buffers_in found_set) w begun kept failures

-- Where what is left is a relay's with the groups of these settings, the buffers keep the courses
-- that the groups are found on, whosever turn it is, and the texts that are found, for whatever
-- ids.
abbrev pub KeepsLeft : {S : Type 0} (g : Ghosts S) → Buffers → (stores : List S)
    → FoundBufferSet S g → Type 0
KeepsLeft g settings stores found_set =
    (w : Terms) (ids : Token → List ℕ) (turns : ℕ → ℕ) → w.buffers ≡ places_of_buffers settings
    → w.groups ≡ places_of_groups settings → AreTurns w.groups turns
    → AreOfGroups w.groups (remains_in found_set)
    → KeepsFound found_set w (courses_left w.groups turns (remains_in found_set))
    (all_texts_left ids (remains_in found_set)) (failures_in g stores)

-- These courses and texts can be gone on with, and written down: each article that was begun has a
-- block at least, in a cycle that a token has room for; each text is as long as its token says, and
-- below the front of its buffer.
pub record AreOnRecord (w : Terms) (begun : ℕ → Course) (kept : List Kept) : Type 0 where
  pub sizes : (h : ℕ) (group : Group) → slice_get w.groups h ≡ Some group
      → All (λ (one : Extent). 1 ≤ one.size) (begun h).articles
  pub in_time : (h : ℕ) (group : Group) → slice_get w.groups h ≡ Some group
      → All IsInTime (begun h).articles
  pub below : All (λ (one : Kept). IsBelow w (record empty_state { begun = begun }) one.token) kept
  pub lengths : All (λ (one : Kept). one.token.length ≡ length one.text) kept

-- so are those that are found
abbrev pub LeavesRecord : {S : Type 0} {g : Ghosts S} → Buffers → FoundBufferSet S g → Type 0
LeavesRecord settings found_set =
    (w : Terms) (ids : Token → List ℕ) (turns : ℕ → ℕ) → w.buffers ≡ places_of_buffers settings
    → w.groups ≡ places_of_groups settings → AreTurns w.groups turns
    → AreOfGroups w.groups (remains_in found_set)
    → AreOnRecord w (courses_left w.groups turns (remains_in found_set))
    (all_texts_left ids (remains_in found_set))

-- what is found of stores that a crash has left of a relay with these groups is one's with these
-- groups
abbrev pub AreLeftOfGroups : {S : Type 0} (g : Ghosts S) → Buffers → (stores : List S)
    → FoundBufferSet S g → Type 0
AreLeftOfGroups g settings stores found_set =
    (w : Terms) (begun : ℕ → Course) (kept : List Kept) (openings : ℕ → Option Opening)
    (saved : Token → Bool) → w.buffers ≡ places_of_buffers settings
    → w.groups ≡ places_of_groups settings → AreLeftOf g stores w begun kept openings saved
    → AreOfGroups w.groups (remains_in found_set)

-- What is found of stores that a crash has left of a relay, against what that relay was on and had
-- kept: no front is past where it was; where a text was whole under a token, it is that one; and
-- what was saved, in a buffer that is there, is found.
pub record AgreeWithBefore (w : Terms) (before now : ℕ → Course) (saved : Token → Bool)
    (kept found : List Kept)
    : Type 0 where
  pub fronts : (b : ℕ) (buffer : places.Buffer) → slice_get w.buffers b ≡ Some buffer
      → front_after buffer (extents_from 0 w.groups now)
      ≤ front_after buffer (extents_from 0 w.groups before)
  pub texts : (t : Token) (text old : List ℕ) → text_under kept t ≡ Some old
      → text_under found t ≡ Some text → text ≡ old
  pub all_saved : (t : Token) (old : List ℕ) (buffer : places.Buffer)
      → slice_get w.buffers t.buffer ≡ Some buffer → saved t ≡ true
      → text_under kept t ≡ Some old → text_under found t ≡ Some old

-- so it is of whatever relay with these settings a crash has left the stores
abbrev pub TellsBefore : {S : Type 0} (g : Ghosts S) → Buffers → (stores : List S)
    → FoundBufferSet S g → Type 0
TellsBefore g settings stores found_set =
    (w : Terms) (begun : ℕ → Course) (kept : List Kept) (openings : ℕ → Option Opening)
    (saved : Token → Bool) (ids : Token → List ℕ) (turns : ℕ → ℕ)
    → w.buffers ≡ places_of_buffers settings → w.groups ≡ places_of_groups settings
    → AreTurns w.groups turns → AreLeftOf g stores w begun kept openings saved
    → AgreeWithBefore w begun (courses_left w.groups turns (remains_in found_set)) saved kept
    (all_texts_left ids (remains_in found_set))

-- A READ

-- What was found of block k under a token, with the octets at the front of the slice where it is a
-- chunk: that block of the text, where it has one; and no chunk where there is no text.
abbrev pub IsBlockOf : Token → (k : ℕ) → Option (List ℕ) → Found → (slice : List ℕ) → Type 0
IsBlockOf token k (Some text) (found.Chunk n) slice =
    (k < size_of token.length) × (n ≡ length (chunk k text)) × (take n slice ≡ chunk k text)
IsBlockOf token k (Some text) (found.Gone front) slice = size_of token.length ≤ k
IsBlockOf token k (Some text) found.Unknown slice = size_of token.length ≤ k
IsBlockOf token k None (found.Chunk n) slice = ⊥
IsBlockOf token k None (found.Gone front) slice = Unit {0}
IsBlockOf token k None found.Unknown slice = Unit {0}

-- a read finds that block of what is kept, or the device of the token's buffer has failed; all that
-- is kept stays
abbrev pub KeepsReadBy : {S : Type 0} {g : Ghosts S} → Terms → (ℕ → Course) → List Kept → (ℕ → ℕ)
    → Token → (k : ℕ) → Result Found BufError → (after : List ℕ) → (new : FoundBufferSet S g)
    → Type 0
KeepsReadBy w begun kept failures token k (Ok one) after new =
    IsBlockOf token k (text_under kept token) one after × KeepsFound new w begun kept failures
KeepsReadBy w begun kept failures token k (Err e) after new =
    IsFaultAt kinds.Read token e
    × ((later : ℕ → ℕ) × HasFailedAt token.buffer failures later
    × KeepsFound new w begun kept later)

-- so it does, whatever is kept
abbrev pub KeepsRead : {S : Type 0} {g : Ghosts S} → Token → (k : ℕ) → (old : FoundBufferSet S g)
    → Result Found BufError → (after : List ℕ) → (new : FoundBufferSet S g) → Type 0
KeepsRead token k old result after new =
    (w : Terms) (begun : ℕ → Course) (kept : List Kept) (failures : ℕ → ℕ)
    → KeepsFound old w begun kept failures
    → KeepsReadBy w begun kept failures token k result after new

-- a buffer that was found again, once block k of the article under a token was read of it
pub record IsReadFrom {S : Type 0} {g : Ghosts S} (token : code.Token) (k : ℕ)
    (before : List ℕ) (result : Result Found BufError) (after : List ℕ) (old new : Started S g)
    : Type 0 where
  pub reads : ReadsBlock (buffer_in old) token k before result after (buffer_in new)
  pub held : StaysHeld g (store_in old) (store_in new)
  pub stop : new.stop ≡ old.stop
  pub tokens : new.tokens ≡ old.tokens

-- the buffer at this place is now one that has come of it so
pub record HasNow {S : Type 0} {g : Ghosts S} (Comes : Started S g → Started S g → Type 0)
    (new : FoundBufferSet S g) (place : ℕ) (old : Started S g)
    : Type 0 where
  pub now : Started S g
  pub there : slice_get new.found.items place ≡ Some now
  pub comes : Comes old now

-- the buffer of a token was changed so, where there is one, and no other
pub record ChangesAt {S : Type 0} {g : Ghosts S} (token : code.Token)
    (Comes : Started S g → Started S g → Type 0) (old new : FoundBufferSet S g)
    : Type 0 where
  pub here : (one : Started S g) → slice_get old.found.items token.buffer ≡ Some one
      → HasNow Comes new token.buffer one
  pub others : (b : ℕ) → b ≢ token.buffer
      → slice_get new.found.items b ≡ slice_get old.found.items b
  pub missing : slice_get old.found.items token.buffer ≡ None → new.found ≡ old.found
  pub count : length new.found.items ≡ length old.found.items

-- what a read does: the buffer of the token is read, and no other; without one nothing is found
pub record ReadsAt {S : Type 0} {g : Ghosts S} (token : code.Token) (k : ℕ)
    (old : FoundBufferSet S g) (before : List ℕ) (result : Result Found BufError)
    (after : List ℕ) (new : FoundBufferSet S g)
    : Type 0 where
  pub changes : ChangesAt token (IsReadFrom token k before result after) old new
  pub missing : slice_get old.found.items token.buffer ≡ None → result ≡ Ok found.Unknown

-- A REJECTED ARTICLE

-- the texts without what begins at a token's place
abbrev pub without_text : Token → List Kept → List Kept
without_text token kept =
    filter (λ one. not (is_at token.buffer token.cycle token.first one)) kept

-- once an article is rejected, what begins at its place is kept no more, and all else is
abbrev pub KeepsRejected : {S : Type 0} {g : Ghosts S} → Token → (old new : FoundBufferSet S g)
    → Type 0
KeepsRejected token old new =
    (w : Terms) (begun : ℕ → Course) (kept : List Kept) (failures : ℕ → ℕ)
    → KeepsFound old w begun kept failures
    → KeepsFound new w begun (without_text token kept) failures

-- a buffer that was found again, once the article that begins at a token's place was rejected: it
-- agrees with its histories without that article, and where none begins there nothing is changed
pub record IsRejectedFrom {S : Type 0} {g : Ghosts S} (token : code.Token) (old new : Started S g)
    : Type 0 where
  pub rejected : (trusted : Bool) (h : History) → Agrees trusted (buffer_in old) h
      → IsLiveAt h (token_view token)
      → Agrees trusted (buffer_in new) (without_article (token_view token) h)
  pub unknown : (trusted : Bool) (h : History) → Agrees trusted (buffer_in old) h
      → (IsLiveAt h (token_view token) → ⊥)
      → buffer_state_of (buffer_in new) ≡ buffer_state_of (buffer_in old)
  pub store : store_in new ≡ store_in old
  pub opened : has_open_head (buffer_in new) ≡ has_open_head (buffer_in old)
  pub busy : is_busy (buffer_in new) ≡ is_busy (buffer_in old)
  pub stop : new.stop ≡ old.stop
  pub tokens : new.tokens ≡ old.tokens

-- so of the buffer of the token, and of no other
abbrev pub RejectsAt : {S : Type 0} {g : Ghosts S} → code.Token → (old new : FoundBufferSet S g)
    → Type 0
RejectsAt token old new = ChangesAt token (IsRejectedFrom token) old new
