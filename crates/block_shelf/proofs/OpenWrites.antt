-- A write of a block, and the end of a group's open write, in what the buffer set keeps.
use Rattle.std.proofs.Common.{◌≡◌, ◌≢◌, ◌⊎◌, ◌∙◌, ℕ, ◌+◌, ◌*◌, ◌<◌, nat_lt, Bool, true, false, refl}
use Rattle.std.proofs.Common.{sym, ap, subst, arith, take, length, List, [], ◌∷◌, ◌++◌, Option}
use Rattle.std.proofs.Common.{None, Some, slice_get, Ok, Err}
use Rattle.std.proofs.lemmas.List.{length-take, take_min, take_all}
use Rattle.std.proofs.lemmas.Bool.{false≢true, ltb-false}
use Rattle.std.proofs.lemmas.Option.{same_Some, none-some, slice_get_past}
use Rattle.std.specs.Prelude.{IsSomeAnd, count_by}
use Rattle.cyc_block.specs.declared.store.BlockStore.{Ghosts}
use Rattle.cyc_buffer.proofs.CrashWrites.{left_writing}
use Rattle.cyc_buffer.proofs.OpenLemmas.{can_write, can_finish, is_open}
use Rattle.cyc_buffer.specs.Agreement as buffers
use Rattle.cyc_buffer.specs.Agreement.{Agrees, Follows, CanWrite, CanFinish, ContinuesIn, IsOpenAs}
use Rattle.cyc_buffer.specs.Agreement.{Owns, store_of}
use Rattle.cyc_buffer.specs.BufferState.{Writes}
use Rattle.cyc_buffer.specs.Calls.{LeavesDevice, WritesNext}
use Rattle.cyc_buffer.specs.Crash.{IsLeftOf}
use Rattle.cyc_buffer.specs.History.{History, Article, Begin, Writing, finish_begins, head_of}
use Rattle.cyc_buffer.specs.History.{with_block, with_failure, token_of_open, token_at, with_finish}
use Rattle.cyc_buffer.specs.History.{changed, with_next_block, without_write}
use Rattle.cyc_buffer.specs.declared.answers.BufError.{BufError}
use Rattle.cyc_buffer.specs.declared.buffer.Buffer.{Buffer}
use Rattle.cyc_buffer.specs.declared.buffer_state.Open.{Open}
use Rattle.cyc_buffer.specs.declared.buffer_state.Progress.{Progress}
use Rattle.cyc_token.specs.Token.{token_view}
use Rattle.news_terms.specs.Courses.{Course}
use Rattle.news_terms.specs.BlockImage.{chunk_size}
use Rattle.news_terms.specs.Picks.{place_after}
use Rattle.news_terms.specs.Places as places
use Rattle.news_terms.specs.Places.{size_of}
use Rattle.news_terms.specs.Settings.{IsBufferAt}
use Rattle.news_terms.specs.Token.{Token}
use Rattle.relay_facts.proofs.Puts.{put_at_here, put_at_there}
use Rattle.relay_model.specs.Fetches.{text_under}
use Rattle.relay_model.specs.Figures.{is_kept_in}
use Rattle.relay_model.specs.State.{Kept, put_at}
use Rattle.relay_model.specs.Terms.{Terms}
use Rattle.block_shelf.proofs.Writings.{finished, finished_said, kept_elsewhere, other_buffer}
use Rattle.block_shelf.proofs.Writings.{HasThis, IsOnly, has_this, rewritten, untouched}
use Rattle.block_shelf.proofs.Writings.{writing_ended, writing_here}
use Rattle.block_shelf.proofs.Shelving.{KeptAt, buffers_kept, failed_once, groups_kept, kept_at}
use Rattle.block_shelf.proofs.Shelving.{only_there, opened_after, past_last, replaced, stands}
use Rattle.block_shelf.proofs.Shelving.{with_buffer}
use Rattle.block_shelf.specs.Calls as calls
use Rattle.block_shelf.specs.Calls.{WrittenAs}
use Rattle.block_shelf.specs.Histories.{IsHistoryOf, IsWriting}
use Rattle.block_shelf.specs.Keeping.{HasBuffer, KeepsTexts, HasItsLength}
use Rattle.block_shelf.specs.Leaving.{MayBeLeft, Trust}
use Rattle.block_shelf.specs.Openings.{Opening, IsOpen, IsBroken, token_in}
use Rattle.block_shelf.specs.declared.buffer_set.Begun.{Begun}
use Rattle.block_shelf.specs.declared.buffer_set.BufferSet.{BufferSet}
use Rattle.block_shelf.specs.declared.buffer_set.WriteError.TheVariants as errors

-- so much of a text is the front of it that is as long
front_of_text : (m : ℕ) (text : List ℕ) → take (length (take m text)) text ≡ take m text
front_of_text m text = ap (λ n. take n text) (length-take m text) ∙ take_min m text

-- an open write whose blocks are all written has its whole text
all_written : (text : List ℕ) → take (chunk_size * size_of (length text)) text ≡ text
all_written text = take_all (chunk_size * size_of (length text)) text (omega arith)

-- a history that writes has begun
record HasNewest (h : History) (w : Writing) : Type 0 where
  earlier : List Begin
  fresh : Bool
  newest : h.begins ≡ record { size = size_of w.octets; fresh = fresh; finished = None } ∷ earlier

has_newest : (h : History) (progress : Option Progress) (writing : Option Writing) (w : Writing)
    → Writes h progress writing → writing ≡ Some w → HasNewest h w
has_newest h (Some p) (Some other) w writes is =
    subst (HasNewest h) (same_Some other w is)
    (record { earlier = writes.earlier; fresh = writes.fresh; newest = writes.newest })
has_newest h progress None w writes is = cc
has_newest h None (Some other) w writes is = absurd writes

-- the open write of a history, where no write has failed
abbrev writing_at : Token → (text : List ℕ) → (written : ℕ) → Writing
writing_at token text written =
    record {
      class = token.class;
      octets = token.length;
      text = take (chunk_size * written) text;
      blocks = written;
      broken = false;
    }

-- a history with this open write is writing
writing_of : (one : Opening) (writing : Option Writing) → IsWriting one writing
    → (w : Writing) × (writing ≡ Some w)
writing_of one None is = absurd is
writing_of one (Some w) is = (w, refl)

is_writing : (token : Token) (text : List ℕ) (written : ℕ) (writing : Option Writing)
    → IsWriting (IsOpen token text written) writing
    → writing ≡ Some (writing_at token text written)
is_writing token text written writing is = grind arith

module _ {S : Type 0} {g : Ghosts S} {trusted : Trust} {old : BufferSet S g} {w : Terms}
    {begun : ℕ → Course} {kept : List Kept} {openings : ℕ → Option Opening} {failures : ℕ → ℕ}
    (keeps : KeepsTexts trusted old w begun kept openings failures) {h : ℕ} where
  module _ {one : Opening} (is : openings h ≡ Some one) {i : ℕ}
      (number : i ≡ (token_in one).buffer) where
    -- the buffer that a group's open write is in is there
    place : slice_get w.buffers i ≡ Some (keeps.opened h one is).buffer
    place =
        let at = keeps.opened h one is in
        ap (slice_get w.buffers) (number ∙ sym at.named) ∙ stands (buffers_kept keeps) at.is_at

    -- so the code finds it
    pub not_missing : false ≡ nat_lt i (length old.buffers.items) → ⊥
    not_missing missing = none-some _ (sym (past_last (buffers_kept keeps) i missing) ∙ place)

    module _ {code : Buffer S g} (there : slice_get old.buffers.items i ≡ Some code) where
      at : KeptAt trusted w begun kept openings failures i code
      at = kept_at (buffers_kept keeps) there

      -- its history
      abbrev now : History
      now = at.now

      is_at : IsBufferAt w.groups h (keeps.opened h one is).index now.buffer
      is_at = rw (same_Some _ _ (sym place ∙ at.there)) at (keeps.opened h one is).is_at

      named_here : (token_in one).buffer ≡ now.buffer.number
      named_here = sym number ∙ sym at.number

      only : IsOnly openings h now.buffer.number
      only = only_there keeps is_at

      this : HasThis now one
      this = has_this openings h is named_here only at.said.writing

      -- a handle with its token is that of the buffer's open write
      opened_as : (write : Open) {writing : Writing}
          → token_view (buffers.token_of write) ≡ token_in one
          → now.writing ≡ Some writing → IsOpenAs code write writing
      opened_as write {writing} named writes =
          is_open code write trusted.honest now writing at.agrees writes
          (ap Some named ∙ sym this.token)

      -- the buffer set after a call on it, which has gone on under its token or has ended
      after_call : {code' : Buffer S g} {kept' : List Kept} {after : Option Opening}
          {failures' : ℕ → ℕ} (history : History) → history.buffer ≡ now.buffer
          → Agrees trusted.honest code' history
          → IsHistoryOf w.groups begun kept' (put_at openings h after) history
          → (trusted.honest ≡ true → trusted.left ≡ true → MayBeLeft g (store_of code') history)
          → ((next : Opening) → after ≡ Some next
          → (token_in next ≡ token_in one) × HasItsLength next)
          → ((t : Token) → t.buffer ≢ now.buffer.number → text_under kept' t ≡ text_under kept t)
          → ((buffer : places.Buffer) → buffer.number ≢ now.buffer.number
          → count_by (is_kept_in buffer) kept' ≡ count_by (is_kept_in buffer) kept)
          → failures' i ≡ g.failures (store_of code') → ((n : ℕ) → n ≢ i → failures' n ≡ failures n)
          → KeepsTexts trusted (with_buffer old i code' old.placed_groups) w begun kept'
          (put_at openings h after) failures'
      after_call {failures' = failures'} history same agrees said left goes_on texts stored failed
          unfailed = replaced keeps at (record {
            history = history;
            same = same;
            agrees = agrees;
            said = said;
            failed = ap failures' at.number ∙ failed;
            left = left;
            others = untouched (record {
              was = λ other e. cc (is, named_here);
              now = λ other e. rw (goes_on other e).0 named_here;
              begins = λ other apart has. has;
              texts = texts;
              stored = stored;
            });
            unfailed = λ n apart. unfailed n (λ e. apart (e ∙ sym at.number));
            fit = keeps.fit;
            laid = keeps.laid;
            opened = opened_after keeps (λ other e. record {
              index = (keeps.opened h one is).index;
              buffer = now.buffer;
              is_at = is_at;
              named = rw (goes_on other e).0 (sym named_here);
              whole = (goes_on other e).1;
            });
            groups = groups_kept keeps;
          })

      -- after it was given up
      pub abandoned : {code' : Buffer S g} (write : Open)
          → token_view (buffers.token_of write) ≡ token_in one
          → (Owns code write → Follows without_write code code') → store_of code' ≡ store_of code
          → ((each : History) (saved : Token → Bool)
          → IsLeftOf each saved (g.blocks (store_of code))
          → IsLeftOf (without_write each) saved (g.blocks (store_of code')))
          → KeepsTexts trusted (with_buffer old i code' old.placed_groups) w begun kept
          (put_at openings h None) failures
      abandoned write named follows same_store leaves =
          after_call (without_write now) refl
          (follows (opened_as write named (writing_of one now.writing this.writing).1).owned
          trusted.honest
          now at.agrees)
          (rewritten at.said (writing_ended openings h refl only))
          (λ sure yes none. leaves now (λ t. false)
          (at.left sure yes (ap g.failures (sym same_store) ∙ none)))
          (λ next e. cc) (λ t apart. refl)
          (λ buffer apart. refl) (at.failed ∙ ap g.failures (sym same_store)) (λ n apart. refl)

  -- an open write of which no block has failed
  module _ {token : Token} {text : List ℕ} {written : ℕ}
      (is : openings h ≡ Some (IsOpen token text written)) {i : ℕ} (number : i ≡ token.buffer)
      {code : Buffer S g} (there : slice_get old.buffers.items i ≡ Some code) (write : Open)
      (named : token_view (buffers.token_of write) ≡ token) where
    -- its history, and what it writes
    abbrev h_now : History
    h_now = now is number there

    writes : h_now.writing ≡ Some (writing_at token text written)
    writes = is_writing token text written h_now.writing (this is number there).writing

    open_as : IsOpenAs code write (writing_at token text written)
    open_as = opened_as is number there write named writes

    whole_length : length text ≡ token.length
    whole_length = (keeps.opened h (IsOpen token text written) is).whole

    -- the call can be served
    pub can_be_written : written < size_of (length text) → CanWrite code write text
    can_be_written left =
        can_write code write (writing_at token text written) text open_as refl
        (omega (arith, left, ap size_of whole_length)) whole_length

    -- its history with another open write, which is this one of the group
    still_said : (next : Opening) {writing : Option Writing}
        → token_of_open h_now.buffer h_now.begins writing ≡ Some (token_in next)
        → IsWriting next writing
        → IsHistoryOf w.groups begun kept (put_at openings h (Some next))
        (record h_now { writing = writing })
    still_said next token_is is_writing_it =
        rewritten (at is number there).said
        (writing_here openings h (record { token = token_is; writing = is_writing_it }))

    -- the buffer set after a write of a block
    pub wrote : {code' : Buffer S g} (last : Bool)
        → WritesNext code write text (Ok last) code' → LeavesDevice {X = Bool} code (Ok last) code'
        → ((each : History) (saved : Token → Bool) → Agrees true code each
        → IsLeftOf each saved (g.blocks (store_of code))
        → IsLeftOf each saved (g.blocks (store_of code')))
        → WrittenAs trusted w h token text written begun kept openings failures (Ok last)
        (with_buffer old i code' old.placed_groups)
    wrote {code'} last does device leaves = (
      cc (does.last, does.count, open_as.blocks, open_as.octets, whole_length),
      after_call is number there (with_block text h_now) refl
          (does.written trusted.honest h_now
          (subst (ContinuesIn text) (sym writes) (front_of_text (chunk_size * written) text))
          (at is number there).agrees)
          (still_said (IsOpen token text (written + 1))
          (rw writes (rw writes at (this is number there).token)) (rw writes refl))
          (λ sure yes none.
          left_writing h_now (λ t. false) (g.blocks (store_of code'))
          (changed (with_next_block text) h_now.writing)
          (leaves h_now (λ t. false)
          (subst (λ b. Agrees b code h_now) sure (at is number there).agrees)
          ((at is number there).left sure yes (sym device.no_failure ∙ none))))
          (λ next e. rw (← same_Some (IsOpen token text (written + 1)) next e) (refl, whole_length))
          (λ t apart. refl) (λ buffer apart. refl)
          ((at is number there).failed ∙ sym device.no_failure) (λ n apart. refl),
    )

    -- and after one that failed
    pub wrote_none : {code' : Buffer S g} (e : BufError)
        → WritesNext code write text (Err e) code' → LeavesDevice {X = Bool} code (Err e) code'
        → WrittenAs trusted w h token text written begun kept openings failures
        (Err (errors.Failed e)) (with_buffer old i code' old.placed_groups)
    wrote_none {code'} e does device = (
      does.fault trusted.honest h_now (at is number there).agrees
          ∙ rw (← named_here is number there, ← named),
      (
        put_at failures token.buffer (g.failures (store_of code')),
        failed_once failures (ap failures (sym number) ∙ (at is number there).failed) device.failed,
        after_call is number there (with_failure h_now) refl
            (does.broken trusted.honest h_now (at is number there).agrees)
            (still_said (IsBroken token) (rw writes (rw writes at (this is number there).token))
            (rw writes refl))
            (λ sure yes none. absurd (omega (arith, device.failed, none)))
            (λ next e. rw (← same_Some (IsBroken token) next e) (refl, tt)) (λ t apart. refl)
            (λ buffer apart. refl)
            (put_at_here failures token.buffer (g.failures (store_of code')) i number)
            (λ n apart. put_at_there failures token.buffer (g.failures (store_of code')) n
            (λ e. apart (e ∙ sym number))),
      ),
    )

    -- the call can be served
    pub can_be_finished : written ≡ size_of (length text) → CanFinish code write
    can_be_finished all =
        can_finish code write (writing_at token text written) open_as refl
        (all ∙ ap size_of whole_length)

    -- the buffer set after a finish, where all is written
    pub finish : {code' : Buffer S g} (id : List ℕ) → written ≡ size_of (length text)
        → Follows with_finish code code' → store_of code' ≡ store_of code
        → ((each : History) (saved later : Token → Bool) → Agrees true code each
        → IsLeftOf each saved (g.blocks (store_of code))
        → ((t : Token) → later t ≡ true
        → (saved t ≡ true) ⊎ (t ≡ token_view (buffers.token_of write)))
        → IsLeftOf (with_finish each) later (g.blocks (store_of code')))
        → KeepsTexts trusted (with_buffer old i code' old.placed_groups) w begun
        (kept ++ record { token = token; id = id; text = text } ∷ []) (put_at openings h None)
        failures
    finish {code'} id all follows same_store leaves =
        after_call is number there (record h_now {
          begins = finished newest.fresh
              (size_of token.length) article ∷ newest.earlier;
          writing = None;
        }) refl
        (subst (λ begins. Agrees trusted.honest code'
        (record h_now { begins = begins; writing = None }))
        ends
        (follows trusted.honest h_now (at is number there).agrees))
        (finished_said h_now newest.earlier newest.fresh (size_of token.length) article added
        named_as whole
        (at is number there).said newest.newest (is_at is number there)
        (writing_ended openings h refl (only is number there)))
        (λ sure yes none.
        subst
        (λ begins. IsLeftOf (record h_now { begins = begins; writing = None }) (λ t. false)
        (g.blocks (store_of code')))
        ends
        (leaves h_now (λ t. false) (λ t. false)
        (subst (λ b. Agrees b code h_now) sure (at is number there).agrees)
        ((at is number there).left sure yes (ap g.failures (sym same_store) ∙ none))
        (λ t never. absurd (false≢true never))))
        (λ next e. cc)
        (λ t away. other_buffer kept added t (λ e. away (sym e ∙ named_here is number there)))
        (λ buffer away. kept_elsewhere buffer kept added
        (λ e. away (sym e ∙ named_here is number there)))
        ((at is number there).failed ∙ ap g.failures (sym same_store)) (λ n apart. refl)
      where
        newest : HasNewest h_now (writing_at token text written)
        newest =
            has_newest h_now code.buffer_state.progress h_now.writing
            (writing_at token text written) (at is number there).agrees.keeps.writing writes

        added : Kept
        added = record { token = token; id = id; text = text }

        article : Article
        article = record { class = token.class; text = take (chunk_size * written) text }

        whole : text ≡ article.text
        whole = sym (ap (λ n. take (chunk_size * n) text) all ∙ all_written text)

        ends : finish_begins h_now.writing h_now.begins
            ≡ finished newest.fresh (size_of token.length) article ∷ newest.earlier
        ends =
            ap (λ writing. finish_begins writing h_now.begins) writes
            ∙ ap (finish_begins (Some (writing_at token text written))) newest.newest

        named_as : token ≡ token_at h_now.buffer
            (place_after h_now.buffer.blocks (head_of h_now.buffer.blocks newest.earlier)
            newest.fresh (size_of token.length))
            article.class (length article.text)
        named_as =
            let here = rw (writes, newest.newest) at (this is number there).token in
            sym (same_Some _ _ here) ∙ cc (whole_length, whole)

-- the calls that the buffer set serves: those that the buffer of the token's place does
module _ {S : Type 0} {g : Ghosts S} (old : BufferSet S g) (one : Begun) {i : ℕ}
    (number : i ≡ (calls.token_of one).buffer) where
  -- what holds of the buffer there holds of the one that is read
  pub at_token : {code : Buffer S g} (P : Buffer S g → Type 0)
      → slice_get old.buffers.items i ≡ Some code
      → IsSomeAnd (slice_get old.buffers.items (calls.token_of one).buffer) P → P code
  at_token P there holds =
      subst (λ o. IsSomeAnd o P) (ap (slice_get old.buffers.items) (sym number) ∙ there) holds

  -- and the other way round
  pub of_token : {code : Buffer S g} (P : Buffer S g → Type 0)
      → slice_get old.buffers.items i ≡ Some code → P code
      → IsSomeAnd (slice_get old.buffers.items (calls.token_of one).buffer) P
  of_token P there holds =
      subst (λ o. IsSomeAnd o P) (sym (ap (slice_get old.buffers.items) (sym number) ∙ there)) holds

  -- where there is no buffer nothing holds of it
  pub none_at_token : (P : Buffer S g → Type 0) → false ≡ nat_lt i (length old.buffers.items)
      → IsSomeAnd (slice_get old.buffers.items (calls.token_of one).buffer) P → ⊥
  none_at_token P missing holds =
      subst (λ o. IsSomeAnd o P) (ap (slice_get old.buffers.items) (sym number)
      ∙ slice_get_past old.buffers.items i (ltb-false i (length old.buffers.items) (sym missing)))
      holds

module _ {S : Type 0} {g : Ghosts S} {trusted : Trust} {old : BufferSet S g} {w : Terms}
    {begun : ℕ → Course} {kept : List Kept} {openings : ℕ → Option Opening} {failures : ℕ → ℕ}
    (keeps : KeepsTexts trusted old w begun kept openings failures) (one : Begun) {h : ℕ}
    {text : List ℕ} {written : ℕ}
    (is : openings h ≡ Some (IsOpen (calls.token_of one) text written)) where
  -- the buffer that it is in
  has_code : HasBuffer trusted.honest old.buffers.items w.groups begun kept openings failures
      (calls.token_of one).buffer
      (keeps.opened h (IsOpen (calls.token_of one) text written) is).buffer
  has_code = (keeps.buffers (calls.token_of one).buffer _ (place keeps is refl)).has

  -- its next block can be written
  pub writes_there : written < size_of (length text) → calls.CanWrite old one text
  writes_there left =
      of_token old one refl (λ code. CanWrite code one.open text) has_code.there
      (can_be_written keeps is refl has_code.there one.open refl left)

  -- it can be finished where all is written
  pub finishes_there : written ≡ size_of (length text) → calls.CanFinish old one
  finishes_there all =
      of_token old one refl (λ code. CanFinish code one.open) has_code.there
      (can_be_finished keeps is refl has_code.there one.open refl all)
