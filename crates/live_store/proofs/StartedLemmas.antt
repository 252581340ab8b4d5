-- What is known of a buffer that was started.
use Rattle.std.proofs.Common.{◌≡◌, ◌∙◌, ℕ, inl, inr, refl, sym, ap, subst, arith, Bool, true}
use Rattle.std.proofs.Common.{false, true≢false, List, length, Option, None, is_some}
use Rattle.std.proofs.Math.Logic.{∥∥₁_map}
use Rattle.std.specs.Prelude.{IsSomeAnd}
use Rattle.boxcar.specs.Table.{Shelves, Where}
use Rattle.news_terms.specs.Places as places
use Rattle.cyc_block.specs.declared.store.BlockStore.{Ghosts}
use Rattle.cyc_buffer.specs.Agreement.{Agrees, Follows, buffer_state_of, store_of}
use Rattle.cyc_buffer.specs.Head.{is_busy}
use Rattle.cyc_buffer.specs.History.{History}
use Rattle.cyc_buffer.specs.Marks.{is_marked}
use Rattle.cyc_buffer.specs.Reads.{IsBlamed}
use Rattle.cyc_buffer.specs.Remembered.{ListsStarts, is_start}
use Rattle.cyc_buffer.specs.Starting.{IsOutside, ListsLive, Starts}
use Rattle.cyc_buffer.specs.Stopped.{HoldsStopped}
use Rattle.cyc_buffer.specs.declared.answers.StartError.{StartError}
use Rattle.cyc_buffer.specs.declared.answers.StartError.TheVariants as errors
use Rattle.cyc_buffer.specs.declared.buffer.Buffer.{Buffer}
use Rattle.cyc_token.specs.declared.Token as codes
use Rattle.live_store.specs.Started.{AreArticles, HaveFirsts, IsMerelyRead, IsRefusedFor}
use Rattle.live_store.specs.Started.{IsStarted, IsUnentered}
use Rattle.live_store.specs.Started.{WasStopped}
use Rattle.live_store.specs.Tied.{AreNumbered, AreShown, HaveNumbers, IsFirstAt, IsKnown, Tied}
use Rattle.live_store.specs.Tied.{number_at}
use Rattle.live_store.specs.declared.writing.entering.Record.{Record}
use Rattle.cyc_buffer.specs.declared.buffer_state.BufferState.{BufferState}
use Rattle.live_store.proofs.TiedLemmas.{tied_same}

-- what is refused from without isn't damaged
pub outside_unentered : (A : Type 0) (e : StartError) → IsOutside e → IsUnentered A e
outside_unentered A errors.Memory is = tt
outside_unentered A errors.Device is = tt
outside_unentered A errors.NoHead is = is
outside_unentered A errors.Unclosed is = is
outside_unentered A errors.Damaged is = absurd is

-- a refusal after steps without a failure
pub blamed_later : {S : Type 0} (g : Ghosts S) (a b c : S) (e : StartError)
    → g.failures b ≡ g.failures a → IsBlamed g b c e → IsBlamed g a c e
blamed_later g a b c errors.Memory none blamed = blamed ∙ none
blamed_later g a b c errors.Device none blamed = omega (arith, blamed, none)
blamed_later g a b c errors.NoHead none blamed = blamed ∙ none
blamed_later g a b c errors.Unclosed none blamed = blamed ∙ none
blamed_later g a b c errors.Damaged none blamed = blamed ∙ none

-- a store that holds a stop is started with its history
pub started_of : {S : Type 0} {g : Ghosts S} (buffer : Buffer S g)
    (tokens : List codes.Token) (heads blocks : List (List ℕ)) (kept : places.Buffer)
    → ∥ WasStopped heads blocks kept ∥₁
    → ((stop : ℕ) (h : History) → HoldsStopped heads blocks stop h → h.buffer ≡ kept
    → Agrees true buffer h)
    → ((stop : ℕ) (h : History) → HoldsStopped heads blocks stop h → ListsLive tokens h)
    → ∥ IsStarted buffer tokens ∥₁
started_of buffer tokens heads blocks kept stopped agrees lists =
    ∥∥₁_map stopped (λ was. record {
      history = was.history;
      agrees = agrees was.stop was.history was.held was.same;
      lists = lists was.stop was.history was.held;
    })

-- what is refused once the buffer was started is so from without, or for a text
pub refused_for : (heads blocks : List (List ℕ)) (buffer : places.Buffer) (stop : ℕ)
    (tokens : List codes.Token) → Starts heads blocks buffer stop tokens → (e : StartError)
    → IsUnentered ⊥ e
    → ((under : ℕ) (h : History) → HoldsStopped heads blocks under h → h.buffer ≡ buffer
    → IsUnentered (AreArticles h) e)
    → IsRefusedFor heads blocks buffer e
refused_for heads blocks buffer stop tokens starts errors.Memory is texts = inl tt
refused_for heads blocks buffer stop tokens starts errors.Device is texts = inl tt
refused_for heads blocks buffer stop tokens starts errors.NoHead is texts = absurd is
refused_for heads blocks buffer stop tokens starts errors.Unclosed is texts = absurd is
refused_for heads blocks buffer stop tokens starts errors.Damaged is texts = inr (record {
  damaged = refl;
  stop = stop;
  startable = record { tokens = tokens; starts = starts };
  text = texts;
})

-- where each block at which an article begins is a listed one's first, it has its number
pub have_numbers : {S : Type 0} {g : Ghosts S} (buffer : Buffer S g) (tokens : List codes.Token)
    (numbers : List (Option (Where Record)))
    → ListsStarts 0 (length (g.blocks (store_of buffer))) (is_start buffer) tokens
    → length numbers ≡ length (g.blocks (store_of buffer))
    → HaveFirsts tokens (length tokens) numbers → HaveNumbers buffer numbers
have_numbers buffer tokens numbers lists room firsts block inside marked =
    let one = lists block (omega arith) (omega (arith, inside, room)) marked in
    let at = one.listed in
    subst (λ n. IsSomeAnd (number_at numbers n) (IsFirstAt n)) one.here
    (subst (λ (t : codes.Token). IsSomeAnd (number_at numbers t.first) (IsFirstAt t.first)) at.2
    (firsts at.0 one.token at.1 at.1))

module _ {S : Type 0} {g : Ghosts S} (register : Shelves) (trusted : Bool) (old new : Buffer S g)
    (numbers : List (Option (Where Record))) where
  -- with the numbers that were read back a started buffer has what the type says
  pub tied_started : (tokens : List codes.Token)
      → (trusted ≡ true → ∥ IsStarted old tokens ∥₁) → is_busy old ≡ false
      → IsMerelyRead old new → HaveNumbers old numbers
      → ((trusted : Bool) (h : History) → Agrees trusted old h → ListsLive tokens h
      → AreNumbered trusted register h numbers)
      → AreShown register numbers → length numbers ≡ length (g.blocks (store_of old))
      → ∥ Tied trusted register new None numbers ∥₁
  tied_started tokens started idle read has numbered shown room =
      by_trust trusted started
    where
      tied_with : (trusts : Bool)
          → (trusts ≡ true → IsKnown register new None numbers)
          → Tied trusts register new None numbers
      tied_with trusts known = record {
        own_write = ap (λ (r : BufferState). is_some r.progress) read.buffer_state ∙ idle;
        started = λ block inside marked. has block inside
            (sym (ap (λ (r : BufferState). is_marked r.starts.words.items block) read.buffer_state)
            ∙ marked);
        shown = shown;
        places = room ∙ sym read.held.count;
        known = known;
      }

      by_trust : (trusts : Bool) → (trusts ≡ true → ∥ IsStarted old tokens ∥₁)
          → ∥ Tied trusts register new None numbers ∥₁
      by_trust false started = ∣ tied_with false (λ e. absurd (true≢false (sym e))) ∣₁
      by_trust true started = ∥∥₁_map (started refl) (λ one. tied_with true (λ _. record {
        history = one.history;
        agrees = read.same true one.history one.agrees;
        begun = tt;
        numbered = numbered true one.history one.agrees one.lists;
      }))

  -- where nothing stands beside it, what agrees with the same histories has it too
  pub tied_idle : ∥ Tied trusted register old None numbers ∥₁ → Follows (λ h. h) old new
      → buffer_state_of new ≡ buffer_state_of old
      → length (g.blocks (store_of new)) ≡ length (g.blocks (store_of old))
      → ∥ Tied trusted register new None numbers ∥₁
  tied_idle tied follows same count = ∥∥₁_map tied (λ t.
      tied_same register trusted old new numbers None t follows same count)
