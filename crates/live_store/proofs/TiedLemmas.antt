-- What each step keeps of a buffer and of what stands beside it.
use Rattle.std.proofs.Common.{◌≡◌, ◌∙◌, ℕ, zero, suc, ◌+◌, ◌*◌, ◌<◌, ◌⊎◌, inl, inr, refl, sym, ap}
use Rattle.std.proofs.Common.{subst, arith, Bool, true, false, true≢false, List, [], ◌∷◌, length}
use Rattle.std.proofs.Common.{take, set, replicate, Option, None, Some, is_some}
use Rattle.std.specs.Prelude.{is_none, IfSome, IsSomeAnd}
use Rattle.std.proofs.lemmas.Bool.{cases_order}
use Rattle.std.proofs.lemmas.List.{take_min, length-take, length-set, length-replicate}
use Rattle.std.proofs.lemmas.List.{get_or-set_same, get_or-set_other}
use Rattle.boxcar.specs.Table.{Shelves, Where, Shows}
use Rattle.news_terms.specs.BlockImage.{chunk_size}
use Rattle.news_terms.specs.Places as places
use Rattle.news_terms.specs.Places.{size_of}
use Rattle.cyc_token.specs.Token.{token_view}
use Rattle.cyc_token.specs.declared.Token as codes
use Rattle.cyc_block.specs.declared.store.BlockStore.{Ghosts}
use Rattle.cyc_buffer.specs.Agreement.{Agrees, Holds, Follows, Owns, Continues, ContinuesIn}
use Rattle.cyc_buffer.specs.Agreement.{blocks_written, is_broken, token_of, length_of, store_of}
use Rattle.cyc_buffer.specs.Agreement.{buffer_state_of}
use Rattle.cyc_buffer.specs.Head.{is_busy}
use Rattle.cyc_buffer.specs.History.{History, Writing, new_history, with_begin}
use Rattle.cyc_buffer.specs.History.{with_block, with_failure, with_finish, without_write, changed}
use Rattle.cyc_buffer.specs.History.{with_next_block}
use Rattle.cyc_buffer.specs.Progress.{IsTheOpen, has_failed, written_of}
use Rattle.cyc_buffer.specs.Marks.{is_marked}
use Rattle.cyc_buffer.specs.BufferState.{Keeps, Writes}
use Rattle.cyc_buffer.specs.Remembered.{AddsNoStart, AddsStart, is_start}
use Rattle.cyc_buffer.specs.declared.buffer.Buffer.{Buffer}
use Rattle.cyc_buffer.specs.declared.buffer_state.Open.{Open}
use Rattle.cyc_buffer.specs.declared.buffer_state.Progress.{Progress}
use Rattle.cyc_buffer.specs.declared.buffer_state.BufferState.{BufferState}
use Rattle.cyc_buffer.proofs.Finished.{none_is_none}
use Rattle.live_store.specs.declared.open_write.OpenWrite.{OpenWrite}
use Rattle.live_store.specs.declared.writing.entering.Record.{Record}
use Rattle.live_store.specs.Tied.{Tied, IsWhole, IsOpenWrite, IsNamed, IsWrittenAs, HasNumber}
use Rattle.live_store.specs.Tied.{IsKnown, IsFirstAt, HaveNumbers, AreShown, number_at, text_in}
use Rattle.live_store.proofs.FrontLemmas.{first_within}
use Rattle.live_store.proofs.NumberLemmas.{apart, numbered_begin, numbered_finish, shown_set}
use Rattle.news_terms.specs.Token.{Token}

-- with nothing written a write goes on as any text
none_continues : (h : History) (text : List ℕ) (p : Option Progress) (o : Option Writing)
    → Writes h p o → written_of p ≡ 0 → ContinuesIn text o
none_continues h text None None writes none = tt
none_continues h text None (Some w) writes none = absurd writes
none_continues h text (Some p) None writes none = absurd writes
none_continues h text (Some p) (Some w) writes none =
    empty text w.text (omega (arith, writes.text, writes.written, none))
  where
    empty : (text xs : List ℕ) → length xs ≡ 0 → take (length xs) text ≡ xs
    empty text [] e = refl
    empty text (x ∷ xs) e = absurd (omega (arith, e))

-- a text that a write goes on as is so after one more block of it
continues_next : (text : List ℕ) (o : Option Writing)
    → ContinuesIn text (changed (with_next_block text) o)
continues_next text None = tt
continues_next text (Some w) =
    ap (λ n. take n text) (length-take (chunk_size * (w.blocks + 1)) text)
    ∙ take_min (chunk_size * (w.blocks + 1)) text

-- what stands beside a buffer, of these parts
abbrev pub open_write_of : Open → (shown : Where Record) → (written : ℕ) → Bool → OpenWrite
open_write_of write shown written broken =
    record { write = write; shown = Some shown; written = written; broken = broken }

pub no_number : (n block : ℕ) (shown : Where Record)
    → number_at (replicate n None) block ≡ Some shown
    → ⊥
no_number zero block shown e = none_is_none e
no_number (suc n) zero shown e = none_is_none e
no_number (suc n) (suc block) shown e = no_number n block shown e

-- a register with an open write is busy
busy_by : (write : Open) (p : Option Progress) → IsTheOpen write p → is_some p ≡ true
busy_by write None owns = absurd owns
busy_by write (Some p) owns = refl

-- no number is the register's
pub none_shown : (register : Shelves) (n : ℕ) (numbers : List (Option (Where Record)))
    → numbers ≡ replicate n None → AreShown register numbers
none_shown register n numbers none block shown is =
    absurd (no_number n block shown (ap (λ l. number_at l block) (sym none) ∙ is))

-- one number of a list that is set, and the others as they were
module _ (numbers : List (Option (Where Record))) (i : ℕ) (shown : Where Record)
    (within : i < length numbers) (first : IsFirstAt i shown) where
  abbrev after : List (Option (Where Record))
  after = set numbers i (Some shown)

  number_here : (block : ℕ) → block ≡ i → IsSomeAnd (number_at after block) (IsFirstAt block)
  number_here block e = subst (λ n. IsSomeAnd (number_at after n) (IsFirstAt n)) (sym e)
      (subst (λ (o : Option (Where Record)). IsSomeAnd o (IsFirstAt i))
      (sym (get_or-set_same numbers i (Some shown) None within)) first)

  number_there : (block : ℕ) → (block < i) ⊎ (i < block)
      → IsSomeAnd (number_at numbers block) (IsFirstAt block)
      → IsSomeAnd (number_at after block) (IsFirstAt block)
  number_there block o has = subst (λ (n : Option (Where Record)). IsSomeAnd n (IsFirstAt block))
      (sym (get_or-set_other numbers i block (Some shown) None (λ e. apart e o))) has

  -- a number stands where one stood, and at the block that it is set at
  pub number_set : (block : ℕ) (old : Bool) → (block ≡ i) ⊎ (old ≡ true)
      → (old ≡ true → IsSomeAnd (number_at numbers block) (IsFirstAt block))
      → IsSomeAnd (number_at after block) (IsFirstAt block)
  number_set block old (inl e) has = number_here block e
  number_set block old (inr was) has = elim (cases_order block i) [
    | inl e ↦ number_here block e
    | inr o ↦ number_there block o (has was)
  ]

module _ {S : Type 0} {g : Ghosts S} (register : Shelves) (trusted : Bool) where
  -- a new buffer has no article and no number
  pub tied_new : (number first_cycle : ℕ) (store : S) (buffer : Buffer S g)
      (numbers : List (Option (Where Record))) → (trusted ≡ true → g.honest store)
      → ((trusted : Bool) → (trusted ≡ true → g.honest store)
      → Agrees trusted buffer (new_history (record {
        number = number;
        blocks = length (g.blocks store);
        first_cycle = first_cycle;
      })))
      → ((block : ℕ) → is_start buffer block ≡ false) → is_busy buffer ≡ false
      → length (g.blocks (store_of buffer)) ≡ length (g.blocks store)
      → numbers ≡ replicate (length (g.blocks store)) None
      → Tied trusted register buffer None numbers
  tied_new number first_cycle store buffer numbers honest agrees unmarked idle count none = record {
    own_write = idle;
    started = λ block inside marked. absurd (true≢false (sym marked ∙ unmarked block));
    shown = none_shown register (length (g.blocks store)) numbers none;
    places = ap length none ∙ length-replicate (length (g.blocks store)) None ∙ sym count;
    known = λ is. record {
      history = new_history (record {
        number = number;
        blocks = length (g.blocks store);
        first_cycle = first_cycle;
      });
      agrees = agrees true (λ _. honest is);
      begun = tt;
      numbered = λ cycle first article finished live. absurd (none_is_none finished);
    };
  }

  module _ (old new : Buffer S g) (numbers : List (Option (Where Record))) where
    -- where memory is the same, so is what stands beside it
    open_write_same : buffer_state_of new ≡ buffer_state_of old → (b : Option OpenWrite)
        → IsOpenWrite register old b → IsOpenWrite register new b
    open_write_same same None is = ap (λ (r : BufferState). is_some r.progress) same ∙ is
    open_write_same same (Some b) is = record {
      owns = subst (λ (r : BufferState). IsTheOpen b.write r.progress) (sym same) is.owns;
      shown = is.shown;
      whole = λ e. let w = is.whole e in record {
        unbroken = ap (λ (r : BufferState). has_failed r.progress) same ∙ w.unbroken;
        written = w.written ∙ sym (ap (λ (r : BufferState). written_of r.progress) same);
        number = w.number;
      };
    }

    -- where no article begins anew, each that begins has its number
    still_started : AddsNoStart old new → HaveNumbers old numbers → HaveNumbers new numbers
    still_started adds has block inside marked = has block inside (adds block marked)

    same_starts : buffer_state_of new ≡ buffer_state_of old → AddsNoStart old new
    same_starts same block marked =
        sym (ap (λ (r : BufferState). is_marked r.starts.words.items block) same) ∙ marked

    -- after a read
    pub tied_same : (b : Option OpenWrite) → Tied trusted register old b numbers
        → Follows (λ h. h) old new → buffer_state_of new ≡ buffer_state_of old
        → length (g.blocks (store_of new)) ≡ length (g.blocks (store_of old))
        → Tied trusted register new b numbers
    tied_same b t follows same count = record {
      own_write = open_write_same same b t.own_write;
      started = still_started (same_starts same) t.started;
      shown = t.shown;
      places = t.places ∙ sym count;
      known = λ is. let k = t.known is in record {
        history = k.history;
        agrees = follows true k.history k.agrees;
        begun = k.begun;
        numbered = k.numbered;
      };
    }

    -- after a begin that was refused
    pub tied_kept : (b : Option OpenWrite) → Tied trusted register old b numbers
        → buffer_state_of new ≡ buffer_state_of old → store_of new ≡ store_of old
        → Tied trusted register new b numbers
    tied_kept b t same store = tied_same b t (λ trust h a. record {
      keeps = subst (λ (r : BufferState). Keeps r h) (sym same) a.keeps;
      honest = λ e. subst g.honest (sym store) (a.honest e);
      holds = λ e. subst (λ (r : BufferState). Holds (g.blocks (store_of new)) r h) (sym same)
          (subst (λ (x : S). Holds (g.blocks x) (buffer_state_of old) h) (sym store) (a.holds e));
    }) same (ap (λ (x : S). length (g.blocks x)) store)

    -- after a begin
    pub tied_begin : (b : Option OpenWrite) (class octets : ℕ) (fresh : Bool) (write : Open)
        → Tied trusted register old b numbers → Follows (with_begin class octets fresh) old new
        → Owns new write → blocks_written new ≡ 0 → is_broken new ≡ false
        → AddsNoStart old new → store_of new ≡ store_of old
        → Tied trusted register new
        (Some (record { write = write; shown = None; written = 0; broken = false })) numbers
    tied_begin b class octets fresh write t follows owns none whole adds store = record {
      own_write = record {
        owns = owns;
        shown = tt;
        whole = λ _. record { unbroken = whole; written = sym none; number = refl };
      };
      started = still_started adds t.started;
      shown = t.shown;
      places = t.places ∙ sym (ap (λ (x : S). length (g.blocks x)) store);
      known = λ is. let k = t.known is in record {
        history = with_begin class octets fresh k.history;
        agrees = follows true k.history k.agrees;
        begun = λ _. tt;
        numbered = numbered_begin true register old.buffer_state k.history class
            octets fresh numbers
            k.agrees.keeps k.numbered;
      };
    }

    -- after one more block
    pub tied_next : (b : OpenWrite) (shown : Where Record) (written : ℕ)
        → (t : Tied trusted register old (Some b) numbers)
        → IsWrittenAs register b.write shown
        → ((k : IsKnown register old (Some b) numbers) → Continues (text_in shown) k.history)
        → ((trusted : Bool) (h : History) → Continues (text_in shown) h → Agrees trusted old h
        → Agrees trusted new (with_block (text_in shown) h))
        → Owns new b.write → is_broken new ≡ false → written ≡ blocks_written new
        → AddsNoStart old new
        → length (g.blocks (store_of new)) ≡ length (g.blocks (store_of old))
        → Tied trusted register new (Some (open_write_of b.write shown written false)) numbers
    tied_next b shown written t number continues follows owns whole counted adds count = record {
      own_write = record {
        owns = owns;
        shown = number.shows;
        whole = λ _. record { unbroken = whole; written = counted; number = number };
      };
      started = still_started adds t.started;
      shown = t.shown;
      places = t.places ∙ sym count;
      known = λ is. let k = t.known is in record {
        history = with_block (text_in shown) k.history;
        agrees = follows true k.history (continues k) k.agrees;
        begun = λ _. continues_next (text_in shown) k.history.writing;
        numbered = k.numbered;
      };
    }

    -- after the device failed
    pub tied_failed : (b : OpenWrite) (shown : Where Record) → Shows register shown
        → Tied trusted register old (Some b) numbers
        → Follows with_failure old new → Owns new b.write → AddsNoStart old new
        → length (g.blocks (store_of new)) ≡ length (g.blocks (store_of old))
        → Tied trusted register new (Some (open_write_of b.write shown b.written true)) numbers
    tied_failed b shown shows t follows owns adds count = record {
      own_write = record { owns = owns; shown = shows; whole = λ e. absurd (true≢false e) };
      started = still_started adds t.started;
      shown = t.shown;
      places = t.places ∙ sym count;
      known = λ is. let k = t.known is in record {
        history = with_failure k.history;
        agrees = follows true k.history k.agrees;
        begun = λ e. absurd (true≢false e);
        numbered = k.numbered;
      };
    }

    -- after the write was abandoned
    pub tied_abandon : (b : OpenWrite) → Tied trusted register old (Some b) numbers
        → Follows without_write old new → is_busy new ≡ false → AddsNoStart old new
        → store_of new ≡ store_of old → Tied trusted register new None numbers
    tied_abandon b t follows idle adds store = record {
      own_write = idle;
      started = still_started adds t.started;
      shown = t.shown;
      places = t.places ∙ sym (ap (λ (x : S). length (g.blocks x)) store);
      known = λ is. let k = t.known is in record {
        history = without_write k.history;
        agrees = follows true k.history k.agrees;
        begun = tt;
        numbered = k.numbered;
      };
    }

  -- the open write's first block has a place for a number
  pub place_of_write
      : (buffer : Buffer S g) (b : OpenWrite) (numbers : List (Option (Where Record)))
      → Tied trusted register buffer (Some b) numbers → (token_of b.write).first < length numbers
  place_of_write buffer b numbers t =
      by_progress buffer.buffer_state.progress refl t.own_write.owns
    where
      by_progress : (o : Option Progress) → buffer.buffer_state.progress ≡ o → IsTheOpen b.write o
          → (token_of b.write).first < length numbers
      by_progress None is owns = absurd owns
      by_progress (Some p) is owns = omega (
        arith,
        first_within buffer.buffer_state p b.write is owns,
        t.places,
        buffer.counted,
      )

  -- after a finish
  pub tied_finish : (old new : Buffer S g) (b : OpenWrite) (numbers : List (Option (Where Record)))
      (shown : Where Record)
      → (t : Tied trusted register old (Some b) numbers)
      → IsWrittenAs register b.write shown
      → ((k : IsKnown register old (Some b) numbers) → Continues (text_in shown) k.history)
      → blocks_written old ≡ size_of (length_of b.write) → Follows with_finish old new
      → is_busy new ≡ false → AddsStart (token_of b.write).first old new
      → store_of new ≡ store_of old
      → Tied trusted register new None (set numbers (token_of b.write).first (Some shown))
  tied_finish old new b numbers shown t number continues all follows idle adds store =
      let within = place_of_write old b numbers t in
      let first = (token_of b.write).first in
      let named : IsFirstAt first shown = sym (ap (λ (x : Token). x.first) number.named) in
      record {
        own_write = idle;
        started = λ block inside marked. number_set numbers first shown within named block
            (is_start old block) (adds block marked)
            (λ was. t.started block
            (omega (arith, inside, length-set numbers first (Some shown))) was);
        shown = shown_set register numbers first shown within number.shows t.shown;
        places = length-set numbers first (Some shown) ∙ t.places
            ∙ sym (ap (λ (x : S). length (g.blocks x)) store);
        known = λ is. let k = t.known is in record {
          history = with_finish k.history;
          agrees = follows true k.history k.agrees;
          begun = tt;
          numbered = numbered_finish true register k.history b.write shown numbers number
              (continues k) k.numbered
              (t.places ∙ sym old.counted
              ∙ sym (ap (λ (x : places.Buffer). x.blocks) k.agrees.keeps.buffer))
              old.buffer_state k.agrees.keeps t.own_write.owns all;
        };
      }

  -- what has an open write beside it is busy
  pub busy_open_write
      : (buffer : Buffer S g) (b : OpenWrite) (numbers : List (Option (Where Record)))
      → Tied trusted register buffer (Some b) numbers → is_busy buffer ≡ true
  busy_open_write buffer b numbers t =
      busy_by b.write buffer.buffer_state.progress t.own_write.owns

-- the record that an open write is named by is the one that is written
pub named : {S : Type 0} {g : Ghosts S} (register : Shelves) (buffer : Buffer S g) (b : OpenWrite)
    (shown : Where Record)
    → IsWhole register buffer b → IsNamed b.write b.shown shown
    → Shows register shown → length (text_in shown) ≡ length_of b.write
    → IsWrittenAs register b.write shown
named register buffer b shown whole same shows long = named_by b.shown whole.number same
  where
    named_by : (o : Option (Where Record)) → HasNumber register b o → IsNamed b.write o shown
        → IsWrittenAs register b.write shown
    named_by None none same = record {
      shows = shows;
      named = ap token_view (sym same);
      octets = long ∙ sym (ap (λ (t : codes.Token). t.length) same);
    }
    named_by (Some own) number same = record {
      shows = shows;
      named = number.named ∙ ap (λ (r : Record). token_view r.token.value) same.1;
      octets = subst (λ (r : Record). length r.text.value.items ≡ r.token.value.length) same.1
          number.octets;
    }

-- the record that an open write has the number of is the one that is written
pub named_again : (register : Shelves) (b : OpenWrite) (shown : Where Record)
    (o : Option (Where Record)) → is_none o ≡ false
    → HasNumber register b o → IsNamed b.write o shown → Shows register shown
    → IsWrittenAs register b.write shown
named_again register b shown None some number same shows = absurd (true≢false some)
named_again register b shown (Some own) some number same shows = record {
  shows = shows;
  named = number.named ∙ ap (λ (r : Record). token_view r.token.value) same.1;
  octets = subst (λ (r : Record). length r.text.value.items ≡ r.token.value.length)
      same.1 number.octets;
}

-- what is written is what the text of the record that an open write is named by begins with
pub continues_as : {S : Type 0} {g : Ghosts S} (register : Shelves) (buffer : Buffer S g)
    (b : OpenWrite) (shown : Where Record) (numbers : List (Option (Where Record)))
    → b.broken ≡ false → IsWhole register buffer b → IsNamed b.write b.shown shown
    → (k : IsKnown register buffer (Some b) numbers) → Continues (text_in shown) k.history
continues_as register buffer b shown numbers unbroken whole same k =
    by_number b.shown whole.number same (k.begun unbroken)
  where
    by_number : (o : Option (Where Record)) → HasNumber register b o → IsNamed b.write o shown
        → IfSome o (λ w. Continues (text_in w) k.history) → Continues (text_in shown) k.history
    by_number None none same begun = none_continues k.history (text_in shown)
        buffer.buffer_state.progress k.history.writing k.agrees.keeps.writing
        (sym whole.written ∙ none)
    by_number (Some own) number same begun =
        subst (λ (r : Record). Continues r.text.value.items k.history) same.1 begun
