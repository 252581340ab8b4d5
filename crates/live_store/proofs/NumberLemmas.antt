-- Each live finished article has its record's number, after a begin and after a finish.
use Rattle.std.proofs.Common.{◌≡◌, ◌∙◌, ℕ, ◌<◌, ◌⊎◌, inl, inr, refl, sym, ap, subst, arith}
use Rattle.std.proofs.Common.{List, ◌∷◌, length, take, set, Option, None, Some, Bool}
use Rattle.std.specs.List.{AllByRecursion}
use Rattle.std.proofs.lemmas.Bool.{cases_order}
use Rattle.std.proofs.lemmas.List.{take_all, get_or-set_same, get_or-set_other}
use Rattle.boxcar.specs.Table.{Shelves, Where, Shows}
use Rattle.news_terms.specs.Places as places
use Rattle.news_terms.specs.Places.{size_of}
use Rattle.news_terms.specs.Token.{Token}
use Rattle.cyc_token.specs.Token.{token_view}
use Rattle.cyc_buffer.specs.Agreement.{Continues, ContinuesIn, length_of, token_of}
use Rattle.cyc_buffer.specs.History.{Article, Begin, History, Writing, token_at}
use Rattle.cyc_buffer.specs.History.{with_begin, with_finish}
use Rattle.cyc_buffer.specs.Progress.{IsTheOpen, written_of}
use Rattle.cyc_buffer.specs.BufferState.{Keeps, Writes, IsSized}
use Rattle.cyc_buffer.specs.declared.buffer_state.Open.{Open}
use Rattle.cyc_buffer.specs.declared.buffer_state.Progress.{Progress}
use Rattle.cyc_buffer.specs.declared.buffer_state.BufferState.{BufferState}
use Rattle.cyc_buffer.proofs.Finished.{was_finished, lies, at_parts, same_some}
use Rattle.cyc_buffer.proofs.Finishing.{newest, place, finished_now, whole_text, history_of}
use Rattle.cyc_buffer.proofs.Finishing.{old_history}
use Rattle.live_store.specs.declared.writing.entering.Record.{Record}
use Rattle.live_store.specs.Tied.{AreNumbered, AreShown, HasRecord, IsWrittenAs, number_at}
use Rattle.live_store.specs.Tied.{token_in, text_in}
use Rattle.live_store.proofs.FrontLemmas.{lived, overwrites, first_within}

-- equal numbers aren't one below the other
pub apart : {a b : ℕ} → a ≡ b → (a < b) ⊎ (b < a) → ⊥
apart e (inl h) = omega (arith, e, h)
apart e (inr h) = omega (arith, e, h)

shown_at : (register : Shelves) (numbers : List (Option (Where Record))) (i : ℕ)
    (shown : Where Record) (block : ℕ) (other : Where Record)
    → i < length numbers → Shows register shown → AreShown register numbers
    → (block ≡ i) ⊎ ((block < i) ⊎ (i < block))
    → number_at (set numbers i (Some shown)) block ≡ Some other → Shows register other
shown_at register numbers i shown block other within shows all (inl e) is =
    subst (Shows register) (same_some (sym (get_or-set_same numbers i (Some shown) None within)
    ∙ ap (number_at (set numbers i (Some shown))) (sym e) ∙ is)) shows
shown_at register numbers i shown block other within shows all (inr o) is =
    all block other (sym (get_or-set_other numbers i block (Some shown) None (λ e. apart e o)) ∙ is)

-- a number of the register more leaves all numbers the register's
pub shown_set : (register : Shelves) (numbers : List (Option (Where Record))) (i : ℕ)
    (shown : Where Record)
    → i < length numbers → Shows register shown → AreShown register numbers
    → AreShown register (set numbers i (Some shown))
shown_set register numbers i shown within shows all = λ block other is.
    shown_at register numbers i shown block other within shows all (cases_order block i) is

-- after a begin each live finished article has its number
pub numbered_begin : (trusted : Bool) (register : Shelves) (r : BufferState) (h : History)
    (class octets : ℕ) (fresh : Bool) (numbers : List (Option (Where Record)))
    → Keeps r h → AreNumbered trusted register h numbers
    → AreNumbered trusted register (with_begin class octets fresh h) numbers
numbered_begin trusted register r h class octets fresh numbers keeps numbered =
    λ cycle first article finished live.
    let next : Begin = record { size = size_of octets; fresh = fresh; finished = None } in
    let before = was_finished h.buffer h.begins next cycle first article refl finished in
    numbered cycle first article before (lived r h next cycle first article keeps before live)

-- what is written of a write of which all is written is its record's text
all_written : (h : History) (p : Progress) (w : Writing) (write : Open) (shown : Where Record)
    → Writes h (Some p) (Some w)
    → IsTheOpen write (Some p) → p.written ≡ size_of (length_of write)
    → length (text_in shown) ≡ length_of write
    → take (length w.text) (text_in shown) ≡ w.text → text_in shown ≡ w.text
all_written h p w write shown writes the_open all long continues =
    let octets : length_of write ≡ w.octets =
    ap (λ (t : Token). t.length) (ap token_view (sym the_open) ∙ writes.token) in
    let whole = whole_text w writes.text (sym writes.written ∙ all ∙ ap size_of octets) in
    sym (take_all (length w.text) (text_in shown) (omega (arith, long, octets, whole))) ∙ continues

module _ (trusted : Bool) (register : Shelves) (h : History) (write : Open) (shown : Where Record)
    (numbers : List (Option (Where Record)))
    (is : IsWrittenAs register write shown) (begun : Continues (text_in shown) h)
    (numbered : AreNumbered trusted register h numbers)
    (room : length numbers ≡ h.buffer.blocks) where
  -- as many octets as the write has
  long : length (text_in shown) ≡ length_of write
  long = is.octets ∙ sym (ap (λ (t : Token). t.length) is.named)

  abbrev after : List (Option (Where Record))
  after = set numbers (token_of write).first (Some shown)

  numbered_by : (r : BufferState) (p : Option Progress) (o : Option Writing) → h.writing ≡ o
      → r.progress ≡ p → Keeps r h
      → Writes h p o → IsTheOpen write p → written_of p ≡ size_of (length_of write)
      → ContinuesIn (text_in shown) o
      → AreNumbered trusted register (with_finish h) after
  numbered_by r None o is_o is_p keeps writes the_open all continues = absurd the_open
  numbered_by r (Some p) None is_o is_p keeps writes the_open all continues = absurd writes
  numbered_by r (Some p) (Some w) is_o is_p keeps writes the_open all continues =
      let begun = newest h.buffer writes.earlier writes.fresh w in
      let h_is : h ≡ old_history h.buffer writes.earlier writes.fresh w =
      ap (λ (b : List Begin). history_of h.buffer b h.writing) writes.newest
      ∙ ap (history_of h.buffer (begun ∷ writes.earlier)) is_o in
      let at = place h.buffer writes.earlier writes.fresh w in
      let text = all_written h p w write shown writes the_open all long continues in
      let token : token_in shown ≡ token_at h.buffer at w.class w.octets =
      sym is.named ∙ ap token_view (sym the_open) ∙ writes.token in
      let within : (token_of write).first < length numbers = omega (
        arith,
        first_within r p write is_p the_open,
        room,
        ap (λ (b : places.Buffer). b.blocks) keeps.buffer,
      ) in
      let starts : (token_of write).first ≡ at.used =
      ap (λ (t : Token). t.first) (is.named ∙ token) in
      subst (λ (k : History). AreNumbered trusted register (with_finish k) after) (sym h_is)
      (λ cycle first article finished live.
      elim (finished_now h.buffer writes.earlier writes.fresh w cycle first article finished) [
        | inl q ↦
            let parts = at_parts h.buffer at cycle first q.0 in
            let whole : length w.text ≡ w.octets =
            sym (ap length text) ∙ long ∙ ap (λ (t : Token). t.length) (is.named ∙ token) in
            subst (λ n. HasRecord trusted register h.buffer cycle first article (number_at after n))
            (starts ∙ parts.1)
            (subst (HasRecord trusted register h.buffer cycle first article)
            (sym (get_or-set_same numbers (token_of write).first (Some shown) None within))
            (record {
              shows = is.shows;
              text = λ honest. text ∙ ap (λ (a : Article). a.text) q.1;
              token = token ∙ (λ i. record {
                class = (q.1 i).class;
                buffer = h.buffer.number;
                cycle = parts.0 i;
                first = parts.1 i;
                length = (sym whole ∙ ap (λ (a : Article). length a.text) q.1) i;
              });
            }))
        | inr q ↦ elim (cases_order first (token_of write).first) [
          | inl e ↦ absurd (overwrites h.buffer writes.earlier begun cycle first article
              (omega (arith, writes.some))
              (lies h.buffer writes.earlier cycle first article
              (subst (AllByRecursion (IsSized h.buffer.blocks)) writes.newest keeps.sizes).1
              (was_finished h.buffer writes.earlier begun cycle first article refl q))
              (sym starts ∙ sym e) live.here)
          | inr o ↦ subst (HasRecord trusted register h.buffer cycle first article)
              (sym (get_or-set_other numbers (token_of write).first first (Some shown) None
              (λ e. apart e o)))
              (subst (λ (k : History). AreNumbered trusted register k numbers) h_is
              numbered cycle first
              article q live)
        ]
      ])

  -- after a finish each live finished article has its number
  pub numbered_finish : (r : BufferState) → Keeps r h → IsTheOpen write r.progress
      → written_of r.progress ≡ size_of (length_of write)
      → AreNumbered trusted register (with_finish h) after
  numbered_finish r keeps the_open all =
      numbered_by r r.progress h.writing refl refl keeps keeps.writing the_open all begun
