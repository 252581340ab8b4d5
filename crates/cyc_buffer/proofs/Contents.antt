-- What the blocks of a buffer hold after each step.
use Rattle.std.proofs.Common.{◌≡◌, ◌∙◌, ℕ, ◌+◌, inl, inr, Bool, false, refl, sym, ap, subst, arith}
use Rattle.std.proofs.Common.{List, [], ◌∷◌, length, Option, None, Some}
use Rattle.news_terms.specs.BlockImage.{Block, block_of, block_image, chunk}
use Rattle.news_terms.specs.Places.{Head, size_of}
use Rattle.news_terms.specs.Token as tokens
use Rattle.cyc_block.specs.Store.{block_at}
use Rattle.cyc_token.specs.Token.{token_view}
use Rattle.cyc_buffer.specs.Agreement.{Holds, HoldsOpen, open_block}
use Rattle.cyc_buffer.specs.History.{Article, Begin, Writing, History, finished_at, with_begin}
use Rattle.cyc_buffer.specs.History.{with_finish}
use Rattle.cyc_buffer.specs.Progress.{IsTheOpen, written_of}
use Rattle.cyc_buffer.specs.BufferState.{IsUnpassed, IsUnpassedBy, Writes, Keeps}
use Rattle.cyc_buffer.specs.declared.line.Line.{Line}
use Rattle.cyc_buffer.specs.declared.buffer_state.Open.{Open}
use Rattle.cyc_buffer.specs.declared.buffer_state.Progress.{Progress}
use Rattle.cyc_buffer.specs.declared.buffer_state.BufferState.{BufferState}
use Rattle.cyc_buffer.proofs.Finished.{at_parts}
use Rattle.cyc_buffer.proofs.Keeping.{block_before, line_is}
use Rattle.cyc_buffer.proofs.Finishing.{newest, place, finished_now, old_history, whole_text}
use Rattle.cyc_buffer.proofs.Finishing.{history_of}

-- a block is unpassed, where the head is here
abbrev IsHeldAt : Head → (cycle block : ℕ) → Type 0
IsHeldAt head cycle block = IsUnpassedBy head.run head.used cycle block

-- of a write of which nothing is written no block is held
none_held : (blocks : List (List ℕ)) (p : Option Progress) (w : Writing) → w.blocks ≡ 0
    → HoldsOpen blocks p (Some w)
none_held blocks None w e = tt
none_held blocks (Some p) w e = λ k h. absurd (omega (arith, h, e))

-- after a begin the blocks hold what isn't passed
pub holds_begin : (blocks : List (List ℕ)) (old new : BufferState) (h : History) (class octets : ℕ)
    (fresh : Bool)
    → Keeps old h → Keeps new (with_begin class octets fresh h) → Holds blocks old h
    → Holds blocks new (with_begin class octets fresh h)
holds_begin blocks old new h class octets fresh keeps after holds =
    let next : Begin = record { size = size_of octets; fresh = fresh; finished = None } in
    record {
      articles = λ cycle first k article finished inside unpassed.
          let b = block_before h.buffer h.begins next cycle first k article keeps.sizes refl
          finished inside
          (subst (λ (o : Head). IsHeldAt o cycle (first + k))
          (line_is new (with_begin class octets fresh h) after) unpassed) in
          holds.articles cycle first k article b.0 inside
          (subst (λ (o : Head). IsHeldAt o cycle (first + k)) (sym (line_is old h keeps)) b.1);
      open_one = none_held blocks new.progress (record {
        class = class;
        octets = octets;
        text = [];
        blocks = 0;
        broken = false;
      }) refl;
    }

-- where no write is open, nothing is held of one
pub no_open : (blocks : List (List ℕ)) (p : Option Progress) → HoldsOpen blocks p None
no_open blocks None = tt
no_open blocks (Some p) = tt

-- a block of an article, its length as it is told
abbrev made : (cycle first octets class k : ℕ) → List ℕ → Block
made cycle first octets class k text =
    record {
      cycle = cycle;
      first = first;
      index = k;
      article_length = octets;
      class = class;
      payload = chunk k text;
    }

-- a block of an open write of which all is written is one of its article
article_block : (p : Progress) (w : Writing) (cycle first k : ℕ) → p.token.cycle ≡ cycle
    → p.token.first ≡ first
    → length w.text ≡ w.octets → open_block p w k ≡ block_of cycle first w.class w.text k
article_block p w cycle first k same_cycle same_first whole =
    ap (λ n. made n p.token.first w.octets w.class k w.text) same_cycle
    ∙ ap (λ n. made cycle n w.octets w.class k w.text) same_first
    ∙ ap (λ n. made cycle first n w.class k w.text) (sym whole)

module _ (blocks : List (List ℕ)) (old new : BufferState) (h : History) (write : Open)
    (keeps : Keeps old h)
    (line : new.line ≡ old.line) (holds : Holds blocks old h) where
  finish_holds_by : (p : Option Progress) (o : Option Writing) → h.writing ≡ o → old.progress ≡ p
      → Writes h p o → IsTheOpen write p
      → written_of p ≡ size_of write.token.length → HoldsOpen blocks p o
      → Holds blocks new (with_finish h)
  finish_holds_by None o is_o is_p writes the_open all open_held = absurd the_open
  finish_holds_by (Some p) None is_o is_p writes the_open all open_held = absurd writes
  finish_holds_by (Some p) (Some w) is_o is_p writes the_open all open_held =
      let h_is : h ≡ old_history h.buffer writes.earlier writes.fresh w =
      ap (λ (b : List Begin). history_of h.buffer b h.writing) writes.newest
      ∙ ap (history_of h.buffer (newest h.buffer writes.earlier writes.fresh w ∷ writes.earlier))
      is_o in
      let octets : write.token.length ≡ w.octets =
      ap (λ (t : tokens.Token). t.length) (ap token_view (sym the_open) ∙ writes.token) in
      let full : w.blocks ≡ size_of w.octets = sym writes.written ∙ all ∙ ap size_of octets in
      let whole = whole_text w writes.text full in
      let at = place h.buffer writes.earlier writes.fresh w in
      subst (Holds blocks new) (sym (ap with_finish h_is)) (record {
        articles = λ cycle first k article finished inside unpassed.
            elim (finished_now h.buffer writes.earlier writes.fresh w cycle first article
            finished) [
              | inl q ↦
                  let parts = at_parts h.buffer at cycle first q.0 in
                  let same_first = ap (λ (t : tokens.Token). t.first) writes.token ∙ parts.1 in
                  ap (λ n. block_at blocks (n + k)) (sym same_first)
                  ∙ open_held k (omega (
                    arith,
                    inside,
                    ap (λ (a : Article). size_of (length a.text)) q.1,
                    ap size_of whole,
                    full,
                  ))
                  ∙ ap block_image (article_block p w cycle first k
                  (ap (λ (t : tokens.Token). t.cycle) writes.token ∙ parts.0) same_first whole)
                  ∙ ap (λ (a : Article). block_image (block_of cycle first a.class a.text k)) q.1
              | inr q ↦ holds.articles cycle first k article
                  (ap (λ (b : List Begin). finished_at h.buffer b cycle first) writes.newest ∙ q)
                  inside
                  (subst (λ (l : Line). IsUnpassed l cycle (first + k)) line unpassed)
            ];
        open_one = no_open blocks new.progress;
      })

  pub holds_finish : IsTheOpen write old.progress
      → written_of old.progress ≡ size_of write.token.length → Holds blocks new (with_finish h)
  holds_finish the_open all = finish_holds_by old.progress h.writing refl refl keeps.writing
      the_open all holds.open_one
