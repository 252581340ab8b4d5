-- What a finish does to a register that agrees with a history.
use Rattle.std.proofs.Common.{◌≡◌, ◌∙◌, ℕ, ◌+◌, ◌-◌, ◌*◌, ◌^◌, ◌↔◌, ◌<◌, ◌≤◌, ◌⊎◌, inl, inr, nat_le}
use Rattle.std.proofs.Common.{nat_lt, min, Bool, true, false, refl, sym, ap, subst, arith, cond}
use Rattle.std.proofs.Common.{List, ◌∷◌, length, Option, None, Some}
use Rattle.std.proofs.lemmas.Bool.{cond-true, cond-false, cases_Bool, and_parts, and_from, leb-true}
use Rattle.std.proofs.lemmas.Bool.{ltb-true, le-leb, lt-ltb}
use Rattle.news_terms.specs.BlockImage.{chunk_size}
use Rattle.news_terms.specs.Places.{Buffer, Head, size_of}
use Rattle.cyc_buffer.specs.History.{Article, Begin, Writing, History, head_of, is_at, finished_at}
use Rattle.cyc_buffer.specs.History.{with_finish, token_at, stored_count}
use Rattle.news_terms.specs.Picks.{place_after}
use Rattle.cyc_buffer.specs.BufferState.{IsStart, IsKept, IsKeptWhole, IsUnpassed, Writes, Keeps}
use Rattle.cyc_buffer.specs.BufferState.{buffer_of}
use Rattle.cyc_buffer.specs.Marks.{is_marked, is_among, marked_after}
use Rattle.cyc_buffer.specs.Progress.{IsTheOpen, written_of}
use Rattle.cyc_buffer.specs.declared.line.Line.{Line}
use Rattle.cyc_buffer.specs.declared.buffer_state.Open.{Open}
use Rattle.news_terms.specs.Token as tokens
use Rattle.cyc_buffer.specs.declared.buffer_state.Progress.{Progress}
use Rattle.cyc_buffer.specs.declared.buffer_state.BufferState.{BufferState}
use Rattle.cyc_token.specs.Token.{token_view}
use Rattle.cyc_buffer.proofs.Places.{chosen}
use Rattle.cyc_buffer.proofs.Finished.{none_is_none, same_some, at_parts, at_itself}

-- a history of these parts
abbrev pub history_of : Buffer → List Begin → Option Writing → History
history_of buffer begins writing = record { buffer = buffer; begins = begins; writing = writing }

-- a block among some
pub among : (from to j : ℕ) → from ≤ j → j < to → is_among from to j ≡ true
among from to j h k = and_from (nat_le from j) (nat_lt j to) (le-leb from j h) (lt-ltb j to k)

pub among_parts : (from to j : ℕ) → is_among from to j ≡ true → (from ≤ j) × (j < to)
among_parts from to j e = let p = and_parts (nat_le from j) (nat_lt j to) e in
    (leb-true from j p.0, ltb-true j to p.1)

-- a mark that is set stays set
pub set_stays : (p : Bool) → cond p true true ≡ true
set_stays true = refl
set_stays false = refl

-- the text of an open write of which all is written is as long as the article
pub whole_text : (w : Writing) → length w.text ≡ min (chunk_size * w.blocks) w.octets
    → w.blocks ≡ size_of w.octets → length w.text ≡ w.octets
whole_text w e all = omega (arith, e, all)

module _ (buffer : Buffer) (earlier : List Begin) (fresh : Bool) (w : Writing) where
  abbrev pub newest : Begin
  newest = record { size = size_of w.octets; fresh = fresh; finished = None }

  abbrev pub written : Article
  written = record { class = w.class; text = w.text }

  abbrev pub done : Begin
  done = record { size = size_of w.octets; fresh = fresh; finished = Some written }

  abbrev pub place : Head
  place = place_after buffer.blocks (head_of buffer.blocks earlier) fresh (size_of w.octets)

  -- what is finished after it was so before, or is the newest
  pub finished_now : (cycle first : ℕ) (article : Article)
      → finished_at buffer (done ∷ earlier) cycle first ≡ Some article
      → ((is_at buffer place cycle first ≡ true) × (written ≡ article))
      ⊎ (finished_at buffer (newest ∷ earlier) cycle first ≡ Some article)
  finished_now cycle first article e =
      elim (chosen (is_at buffer place cycle first) (Some written)
      (finished_at buffer earlier cycle first) (Some article) e) [
        | inl p ↦ inl (p.0, same_some p.1)
        | inr p ↦ inr (cond-false (is_at buffer place cycle first) None
            (finished_at buffer earlier cycle first) p.0 ∙ p.1)
      ]

  -- what was finished before is so after
  pub finished_still : (cycle first : ℕ) (article : Article)
      → finished_at buffer (newest ∷ earlier) cycle first ≡ Some article
      → finished_at buffer (done ∷ earlier) cycle first ≡ Some article
  finished_still cycle first article e =
      elim (chosen (is_at buffer place cycle first) None (finished_at buffer earlier cycle first)
      (Some article) e) [
        | inl p ↦ absurd (none_is_none p.1)
        | inr p ↦ cond-false (is_at buffer place cycle first) (Some written)
            (finished_at buffer earlier cycle first) p.0 ∙ p.1
      ]

  -- and the newest is
  pub finished_newest : finished_at buffer (done ∷ earlier) (buffer.first_cycle + place.run)
      place.used ≡ Some written
  finished_newest = cond-true (is_at buffer place (buffer.first_cycle + place.run) place.used)
      (Some written)
      (finished_at buffer earlier (buffer.first_cycle + place.run) place.used)
      (at_itself buffer place)

  abbrev pub old_history : History
  old_history = record { buffer = buffer; begins = newest ∷ earlier; writing = Some w }

  abbrev pub new_history : History
  new_history = record { buffer = buffer; begins = done ∷ earlier; writing = None }

module _ (old new : BufferState) (buffer : Buffer) (earlier : List Begin)
    (fresh : Bool) (w : Writing)
    (keeps : Keeps old (old_history buffer earlier fresh w))
    (some : 1 ≤ w.octets) (class_fits : w.class < 2 ^ 8) (octets_fit : w.octets < 2 ^ 32)
    (whole : length w.text ≡ w.octets)
    (line : new.line ≡ old.line)
    (starts : (j : ℕ) → is_marked new.starts.words.items j
    ≡ marked_after (place buffer earlier fresh w).used
    ((place buffer earlier fresh w).used + 1) true j (is_marked old.starts.words.items j))
    (kept : (j : ℕ) → is_marked new.kept.words.items j
    ≡ marked_after (place buffer earlier fresh w).used
    ((place buffer earlier fresh w).used + size_of w.octets) true j
    (is_marked old.kept.words.items j))
    (begun : new.counts.begun ≡ old.counts.begun)
    (stored : new.counts.stored ≡ old.counts.stored + 1)
    (progress : new.progress ≡ None) where
  abbrev at : Head
  at = place buffer earlier fresh w

  abbrev now : History
  now = new_history buffer earlier fresh w

  -- the blocks of the article aren't passed
  unpassed_now : (j : ℕ) → j < at.used + size_of w.octets
      → IsUnpassed new.line (buffer.first_cycle + at.run) j
  unpassed_now j h = inl (
    sym keeps.cycle ∙ sym (ap (λ (l : Line). l.cycle) line),
    omega (arith, h, keeps.used, ap (λ (l : Line). l.used) line),
  )

  size_is : size_of (length w.text) ≡ size_of w.octets
  size_is = ap size_of whole

  has_size : 1 ≤ size_of w.octets
  has_size = omega (arith, some)

  keeps_starts : (block : ℕ) → block < new.line.blocks
      → (is_marked new.starts.words.items block ≡ true) ↔ IsStart new.line now block
  keeps_starts block within = (
    (λ t. elim (cases_Bool (is_among at.used (at.used + 1) block)) [
      | inl e ↦
          let here = among_parts at.used (at.used + 1) block e in
          let same : at.used ≡ block = omega (arith, here.0, here.1) in
          record {
            cycle = buffer.first_cycle + at.run;
            article = written buffer earlier fresh w;
            finished = subst (λ j. finished_at buffer (done buffer earlier fresh w ∷ earlier)
                (buffer.first_cycle + at.run) j ≡ Some (written buffer earlier fresh w)) same
                (finished_newest buffer earlier fresh w);
            unpassed = unpassed_now block (omega (arith, same, has_size));
          }
      | inr e ↦
          let was = (keeps.starts block (omega (arith, within, ap (λ (l : Line). l.blocks) line))).0
          (sym (cond-false (is_among at.used (at.used + 1) block) true
          (is_marked old.starts.words.items block) e) ∙ sym (starts block) ∙ t) in
          record {
            cycle = was.cycle;
            article = was.article;
            finished = finished_still buffer earlier fresh w was.cycle block was.article
                was.finished;
            unpassed = subst (λ (l : Line). IsUnpassed l was.cycle block) (sym line) was.unpassed;
          }
    ]),
    (λ s. elim (finished_now buffer earlier fresh w s.cycle block s.article s.finished) [
      | inl p ↦
          let same = (at_parts buffer at s.cycle block p.0).1 in
          starts block ∙ cond-true (is_among at.used (at.used + 1) block) true
          (is_marked old.starts.words.items block)
          (among at.used (at.used + 1) block (omega (arith, same)) (omega (arith, same)))
      | inr p ↦
          let was = (keeps.starts block (omega (arith, within, ap (λ (l : Line). l.blocks) line))).1
          (record {
            cycle = s.cycle;
            article = s.article;
            finished = p;
            unpassed = subst (λ (l : Line). IsUnpassed l s.cycle block) line s.unpassed;
          }) in
          starts block ∙ ap (cond (is_among at.used (at.used + 1) block) true) was
          ∙ set_stays (is_among at.used (at.used + 1) block)
    ]),
  )

  keeps_kept : (block : ℕ) → block < new.line.blocks
      → (is_marked new.kept.words.items block ≡ true → IsKept new.line now block)
      × (IsKeptWhole new.line now block → is_marked new.kept.words.items block ≡ true)
  keeps_kept block within = (
    (λ t. elim (cases_Bool (is_among at.used (at.used + size_of w.octets) block)) [
      | inl e ↦
          let here = among_parts at.used (at.used + size_of w.octets) block e in
          record {
            cycle = buffer.first_cycle + at.run;
            first = at.used;
            index = block - at.used;
            article = written buffer earlier fresh w;
            finished = finished_newest buffer earlier fresh w;
            inside = omega (arith, here.0, here.1, size_is);
            here = omega (arith, here.0);
            unpassed = unpassed_now block here.1;
          }
      | inr e ↦
          let was = (keeps.kept block (omega (arith, within, ap (λ (l : Line). l.blocks) line))).0
          (sym (cond-false (is_among at.used (at.used + size_of w.octets) block) true
          (is_marked old.kept.words.items block) e) ∙ sym (kept block) ∙ t) in
          record {
            cycle = was.cycle;
            first = was.first;
            index = was.index;
            article = was.article;
            finished = finished_still buffer earlier fresh w was.cycle was.first was.article
                was.finished;
            inside = was.inside;
            here = was.here;
            unpassed = subst (λ (l : Line). IsUnpassed l was.cycle block) (sym line) was.unpassed;
          }
    ]),
    (λ (v : IsKeptWhole new.line now block).
        let s = v.kept in
        elim (finished_now buffer earlier fresh w s.cycle s.first s.article s.finished) [
          | inl p ↦
              let same = (at_parts buffer at s.cycle s.first p.0).1 in
              let size : size_of (length s.article.text) ≡ size_of w.octets =
              ap (λ (a : Article). size_of (length a.text)) (sym p.1) ∙ size_is in
              kept block ∙ cond-true (is_among at.used (at.used + size_of w.octets) block) true
              (is_marked old.kept.words.items block)
              (among at.used (at.used + size_of w.octets) block (omega (arith, same, s.here))
              (omega (arith, same, s.here, s.inside, size)))
          | inr p ↦
              let same_blocks = ap (λ (l : Line). l.blocks) line in
              let was = (keeps.kept block (omega (arith, within, same_blocks))).1
              (record {
                kept = record {
                  cycle = s.cycle;
                  first = s.first;
                  index = s.index;
                  article = s.article;
                  finished = p;
                  inside = s.inside;
                  here = s.here;
                  unpassed = subst (λ (l : Line). IsUnpassed l s.cycle block) line s.unpassed;
                };
                start = subst (λ (l : Line). IsUnpassed l s.cycle s.first) line v.start;
              }) in
              kept block ∙ ap (cond (is_among at.used (at.used + size_of w.octets) block) true) was
              ∙ set_stays (is_among at.used (at.used + size_of w.octets) block)
        ]),
  )

  -- one more is stored
  stored_is : new.counts.stored ≡ stored_count (done buffer earlier fresh w ∷ earlier)
  stored_is = omega (arith, stored, keeps.stored)

  pub keeps_finish : Keeps new now
  keeps_finish = record {
    buffer = keeps.buffer ∙ sym (ap buffer_of line);
    cycle = ap (λ (l : Line). l.cycle) line ∙ keeps.cycle;
    used = ap (λ (l : Line). l.used) line ∙ keeps.used;
    sizes = (
      record {
        some = keeps.sizes.0.some;
        within = keeps.sizes.0.within;
        finished = record {
          size = size_is;
          class = class_fits;
          octets = omega (arith, whole, octets_fit);
        };
      },
      keeps.sizes.1,
    );
    starts = keeps_starts;
    kept = keeps_kept;
    begun = begun ∙ keeps.begun;
    stored = stored_is;
    writing = subst (λ (p : Option Progress). Writes now p None) (sym progress) tt;
  }

-- A finish of the open write that a history has.
module _ (old new : BufferState) (h : History) (write : Open) (keeps : Keeps old h)
    (line : new.line ≡ old.line)
    (starts : (j : ℕ) → is_marked new.starts.words.items j
    ≡ marked_after write.token.first (write.token.first + 1) true j
    (is_marked old.starts.words.items j))
    (kept : (j : ℕ) → is_marked new.kept.words.items j
    ≡ marked_after write.token.first (write.token.first + size_of write.token.length) true j
    (is_marked old.kept.words.items j))
    (begun : new.counts.begun ≡ old.counts.begun)
    (stored : new.counts.stored ≡ old.counts.stored + 1)
    (progress : new.progress ≡ None) where
  -- the progress and the open write, as they are
  finish_by : (p : Option Progress) (o : Option Writing) → h.writing ≡ o → Writes h p o
      → IsTheOpen write p
      → written_of p ≡ size_of write.token.length → Keeps new (with_finish h)
  finish_by None o is writes the_open all = absurd the_open
  finish_by (Some p) None is writes the_open all = absurd writes
  finish_by (Some p) (Some w) is writes the_open all =
      let h_is : h ≡ old_history h.buffer writes.earlier writes.fresh w =
      ap (λ (b : List Begin). history_of h.buffer b h.writing) writes.newest
      ∙ ap (history_of h.buffer (newest h.buffer writes.earlier writes.fresh w ∷ writes.earlier))
      is in
      let token : token_view write.token ≡ token_at h.buffer
      (place h.buffer writes.earlier writes.fresh w) w.class w.octets =
      ap token_view (sym the_open) ∙ writes.token in
      let first = ap (λ (t : tokens.Token). t.first) token in
      let octets = ap (λ (t : tokens.Token). t.length) token in
      subst (Keeps new) (sym (ap with_finish h_is))
      (keeps_finish old new h.buffer writes.earlier writes.fresh w (subst (Keeps old) h_is keeps)
      writes.some writes.class writes.octets
      (whole_text w writes.text (sym writes.written ∙ all ∙ ap size_of octets)) line
      (λ j. starts j ∙ ap (λ n. marked_after n (n + 1) true j (is_marked old.starts.words.items j))
      first)
      (λ j. kept j ∙ ap (λ n. marked_after n (n + size_of write.token.length) true j
      (is_marked old.kept.words.items j)) first
      ∙ ap (λ n. marked_after (place h.buffer writes.earlier writes.fresh w).used
      ((place h.buffer writes.earlier writes.fresh w).used + size_of n) true j
      (is_marked old.kept.words.items j)) octets)
      begun stored progress)

  pub keeps_finish_of : IsTheOpen write old.progress
      → written_of old.progress ≡ size_of write.token.length → Keeps new (with_finish h)
  keeps_finish_of = finish_by old.progress h.writing refl keeps.writing
