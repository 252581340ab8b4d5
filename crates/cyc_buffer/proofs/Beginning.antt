-- What a begin does to a register that agrees with a history.
use Rattle.std.proofs.Common.{◌≡◌, ◌∙◌, ℕ, ◌+◌, ◌^◌, ◌↔◌, ◌<◌, ◌≤◌, Bool, true, false, refl, sym}
use Rattle.std.proofs.Common.{ap, subst, arith, cond, ◌∷◌, length, Option, None, Some}
use Rattle.std.proofs.Math.Nat.{add-zero}
use Rattle.std.proofs.lemmas.Bool.{cond-false, false≢true}
use Rattle.news_terms.specs.Places.{Buffer, Head, size_of}
use Rattle.cyc_buffer.specs.History.{Article, Begin, head_of, finished_at}
use Rattle.news_terms.specs.Picks.{place_after, head_past}
use Rattle.cyc_buffer.specs.BufferState.{IsStart, IsKept, IsKeptWhole, IsUnpassed, Writes, Keeps}
use Rattle.cyc_buffer.specs.BufferState.{IsUnpassedBy, buffer_of, line_head, is_passed, mark_passed}
use Rattle.cyc_buffer.specs.History.{History, with_begin}
use Rattle.cyc_buffer.specs.Marks.{is_marked}
use Rattle.cyc_buffer.specs.Progress.{started}
use Rattle.cyc_buffer.specs.declared.buffer_state.BufferState.{BufferState}
use Rattle.cyc_token.specs.Token.{token_view}
use Rattle.news_terms.specs.Token as tokens
use Rattle.cyc_buffer.specs.declared.buffer_state.Progress.{Progress}
use Rattle.cyc_token.specs.declared.Token.{Token}
use Rattle.cyc_buffer.proofs.Places.{passes}
use Rattle.cyc_buffer.proofs.Keeping.{as_cycles, place_shifted, block_before, block_after, line_is}
use Rattle.cyc_buffer.proofs.Finished.{lies, was_finished}

-- a mark that a begin leaves was there, and its block isn't passed
left_marked : (new old p : Bool) → new ≡ cond p false old → new ≡ true → (p ≡ false) × (old ≡ true)
left_marked new old true e t = absurd (false≢true (sym e ∙ t))
left_marked new old false e t = (refl, sym e ∙ t)

-- a mark of a block that isn't passed is left
stays_marked : (new old p : Bool) → new ≡ cond p false old → p ≡ false → old ≡ true → new ≡ true
stays_marked new old p e q t = e ∙ cond-false p false old q ∙ t

-- a block is unpassed, where the head is here
abbrev IsHeldAt : Head → (cycle block : ℕ) → Type 0
IsHeldAt head cycle block = IsUnpassedBy head.run head.used cycle block

-- a token of these parts
abbrev token_of : (class buffer cycle first octets : ℕ) → tokens.Token
token_of class buffer cycle first octets =
    record { class = class; buffer = buffer; cycle = cycle; first = first; length = octets }

-- an article has a block
size_some : (octets : ℕ) → 1 ≤ octets → 1 ≤ size_of octets
size_some octets h = omega (arith, h)

module _ (old new : BufferState) (h : History) (class octets : ℕ) (fresh : Bool) (at : Head)
    (token : Token)
    (some : 1 ≤ octets) (class_fits : class < 2 ^ 8) (octets_fit : octets < 2 ^ 32)
    (room : size_of octets ≤ old.line.blocks)
    (placed_at : at ≡ place_after old.line.blocks (line_head old.line) fresh (size_of octets))
    (head : line_head new.line ≡ head_past at (size_of octets))
    (buffer : buffer_of new.line ≡ buffer_of old.line)
    (starts : (j : ℕ) → is_marked new.starts.words.items j
    ≡ mark_passed old.line at (size_of octets) j (is_marked old.starts.words.items j))
    (kept : (j : ℕ) → is_marked new.kept.words.items j
    ≡ mark_passed old.line at (size_of octets) j (is_marked old.kept.words.items j))
    (begun : new.counts.begun ≡ old.counts.begun + 1)
    (stored : new.counts.stored ≡ old.counts.stored)
    (progress : new.progress ≡ started token)
    (token_is : token_view token ≡ token_of class old.line.number at.run at.used octets)
    (keeps : Keeps old h) where
  abbrev next : Begin
  next = record { size = size_of octets; fresh = fresh; finished = None }

  abbrev before : Head
  before = head_of h.buffer.blocks h.begins

  abbrev place : Head
  place = place_after h.buffer.blocks before fresh (size_of octets)

  -- the place, in cycles, is the one that the line gives
  at_is : at ≡ as_cycles h.buffer place
  at_is = placed_at ∙ ap (λ (o : Head). place_after old.line.blocks o fresh (size_of octets))
      (line_is old h keeps)
      ∙ ap (λ (b : Buffer). place_after b.blocks (as_cycles h.buffer before) fresh (size_of octets))
      (sym keeps.buffer)
      ∙ place_shifted h.buffer before fresh (size_of octets)

  -- the new head, in cycles
  head_is : line_head new.line ≡ head_past (as_cycles h.buffer place) (size_of octets)
  head_is = head ∙ ap (λ (a : Head). head_past a (size_of octets)) at_is

  -- what is passed, said of the history
  passed_is : (j : ℕ) → is_passed old.line at (size_of octets) j
      ≡ passes h.buffer.blocks (h.buffer.first_cycle + before.run) before.used
      (h.buffer.first_cycle + place.run) place.used (size_of octets) j
  passed_is j =
      ap (λ (a : Head). is_passed old.line a (size_of octets) j) at_is
      ∙ ap (λ (o : Head). passes old.line.blocks o.run o.used (h.buffer.first_cycle + place.run)
      place.used (size_of octets) j) (line_is old h keeps)
      ∙ ap (λ (b : Buffer). passes b.blocks (h.buffer.first_cycle + before.run) before.used
      (h.buffer.first_cycle + place.run) place.used (size_of octets) j) (sym keeps.buffer)

  -- a block of an article that isn't passed after the begin
  was_here : (since first index : ℕ) (article : Article)
      → finished_at h.buffer (next ∷ h.begins) since first ≡ Some article
      → index < size_of (length article.text) → IsUnpassed new.line since (first + index)
      → (finished_at h.buffer h.begins since first ≡ Some article)
      × IsUnpassed old.line since (first + index)
      × (is_passed old.line at (size_of octets) (first + index) ≡ false)
  was_here since first index article finished inside unpassed =
      let b = block_before h.buffer h.begins next since first index article keeps.sizes refl
      finished inside
      (subst (λ (o : Head). IsHeldAt o since (first + index)) head_is unpassed) in (
        b.0,
        subst (λ (o : Head). IsHeldAt o since (first + index)) (sym (line_is old h keeps)) b.1,
        passed_is (first + index) ∙ b.2,
      )

  -- a block of an article that wasn't passed, and isn't by the begin
  stays_here : (since first index : ℕ) (article : Article)
      → finished_at h.buffer h.begins since first ≡ Some article
      → index < size_of (length article.text) → IsUnpassed old.line since (first + index)
      → is_passed old.line at (size_of octets) (first + index) ≡ false
      → (finished_at h.buffer (next ∷ h.begins) since first ≡ Some article)
      × IsUnpassed new.line since (first + index)
  stays_here since first index article finished inside unpassed p =
      let b = block_after h.buffer h.begins next since first index article keeps.sizes finished
      inside
      (subst (λ (o : Head). IsHeldAt o since (first + index)) (line_is old h keeps) unpassed)
      (sym (passed_is (first + index)) ∙ p) in
      (b.0, subst (λ (o : Head). IsHeldAt o since (first + index)) (sym head_is) b.1)

  -- the article of a place has some blocks
  has_some : (since first : ℕ) (article : Article)
      → finished_at h.buffer h.begins since first ≡ Some article
      → 0 < size_of (length article.text)
  has_some since first article finished =
      (lies h.buffer h.begins since first article keeps.sizes finished).some

  keeps_starts : (block : ℕ) → block < new.line.blocks
      → (is_marked new.starts.words.items block ≡ true)
      ↔ IsStart new.line (with_begin class octets fresh h) block
  keeps_starts block within = (
    (λ t.
        let m = left_marked (is_marked new.starts.words.items block)
        (is_marked old.starts.words.items block) (is_passed old.line at (size_of octets) block)
        (starts block) t in
        let s = (keeps.starts block (omega (arith, within, ap (λ (b : Buffer). b.blocks) buffer))).0
        m.1 in
        let b = stays_here s.cycle block 0 s.article s.finished
        (has_some s.cycle block s.article s.finished)
        (subst (IsUnpassed old.line s.cycle) (sym (add-zero block)) s.unpassed)
        (ap (is_passed old.line at (size_of octets)) (add-zero block) ∙ m.0) in
        record {
          cycle = s.cycle;
          article = s.article;
          finished = b.0;
          unpassed = subst (IsUnpassed new.line s.cycle) (add-zero block) b.1;
        }),
    (λ s.
        let was = was_finished h.buffer h.begins next s.cycle block s.article refl s.finished in
        let b = was_here s.cycle block 0 s.article s.finished (has_some s.cycle block s.article was)
        (subst (IsUnpassed new.line s.cycle) (sym (add-zero block)) s.unpassed) in
        stays_marked (is_marked new.starts.words.items block)
        (is_marked old.starts.words.items block) (is_passed old.line at (size_of octets) block)
        (starts block) (ap (is_passed old.line at (size_of octets)) (sym (add-zero block)) ∙ b.2)
        ((keeps.starts block (omega (arith, within, ap (λ (b : Buffer). b.blocks) buffer))).1
        (record {
          cycle = s.cycle;
          article = s.article;
          finished = b.0;
          unpassed = subst (IsUnpassed old.line s.cycle) (add-zero block) b.1;
        }))),
  )

  keeps_kept : (block : ℕ) → block < new.line.blocks
      → (is_marked new.kept.words.items block ≡ true
      → IsKept new.line (with_begin class octets fresh h) block)
      × (IsKeptWhole new.line (with_begin class octets fresh h) block
      → is_marked new.kept.words.items block ≡ true)
  keeps_kept block within = (
    (λ t.
        let m = left_marked (is_marked new.kept.words.items block)
        (is_marked old.kept.words.items block) (is_passed old.line at (size_of octets) block)
        (kept block) t in
        let s = (keeps.kept block (omega (arith, within, ap (λ (b : Buffer). b.blocks) buffer))).0
        m.1 in
        let b = stays_here s.cycle s.first s.index s.article s.finished s.inside
        (subst (IsUnpassed old.line s.cycle) (sym s.here) s.unpassed)
        (ap (is_passed old.line at (size_of octets)) s.here ∙ m.0) in
        record {
          cycle = s.cycle;
          first = s.first;
          index = s.index;
          article = s.article;
          finished = b.0;
          inside = s.inside;
          here = s.here;
          unpassed = subst (IsUnpassed new.line s.cycle) s.here b.1;
        }),
    (λ (w : IsKeptWhole new.line (with_begin class octets fresh h) block).
        let s = w.kept in
        let b = was_here s.cycle s.first s.index s.article s.finished s.inside
        (subst (IsUnpassed new.line s.cycle) (sym s.here) s.unpassed) in
        let f = was_here s.cycle s.first 0 s.article s.finished
        (has_some s.cycle s.first s.article b.0)
        (subst (IsUnpassed new.line s.cycle) (sym (add-zero s.first)) w.start) in
        stays_marked (is_marked new.kept.words.items block) (is_marked old.kept.words.items block)
        (is_passed old.line at (size_of octets) block)
        (kept block) (ap (is_passed old.line at (size_of octets)) (sym s.here) ∙ b.2)
        ((keeps.kept block (omega (arith, within, ap (λ (b : Buffer). b.blocks) buffer))).1
        (record {
          kept = record {
            cycle = s.cycle;
            first = s.first;
            index = s.index;
            article = s.article;
            finished = b.0;
            inside = s.inside;
            here = s.here;
            unpassed = subst (IsUnpassed old.line s.cycle) s.here b.1;
          };
          start = subst (IsUnpassed old.line s.cycle) (add-zero s.first) f.1;
        }))),
  )

  -- the open write is the one that was begun
  first_writing : Writes (with_begin class octets fresh h) (started token)
      (with_begin class octets fresh h).writing
  first_writing = record {
    fresh = fresh;
    earlier = h.begins;
    newest = refl;
    token = token_is
        ∙ ap (λ (a : Head). token_of class old.line.number a.run a.used octets) at_is
        ∙ ap (λ (b : Buffer). token_of class b.number (h.buffer.first_cycle + place.run) place.used
        octets) (sym keeps.buffer);
    some = some;
    class = class_fits;
    octets = octets_fit;
    written = refl;
    broken = refl;
    within = omega arith;
    text = omega arith;
  }

  pub keeps_begin : Keeps new (with_begin class octets fresh h)
  keeps_begin = record {
    buffer = keeps.buffer ∙ sym buffer;
    cycle = ap (λ (o : Head). o.run) head_is;
    used = ap (λ (o : Head). o.used) head_is;
    sizes = (
      record {
        some = size_some octets some;
        within = omega (arith, room, ap (λ (b : Buffer). b.blocks) keeps.buffer);
        finished = tt;
      },
      keeps.sizes,
    );
    starts = keeps_starts;
    kept = keeps_kept;
    begun = omega (arith, begun, keeps.begun);
    stored = stored ∙ keeps.stored;
    writing = subst (λ (p : Option Progress). Writes (with_begin class octets fresh h) p
        (with_begin class octets fresh h).writing) (sym progress) first_writing;
  }
