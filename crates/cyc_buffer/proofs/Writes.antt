-- What a write of the next block does.
use Rattle.std.proofs.Common.{◌≡◌, ◌≢◌, ◌∙◌, ℕ, ◌+◌, ◌-◌, ◌*◌, ◌<◌, ◌≤◌, ◌⊎◌, inl, inr, min, Bool}
use Rattle.std.proofs.Common.{true, false, refl, sym, ap, subst, arith, List, [], ◌∷◌, length, take}
use Rattle.std.proofs.Common.{drop, set, Result, Ok, Err, is_err, OnOk, Option, None, Some}
use Rattle.std.specs.List.{AllByRecursion}
use Rattle.std.specs.Prelude.{OnErr}
use Rattle.std.proofs.lemmas.Bool.{cases_lt, false≢true, true≢false}
use Rattle.std.proofs.lemmas.List.{take-take, take_all, drop-take, length-take, length-drop}
use Rattle.std.proofs.lemmas.List.{get_or-set_same}
use Rattle.news_terms.specs.BlockImage.{Block, block_of, block_image, chunk, chunk_size}
use Rattle.news_terms.specs.Places.{Buffer, Head, size_of}
use Rattle.news_terms.specs.Token as tokens
use Rattle.cyc_block.specs.Image.{stamped}
use Rattle.cyc_block.specs.Store.{block_at, ChangesOnly}
use Rattle.cyc_block.specs.declared.image.Stamp.{Stamp}
use Rattle.cyc_token.specs.Token.{token_view}
use Rattle.cyc_token.specs.declared.Token.{Token}
use Rattle.cyc_buffer.specs.Agreement.{Holds, HoldsOpen, open_block, ContinuesIn}
use Rattle.cyc_buffer.specs.History.{Article, Begin, Writing, History, head_of, finished_at}
use Rattle.cyc_buffer.specs.History.{token_at, with_next_block, as_broken, changed}
use Rattle.cyc_buffer.specs.Marks.{is_marked}
use Rattle.cyc_buffer.specs.Progress.{IsTheOpen, written_of, has_failed, counted, failed, stamp_of}
use Rattle.cyc_buffer.specs.BufferState.{IsSized, IsUnpassed, IsWriting, Writes, Keeps, Stays}
use Rattle.cyc_buffer.specs.BufferState.{buffer_of}
use Rattle.cyc_buffer.specs.declared.line.Line.{Line}
use Rattle.cyc_buffer.specs.declared.marks.Marks.{Marks}
use Rattle.cyc_buffer.specs.declared.buffer_state.Counts.{Counts}
use Rattle.cyc_buffer.specs.declared.buffer_state.Open.{Open}
use Rattle.cyc_buffer.specs.declared.buffer_state.Progress.{Progress}
use Rattle.cyc_buffer.specs.declared.buffer_state.BufferState.{BufferState}
use Rattle.cyc_buffer.proofs.Places.{placed}
use Rattle.cyc_buffer.proofs.Finished.{lies, was_finished}
use Rattle.cyc_buffer.proofs.Finishing.{newest, place, history_of}

-- a block of these parts
abbrev pub block_with : (cycle first k octets class : ℕ) → List ℕ → Block
block_with cycle first k octets class payload =
    record {
      cycle = cycle;
      first = first;
      index = k;
      article_length = octets;
      class = class;
      payload = payload;
    }

-- A register of which the progress alone is changed agrees with what is changed of the open write
-- alone.
pub keeps_stays : (old new : BufferState) (h : History) (o : Option Writing) → Stays old new
    → Writes (history_of h.buffer h.begins o) new.progress o → Keeps old h
    → Keeps new (history_of h.buffer h.begins o)
keeps_stays old new h o stays writes keeps = record {
  buffer = keeps.buffer ∙ sym (ap buffer_of stays.line);
  cycle = ap (λ (l : Line). l.cycle) stays.line ∙ keeps.cycle;
  used = ap (λ (l : Line). l.used) stays.line ∙ keeps.used;
  sizes = keeps.sizes;
  starts = λ block within.
      let was = keeps.starts block
      (omega (arith, within, ap (λ (l : Line). l.blocks) stays.line)) in (
        (λ t. let s = was.0 (ap (λ (m : Marks). is_marked m.words.items block) (sym stays.starts)
            ∙ t) in
            record {
              cycle = s.cycle;
              article = s.article;
              finished = s.finished;
              unpassed = subst (λ (l : Line). IsUnpassed l s.cycle block) (sym stays.line)
                  s.unpassed;
            }),
        (λ s. ap (λ (m : Marks). is_marked m.words.items block) stays.starts ∙ was.1
            (record {
              cycle = s.cycle;
              article = s.article;
              finished = s.finished;
              unpassed = subst (λ (l : Line). IsUnpassed l s.cycle block) stays.line s.unpassed;
            })),
      );
  kept = λ block within.
      let here = ap (λ (l : Line). l.blocks) stays.line in
      let was = keeps.kept block (omega (arith, within, here)) in (
        (λ t. let s = was.0 (ap (λ (m : Marks). is_marked m.words.items block) (sym stays.kept)
            ∙ t) in
            record {
              cycle = s.cycle;
              first = s.first;
              index = s.index;
              article = s.article;
              finished = s.finished;
              inside = s.inside;
              here = s.here;
              unpassed = subst (λ (l : Line). IsUnpassed l s.cycle block) (sym stays.line)
                  s.unpassed;
            }),
        (λ s. ap (λ (m : Marks). is_marked m.words.items block) stays.kept ∙ was.1
            (record {
              kept = record {
                cycle = s.kept.cycle;
                first = s.kept.first;
                index = s.kept.index;
                article = s.kept.article;
                finished = s.kept.finished;
                inside = s.kept.inside;
                here = s.kept.here;
                unpassed = subst (λ (l : Line). IsUnpassed l s.kept.cycle block) stays.line
                    s.kept.unpassed;
              };
              start = subst (λ (l : Line). IsUnpassed l s.kept.cycle s.kept.first) stays.line
                  s.start;
            })),
      );
  begun = ap (λ (n : Counts). n.begun) stays.counts ∙ keeps.begun;
  stored = ap (λ (n : Counts). n.stored) stays.counts ∙ keeps.stored;
  writing = writes;
}

-- a chunk of the front of a text is one of the text, where the front reaches so far
pub chunk_of_front : (k m : ℕ) (text : List ℕ)
    → (chunk_size * k + chunk_size ≤ m) ⊎ (length text ≤ m)
    → chunk k (take m text) ≡ chunk k text
chunk_of_front k m text (inr h) = ap (chunk k) (take_all m text h)
chunk_of_front k m text (inl h) =
    let split : m ≡ chunk_size * k + (m - chunk_size * k) = omega (arith, h) in
    ap (λ n. take chunk_size (drop (chunk_size * k) (take n text))) split
    ∙ ap (take chunk_size) (drop-take (chunk_size * k) (m - chunk_size * k) text)
    ∙ take-take chunk_size (m - chunk_size * k) (drop (chunk_size * k) text) (omega (arith, h))

-- no block of a finished article is one of the open write's, where it isn't passed
pub elsewhere : (buffer : Buffer) (earlier : List Begin) (fresh : Bool) (w : Writing) (line : Line)
    (cycle first k b : ℕ) (article : Article)
    → AllByRecursion (IsSized buffer.blocks) earlier
    → line.cycle ≡ buffer.first_cycle + (place buffer earlier fresh w).run
    → line.used ≡ (place buffer earlier fresh w).used + size_of w.octets
    → finished_at buffer (newest buffer earlier fresh w ∷ earlier) cycle first ≡ Some article
    → k < size_of (length article.text) → IsUnpassed line cycle (first + k) → b < size_of w.octets
    → first + k ≢ (place buffer earlier fresh w).used + b
elsewhere buffer earlier fresh w line cycle first k b article sized same_cycle same_used finished
    inside unpassed h e =
    let l = lies buffer earlier cycle first article sized
    (was_finished buffer earlier (newest buffer earlier fresh w) cycle first article refl
    finished) in
    elim unpassed [
      | inr u ↦ omega (arith, u.1, same_used, h, e)
      | inl u ↦ elim (placed buffer.blocks (head_of buffer.blocks earlier) fresh
          (size_of w.octets)) [
            | inl p ↦ elim l.before [
              | inl q ↦ omega (arith, u.0, same_cycle, p.0, q)
              | inr q ↦ omega (arith, p.1, q.1, inside, e)
            ]
            | inr p ↦ elim l.before [
              | inl q ↦ omega (arith, u.0, same_cycle, p.0, q)
              | inr q ↦ omega (arith, u.0, same_cycle, p.0, q.0)
            ]
          ]
    ]

-- a chunk of what is written is one of the text
chunk_written : (w : Writing) (text : List ℕ) (k : ℕ)
    → length w.text ≡ min (chunk_size * w.blocks) w.octets
    → length text ≡ w.octets → ContinuesIn text (Some w) → k < w.blocks
    → chunk k w.text ≡ chunk k text
chunk_written w text k written octets continues h =
    let reach : (chunk_size * k + chunk_size ≤ length w.text) ⊎ (length text ≤ length w.text) =
    elim (cases_lt (chunk_size * w.blocks) w.octets) [
      | inl u ↦ inl (omega (arith, written, u, h))
      | inr u ↦ inr (omega (arith, written, u, octets))
    ] in
    ap (chunk k) (sym continues) ∙ chunk_of_front k (length w.text) text reach

-- a chunk of the text is one of its front after one more block
chunk_next : (w : Writing) (text : List ℕ) (k : ℕ) → k ≤ w.blocks
    → chunk k text ≡ chunk k (with_next_block text w).text
chunk_next w text k h =
    sym (chunk_of_front k (chunk_size * (w.blocks + 1)) text (inl (omega (arith, h))))

-- What a write of one block leaves, where the open write is this one.
module _ (old new : BufferState) (h : History) (write : Open) (p : Progress) (w : Writing)
    (keeps : Keeps old h) (stays : Stays old new) (writes : IsWriting h p w)
    (the_open : p.token ≡ write.token) (left : p.written < size_of write.token.length) where
  abbrev at : Head
  at = place h.buffer writes.earlier writes.fresh w

  token_is : token_view write.token ≡ token_at h.buffer at w.class w.octets
  token_is = ap token_view (sym the_open) ∙ writes.token

  first_is : write.token.first ≡ at.used
  first_is = ap (λ (t : tokens.Token). t.first) token_is

  octets_is : write.token.length ≡ w.octets
  octets_is = ap (λ (t : tokens.Token). t.length) token_is

  class_is : write.token.class ≡ w.class
  class_is = ap (λ (t : tokens.Token). t.class) token_is

  left_is : w.blocks < size_of w.octets
  left_is = omega (arith, left, writes.written, ap size_of octets_is)

  -- the write failed
  fails_writing : IsWriting (history_of h.buffer h.begins (Some (as_broken w)))
      (record p { broken = true }) (as_broken w)
  fails_writing = record {
    fresh = writes.fresh;
    earlier = writes.earlier;
    newest = writes.newest;
    token = writes.token;
    some = writes.some;
    class = writes.class;
    octets = writes.octets;
    written = writes.written;
    broken = refl;
    within = writes.within;
    text = writes.text;
  }

  fails_keeps : new.progress ≡ failed (Some p)
      → Keeps new (history_of h.buffer h.begins (Some (as_broken w)))
  fails_keeps e = keeps_stays old new h (Some (as_broken w)) stays
      (subst (λ (q : Option Progress). Writes (history_of h.buffer h.begins (Some (as_broken w))) q
      (Some (as_broken w))) (sym e) fails_writing) keeps

  -- the block is written
  module _ (text : List ℕ) (octets : length text ≡ write.token.length)
      (continues : ContinuesIn text (Some w)) where
    next_writing : IsWriting (history_of h.buffer h.begins (Some (with_next_block text w)))
        (record p { written = p.written + 1 }) (with_next_block text w)
    next_writing = record {
      fresh = writes.fresh;
      earlier = writes.earlier;
      newest = writes.newest;
      token = writes.token;
      some = writes.some;
      class = writes.class;
      octets = writes.octets;
      written = omega (arith, writes.written);
      broken = writes.broken;
      within = omega (arith, left_is);
      text = length-take (chunk_size * (w.blocks + 1)) text
          ∙ ap (min (chunk_size * (w.blocks + 1))) (octets ∙ octets_is);
    }

    next_keeps : new.progress ≡ counted (Some p)
        → Keeps new (history_of h.buffer h.begins (Some (with_next_block text w)))
    next_keeps e = keeps_stays old new h (Some (with_next_block text w)) stays
        (subst (λ (q : Option Progress). Writes
        (history_of h.buffer h.begins (Some (with_next_block text w))) q
        (Some (with_next_block text w))) (sym e) next_writing) keeps

    -- a block of the open write as it was is one of it as it is
    same_block : (k : ℕ) → k < w.blocks → open_block p w k
        ≡ open_block (record p { written = p.written + 1 }) (with_next_block text w) k
    same_block k h = ap (block_with p.token.cycle p.token.first k w.octets w.class)
        (chunk_written w text k writes.text (octets ∙ octets_is) continues h
        ∙ chunk_next w text k (omega (arith, h)))

    new_block : stamped (stamp_of write.token p.written) (chunk p.written text)
        ≡ open_block (record p { written = p.written + 1 }) (with_next_block text w) w.blocks
    new_block =
        ap (λ (t : Token). block_with t.cycle t.first p.written t.length t.class
        (chunk p.written text)) (sym the_open)
        ∙ ap (λ n. block_with p.token.cycle p.token.first n p.token.length p.token.class
        (chunk n text)) writes.written
        ∙ ap (λ n. block_with p.token.cycle p.token.first w.blocks n p.token.class
        (chunk w.blocks text)) (ap (λ (t : Token). t.length) the_open ∙ octets_is)
        ∙ ap (λ n. block_with p.token.cycle p.token.first w.blocks w.octets n (chunk w.blocks text))
        (ap (λ (t : Token). t.class) the_open ∙ class_is)
        ∙ ap (block_with p.token.cycle p.token.first w.blocks w.octets w.class)
        (chunk_next w text w.blocks (omega arith))

  -- what the blocks hold
  module _ (blocks after : List (List ℕ)) (holds : Holds blocks old h)
      (changes : ChangesOnly (write.token.first + p.written) blocks after)
      (held : HoldsOpen blocks (Some p) (Some w)) where
    -- the finished articles are held as before
    articles_held : (cycle first k : ℕ) (article : Article)
        → finished_at h.buffer h.begins cycle first ≡ Some article
        → k < size_of (length article.text) → IsUnpassed new.line cycle (first + k)
        → block_at after (first + k) ≡ block_image
        (block_of cycle first article.class article.text k)
    articles_held cycle first k article finished inside unpassed =
        let was = subst (λ (l : Line). IsUnpassed l cycle (first + k)) stays.line unpassed in
        let other = elsewhere h.buffer writes.earlier writes.fresh w old.line cycle first k w.blocks
        article
        (subst (AllByRecursion (IsSized h.buffer.blocks)) writes.newest keeps.sizes).1
        (keeps.cycle
        ∙ ap (λ (b : List Begin). h.buffer.first_cycle + (head_of h.buffer.blocks b).run)
        writes.newest)
        (keeps.used ∙ ap (λ (b : List Begin). (head_of h.buffer.blocks b).used) writes.newest)
        (ap (λ (b : List Begin). finished_at h.buffer b cycle first) (sym writes.newest) ∙ finished)
        inside was left_is in
        changes (first + k) (λ e. other (omega (arith, e, first_is, writes.written)))
        ∙ holds.articles cycle first k article finished inside was

    -- and so are the blocks that were written of the open write
    open_held : (k : ℕ) → k < w.blocks → block_at after (p.token.first + k)
        ≡ block_image (open_block p w k)
    open_held k h = changes (p.token.first + k)
        (λ e. omega (arith, e, h, writes.written, ap (λ (t : Token). t.first) the_open)) ∙ held k h

    fails_holds : new.progress ≡ failed (Some p)
        → Holds after new (history_of h.buffer h.begins (Some (as_broken w)))
    fails_holds e = record {
      articles = articles_held;
      open_one = subst (λ (q : Option Progress). HoldsOpen after q (Some (as_broken w))) (sym e)
          open_held;
    }

    module _ (text : List ℕ) (octets : length text ≡ write.token.length)
        (continues : ContinuesIn text (Some w)) where
      next_held : block_at after (write.token.first + p.written)
          ≡ block_image (stamped (stamp_of write.token p.written) (chunk p.written text))
          → HoldsOpen after (counted (Some p)) (Some (with_next_block text w))
      next_held image k h = elim (cases_lt k w.blocks) [
        | inl u ↦ open_held k u ∙ ap block_image (same_block text octets continues k u)
        | inr u ↦
            let last : k ≡ w.blocks = omega (arith, h, u) in
            let here : p.token.first + k ≡ write.token.first + p.written =
            omega (arith, last, writes.written, ap (λ (t : Token). t.first) the_open) in
            ap (block_at after) here ∙ image ∙ ap block_image (new_block text octets continues)
            ∙ ap (λ n. block_image (open_block (record p { written = p.written + 1 })
            (with_next_block text w) n)) (sym last)
      ]

      next_holds : new.progress ≡ counted (Some p)
          → block_at after (write.token.first + p.written)
          ≡ block_image (stamped (stamp_of write.token p.written) (chunk p.written text))
          → Holds after new (history_of h.buffer h.begins (Some (with_next_block text w)))
      next_holds e image = record {
        articles = articles_held;
        open_one = subst (λ (q : Option Progress). HoldsOpen after q
            (Some (with_next_block text w))) (sym e) (next_held image);
      }

-- how many octets a chunk has
pub chunk_length : (k : ℕ) (text : List ℕ)
    → length (chunk k text) ≡ min chunk_size (length text - chunk_size * k)
chunk_length k text = length-take chunk_size (drop (chunk_size * k) text)
    ∙ ap (min chunk_size) (length-drop (chunk_size * k) text)

-- what is so where there is a value, is so where there is no error
pub without_error : {T E P : Type 0} (r : Result T E) → is_err r ≡ false → OnOk r P → P
without_error (Ok x) e h = h
without_error (Err x) e h = absurd (true≢false e)

-- what is so where there is an error, is so where there is one
pub with_error : {T E P : Type 0} (r : Result T E) → is_err r ≡ true → OnErr r P → P
with_error (Ok x) e h = absurd (false≢true e)
with_error (Err x) e h = h

-- the block that was written holds the image of its stamp and chunk
pub image_there : (blocks after : List (List ℕ)) (stamp : Stamp) (token : Token) (k : ℕ)
    (image payload text : List ℕ)
    → after ≡ set blocks (stamp.first + stamp.index) image
    → stamp.first + stamp.index < length blocks
    → stamp ≡ stamp_of token k → image ≡ block_image (stamped stamp payload)
    → payload ≡ chunk stamp.index text
    → block_at after (token.first + k) ≡ block_image (stamped (stamp_of token k) (chunk k text))
image_there blocks after stamp token k image payload text is within same imaged cut =
    ap (λ (s : Stamp). block_at after (s.first + s.index)) (sym same)
    ∙ ap (λ (b : List (List ℕ)). block_at b (stamp.first + stamp.index)) is
    ∙ get_or-set_same blocks (stamp.first + stamp.index) image [] within
    ∙ imaged ∙ ap (λ (p : List ℕ). block_image (stamped stamp p)) cut
    ∙ ap (λ (s : Stamp). block_image (stamped s (chunk s.index text))) same

-- one more block of the open write is counted, and the rest of it is as it was
pub counted_on : (write : Open) (p new : Option Progress) → IsTheOpen write p → new ≡ counted p
    → (written_of new ≡ written_of p + 1) × (has_failed new ≡ has_failed p) × IsTheOpen write new
counted_on write None new the_open is = absurd the_open
counted_on write (Some p) new the_open is = rw is (refl, refl, the_open)

-- What a write of one block leaves of a register and blocks that agree with a history.
module _ (honest : Type 0) (blocks after : List (List ℕ)) (old new : BufferState) (h : History)
    (write : Open)
    (keeps : Keeps old h) (holds : honest → Holds blocks old h) (stays : Stays old new) where
  pub fails_by : (p : Option Progress) (o : Option Writing) → h.writing ≡ o → old.progress ≡ p
      → Writes h p o → IsTheOpen write p
      → written_of p < size_of write.token.length → new.progress ≡ failed p
      → (honest → ChangesOnly (write.token.first + written_of p) blocks after)
      → (honest → HoldsOpen blocks p o)
      → Keeps new (history_of h.buffer h.begins (changed as_broken o))
      × (honest → Holds after new (history_of h.buffer h.begins (changed as_broken o)))
  fails_by None o is_o is_p writes the_open left progress changes held = absurd the_open
  fails_by (Some p) None is_o is_p writes the_open left progress changes held = absurd writes
  fails_by (Some p) (Some w) is_o is_p writes the_open left progress changes held = (
    fails_keeps old new h write p w keeps stays writes the_open left progress,
    λ is. fails_holds old new h write p w keeps stays writes the_open left blocks after (holds is)
        (changes is) (held is) progress,
  )

  pub next_by : (text : List ℕ) → length text ≡ write.token.length
      → (p : Option Progress) (o : Option Writing) → h.writing ≡ o → old.progress ≡ p → Writes h p o
      → IsTheOpen write p
      → ContinuesIn text o → written_of p < size_of write.token.length → new.progress ≡ counted p
      → (honest → ChangesOnly (write.token.first + written_of p) blocks after)
      → (honest → HoldsOpen blocks p o)
      → (honest → block_at after (write.token.first + written_of p)
      ≡ block_image (stamped (stamp_of write.token (written_of p)) (chunk (written_of p) text)))
      → Keeps new (history_of h.buffer h.begins (changed (with_next_block text) o))
      × (honest → Holds after new
      (history_of h.buffer h.begins (changed (with_next_block text) o)))
  next_by text octets None o is_o is_p writes the_open continues left progress changes held image =
      absurd the_open
  next_by text octets (Some p) None is_o is_p writes the_open continues left progress changes held
      image = absurd writes
  next_by text octets (Some p) (Some w) is_o is_p writes the_open continues left progress changes
      held image = (
        next_keeps old new h write p w keeps stays writes the_open left text octets continues
            progress,
        λ is. next_holds old new h write p w keeps stays writes the_open left blocks after
            (holds is)
            (changes is) (held is) text octets continues progress (image is),
      )
