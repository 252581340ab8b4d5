-- A register that was made of what a stopped device holds agrees with each history that it holds.
use Rattle.std.proofs.Common.{◌≡◌, ◌∙◌, ◌↔◌, ℕ, ◌+◌, ◌^◌, ◌<◌, ◌≤◌, inl, inr, true, sym}
use Rattle.std.proofs.Common.{ap, subst, arith, List, length, Option, None, Some}
use Rattle.news_terms.specs.BlockImage.{Block, IsBlock, block_of, block_image}
use Rattle.news_terms.specs.Places.{Buffer, size_of}
use Rattle.news_terms.specs.Token as tokens
use Rattle.cyc_block.specs.Store.{block_at}
use Rattle.cyc_buffer.specs.Agreement.{Holds, HoldsOpen}
use Rattle.cyc_buffer.specs.History.{Article, Writing, History, finished_at, cycle_of, stored_count}
use Rattle.cyc_buffer.specs.Marks.{is_marked}
use Rattle.cyc_buffer.specs.BufferState.{Keeps, Writes, IsStart, IsKept, IsKeptWhole, IsUnpassed}
use Rattle.cyc_buffer.specs.BufferState.{IsUnpassedBy, buffer_of}
use Rattle.cyc_buffer.specs.Stopped.{HoldsStopped, has_bit, used_of}
use Rattle.cyc_buffer.specs.declared.buffer_state.Progress.{Progress}
use Rattle.cyc_buffer.specs.declared.buffer_state.BufferState.{BufferState}
use Rattle.cyc_buffer.proofs.Places.{moved, one_cycle}
use Rattle.cyc_buffer.proofs.Finished.{lies, same_some}
use Rattle.cyc_buffer.proofs.Contents.{no_open}
use Rattle.cyc_buffer.proofs.Reading.{is_block}

-- What a start has read of a first block that the bitmap says: its token, in the cycle that its
-- place has; whatever block the octets are an image of, it is the first of the token's article.
pub record IsReadFirst (heads blocks : List (List ℕ)) (cycle used : ℕ) (t : tokens.Token) : Type
    0 where
  pub marked : has_bit heads t.first ≡ true
  pub unpassed : IsUnpassedBy cycle used t.cycle t.first
  pub octets : (b : Block) → IsBlock b → block_at blocks t.first ≡ block_image b
      → b.article_length ≡ t.length
  pub class : (b : Block) → IsBlock b → block_at blocks t.first ≡ block_image b
      → b.class ≡ t.class

-- the block is one of an article whose first block was read
pub record IsCovered (heads blocks : List (List ℕ)) (cycle used count j : ℕ) : Type 0 where
  pub token : tokens.Token
  pub read : IsReadFirst heads blocks cycle used token
  pub within : token.first < count
  pub index : ℕ
  pub inside : index < size_of token.length
  pub here : token.first + index ≡ j

-- The article that begins at a block was read, and all its blocks are marked.
pub record IsMarkedWhole (heads blocks : List (List ℕ)) (cycle used : ℕ) (words : List ℕ) (j : ℕ)
    : Type 0 where
  pub token : tokens.Token
  pub first : token.first ≡ j
  pub read : IsReadFirst heads blocks cycle used token
  pub marks : (k : ℕ) → k < size_of token.length → is_marked words (j + k) ≡ true

module _ (heads blocks : List (List ℕ)) (stop : ℕ) (h : History)
    (held : HoldsStopped heads blocks stop h) where
  -- the article of a history that a first block is of
  pub record Read (t : tokens.Token) : Type 0 where
    pub article : Article
    pub finished : finished_at h.buffer h.begins t.cycle t.first ≡ Some article
    pub octets : length article.text ≡ t.length
    pub class : article.class ≡ t.class

  -- a first block that was read is one of a finished article of the history, with its length
  pub read_first : (t : tokens.Token) → t.first < h.buffer.blocks
      → IsReadFirst heads blocks (cycle_of h) (used_of h) t → Read t
  read_first t within read =
      let s = (held.bitmap.starts t.first within).0 read.marked in
      let same : s.cycle ≡ t.cycle =
      one_cycle (cycle_of h) (used_of h) s.cycle t.cycle t.first s.unpassed read.unpassed in
      let finished : finished_at h.buffer h.begins t.cycle t.first ≡ Some s.article =
      ap (λ n. finished_at h.buffer h.begins n t.first) (sym same) ∙ s.finished in
      let l = lies h.buffer h.begins t.cycle t.first s.article held.sizes finished in
      let at : t.first ≡ t.first + 0 = omega arith in
      let there : block_at blocks t.first
      ≡ block_image (block_of t.cycle t.first s.article.class s.article.text 0) =
      ap (block_at blocks) at
      ∙ held.articles t.cycle t.first 0 s.article finished (omega (arith, l.some))
      (subst (IsUnpassedBy (cycle_of h) (used_of h) t.cycle) at read.unpassed) in
      let in_time : t.cycle ≤ cycle_of h =
      elim read.unpassed [ inl p ↦ omega (arith, p.0) | inr p ↦ omega (arith, p.0) ] in
      let cycle_fits : cycle_of h < 2 ^ 32 = held.fit.cycle in
      let count_fits : h.buffer.blocks < 2 ^ 32 = held.fit.blocks in
      let block = is_block t.cycle t.first 0 s.article (omega (arith, in_time, cycle_fits))
      (omega (arith, within, count_fits)) l.class l.octets (omega (arith, l.some)) in
      record {
        article = s.article;
        finished = finished;
        octets = read.octets
            (block_of t.cycle t.first s.article.class s.article.text 0) block there;
        class = read.class
            (block_of t.cycle t.first s.article.class s.article.text 0) block there;
      }

  -- a block of an article whose first block isn't passed isn't passed either
  pub unpassed_inside : (cycle first k : ℕ) (article : Article)
      → finished_at h.buffer h.begins cycle first ≡ Some article → k < size_of (length article.text)
      → IsUnpassedBy (cycle_of h) (used_of h) cycle first
      → IsUnpassedBy (cycle_of h) (used_of h) cycle (first + k)
  unpassed_inside cycle first k article finished inside unpassed =
      let l = lies h.buffer h.begins cycle first article held.sizes finished in
      elim unpassed [
        | inl u ↦ elim l.before [
          | inl q ↦ absurd (omega (arith, u.0, q))
          | inr q ↦ inl (u.0, omega (arith, q.1, inside))
        ]
        | inr u ↦ inr (u.0, omega (arith, u.1))
      ]

  module _ (r : BufferState)
      (buffer : h.buffer ≡ buffer_of r.line)
      (cycle : r.line.cycle ≡ cycle_of h)
      (used : r.line.used ≡ used_of h)
      (begun : r.counts.begun ≡ length h.begins)
      (stored : r.counts.stored ≡ stored_count h.begins)
      (progress : r.progress ≡ None)
      (starts : (j : ℕ) → j < r.line.blocks
      → is_marked r.starts.words.items j ≡ has_bit heads j)
      (told : (j : ℕ) → j < r.line.blocks → is_marked r.kept.words.items j ≡ true
      → IsCovered heads blocks (cycle_of h) (used_of h) r.line.blocks j)
      (whole : (j : ℕ) → j < r.line.blocks → has_bit heads j ≡ true
      → IsMarkedWhole heads blocks (cycle_of h) (used_of h) r.kept.words.items j) where
    same_blocks : h.buffer.blocks ≡ r.line.blocks
    same_blocks = ap (λ (b : Buffer). b.blocks) buffer

    -- what isn't passed by the line isn't by the history's head, and the other way round
    by_history : (since block : ℕ) → IsUnpassed r.line since block
        → IsUnpassedBy (cycle_of h) (used_of h) since block
    by_history since block u = moved r.line.cycle r.line.used (cycle_of h) (used_of h) since block
        cycle used u

    by_line : (since block : ℕ) → IsUnpassedBy (cycle_of h) (used_of h) since block
        → IsUnpassed r.line since block
    by_line since block u = moved (cycle_of h) (used_of h) r.line.cycle r.line.used since block
        (sym cycle) (sym used) u

    keeps_starts : (block : ℕ) → block < r.line.blocks
        → (is_marked r.starts.words.items block ≡ true) ↔ IsStart r.line h block
    keeps_starts block within = (
      (λ t.
          let s = (held.bitmap.starts block (omega (arith, within, same_blocks))).0
          (sym (starts block within) ∙ t) in
          record {
            cycle = s.cycle;
            article = s.article;
            finished = s.finished;
            unpassed = by_line s.cycle block s.unpassed;
          }),
      (λ (s : IsStart r.line h block). starts block within
          ∙ (held.bitmap.starts block (omega (arith, within, same_blocks))).1 (record {
            cycle = s.cycle;
            article = s.article;
            finished = s.finished;
            unpassed = by_history s.cycle block s.unpassed;
          })),
    )

    kept_of : (block : ℕ) → IsCovered heads blocks (cycle_of h) (used_of h) r.line.blocks block
        → IsKept r.line h block
    kept_of block c =
        let a = read_first c.token (omega (arith, c.within, same_blocks)) c.read in
        let inside : c.index < size_of (length a.article.text) =
        omega (arith, c.inside, ap size_of a.octets) in
        record {
          cycle = c.token.cycle;
          first = c.token.first;
          index = c.index;
          article = a.article;
          finished = a.finished;
          inside = inside;
          here = c.here;
          unpassed = by_line c.token.cycle block
              (subst (IsUnpassedBy (cycle_of h) (used_of h) c.token.cycle) c.here
              (unpassed_inside c.token.cycle c.token.first c.index a.article a.finished inside
              c.read.unpassed));
        }

    -- the blocks of a live article are marked: the token that was read at its first block is its
    -- own
    marked_of : (block : ℕ) → IsKeptWhole r.line h block
        → is_marked r.kept.words.items block ≡ true
    marked_of block w =
        let s = w.kept in
        let l = lies h.buffer h.begins s.cycle s.first s.article held.sizes s.finished in
        let start = by_history s.cycle s.first w.start in
        let within : s.first < h.buffer.blocks = omega (arith, l.within, l.some) in
        let bit = (held.bitmap.starts s.first within).1 (record {
          cycle = s.cycle;
          article = s.article;
          finished = s.finished;
          unpassed = start;
        }) in
        let m = whole s.first (omega (arith, within, same_blocks)) bit in
        let a = read_first m.token (omega (arith, m.first, within)) m.read in
        let same : m.token.cycle ≡ s.cycle = one_cycle (cycle_of h) (used_of h) m.token.cycle
        s.cycle s.first
        (subst (IsUnpassedBy (cycle_of h) (used_of h) m.token.cycle) m.first m.read.unpassed)
        start in
        let article : a.article ≡ s.article = same_some
        (sym a.finished ∙ ap (λ n. finished_at h.buffer h.begins n m.token.first) same
        ∙ ap (finished_at h.buffer h.begins s.cycle) m.first ∙ s.finished) in
        let size : size_of m.token.length ≡ size_of (length s.article.text) =
        ap size_of (sym a.octets) ∙ ap (λ (x : Article). size_of (length x.text)) article in
        ap (is_marked r.kept.words.items) (sym s.here)
        ∙ m.marks s.index (omega (arith, s.inside, size))

    pub keeps_started : Keeps r h
    keeps_started = record {
      buffer = buffer;
      cycle = cycle;
      used = used;
      sizes = held.sizes;
      starts = keeps_starts;
      kept = λ block within. (
        (λ m. kept_of block (told block within m)),
        marked_of block,
      );
      begun = begun;
      stored = stored;
      writing = subst (λ (p : Option Progress). Writes h p h.writing) (sym progress)
          (subst (λ (o : Option Writing). Writes h None o) (sym held.idle) tt);
    }

    pub holds_started : Holds blocks r h
    holds_started = record {
      articles = λ since first k article finished inside unpassed.
          held.articles since first k article finished inside
          (by_history since (first + k) unpassed);
      open_one = subst (λ (o : Option Writing). HoldsOpen blocks r.progress o) (sym held.idle)
          (no_open blocks r.progress);
    }
