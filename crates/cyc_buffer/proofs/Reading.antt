-- What a read finds.
use Rattle.std.proofs.Common.{◌≡◌, ◌∙◌, ℕ, ◌+◌, ◌^◌, ◌<◌, ◌≤◌, inl, inr}
use Rattle.std.proofs.Common.{◌==◌, ◌&&◌, Bool, true, false, refl, sym, ap}
use Rattle.std.proofs.Common.{subst, arith, List, length, take, Option, None, Some, is_some}
use Rattle.std.proofs.lemmas.Bool.{and_parts, and_from, eqb-true, eq-eqb}
use Rattle.std.proofs.lemmas.Bool.{false≢true, cond-true}
use Rattle.news_terms.specs.BlockImage.{Block, IsBlock, block_of, block_image, chunk}
use Rattle.news_terms.specs.Places.{Buffer, IsLive, size_of, on_line}
use Rattle.news_terms.specs.Token as tokens
use Rattle.cyc_block.specs.Image.{stamped}
use Rattle.cyc_block.specs.Store.{block_at}
use Rattle.cyc_token.specs.Token.{token_view}
use Rattle.cyc_token.specs.declared.Token.{Token}
use Rattle.cyc_buffer.specs.Agreement.{Holds}
use Rattle.cyc_buffer.specs.Answers.{Answer, Chunk, Gone, Unknown, by_text, front_view}
use Rattle.cyc_buffer.specs.Answers.{or_by_text, answer, Shows, IsLiveBlock, IsOfLive, IsUnread}
use Rattle.cyc_buffer.specs.Answers.{IsRead, IsOther}
use Rattle.cyc_buffer.specs.History.{Article, History, finished_at, text_under}
use Rattle.cyc_buffer.specs.History.{text_of}
use Rattle.cyc_buffer.specs.Look.{look_by, look_of, has_marks, numbers_of}
use Rattle.cyc_buffer.specs.Marks.{is_marked}
use Rattle.cyc_buffer.specs.Progress.{stamp_of}
use Rattle.cyc_buffer.specs.BufferState.{IsUnpassed, Keeps, buffer_of}
use Rattle.cyc_buffer.specs.declared.answers.Found.TheVariants as found
use Rattle.cyc_buffer.specs.declared.answers.Front.{Front}
use Rattle.cyc_buffer.specs.declared.buffer_state.Look.TheVariants as look
use Rattle.cyc_buffer.specs.declared.buffer_state.BufferState.{BufferState}
use Rattle.cyc_buffer.proofs.Places.{chosen, one_cycle}
use Rattle.cyc_buffer.proofs.Finished.{none_is_none, same_some, lies}
use Rattle.cyc_buffer.proofs.Numbers.{Undecided, undecided, numbers_same, no_chunk, front_same}
use Rattle.cyc_buffer.proofs.Numbers.{live_place, live_unpassed, gone_front}
use Rattle.cyc_buffer.proofs.Writes.{block_with, chunk_length}

-- what a text under a token is of
pub record IsUnder (h : History) (token : tokens.Token) (text : List ℕ) : Type 0 where
  pub article : Article
  pub finished : finished_at h.buffer h.begins token.cycle token.first ≡ Some article
  pub class : article.class ≡ token.class
  pub octets : length article.text ≡ token.length
  pub same : article.text ≡ text

under_by : (h : History) (token : tokens.Token) (text : List ℕ) (o : Option Article)
    → finished_at h.buffer h.begins token.cycle token.first ≡ o
    → text_of token.class token.length o ≡ Some text → IsUnder h token text
under_by h token text None is e = absurd (none_is_none e)
under_by h token text (Some a) is e =
    elim (chosen ((a.class == token.class) && (length a.text == token.length)) (Some a.text) None
    (Some text) e) [
      | inl p ↦
          let both = and_parts (a.class == token.class) (length a.text == token.length) p.0 in
          record {
            article = a;
            finished = is;
            class = eqb-true a.class token.class both.0;
            octets = eqb-true (length a.text) token.length both.1;
            same = same_some p.1;
          }
      | inr p ↦ absurd (none_is_none p.1)
    ]

pub under : (h : History) (token : tokens.Token) (text : List ℕ) → text_under h token ≡ Some text
    → IsUnder h token text
under h token text e =
    elim (chosen (token.buffer == h.buffer.number)
    (text_of token.class token.length (finished_at h.buffer h.begins token.cycle token.first))
    None (Some text) e) [
      | inl p ↦ under_by h token text (finished_at h.buffer h.begins token.cycle token.first) refl
          p.1
      | inr p ↦ absurd (none_is_none p.1)
    ]

-- an article that agrees with the token in all is the one under it
pub is_under : (h : History) (token : tokens.Token) (a : Article) → token.buffer ≡ h.buffer.number
    → finished_at h.buffer h.begins token.cycle token.first ≡ Some a → a.class ≡ token.class
    → length a.text ≡ token.length
    → text_under h token ≡ Some a.text
is_under h token a number finished class octets =
    cond-true (token.buffer == h.buffer.number)
    (text_of token.class token.length (finished_at h.buffer h.begins token.cycle token.first))
    None (eq-eqb token.buffer h.buffer.number number)
    ∙ ap (text_of token.class token.length) finished
    ∙ cond-true ((a.class == token.class) && (length a.text == token.length)) (Some a.text) None
    (and_from (a.class == token.class) (length a.text == token.length)
    (eq-eqb a.class token.class class) (eq-eqb (length a.text) token.length octets))

-- What is known where the numbers don't decide.
module _ (r : BufferState) (h : History) (token : Token) (k : ℕ) (keeps : Keeps r h)
    (room : r.line.used ≤ r.line.blocks)
    (numbers : numbers_of r token k ≡ None) where
  open_numbers : Undecided (buffer_of r.line) (on_line r.line.blocks r.line.cycle r.line.used)
      (token_view token) k
  open_numbers = undecided (buffer_of r.line) (on_line r.line.blocks r.line.cycle r.line.used)
      (token_view token) k numbers

  -- the first block isn't passed
  pub unpassed : IsUnpassed r.line token.cycle token.first
  unpassed = live_place r.line.blocks r.line.cycle r.line.used token.cycle token.first
      (omega (arith, open_numbers.within, open_numbers.inside)) room open_numbers.begun
      open_numbers.live

  -- nor is another one of a finished article that begins there
  unpassed_block : (a : Article) → finished_at h.buffer h.begins token.cycle token.first ≡ Some a
      → k < size_of (length a.text)
      → IsUnpassed r.line token.cycle (token.first + k)
  unpassed_block a finished inside =
      let l = lies h.buffer h.begins token.cycle token.first a keeps.sizes finished in
      elim unpassed [
        | inl u ↦ elim l.before [
          | inl q ↦ absurd (omega (arith, u.0, keeps.cycle, q))
          | inr q ↦ inl (u.0, omega (arith, q.1, keeps.used, inside))
        ]
        | inr u ↦ inr (u.0, omega (arith, u.1))
      ]

  block_within : token.first + k < r.line.blocks
  block_within = omega (arith, open_numbers.within, open_numbers.inside)

  -- where a text was finished under the token, the block is marked
  pub marked_under : (text : List ℕ) → text_under h (token_view token) ≡ Some text
      → has_marks r token k ≡ true
  marked_under text e =
      let u = under h (token_view token) text e in
      let inside : k < size_of (length u.article.text) =
      omega (arith, open_numbers.inside, ap size_of u.octets) in
      and_from (is_marked r.starts.words.items token.first)
      (is_marked r.kept.words.items (token.first + k))
      ((keeps.starts token.first (omega (arith, block_within))).1 (record {
        cycle = token.cycle;
        article = u.article;
        finished = u.finished;
        unpassed = unpassed;
      }))
      ((keeps.kept (token.first + k) block_within).1 (record {
        kept = record {
          cycle = token.cycle;
          first = token.first;
          index = k;
          article = u.article;
          finished = u.finished;
          inside = inside;
          here = refl;
          unpassed = unpassed_block u.article u.finished inside;
        };
        start = unpassed;
      }))

  -- where the block is marked, a finished article begins at the token's place
  pub begins_there : has_marks r token k ≡ true
      → finished_at h.buffer h.begins token.cycle token.first ≡ None → ⊥
  begins_there marks none =
      let m = and_parts (is_marked r.starts.words.items token.first)
      (is_marked r.kept.words.items (token.first + k)) marks in
      let s = (keeps.starts token.first (omega (arith, block_within))).0 m.0 in
      let same = one_cycle r.line.cycle r.line.used s.cycle token.cycle token.first s.unpassed
      unpassed in
      none_is_none (sym none ∙ ap (λ n. finished_at h.buffer h.begins n token.first) (sym same)
      ∙ s.finished)

  -- where nothing was finished under the token, or the block isn't marked, it is unknown
  pub answer_unmarked : has_marks r token k ≡ false → answer h (token_view token) k ≡ Unknown
  answer_unmarked none =
      ap (λ (o : Option Answer). or_by_text o (by_text k (text_under h (token_view token))))
      (sym (numbers_same r h token k keeps) ∙ numbers)
      ∙ by_none (text_under h (token_view token)) refl
    where
      by_none : (o : Option (List ℕ)) → text_under h (token_view token) ≡ o
          → by_text k (text_under h (token_view token)) ≡ Unknown
      by_none None e = ap (by_text k) e
      by_none (Some text) e = absurd (false≢true (sym none ∙ marked_under text e))

-- what the register looks up, told apart
pub look_block : (o : Option Answer) (m : Bool) (block b : ℕ) → look.Block b ≡ look_by o m block
    → (o ≡ None) × (m ≡ true) × (b ≡ block)
look_block None true block b e = (refl, refl, cc)
look_block None false block b e = absurd cc
look_block (Some (Chunk octets)) m block b e = absurd cc
look_block (Some (Gone front)) m block b e = absurd cc
look_block (Some Unknown) m block b e = absurd cc

-- what a look says of a block tells a block, a token that is gone and one that isn't known apart
unknown_block : {block : ℕ} → look.Unknown ≡ look.Block block → ⊥
unknown_block e = cc

gone_block : {block : ℕ} → look.Block block ≡ look.Gone → ⊥
gone_block e = cc

gone_unknown : look.Unknown ≡ look.Gone → ⊥
gone_unknown e = cc

-- where the register says that nothing is known, that is the answer
pub unknown_answer : (r : BufferState) (h : History) (token : Token) (k : ℕ) → Keeps r h
    → r.line.used ≤ r.line.blocks
    → look.Unknown ≡ look_of r token k → answer h (token_view token) k ≡ Unknown
unknown_answer r h token k keeps room e =
    by_answer (numbers_of r token k) refl (has_marks r token k) refl e
  where
    by_answer : (o : Option Answer) → numbers_of r token k ≡ o → (m : Bool)
        → has_marks r token k ≡ m
        → look.Unknown ≡ look_by o m (token.first + k) → answer h (token_view token) k ≡ Unknown
    by_answer None is true marks e = absurd (unknown_block e)
    by_answer None is false marks e = answer_unmarked r h token k keeps room is marks
    by_answer (Some (Chunk octets)) is m marks e =
        absurd (no_chunk (buffer_of r.line) (on_line r.line.blocks r.line.cycle r.line.used)
        (token_view token) k octets is)
    by_answer (Some (Gone front)) is m marks e = absurd (gone_unknown e)
    by_answer (Some Unknown) is m marks e =
        ap (λ (o : Option Answer). or_by_text o (by_text k (text_under h (token_view token))))
        (sym (numbers_same r h token k keeps) ∙ is)

-- what a look says to be gone is so by the numbers
gone_by : (o : Option Answer) (m : Bool) (block : ℕ) → look_by o m block ≡ look.Gone
    → (front : Front) × (o ≡ Some (Gone front))
gone_by None true block e = absurd (gone_block e)
gone_by None false block e = absurd (gone_unknown e)
gone_by (Some (Chunk octets)) m block e = absurd (gone_unknown e)
gone_by (Some (Gone front)) m block e = (front, refl)
gone_by (Some Unknown) m block e = absurd (gone_unknown e)

-- with the register's front
pub gone_numbers : (r : BufferState) (token : Token) (k : ℕ) → look_of r token k ≡ look.Gone
    → numbers_of r token k
    ≡ Some (Gone (front_view (buffer_of r.line) (on_line r.line.blocks r.line.cycle r.line.used)))
gone_numbers r token k is =
    let gone = gone_by (numbers_of r token k) (has_marks r token k) (token.first + k) is in
    gone.1 ∙ ap (λ (front : Front). Some (Gone front))
    (gone_front (buffer_of r.line) (on_line r.line.blocks r.line.cycle r.line.used)
    (token_view token) k gone.0 gone.1)

-- where the register says that an article is gone, that is the answer
pub gone_answer : (r : BufferState) (h : History) (token : Token) (k : ℕ) → Keeps r h
    → look.Gone ≡ look_of r token k
    → answer h (token_view token) k
    ≡ Gone (front_view (buffer_of r.line) (on_line r.line.blocks r.line.cycle r.line.used))
gone_answer r h token k keeps e =
    ap (λ (o : Option Answer). or_by_text o (by_text k (text_under h (token_view token))))
    (sym (numbers_same r h token k keeps) ∙ gone_numbers r token k (sym e))

-- the block of an article that lies in the buffer is one
pub is_block : (cycle first k : ℕ) (a : Article) → cycle < 2 ^ 32 → first + k < 2 ^ 32
    → a.class < 2 ^ 8 → length a.text < 2 ^ 32
    → k < size_of (length a.text) → IsBlock (block_of cycle first a.class a.text k)
is_block cycle first k a cycle_fits place_fits class octets inside = record {
  cycle = cycle_fits;
  first = omega (arith, place_fits);
  index = omega (arith, place_fits);
  article_length = octets;
  class = class;
  some = omega (arith, chunk_length k a.text, inside);
  at_most = omega (arith, chunk_length k a.text);
}

-- What is found in a block that was read.
module _ (r : BufferState) (h : History) (token : Token) (k : ℕ) (keeps : Keeps r h)
    (room : r.line.used ≤ r.line.blocks)
    (blocks : List (List ℕ)) (holds : Holds blocks r h) (cycle_fits : r.line.cycle < 2 ^ 32)
    (blocks_fit : r.line.blocks < 2 ^ 32)
    (numbers : numbers_of r token k ≡ None) (marks : has_marks r token k ≡ true) where
  -- a block that stands there
  pub record There (holds_chunk : Block → Type 0) : Type 0 where
    pub block : Block
    pub is_block : IsBlock block
    pub held : block_at blocks (token.first + k) ≡ block_image block
    pub says : holds_chunk block

  known : Undecided (buffer_of r.line) (on_line r.line.blocks r.line.cycle r.line.used)
      (token_view token) k
  known = open_numbers r h token k keeps room numbers

  -- the answer is what the text gives that was finished under the token
  answer_by_text : (text : List ℕ) → text_under h (token_view token) ≡ Some text
      → answer h (token_view token) k ≡ Chunk (chunk k text)
  answer_by_text text e =
      ap (λ (o : Option Answer). or_by_text o (by_text k (text_under h (token_view token))))
      (sym (numbers_same r h token k keeps) ∙ numbers)
      ∙ ap (by_text k) e

  -- a block of a finished article stands there; where its stamp is the token's, its octets are the
  -- answer
  pub there : There (λ block. stamped (stamp_of token k) block.payload ≡ block
      → answer h (token_view token) k ≡ Chunk block.payload)
  there =
      let m = and_parts (is_marked r.starts.words.items token.first)
      (is_marked r.kept.words.items (token.first + k)) marks in
      let s = (keeps.kept (token.first + k) (block_within r h token k keeps room numbers)).0 m.1 in
      let l = lies h.buffer h.begins s.cycle s.first s.article keeps.sizes s.finished in
      let in_time : s.cycle ≤ r.line.cycle =
      elim s.unpassed [ inl u ↦ omega (arith, u.0) | inr u ↦ omega (arith, u.0) ] in
      record {
        block = block_of s.cycle s.first s.article.class s.article.text s.index;
        is_block = is_block s.cycle s.first s.index s.article (omega (arith, in_time, cycle_fits))
            (omega (arith, s.here, block_within r h token k keeps room numbers, blocks_fit)) l.class
            l.octets s.inside;
        held = ap (block_at blocks) (sym s.here)
            ∙ holds.articles s.cycle s.first s.index s.article s.finished s.inside
            (subst (IsUnpassed r.line s.cycle) (sym s.here) s.unpassed);
        says = λ e.
            let index = ap (λ (b : Block). b.index) e in
            answer_by_text s.article.text
            (is_under h (token_view token) s.article
            (known.number ∙ ap (λ (b : Buffer). b.number) (sym keeps.buffer))
            (ap (λ n. finished_at h.buffer h.begins n token.first) (ap (λ (b : Block). b.cycle) e)
            ∙ ap (λ n. finished_at h.buffer h.begins s.cycle n) (ap (λ (b : Block). b.first) e)
            ∙ s.finished)
            (sym (ap (λ (b : Block). b.class) e)) (sym (ap (λ (b : Block). b.article_length) e)))
            ∙ ap (λ n. Chunk (chunk n s.article.text)) index;
      }

  -- where a text was finished under the token, it is its block that stands there
  pub there_under : (text : List ℕ) → text_under h (token_view token) ≡ Some text
      → There (λ block. stamped (stamp_of token k) block.payload ≡ block)
  there_under text e =
      let u = under h (token_view token) text e in
      let l = lies h.buffer h.begins token.cycle token.first u.article keeps.sizes u.finished in
      let inside : k < size_of (length u.article.text) =
      omega (arith, known.inside, ap size_of u.octets) in
      let free = unpassed_block r h token k keeps room numbers u.article u.finished inside in
      let in_time : token.cycle ≤ r.line.cycle =
      elim free [ inl p ↦ omega (arith, p.0) | inr p ↦ omega (arith, p.0) ] in
      record {
        block = block_of token.cycle token.first u.article.class u.article.text k;
        is_block = is_block token.cycle token.first k u.article (omega (arith, in_time, cycle_fits))
            (omega (arith, block_within r h token k keeps room numbers, blocks_fit)) l.class
            l.octets inside;
        held = holds.articles token.cycle token.first k u.article u.finished inside free;
        says = ap (λ n. block_with token.cycle token.first k n token.class (chunk k u.article.text))
            (sym u.octets)
            ∙ ap (λ n. block_with token.cycle token.first k (length u.article.text) n
            (chunk k u.article.text)) (sym u.class);
      }

  -- where no text was finished under the token, the answer is that it is unknown
  pub answer_none : ((text : List ℕ) → text_under h (token_view token) ≡ Some text → ⊥)
      → answer h (token_view token) k ≡ Unknown
  answer_none none =
      ap (λ (o : Option Answer). or_by_text o (by_text k (text_under h (token_view token))))
      (sym (numbers_same r h token k keeps) ∙ numbers)
      ∙ by_none (text_under h (token_view token)) refl
    where
      by_none : (o : Option (List ℕ)) → text_under h (token_view token) ≡ o
          → by_text k (text_under h (token_view token)) ≡ Unknown
      by_none None e = ap (by_text k) e
      by_none (Some text) e = absurd (none text e)

-- a chunk, and that nothing is known, say of nothing that it is gone
pub other_chunk : (octets : ℕ) (numbers : Option Answer) → IsOther (found.Chunk octets) numbers
other_chunk octets (Some answer) = tt
other_chunk octets None = tt

pub other_unknown : (numbers : Option Answer) → IsOther found.Unknown numbers
other_unknown (Some answer) = tt
other_unknown None = tt

-- What is known of a block that may be a finished article's.
module _ (r : BufferState) (h : History) (block : ℕ) (keeps : Keeps r h)
    (room : r.line.used ≤ r.line.blocks)
    (within : block < r.line.blocks) where
  same_blocks : h.buffer.blocks ≡ r.line.blocks
  same_blocks = ap (λ (b : Buffer). b.blocks) keeps.buffer

  -- the mark says that it is one, which isn't passed
  pub live_marked : is_marked r.kept.words.items block ≡ true → IsLiveBlock h block
  live_marked mark =
      let s = (keeps.kept block within).0 mark in
      record {
        cycle = s.cycle;
        first = s.first;
        index = s.index;
        article = s.article;
        finished = s.finished;
        inside = s.inside;
        here = s.here;
        live = subst (λ n. IsLive h.buffer.blocks n (on_line h.buffer.blocks s.cycle block))
            (sym (front_same r h keeps))
            (live_unpassed h.buffer.blocks r.line.cycle r.line.used s.cycle block
            (omega (arith, within, same_blocks)) (omega (arith, room, same_blocks)) s.unpassed);
      }

  -- and one of a live article has its mark
  pub marked_live : IsOfLive h block → is_marked r.kept.words.items block ≡ true
  marked_live whole =
      let b = whole.block_is in
      let l = lies h.buffer h.begins b.cycle b.first b.article keeps.sizes b.finished in
      let first = subst (λ n. IsLive h.buffer.blocks n (on_line h.buffer.blocks b.cycle b.first))
      (front_same r h keeps) whole.whole in
      let live = subst (λ n. IsLive h.buffer.blocks n (on_line h.buffer.blocks b.cycle block))
      (front_same r h keeps) b.live in
      (keeps.kept block within).1 (record {
        kept = record {
          cycle = b.cycle;
          first = b.first;
          index = b.index;
          article = b.article;
          finished = b.finished;
          inside = b.inside;
          here = b.here;
          unpassed = live_place h.buffer.blocks r.line.cycle r.line.used b.cycle block
              (omega (arith, within, same_blocks)) (omega (arith, room, same_blocks)) live.begun
              live.here;
        };
        start = live_place h.buffer.blocks r.line.cycle r.line.used b.cycle b.first
            (omega (arith, l.within, l.some)) (omega (arith, room, same_blocks)) first.begun
            first.here;
      })

-- where the block is to be read, neither the numbers nor the marks decide
pub not_unread : (r : BufferState) (h : History) (token : Token) (k : ℕ) → Keeps r h
    → r.line.used ≤ r.line.blocks
    → numbers_of r token k ≡ None → has_marks r token k ≡ true → IsUnread h (token_view token) k → ⊥
not_unread r h token k keeps room numbers marks (inl e) =
    false≢true
    (sym (ap (λ (o : Option Answer). is_some o) (sym (numbers_same r h token k keeps) ∙ numbers))
    ∙ e)
not_unread r h token k keeps room numbers marks (inr (inl e)) =
    begins_there r h token k keeps room numbers marks e
not_unread r h token k keeps room numbers marks (inr (inr none)) =
    let m = and_parts (is_marked r.starts.words.items token.first)
    (is_marked r.kept.words.items (token.first + k)) marks in
    none (live_marked r h (token.first + k) keeps room (block_within r h token k keeps room numbers)
    m.1)

-- where it is said to be read, the register looks it up
pub looked_up : (r : BufferState) (h : History) (token : Token) (k : ℕ) → Keeps r h
    → r.line.used ≤ r.line.blocks
    → IsRead h (token_view token) k → look_of r token k ≡ look.Block (token.first + k)
looked_up r h token k keeps room read =
    let numbers : numbers_of r token k ≡ None = numbers_same r h token k keeps ∙ read.undecided in
    let within = block_within r h token k keeps room numbers in
    let marks : has_marks r token k ≡ true =
    and_from (is_marked r.starts.words.items token.first)
    (is_marked r.kept.words.items (token.first + k))
    ((keeps.starts token.first (omega (arith, within))).1
    (record {
      cycle = token.cycle;
      article = read.article;
      finished = read.begins;
      unpassed = unpassed r h token k keeps room numbers;
    }))
    (marked_live r h (token.first + k) keeps room within read.block) in
    ap (λ (o : Option Answer). look_by o (has_marks r token k) (token.first + k)) numbers
    ∙ ap (λ m. look_by None m (token.first + k)) marks

-- a block isn't said to be gone or unknown where it is looked up
pub block_is_gone : {block : ℕ} → look.Block block ≡ look.Gone → ⊥
block_is_gone e = cc

pub block_is_unknown : {block : ℕ} → look.Block block ≡ look.Unknown → ⊥
block_is_unknown e = cc

-- what is taken from a block is shown, where its octets are the answer
pub shows_chunk : (n : ℕ) (slice octets : List ℕ) (a : Answer) → a ≡ Chunk octets
    → n ≡ length octets → take n slice ≡ octets
    → Shows (found.Chunk n) slice a
shows_chunk n slice octets a e count taken =
    subst (Shows (found.Chunk n) slice) (sym e) (count, taken)
