-- What each call of a buffer leaves, where a crash comes before it or behind it.
use Rattle.std.proofs.Common.{◌≡◌, ◌≢◌, ◌⊎◌, ◌∙◌, ℕ, ◌+◌, ◌-◌, ◌*◌, ◌<◌, ◌≤◌, inl, inr, Bool, true}
use Rattle.std.proofs.Common.{false, refl, sym, ap, subst, arith, List, ◌∷◌, length, Option}
use Rattle.std.proofs.Common.{None, Some}
use Rattle.std.specs.List.{AllByRecursion}
use Rattle.std.proofs.lemmas.Bool.{cases_eq, cases_lt, cond-false, cond-true, false_from_ne_true}
use Rattle.std.proofs.lemmas.Bool.{false≢true}
use Rattle.news_terms.specs.BlockImage.{Block, IsBlock, block_of, block_image}
use Rattle.news_terms.specs.Places.{Buffer, IsLive, size_of, on_line}
use Rattle.news_terms.specs.Token.{Token}
use Rattle.cyc_block.specs.Store.{block_at}
use Rattle.cyc_buffer.specs.BufferState.{IsSized}
use Rattle.cyc_buffer.specs.Crash.{CanBeFound, IsLeftOf, IsOfHistory, IsPiece, IsPieceIn, IsThere}
use Rattle.cyc_buffer.specs.Crash.{end_on_line}
use Rattle.cyc_buffer.specs.History.{Article, Begin, History, begun_at, finished_at, front_of}
use Rattle.cyc_buffer.specs.History.{is_at}
use Rattle.cyc_buffer.specs.History.{Writing, new_history, with_begin}
use Rattle.cyc_buffer.specs.Stopped.{IsLiveToken, block_under}
use Rattle.cyc_buffer.proofs.CrashLaws.{begun_before, front_in, front_rises, place_past}
use Rattle.cyc_buffer.proofs.Finished.{at_parts, none_is_none, place_of, same_some}
use Rattle.cyc_buffer.proofs.Finished.{stays_finished, was_finished}
use Rattle.cyc_buffer.proofs.Places.{chosen}

-- A begin changes no block, and what was to be kept and is still live can be kept.
module _ (h : History) (kept : Token → Bool) (blocks : List (List ℕ))
    (left : IsLeftOf h kept blocks) (sized : AllByRecursion (IsSized h.buffer.blocks) h.begins)
    (class octets : ℕ) (fresh : Bool) (later : Token → Bool)
    (still : (t : Token) → later t ≡ true → (kept t ≡ true)
    × IsLive h.buffer.blocks (front_of (with_begin class octets fresh h))
    (on_line h.buffer.blocks t.cycle t.first)) where
  abbrev b : Begin
  b = record { size = size_of octets; fresh = fresh; finished = None }

  -- the place of the begin is that of no earlier one
  other_place : (cycle first size : ℕ) → 1 ≤ size
      → begun_at h.buffer h.begins cycle first ≡ Some size
      → is_at h.buffer (place_of h.buffer h.begins b) cycle first ≡ false
  other_place cycle first size some e =
      false_from_ne_true (is_at h.buffer (place_of h.buffer h.begins b) cycle first) (λ at.
      let p = at_parts h.buffer (place_of h.buffer h.begins b) cycle first at in
      omega (
        arith,
        some,
        begun_before h.buffer h.begins cycle first size sized e,
        place_past h.buffer b h.begins sized,
        ap (λ n. n * h.buffer.blocks) p.0,
        p.1,
      ))

  pub left_begin : IsLeftOf (with_begin class octets fresh h) later blocks
  left_begin = record {
    count = left.count;
    passed = λ t k piece. omega (
      arith,
      left.passed t k piece,
      front_rises h.buffer b h.begins sized,
    );
    begun = λ t found.
        let was = left.begun t found in
        let earlier : (article : Article)
        → finished_at h.buffer (b ∷ h.begins) t.cycle t.first ≡ Some article
        → finished_at h.buffer h.begins t.cycle t.first ≡ Some article =
        λ article e. was_finished h.buffer h.begins b t.cycle t.first article refl e in
        record {
          size = cond-false (is_at h.buffer (place_of h.buffer h.begins b) t.cycle t.first)
              (Some b.size) (begun_at h.buffer h.begins t.cycle t.first)
              (other_place t.cycle t.first (size_of t.length)
              (omega (arith, found.there.some)) was.size) ∙ was.size;
          class = λ article e. was.class article (earlier article e);
          octets = λ article e. was.octets article (earlier article e);
          text = λ article k e inside. was.text article k (earlier article e) inside;
        };
    live = λ t k.
        let s = still t k in
        let l = left.live t s.0 in
        record {
          article = l.article;
          finished = stays_finished h.buffer h.begins b t.cycle t.first l.article sized l.finished;
          buffer = l.buffer;
          class = l.class;
          octets = l.octets;
          live = s.1;
        };
    there = λ t k. left.there t (still t k).0;
  }

-- A block is written of an article that was begun last and isn't finished; an image is that of one
-- block.
module _ (one : (a b : Block) → IsBlock a → IsBlock b → block_image a ≡ block_image b → a ≡ b)
  where
    -- two articles that have one block are one
    pub one_article : (buffer : Buffer) (octets : List ℕ) (t u : Token) (k i : ℕ)
        → IsPieceIn buffer octets t k → IsPieceIn buffer octets u i → (t ≡ u) × (k ≡ i)
    one_article buffer octets t u k i p q =
        let e = one (block_under t k p.image.payload) (block_under u i q.image.payload)
        p.image.block q.image.block (sym p.image.image ∙ q.image.image) in (
          λ j. record {
            class = (e j).class;
            buffer = (p.number ∙ sym q.number) j;
            cycle = (e j).cycle;
            first = (e j).first;
            length = (e j).article_length;
          },
          ap (λ (x : Block). x.index) e,
        )

    module _ (h : History) (kept : Token → Bool) (blocks blocks' : List (List ℕ))
        (left : IsLeftOf h kept blocks) (o : Token) (k : ℕ)
        (newest : begun_at h.buffer h.begins o.cycle o.first ≡ Some (size_of o.length))
        (unfinished : finished_at h.buffer h.begins o.cycle o.first ≡ None)
        (ends : end_on_line h.buffer.blocks o ≡ front_of h)
        (count : length blocks' ≡ length blocks)
        (written : IsPiece h.buffer blocks' o k)
        (others : (j : ℕ) → j ≢ o.first + k → block_at blocks' j ≡ block_at blocks j)
        (apart : (t : Token) (i : ℕ) → kept t ≡ true → i < size_of t.length
        → t.first + i ≢ o.first + k) where
      -- a block of another article stood there before
      before : (t : Token) (i : ℕ) → t.first + i ≢ o.first + k → IsPiece h.buffer blocks' t i
          → IsPiece h.buffer blocks t i
      before t i other p = subst (λ os. IsPieceIn h.buffer os t i) (others (t.first + i) other) p

      -- and stands there now
      behind : (t : Token) (i : ℕ) → t.first + i ≢ o.first + k → IsPiece h.buffer blocks t i
          → IsPiece h.buffer blocks' t i
      behind t i other p =
          subst (λ os. IsPieceIn h.buffer os t i) (sym (others (t.first + i) other)) p

      -- the article that has the block that is written is the one that is begun
      same : (t : Token) (i : ℕ) → t.first + i ≡ o.first + k → IsPiece h.buffer blocks' t i → t ≡ o
      same t i here p = (one_article h.buffer (block_at blocks' (t.first + i)) t o i k p
          (subst (λ j. IsPieceIn h.buffer (block_at blocks' j) o k) (sym here) written)).0

      passed : (t : Token) (i : ℕ) → IsPiece h.buffer blocks' t i
          → end_on_line h.buffer.blocks t ≤ front_of h
      passed t i p = elim (cases_eq (t.first + i) (o.first + k)) [
        | inl e ↦ omega (arith, ends, ap (end_on_line h.buffer.blocks) (same t i e p))
        | inr n ↦ left.passed t i (before t i n p)
      ]

      -- the article that is begun is one of the history
      open_of : IsOfHistory h blocks' o
      open_of = record {
        size = newest;
        class = λ article e. absurd (none_is_none (sym unfinished ∙ e));
        octets = λ article e. absurd (none_is_none (sym unfinished ∙ e));
        text = λ article i e inside. absurd (none_is_none (sym unfinished ∙ e));
      }

      -- another one that can be found now could be found before
      could : (t : Token) → CanBeFound h.buffer blocks' t
          → ((i : ℕ) → i < size_of t.length → t.first + i ≢ o.first + k)
          → CanBeFound h.buffer blocks t
      could t found other = record {
        there = record {
          some = found.there.some;
          pieces = λ i inside. before t i (other i inside) (found.there.pieces i inside);
        };
        unpassed = λ u i p. elim (cases_eq (u.first + i) (o.first + k)) [
          | inl e ↦ omega (arith, left.passed u i p, ends, found.unpassed o k written)
          | inr n ↦ found.unpassed u i (behind u i n p)
        ];
      }

      begun : (t : Token) → CanBeFound h.buffer blocks' t → IsOfHistory h blocks' t
      begun t found = elim (cases_lt (o.first + k) t.first) [
        | inl less ↦ other_begun (λ i inside e. omega (arith, e, less))
        | inr more ↦ elim (cases_lt (o.first + k) (t.first + size_of t.length)) [
          | inl inside ↦
              let i = o.first + k - t.first in
              let p = found.there.pieces i (omega (arith, inside, more)) in
              subst (IsOfHistory h blocks') (sym (same t i (omega (arith, more)) p)) open_of
          | inr past ↦ other_begun (λ i inside e. omega (arith, e, past, inside))
        ]
      ]
        where
          other_begun : ((i : ℕ) → i < size_of t.length → t.first + i ≢ o.first + k)
              → IsOfHistory h blocks' t
          other_begun other =
              let was = left.begun t (could t found other) in
              record {
                size = was.size;
                class = was.class;
                octets = was.octets;
                text = λ article i e inside. others (t.first + i) (other i inside)
                    ∙ was.text article i e inside;
              }

      pub left_written : IsLeftOf h kept blocks'
      left_written = record {
        count = count ∙ left.count;
        passed = passed;
        begun = begun;
        live = left.live;
        there = λ t keep.
            let there = left.there t keep in
            record {
              some = there.some;
              pieces = λ i inside. behind t i (apart t i keep inside) (there.pieces i inside);
            };
      }

-- The newest begin is finished; no block is changed.
module _ (one : (a b : Block) → IsBlock a → IsBlock b → block_image a ≡ block_image b → a ≡ b)
    (buffer : Buffer) (b : Begin) (earlier : List Begin) (writing : Option Writing)
    (kept later : Token → Bool) (blocks : List (List ℕ))
    (none : b.finished ≡ None)
    (left : IsLeftOf (record { buffer = buffer; begins = b ∷ earlier; writing = writing }) kept
    blocks)
    (o : Token) (article : Article)
    (newest : is_at buffer (place_of buffer earlier b) o.cycle o.first ≡ true)
    (there : IsThere buffer blocks o) (class : article.class ≡ o.class)
    (octets : length article.text ≡ o.length)
    (text : (k : ℕ) → k < size_of o.length → block_at blocks (o.first + k)
    ≡ block_image (block_of o.cycle o.first article.class article.text k))
    (ends : end_on_line buffer.blocks o ≡ front_in buffer (b ∷ earlier))
    (still : (t : Token) → later t ≡ true → (kept t ≡ true) ⊎ (t ≡ o)) where
  abbrev done : Begin
  done = record b { finished = Some article }

  abbrev here : Token → Bool
  here t = is_at buffer (place_of buffer earlier b) t.cycle t.first

  -- an article that can be found at the place of the newest begin is the one that is finished
  at_newest : (t : Token) → CanBeFound buffer blocks t → here t ≡ true → t ≡ o
  at_newest t found e =
      let p = at_parts buffer (place_of buffer earlier b) t.cycle t.first e in
      let q = at_parts buffer (place_of buffer earlier b) o.cycle o.first newest in
      let first : t.first ≡ o.first = sym p.1 ∙ q.1 in
      let mine = found.there.pieces 0 (omega (arith, found.there.some)) in
      let own = there.pieces 0 (omega (arith, there.some)) in
      (one_article one buffer (block_at blocks (t.first + 0)) t o 0 0 mine
      (subst (λ n. IsPieceIn buffer (block_at blocks (n + 0)) o 0) (sym first) own)).0

  -- what was finished before is finished, and nothing else but the newest
  cases : (t : Token) (a : Article) → finished_at buffer (done ∷ earlier) t.cycle t.first ≡ Some a
      → ((here t ≡ true) × (a ≡ article))
      ⊎ (finished_at buffer (b ∷ earlier) t.cycle t.first ≡ Some a)
  cases t a e =
      elim (chosen (here t) (Some article) (finished_at buffer earlier t.cycle t.first) (Some a)
      e) [
        | inl p ↦ inl (p.0, sym (same_some p.1))
        | inr p ↦ inr (cond-false (here t) b.finished
            (finished_at buffer earlier t.cycle t.first) p.0 ∙ p.1)
      ]

  was_earlier : (t : Token) (a : Article)
      → finished_at buffer (b ∷ earlier) t.cycle t.first ≡ Some a
      → finished_at buffer (done ∷ earlier) t.cycle t.first ≡ Some a
  was_earlier t a e =
      elim (chosen (here t) b.finished (finished_at buffer earlier t.cycle t.first) (Some a) e) [
        | inl p ↦ absurd (none_is_none (sym none ∙ p.1))
        | inr p ↦ cond-false (here t) (Some article)
            (finished_at buffer earlier t.cycle t.first) p.0 ∙ p.1
      ]

  pub left_finish : IsLeftOf (record {
    buffer = buffer;
    begins = done ∷ earlier;
    writing = None;
  }) later blocks
  left_finish = record {
    count = left.count;
    passed = left.passed;
    begun = λ t found.
        let was = left.begun t found in
        record {
          size = was.size;
          class = λ a e. elim (cases t a e) [
            | inl p ↦ ap (λ (x : Article). x.class) p.1 ∙ class
                ∙ ap (λ (u : Token). u.class) (sym (at_newest t found p.0))
            | inr p ↦ was.class a p
          ];
          octets = λ a e. elim (cases t a e) [
            | inl p ↦ ap (λ (x : Article). length x.text) p.1 ∙ octets
                ∙ ap (λ (u : Token). u.length) (sym (at_newest t found p.0))
            | inr p ↦ was.octets a p
          ];
          text = λ a k e inside. elim (cases t a e) [
            | inl p ↦
                let same = sym (at_newest t found p.0) in
                subst (λ (x : Article). block_at blocks (t.first + k)
                ≡ block_image (block_of t.cycle t.first x.class x.text k)) (sym p.1)
                (subst (λ (u : Token). k < size_of u.length → block_at blocks (u.first + k)
                ≡ block_image (block_of u.cycle u.first article.class article.text k)) same
                (text k) inside)
            | inr p ↦ was.text a k p inside
          ];
        };
    live = λ t k. elim (still t k) [
      | inl old ↦
          let l = left.live t old in
          record {
            article = l.article;
            finished = was_earlier t l.article l.finished;
            buffer = l.buffer;
            class = l.class;
            octets = l.octets;
            live = l.live;
          }
      | inr e ↦ subst (λ (u : Token). IsLiveToken (record {
        buffer = buffer;
        begins = done ∷ earlier;
        writing = None;
      }) u) (sym e) (
          let piece = there.pieces 0 (omega (arith, there.some)) in
          record {
            article = article;
            finished = cond-true (here o) (Some article)
                (finished_at buffer earlier o.cycle o.first) newest;
            buffer = piece.number;
            class = class;
            octets = octets;
            live = record {
              begun = omega (arith, ends, piece.inside);
              here = omega (arith, ends, piece.ends);
            };
          })
    ];
    there = λ t k. elim (still t k) [
      | inl old ↦ left.there t old
      | inr e ↦ subst (IsThere buffer blocks) (sym e) there
    ];
  }

-- A device that has no block of any article of the buffer is one in which nothing was begun.
pub left_unused : (buffer : Buffer) (blocks : List (List ℕ)) → length blocks ≡ buffer.blocks
    → ((t : Token) (k : ℕ) → IsPiece buffer blocks t k → ⊥)
    → IsLeftOf (new_history buffer) (λ t. false) blocks
left_unused buffer blocks count none = record {
  count = count;
  passed = λ t k piece. absurd (none t k piece);
  begun = λ t found. absurd (none t 0 (found.there.pieces 0 (omega (arith, found.there.some))));
  live = λ t k. absurd (false≢true k);
  there = λ t k. absurd (false≢true k);
}
