-- What a loss of writes leaves.
use Rattle.std.proofs.Common.{◌≡◌, ◌⊎◌, ◌∙◌, ℕ, ◌+◌, ◌<◌, ◌≤◌, inl, inr, Bool, true, sym, ap}
use Rattle.std.proofs.Common.{subst, arith, List}
use Rattle.std.proofs.lemmas.Bool.{cases_lt}
use Rattle.news_terms.specs.BlockImage.{Block, IsBlock, block_image}
use Rattle.news_terms.specs.Places.{Buffer, size_of, on_line}
use Rattle.news_terms.specs.Token.{Token}
use Rattle.cyc_block.specs.Store.{block_at}
use Rattle.cyc_buffer.specs.Crash.{CanBeFound, IsLeftOf, IsLossOf, IsOfHistory, IsPiece}
use Rattle.cyc_buffer.specs.Crash.{IsPieceIn, IsThere, IsWrittenSince, end_on_line}
use Rattle.cyc_buffer.specs.History.{History, front_of}
use Rattle.cyc_buffer.specs.Stopped.{IsLiveToken}
use Rattle.cyc_buffer.proofs.CrashSteps.{one_article}

module _ (one : (a b : Block) → IsBlock a → IsBlock b → block_image a ≡ block_image b → a ≡ b)
    (h : History) (kept : Token → Bool) (safe : List (List ℕ)) (left : IsLeftOf h kept safe)
    (later : History) (blocks : List (List ℕ)) (loss : IsLossOf h safe later blocks) where
  -- a block that is there is one of the safe device, or was written since
  old_or_new : (t : Token) (k : ℕ) → IsPiece later.buffer blocks t k
      → ((block_at blocks (t.first + k) ≡ block_at safe (t.first + k))
      × IsPiece h.buffer safe t k)
      ⊎ IsWrittenSince (front_of h) later blocks t k
  old_or_new t k p = elim (loss.each (t.first + k)) [
    | inl same ↦ inl (
      same,
      subst (λ (b : Buffer). IsPieceIn b (block_at safe (t.first + k)) t k)
          loss.buffer (subst (λ (os : List ℕ). IsPieceIn later.buffer os t k) same p),
    )
    | inr s ↦
        let same = one_article one later.buffer (block_at blocks (t.first + k)) s.token t s.index k
        (subst (λ j. IsPieceIn later.buffer (block_at blocks j) s.token s.index) s.here
        s.written.piece) p in
        inr (subst (λ i. IsWrittenSince (front_of h) later blocks t i) same.1
        (subst (λ (u : Token). IsWrittenSince (front_of h) later blocks u s.index) same.0
        s.written))
  ]

  same_blocks : later.buffer.blocks ≡ h.buffer.blocks
  same_blocks = ap (λ (b : Buffer). b.blocks) loss.buffer

  -- the end and the place of an article are the same by both histories
  ends : (t : Token) → end_on_line later.buffer.blocks t ≡ end_on_line h.buffer.blocks t
  ends t = ap (λ n. end_on_line n t) same_blocks

  places : (t : Token) → on_line later.buffer.blocks t.cycle t.first
      ≡ on_line h.buffer.blocks t.cycle t.first
  places t = ap (λ n. on_line n t.cycle t.first) same_blocks

  passed : (t : Token) (k : ℕ) → IsPiece later.buffer blocks t k
      → end_on_line later.buffer.blocks t ≤ front_of later
  passed t k p = elim (old_or_new t k p) [
    | inl o ↦ omega (arith, left.passed t k o.1, loss.front, ends t)
    | inr n ↦ n.ends
  ]

  module _ (t : Token) (found : CanBeFound later.buffer blocks t) where
    some : 1 ≤ size_of t.length
    some = omega (arith, found.there.some)

    -- one that begins behind the safe front was written since
    new_each : front_of h ≤ on_line h.buffer.blocks t.cycle t.first → (k : ℕ)
        → k < size_of t.length → IsWrittenSince (front_of h) later blocks t k
    new_each behind k inside = elim (old_or_new t k (found.there.pieces k inside)) [
      | inl o ↦ absurd (omega (arith, left.passed t k o.1, behind, some))
      | inr n ↦ n
    ]

    new_begun : front_of h ≤ on_line h.buffer.blocks t.cycle t.first → IsOfHistory later blocks t
    new_begun behind =
        let first = new_each behind 0 (omega (arith, some)) in
        record {
          size = first.size;
          class = first.class;
          octets = first.octets;
          text = λ article k e inside. (new_each behind k inside).text article e;
        }

    -- one that begins before it was there
    old_each : on_line h.buffer.blocks t.cycle t.first < front_of h → (k : ℕ)
        → k < size_of t.length
        → (block_at blocks (t.first + k) ≡ block_at safe (t.first + k)) × IsPiece h.buffer safe t k
    old_each before k inside = elim (old_or_new t k (found.there.pieces k inside)) [
      | inl o ↦ o
      | inr n ↦ absurd (omega (arith, n.since, places t, before))
    ]

    -- and nothing had passed it
    old_unpassed : (u : Token) (k : ℕ) → IsPiece h.buffer safe u k
        → end_on_line h.buffer.blocks u
        ≤ on_line h.buffer.blocks t.cycle t.first + h.buffer.blocks
    old_unpassed u k p = elim (loss.each (u.first + k)) [
      | inl same ↦
          let now = subst (λ (b : Buffer). IsPieceIn b (block_at blocks (u.first + k)) u k)
          (sym loss.buffer) (subst (λ (os : List ℕ). IsPieceIn h.buffer os u k) (sym same) p) in
          omega (arith, found.unpassed u k now, ends u, places t, same_blocks)
      | inr s ↦ omega (
        arith,
        left.passed u k p,
        s.written.since,
        places s.token,
        ends s.token,
        found.unpassed s.token s.index s.written.piece,
        places t,
        same_blocks,
      )
    ]

    old_begun : on_line h.buffer.blocks t.cycle t.first < front_of h → IsOfHistory later blocks t
    old_begun before =
        let was = left.begun t (record {
          there = record {
            some = found.there.some;
            pieces = λ k inside. (old_each before k inside).1;
          };
          unpassed = old_unpassed;
        }) in
        record {
          size = loss.begun t.cycle t.first (size_of t.length) was.size;
          class = λ article e. was.class article (loss.finished t.cycle t.first article e before);
          octets = λ article e. was.octets article (loss.finished t.cycle t.first article e before);
          text = λ article k e inside. (old_each before k inside).0
              ∙ was.text article k (loss.finished t.cycle t.first article e before) inside;
        }

    begun : IsOfHistory later blocks t
    begun = elim (cases_lt (on_line h.buffer.blocks t.cycle t.first) (front_of h)) [
      | inl before ↦ old_begun before
      | inr behind ↦ new_begun behind
    ]

  -- what is safe by then is left
  pub left_lost : (safe_now : Token → Bool)
      → ((t : Token) → safe_now t ≡ true → IsLiveToken later t)
      → ((t : Token) → safe_now t ≡ true → IsThere later.buffer blocks t)
      → IsLeftOf later safe_now blocks
  left_lost safe_now live there = record {
    count = loss.count ∙ left.count ∙ sym same_blocks;
    passed = passed;
    begun = begun;
    live = live;
    there = there;
  }
