-- What a write of a block of the open write leaves, where a crash comes behind it.
use Rattle.std.proofs.Common.{◌≡◌, ◌≢◌, ◌⊎◌, ◌∙◌, ℕ, ◌+◌, ◌-◌, ◌*◌, ◌^◌, ◌<◌, ◌≤◌, inl, inr, Bool}
use Rattle.std.proofs.Common.{true}
use Rattle.std.proofs.Common.{refl, sym, ap, subst, arith, List, ◌∷◌, length, min, Option}
use Rattle.std.proofs.Common.{None, Some}
use Rattle.std.proofs.Common.{take, drop, get_or}
use Rattle.std.specs.Int.{w16, w32, from_be_bytes}
use Rattle.std.proofs.lemmas.Nat.{from_be_bytes-to_be_bytes_2, from_be_bytes-to_be_bytes_4}
use Rattle.std.specs.List.{AllByRecursion}
use Rattle.std.proofs.Math.Nat.{mul-le-mul_right}
use Rattle.std.proofs.lemmas.Bool.{cases_order, cond-true}
use Rattle.news_terms.specs.BlockImage.{Block, IsBlock, block_image, chunk, chunk_size}
use Rattle.news_terms.specs.Places.{Buffer, Head, size_of}
use Rattle.news_terms.specs.Token as terms
use Rattle.cyc_block.specs.Image.{stamped}
use Rattle.cyc_block.specs.Store.{block_at}
use Rattle.cyc_token.specs.Token.{token_view}
use Rattle.cyc_token.specs.declared.Token.{Token}
use Rattle.cyc_buffer.specs.BufferState.{IsSized, Writes}
use Rattle.cyc_buffer.specs.Agreement.{HoldsOpen}
use Rattle.cyc_buffer.specs.Crash.{IsLeftOf, IsPiece, IsPieceIn, IsThere, end_on_line}
use Rattle.cyc_buffer.specs.History.{Begin, History, Writing, begun_at, finished_at, front_of}
use Rattle.cyc_buffer.specs.History.{head_of}
use Rattle.cyc_buffer.specs.History.{Article, finish_begins, is_at, with_finish}
use Rattle.cyc_buffer.specs.Progress.{IsTheOpen, stamp_of, written_of}
use Rattle.cyc_buffer.specs.declared.buffer_state.Open.{Open}
use Rattle.cyc_buffer.specs.declared.buffer_state.Progress.{Progress}
use Rattle.cyc_buffer.proofs.Apart.{before_next}
use Rattle.cyc_buffer.proofs.CrashLaws.{front_in}
use Rattle.cyc_buffer.proofs.CrashSteps.{left_finish, left_written}
use Rattle.cyc_buffer.proofs.Finishing.{whole_text}
use Rattle.cyc_buffer.proofs.FoundTexts.{payload_of}
use Rattle.cyc_buffer.proofs.Finished.{at_itself, lies, place_of, was_finished}
use Rattle.cyc_buffer.proofs.Places.{placed_within}
use Rattle.cyc_buffer.proofs.Writes.{chunk_length}

-- The token is that of the newest begin, which isn't finished.
pub record IsNewest (buffer : Buffer) (begins : List Begin) (o : terms.Token) : Type 0 where
  pub b : Begin
  pub earlier : List Begin
  pub begins_are : begins ≡ b ∷ earlier
  pub none : b.finished ≡ None
  pub size : b.size ≡ size_of o.length
  pub number : o.buffer ≡ buffer.number
  pub cycle : o.cycle ≡ buffer.first_cycle + (place_of buffer earlier b).run
  pub first : o.first ≡ (place_of buffer earlier b).used
  pub some : 1 ≤ o.length
  pub class : o.class < 2 ^ 8
  pub octets : o.length < 2 ^ 32

-- the open write of a register that agrees with a history is of its newest begin
pub newest_open : (h : History) (write : Open) (p : Option Progress) (o : Option Writing)
    → Writes h p o → IsTheOpen write p → IsNewest h.buffer h.begins (token_view write.token)
newest_open h write None o writes owned = absurd owned
newest_open h write (Some p) None writes owned = absurd writes
newest_open h write (Some p) (Some w) writes owned =
    let b : Begin = record { size = size_of w.octets; fresh = writes.fresh; finished = None } in
    subst (λ (t : Token). IsNewest h.buffer h.begins (token_view t)) owned
    (subst (IsNewest h.buffer h.begins) (sym writes.token) (record {
      b = b;
      earlier = writes.earlier;
      begins_are = writes.newest;
      none = refl;
      size = refl;
      number = refl;
      cycle = refl;
      first = refl;
      some = writes.some;
      class = writes.class;
      octets = writes.octets;
    }))

module _ (h : History) (sized : AllByRecursion (IsSized h.buffer.blocks) h.begins) (o : terms.Token)
    (n : IsNewest h.buffer h.begins o) where
  abbrev place : Head
  place = place_of h.buffer n.earlier n.b

  here : is_at h.buffer place o.cycle o.first ≡ true
  here = ap (λ m. is_at h.buffer place m o.first) n.cycle
      ∙ ap (is_at h.buffer place (h.buffer.first_cycle + place.run)) n.first
      ∙ at_itself h.buffer place

  sized_newest : AllByRecursion (IsSized h.buffer.blocks) (n.b ∷ n.earlier)
  sized_newest = subst (AllByRecursion (IsSized h.buffer.blocks)) n.begins_are sized

  begun : begun_at h.buffer h.begins o.cycle o.first ≡ Some (size_of o.length)
  begun = ap (λ (bs : List Begin). begun_at h.buffer bs o.cycle o.first) n.begins_are
      ∙ cond-true (is_at h.buffer place o.cycle o.first) (Some n.b.size)
      (begun_at h.buffer n.earlier o.cycle o.first) here
      ∙ ap Some n.size

  unfinished : finished_at h.buffer h.begins o.cycle o.first ≡ None
  unfinished = ap (λ (bs : List Begin). finished_at h.buffer bs o.cycle o.first) n.begins_are
      ∙ cond-true (is_at h.buffer place o.cycle o.first) n.b.finished
      (finished_at h.buffer n.earlier o.cycle o.first) here
      ∙ n.none

  ends : end_on_line h.buffer.blocks o ≡ front_of h
  ends = omega (arith, ap (λ m. m * h.buffer.blocks) n.cycle, n.first, n.size)
      ∙ ap (front_in h.buffer) (sym n.begins_are)

  within : o.first + size_of o.length ≤ h.buffer.blocks
  within = omega (
    arith,
    n.first,
    n.size,
    placed_within h.buffer.blocks (head_of h.buffer.blocks n.earlier) n.b.fresh n.b.size
        sized_newest.0.within,
  )

  -- what is to be kept lies clear of it
  apart : (kept : terms.Token → Bool) (blocks : List (List ℕ)) → IsLeftOf h kept blocks
      → (k : ℕ) → k < size_of o.length → (t : terms.Token) (i : ℕ) → kept t ≡ true
      → i < size_of t.length → t.first + i ≢ o.first + k
  apart kept blocks left k inside t i keep inner e =
      let l = left.live t keep in
      let lie = lies h.buffer h.begins t.cycle t.first l.article sized l.finished in
      let size : size_of (length l.article.text) ≡ size_of t.length = ap size_of l.octets in
      elim (cases_order t.cycle o.cycle) [
        | inl same ↦
            let was = was_finished h.buffer n.earlier n.b t.cycle t.first l.article n.none
            (ap (λ (bs : List Begin). finished_at h.buffer bs t.cycle t.first) (sym n.begins_are)
            ∙ l.finished) in
            let ahead = before_next h.buffer n.earlier n.b t.cycle t.first o.first l.article
            (lies h.buffer n.earlier t.cycle t.first l.article sized_newest.1 was)
            (ap (λ m. is_at h.buffer place m o.first) same ∙ here) in
            omega (arith, ahead, size, inner, e)
        | inr other ↦ elim other [
          | inl less ↦ omega (
            arith,
            l.live.here,
            ends,
            e,
            inside,
            one_more t.cycle h.buffer.blocks,
            mul-le-mul_right {m = t.cycle + 1} {n = o.cycle} h.buffer.blocks
                (omega (arith, less)),
          )
          | inr more ↦ omega (
            arith,
            l.live.begun,
            ends,
            within,
            one_more o.cycle h.buffer.blocks,
            mul-le-mul_right {m = o.cycle + 1} {n = t.cycle} h.buffer.blocks
                (omega (arith, more)),
          )
        ]
      ]
    where
      one_more : (m count : ℕ) → (m + 1) * count ≡ m * count + count
      one_more m count = omega arith

-- the block that was written is one of the article of the open write
pub written_piece : (h : History) (sized : AllByRecursion (IsSized h.buffer.blocks) h.begins)
    (token : Token) (n : IsNewest h.buffer h.begins (token_view token)) (after : List (List ℕ))
    (k : ℕ) (text : List ℕ) → length text ≡ token.length → k < size_of token.length
    → token.cycle < 2 ^ 32 → token.first < 2 ^ 32 → k < 2 ^ 32
    → block_at after (token.first + k) ≡ block_image (stamped (stamp_of token k) (chunk k text))
    → IsPiece h.buffer after (token_view token) k
written_piece h sized token n after k text octets inside cycle first index image =
    let ends = within h sized (token_view token) n in
    let size = chunk_length k text in
    record {
      number = n.number;
      begun = omega (arith, n.cycle);
      ends = ends;
      inside = inside;
      image = record {
        payload = chunk k text;
        block = record {
          cycle = cycle;
          first = first;
          index = index;
          article_length = n.octets;
          class = n.class;
          some = omega (arith, size, octets, inside);
          at_most = omega (arith, size);
        };
        fills = size ∙ ap (λ m. min chunk_size (m - chunk_size * k)) octets;
        image = image;
      };
    }

-- what a write leaves, whose block is one of the open write's now
pub left_write : ((a b : Block) → IsBlock a → IsBlock b → block_image a ≡ block_image b → a ≡ b)
    → (h : History) (kept : terms.Token → Bool) (blocks after : List (List ℕ))
    → AllByRecursion (IsSized h.buffer.blocks) h.begins → IsLeftOf h kept blocks
    → (token : Token) → IsNewest h.buffer h.begins (token_view token) → (k : ℕ)
    → length after ≡ length blocks → IsPiece h.buffer after (token_view token) k
    → ((j : ℕ) → j ≢ token.first + k → block_at after j ≡ block_at blocks j)
    → IsLeftOf h kept after
left_write one h kept blocks after sized left token n k count piece others =
    let o = token_view token in
    left_written one h kept blocks after left o k (begun h sized o n) (unfinished h sized o n)
    (ends h sized o n) count piece others
    (apart h sized o n kept blocks left k piece.inside)

-- where no block holds other octets, nothing else is left
pub left_same : (h : History) (kept : terms.Token → Bool) (blocks after : List (List ℕ))
    → length after ≡ length blocks → ((j : ℕ) → block_at after j ≡ block_at blocks j)
    → IsLeftOf h kept blocks → IsLeftOf h kept after
left_same h kept blocks after count same left =
    let old : (t : terms.Token) (k : ℕ) → IsPiece h.buffer after t k → IsPiece h.buffer blocks t k =
    λ t k p. subst (λ (os : List ℕ). IsPieceIn h.buffer os t k) (same (t.first + k)) p in
    let new : (t : terms.Token) (k : ℕ) → IsPiece h.buffer blocks t k → IsPiece h.buffer after t k =
    λ t k p. subst (λ (os : List ℕ). IsPieceIn h.buffer os t k) (sym (same (t.first + k))) p in
    record {
      count = count ∙ left.count;
      passed = λ t k p. left.passed t k (old t k p);
      begun = λ t found.
          let was = left.begun t (record {
            there = record {
              some = found.there.some;
              pieces = λ k inside. old t k (found.there.pieces k inside);
            };
            unpassed = λ u k p. found.unpassed u k (new u k p);
          }) in
          record {
            size = was.size;
            class = was.class;
            octets = was.octets;
            text = λ article k e inside. same (t.first + k) ∙ was.text article k e inside;
          };
      live = left.live;
      there = λ t k.
          let there = left.there t k in
          record { some = there.some; pieces = λ i inside. new t i (there.pieces i inside) };
    }

-- an image is that of one block
pub one_image : (a b : Block) → IsBlock a → IsBlock b → block_image a ≡ block_image b → a ≡ b
one_image a b ha hb e =
    let cycle : a.cycle ≡ b.cycle =
    sym (from_be_bytes-to_be_bytes_4 a.cycle ha.cycle)
    ∙ ap (λ (x : List ℕ). from_be_bytes w32 (take 4 (drop 4 x))) e
    ∙ from_be_bytes-to_be_bytes_4 b.cycle hb.cycle in
    let first : a.first ≡ b.first =
    sym (from_be_bytes-to_be_bytes_4 a.first ha.first)
    ∙ ap (λ (x : List ℕ). from_be_bytes w32 (take 4 (drop 8 x))) e
    ∙ from_be_bytes-to_be_bytes_4 b.first hb.first in
    let index : a.index ≡ b.index =
    sym (from_be_bytes-to_be_bytes_4 a.index ha.index)
    ∙ ap (λ (x : List ℕ). from_be_bytes w32 (take 4 (drop 12 x))) e
    ∙ from_be_bytes-to_be_bytes_4 b.index hb.index in
    let article_length : a.article_length ≡ b.article_length =
    sym (from_be_bytes-to_be_bytes_4 a.article_length ha.article_length)
    ∙ ap (λ (x : List ℕ). from_be_bytes w32 (take 4 (drop 16 x))) e
    ∙ from_be_bytes-to_be_bytes_4 b.article_length hb.article_length in
    let sized_a : length a.payload < 2 ^ 16 = omega (arith, ha.at_most) in
    let sized_b : length b.payload < 2 ^ 16 = omega (arith, hb.at_most) in
    let size : length a.payload ≡ length b.payload =
    sym (from_be_bytes-to_be_bytes_2 (length a.payload) sized_a)
    ∙ ap (λ (x : List ℕ). from_be_bytes w16 (take 2 (drop 20 x))) e
    ∙ from_be_bytes-to_be_bytes_2 (length b.payload) sized_b in
    let class : a.class ≡ b.class = ap (λ (x : List ℕ). get_or x 22 0) e in
    let payload : a.payload ≡ b.payload =
    sym (payload_of a)
    ∙ ap (λ n. take n (drop 32 (block_image a))) size
    ∙ ap (λ (x : List ℕ). take (length b.payload) (drop 32 x)) e
    ∙ payload_of b in
    λ i. record {
      cycle = cycle i;
      first = first i;
      index = index i;
      article_length = article_length i;
      class = class i;
      payload = payload i;
    }

-- what is left has nothing to do with the open write
pub left_writing : (h : History) (kept : terms.Token → Bool) (blocks : List (List ℕ))
    (o : Option Writing) → IsLeftOf h kept blocks → IsLeftOf (record h { writing = o }) kept blocks
left_writing h kept blocks o left = record {
  count = left.count;
  passed = left.passed;
  begun = λ t found.
      let was = left.begun t found in
      record { size = was.size; class = was.class; octets = was.octets; text = was.text };
  live = λ t k.
      let l = left.live t k in
      record {
        article = l.article;
        finished = l.finished;
        buffer = l.buffer;
        class = l.class;
        octets = l.octets;
        live = l.live;
      };
  there = left.there;
}

-- what a finish leaves
pub left_finished : (h : History) (kept later : terms.Token → Bool) (blocks : List (List ℕ))
    (write : Open) (p : Option Progress) (o : Option Writing) → h.writing ≡ o → Writes h p o
    → IsTheOpen write p → written_of p ≡ size_of write.token.length → HoldsOpen blocks p o
    → AllByRecursion (IsSized h.buffer.blocks) h.begins
    → write.token.cycle < 2 ^ 32 → write.token.first < 2 ^ 32
    → size_of write.token.length < 2 ^ 32 → IsLeftOf h kept blocks
    → ((t : terms.Token) → later t ≡ true → (kept t ≡ true) ⊎ (t ≡ token_view write.token))
    → IsLeftOf (with_finish h) later blocks
left_finished h kept later blocks write None o is writes owned all held sized cycle first size left
    still = absurd owned
left_finished h kept later blocks write (Some p) None is writes owned all held sized cycle first
    size left still = absurd writes
left_finished h kept later blocks write (Some p) (Some w) is writes owned all held sized cycle first
    size left still =
    let token = write.token in
    let n = newest_open h write (Some p) (Some w) writes owned in
    let octets : token.length ≡ w.octets = ap (λ (t : Token). t.length) (sym owned)
    ∙ ap (λ (t : terms.Token). t.length) writes.token in
    let class : token.class ≡ w.class = ap (λ (t : Token). t.class) (sym owned)
    ∙ ap (λ (t : terms.Token). t.class) writes.token in
    let count : w.blocks ≡ size_of w.octets = sym writes.written ∙ all ∙ ap size_of octets in
    let text : length w.text ≡ w.octets = whole_text w writes.text count in
    let stands : (k : ℕ) → k < size_of token.length → block_at blocks (token.first + k)
    ≡ block_image (stamped (stamp_of token k) (chunk k w.text)) =
    λ k inside. ap (λ (t : Token). block_at blocks (t.first + k)) (sym owned)
    ∙ held k (omega (arith, inside, count, ap size_of octets))
    ∙ ap block_image (λ i. record {
      cycle = (owned i).cycle;
      first = (owned i).first;
      index = k;
      article_length = sym octets i;
      class = sym class i;
      payload = chunk k w.text;
    }) in
    let there : IsThere h.buffer blocks (token_view token) = record {
      some = n.some;
      pieces = λ k inside. written_piece h sized token n blocks k w.text (text ∙ sym octets) inside
          cycle first (omega (arith, inside, size)) (stands k inside);
    } in
    let article : Article = record { class = w.class; text = w.text } in
    let done : Begin = record n.b { finished = Some article } in
    subst (λ (bs : List Begin). IsLeftOf (record {
      buffer = h.buffer;
      begins = bs;
      writing = None;
    }) later blocks)
    (sym (ap (λ (x : Option Writing). finish_begins x h.begins) is
    ∙ ap (λ (bs : List Begin). finish_begins (Some w) bs) n.begins_are))
    (left_finish one_image h.buffer n.b n.earlier h.writing kept later blocks n.none
    (subst (λ (bs : List Begin). IsLeftOf (record {
      buffer = h.buffer;
      begins = bs;
      writing = h.writing;
    }) kept blocks) n.begins_are left)
    (token_view token) article (here h sized (token_view token) n) there (sym class)
    (text ∙ sym octets)
    (λ k inside. stands k inside ∙ ap block_image (λ i. record {
      cycle = token.cycle;
      first = token.first;
      index = k;
      article_length = (octets ∙ sym text) i;
      class = class i;
      payload = chunk k w.text;
    }))
    (ends h sized (token_view token) n ∙ ap (front_in h.buffer) n.begins_are) still)
