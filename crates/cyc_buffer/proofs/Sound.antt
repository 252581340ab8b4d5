-- Nothing is wrong with the numbers, the bits and the articles of a buffer that was stopped.
use Rattle.std.proofs.Common.{◌≡◌, ◌∙◌, ℕ, ◌+◌, ◌-◌, ◌*◌, ◌^◌, ◌<◌, ◌≤◌, inl, inr, nat_lt}
use Rattle.std.proofs.Common.{false, refl, sym, ap, subst, arith, filter, List, [], ◌∷◌}
use Rattle.std.proofs.Common.{length, Some}
use Rattle.std.specs.List.{AllByRecursion}
use Rattle.std.proofs.lemmas.Bool.{false≢true, cond_both, cond-true, cond-false, lt-ltb, le-ltb}
use Rattle.std.proofs.lemmas.Bool.{false_from_ne_true}
use Rattle.news_terms.specs.BlockImage.{chunk}
use Rattle.news_terms.specs.HeadBlocks.{Closed}
use Rattle.news_terms.specs.Places.{Buffer, size_of}
use Rattle.news_terms.specs.Token as tokens
use Rattle.cyc_block.specs.Store.{block_at}
use Rattle.cyc_buffer.specs.History.{Article, Begin, History, head_of, cycle_of, finished_at}
use Rattle.cyc_buffer.specs.History.{is_at, is_stored, stored_count}
use Rattle.cyc_buffer.specs.BufferState.{IsSized, IsUnpassedBy}
use Rattle.cyc_buffer.specs.Stopped.{HoldsStopped, has_bit, used_of}
use Rattle.cyc_buffer.specs.Stopped.{numbers_of, passed_blocks, end_by, IsImageUnder, IsWhole}
use Rattle.cyc_buffer.specs.Stopped.{IsDamaged, HeadAbove, CycleBelow, BegunAbove, StoredAbove}
use Rattle.cyc_buffer.specs.Stopped.{BitBeyond, NotWhole}
use Rattle.cyc_buffer.proofs.Apart.{apart}
use Rattle.cyc_buffer.proofs.Places.{placed, placed_within, one_cycle, chosen}
use Rattle.cyc_buffer.proofs.Finished.{lies, none_is_none, place_of, at_parts}
use Rattle.cyc_buffer.proofs.Writes.{chunk_length}
use Rattle.cyc_buffer.proofs.Reading.{is_block}
use Rattle.cyc_buffer.proofs.StartLemmas.{unpassed_inside}

-- the head is within the buffer
pub used_within : (blocks : ℕ) (begins : List Begin) → AllByRecursion (IsSized blocks) begins
    → (head_of blocks begins).used ≤ blocks
used_within blocks [] sized = omega arith
used_within blocks (b ∷ earlier) sized =
    placed_within blocks (head_of blocks earlier) b.fresh b.size sized.0.within

-- no more were begun than blocks were passed
begun_within : (blocks : ℕ) (begins : List Begin) → AllByRecursion (IsSized blocks) begins
    → length begins
    ≤ (head_of blocks begins).run * blocks + (head_of blocks begins).used
begun_within blocks [] sized = omega arith
begun_within blocks (b ∷ earlier) sized =
    let before = begun_within blocks earlier sized.1 in
    let room = used_within blocks earlier sized.1 in
    let some = sized.0.some in
    elim (placed blocks (head_of blocks earlier) b.fresh b.size) [
      | inl p ↦ omega (arith, before, some, p.1, ap (λ n. n * blocks) p.0)
      | inr p ↦ omega (
        arith,
        before,
        room,
        some,
        p.1,
        ap (λ n. n * blocks) p.0,
        one_more (head_of blocks earlier).run blocks,
      )
    ]
  where
    one_more : (run blocks : ℕ) → (run + 1) * blocks ≡ run * blocks + blocks
    one_more run blocks = omega arith

-- no more were stored than begun
stored_within : (begins : List Begin) → stored_count begins ≤ length begins
stored_within [] = omega arith
stored_within (b ∷ earlier) =
    let rest = stored_within earlier in
    cond_both (is_stored b) (b ∷ filter is_stored earlier) (filter is_stored earlier)
    (λ (bs : List Begin). length bs ≤ length (b ∷ earlier)) (λ e. omega (arith, rest))
    (λ e. omega (arith, rest))

-- what was finished was begun in the first cycle or a later one
pub first_within : (buffer : Buffer) (begins : List Begin) (cycle first : ℕ) (article : Article)
    → finished_at buffer begins cycle first ≡ Some article → buffer.first_cycle ≤ cycle
first_within buffer [] cycle first article e = absurd (none_is_none e)
first_within buffer (b ∷ earlier) cycle first article e =
    elim (chosen (is_at buffer (place_of buffer earlier b) cycle first) b.finished
    (finished_at buffer earlier cycle first) (Some article) e) [
      | inl p ↦
          let at = at_parts buffer (place_of buffer earlier b) cycle first p.0 in
          omega (arith, at.0)
      | inr p ↦ first_within buffer earlier cycle first article p.1
    ]

module _ (heads blocks : List (List ℕ)) (stop : ℕ) (h : History)
    (held : HoldsStopped heads blocks stop h) where
  -- the head is not above the number of blocks
  pub head_within : used_of h ≤ h.buffer.blocks
  head_within = used_within h.buffer.blocks h.begins held.sizes

  -- no more were begun than blocks were passed
  begun_fits : length h.begins ≤ passed_blocks (numbers_of Closed stop h)
  begun_fits =
      let run : cycle_of h - h.buffer.first_cycle ≡ (head_of h.buffer.blocks h.begins).run =
      omega arith in
      omega (
        arith,
        begun_within h.buffer.blocks h.begins held.sizes,
        ap (λ n. n * h.buffer.blocks) run,
      )

  -- where an article ends that begins before the head, or behind it
  ends_by : (cycle first : ℕ) (article : Article)
      → finished_at h.buffer h.begins cycle first ≡ Some article
      → IsUnpassedBy (cycle_of h) (used_of h) cycle first
      → first + size_of (length article.text) ≤ end_by (numbers_of Closed stop h) first
  ends_by cycle first article finished unpassed =
      let l = lies h.buffer h.begins cycle first article held.sizes finished in
      elim unpassed [
        | inl u ↦ subst (λ n. first + size_of (length article.text) ≤ n)
            (sym (cond-true (nat_lt first (used_of h)) (used_of h) h.buffer.blocks
            (lt-ltb first (used_of h) u.1)))
            (elim l.before [
              | inl q ↦ absurd (omega (arith, u.0, q))
              | inr q ↦ q.1
            ])
        | inr u ↦ subst (λ n. first + size_of (length article.text) ≤ n)
            (sym (cond-false (nat_lt first (used_of h)) (used_of h) h.buffer.blocks
            (le-ltb first (used_of h) u.1)))
            l.within
      ]

  -- each block of a live article is an image with its token's stamp
  image_inside : (cycle first k : ℕ) (article : Article)
      → finished_at h.buffer h.begins cycle first ≡ Some article → k < size_of (length article.text)
      → IsUnpassedBy (cycle_of h) (used_of h) cycle first
      → IsImageUnder (block_at blocks (first + k)) (record {
        class = article.class;
        buffer = h.buffer.number;
        cycle = cycle;
        first = first;
        length = length article.text;
      }) k
  image_inside cycle first k article finished inside unpassed =
      let l = lies h.buffer h.begins cycle first article held.sizes finished in
      let in_time : cycle ≤ cycle_of h =
      elim unpassed [ inl p ↦ omega (arith, p.0) | inr p ↦ omega (arith, p.0) ] in
      let cycle_fits : cycle_of h < 2 ^ 32 = held.fit.cycle in
      let count_fits : h.buffer.blocks < 2 ^ 32 = held.fit.blocks in
      record {
        payload = chunk k article.text;
        block = is_block cycle first k article (omega (arith, in_time, cycle_fits))
            (omega (arith, l.within, inside, count_fits)) l.class l.octets inside;
        fills = chunk_length k article.text;
        image = held.articles cycle first k article finished inside
            (unpassed_inside heads blocks stop h held cycle first k article finished inside
            unpassed);
      }

  -- no other live article begins inside a live article
  clear : (cycle first j : ℕ) (article : Article)
      → finished_at h.buffer h.begins cycle first ≡ Some article
      → IsUnpassedBy (cycle_of h) (used_of h) cycle first
      → first < j → j < first + size_of (length article.text) → has_bit heads j ≡ false
  clear cycle first j article finished unpassed behind inside =
      let l = lies h.buffer h.begins cycle first article held.sizes finished in
      false_from_ne_true (has_bit heads j) (λ e.
      let s = (held.bitmap.starts j (omega (arith, inside, l.within))).0 e in
      let same : s.cycle ≡ cycle =
      one_cycle (cycle_of h) (used_of h) s.cycle cycle j s.unpassed (subst
      (IsUnpassedBy (cycle_of h) (used_of h) cycle) {x = first + (j - first)}
      (omega (arith, behind))
      (unpassed_inside heads blocks stop h held cycle first (j - first) article finished
      (omega (arith, behind, inside)) unpassed)) in
      let other : finished_at h.buffer h.begins cycle j ≡ Some s.article =
      ap (λ n. finished_at h.buffer h.begins n j) (sym same) ∙ s.finished in
      let ends = apart h.buffer h.begins cycle first j article s.article held.sizes finished other
      behind in
      omega (arith, ends, inside))

  -- the token of a finished article
  abbrev pub token_for : (cycle first : ℕ) → Article → tokens.Token
  token_for cycle first article = record {
    class = article.class;
    buffer = h.buffer.number;
    cycle = cycle;
    first = first;
    length = length article.text;
  }

  -- a live finished article is whole on the device
  pub whole_live : (cycle first : ℕ) (article : Article)
      → finished_at h.buffer h.begins cycle first ≡ Some article
      → IsUnpassedBy (cycle_of h) (used_of h) cycle first
      → IsWhole heads blocks (numbers_of Closed stop h) (token_for cycle first article)
  whole_live cycle first article finished unpassed =
      let l = lies h.buffer h.begins cycle first article held.sizes finished in
      record {
        marked = (held.bitmap.starts first (omega (arith, l.within, l.some))).1 (record {
          cycle = cycle;
          article = article;
          finished = finished;
          unpassed = unpassed;
        });
        buffer = refl;
        some = omega (arith, l.some);
        begun = first_within h.buffer h.begins cycle first article finished;
        live = unpassed;
        ends = ends_by cycle first article finished unpassed;
        images = λ k inside. image_inside cycle first k article finished inside unpassed;
        clear = λ j behind inside. clear cycle first j article finished unpassed behind inside;
      }

  -- a device that holds a buffer as stopped isn't damaged
  pub not_damaged : IsDamaged heads blocks (numbers_of Closed stop h) → ⊥
  not_damaged (HeadAbove e) = omega (arith, e, head_within)
  not_damaged (CycleBelow e) = omega (arith, e)
  not_damaged (BegunAbove e) = omega (arith, e, begun_fits)
  not_damaged (StoredAbove e) = omega (arith, e, stored_within h.begins)
  not_damaged (BitBeyond j behind within e) =
      false≢true (sym (held.bitmap.beyond j behind within) ∙ e)
  not_damaged (NotWhole j within e none) =
      let s = (held.bitmap.starts j within).0 e in
      none (token_for s.cycle j s.article) refl
      (whole_live s.cycle j s.article s.finished s.unpassed)
