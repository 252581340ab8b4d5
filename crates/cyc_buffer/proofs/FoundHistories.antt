-- The history that a device tells of a buffer that is found again.
use Rattle.std.proofs.Common.{◌≡◌, ◌⊎◌, ◌∙◌, ℕ, zero, suc, ◌+◌, ◌-◌, ◌*◌, ◌^◌, ◌<◌, ◌≤◌, inl, inr}
use Rattle.std.proofs.Common.{refl, sym, ap, subst, arith, true, false, nat_le, List, [], ◌∷◌, ◌++◌}
use Rattle.std.proofs.Common.{length, None, Some, length-append, ◌==◌, ◌&&◌}
use Rattle.std.proofs.Common.{append_assoc}
use Rattle.std.specs.List.{AllByRecursion, Contains}
use Rattle.std.proofs.Math.Nat.{add-mul}
use Rattle.std.proofs.lemmas.Bool.{cases_lt, cond-false, cond-true, false_from_ne_true, le-leb}
use Rattle.std.proofs.lemmas.Bool.{lt-leb, and_from, eq-eqb}
use Rattle.std.proofs.lemmas.List.Elements.{Contains-append_left, Contains-append_right}
use Rattle.std.proofs.lemmas.List.Elements.{Contains-push, Contains-push_cases}
use Rattle.std.proofs.lemmas.List.{append-nil}
use Rattle.std.proofs.lemmas.List.Sums.{sum_by_push}
use Rattle.news_terms.specs.BlockImage.{block_of, block_image}
use Rattle.news_terms.specs.Picks.{place_after}
use Rattle.news_terms.specs.Places.{Buffer, Head, size_of, on_line}
use Rattle.news_terms.specs.Token as terms
use Rattle.cyc_block.specs.Store.{block_at}
use Rattle.cyc_token.specs.Token.{token_view}
use Rattle.cyc_token.specs.declared.Token.{Token}
use Rattle.cyc_buffer.specs.BufferState.{IsSized}
use Rattle.cyc_buffer.specs.Crash.{AreOnLine, CountsFound, IsFoundAgain, IsFrontOn, ListsFound}
use Rattle.cyc_buffer.specs.Crash.{Tells}
use Rattle.cyc_buffer.specs.FoundHistory.{article_in, begins_on, blocks_before, found_begin}
use Rattle.cyc_buffer.specs.FoundHistory.{found_history, lost, with_lost}
use Rattle.cyc_buffer.specs.History.{Article, Begin, History, cycle_of, finished_at, head_of, is_at}
use Rattle.cyc_buffer.specs.History.{stored_count}
use Rattle.cyc_buffer.specs.Starting.{blocks_in}
use Rattle.cyc_buffer.specs.Stopped.{IsLiveToken, used_of}
use Rattle.cyc_buffer.proofs.Finished.{at_parts, none_is_none, place_of, same_some, was_finished}
use Rattle.cyc_buffer.proofs.FoundLemmas.{front_within, line_one}
use Rattle.cyc_buffer.proofs.FoundTexts.{text_blocks, whole_length}
use Rattle.cyc_buffer.proofs.Numbers.{live_unpassed}
use Rattle.cyc_buffer.proofs.Places.{chosen}

one_more : (n count : ℕ) → (n + 1) * count ≡ n * count + count
one_more n count = omega arith

-- The begins have no gaps: so many blocks were passed by them.
record IsTight (buffer : Buffer) (begins : List Begin) (at : ℕ) : Type 0 where
  head : (head_of buffer.blocks begins).run * buffer.blocks + (head_of buffer.blocks begins).used
      ≡ at
  room : (head_of buffer.blocks begins).used ≤ buffer.blocks
  some : (1 ≤ (head_of buffer.blocks begins).used) ⊎ ((head_of buffer.blocks begins).run ≡ 0)

-- a place before so many blocks: its run, and the block there
record IsPlace (buffer : Buffer) (at q r : ℕ) : Type 0 where
  is : q * buffer.blocks + r ≡ at
  within : r < buffer.blocks

-- a place is one block of one run
place_one : (count a u b v : ℕ) → u < count → v < count → a * count + u ≡ b * count + v
    → (a ≡ b) × (u ≡ v)
place_one count a u b v small_u small_v e =
    let one = line_one count a (u + 1) b (v + 1) (omega arith) (omega (arith, small_u))
    (omega arith) (omega (arith, small_v)) (omega (arith, e)) in
    (one.0, omega (arith, one.1))

module _ (buffer : Buffer) (begins : List Begin) (at : ℕ) (tight : IsTight buffer begins at) where
  abbrev head : Head
  head = head_of buffer.blocks begins

  -- where the next begin goes, if it fits there
  next_at : (q r size : ℕ) → IsPlace buffer at q r → 1 ≤ size → r + size ≤ buffer.blocks
      → ((place_after buffer.blocks head false size).run ≡ q)
      × ((place_after buffer.blocks head false size).used ≡ r)
  next_at q r size place some fits = elim (cases_lt head.used buffer.blocks) [
    | inl small ↦
        let one = place_one buffer.blocks head.run head.used q r small place.within
        (omega (arith, tight.head, place.is)) in
        let stays : place_after buffer.blocks head false size ≡ head =
        cond-true (nat_le (head.used + size) buffer.blocks) head
        (record { run = head.run + 1; used = 0 })
        (le-leb (head.used + size) buffer.blocks (omega (arith, one.1, fits))) in
        (ap (λ (h : Head). h.run) stays ∙ one.0, ap (λ (h : Head). h.used) stays ∙ one.1)
    | inr full ↦
        let one = place_one buffer.blocks (head.run + 1) 0 q r (omega (arith, place.within))
        place.within
        (omega (arith, one_more head.run buffer.blocks, tight.head, tight.room, full, place.is)) in
        let moves : place_after buffer.blocks head false size
        ≡ record { run = head.run + 1; used = 0 } =
        cond-false (nat_le (head.used + size) buffer.blocks) head
        (record { run = head.run + 1; used = 0 })
        (lt-leb (head.used + size) buffer.blocks (omega (arith, full, some))) in
        (ap (λ (h : Head). h.run) moves ∙ one.0, ap (λ (h : Head). h.used) moves ∙ one.1)
  ]

  -- there is a next place
  next_place : 1 ≤ buffer.blocks → (q : ℕ) × (r : ℕ) × IsPlace buffer at q r
  next_place some = elim (cases_lt head.used buffer.blocks) [
    | inl small ↦ (head.run, head.used, record { is = tight.head; within = small })
    | inr full ↦ (
      head.run + 1,
      0,
      record {
        is = omega (arith, one_more head.run buffer.blocks, tight.head, tight.room, full);
        within = omega (arith, some);
      },
    )
  ]

  -- one begin more
  tight_more : (b : Begin) (q r : ℕ) → b.fresh ≡ false → IsPlace buffer at q r → 1 ≤ b.size
      → r + b.size ≤ buffer.blocks → IsTight buffer (b ∷ begins) (at + b.size)
  tight_more b q r plain place some fits =
      let next = subst (λ f. ((place_after buffer.blocks head f b.size).run ≡ q)
      × ((place_after buffer.blocks head f b.size).used ≡ r)) (sym plain)
      (next_at q r b.size place some fits) in
      record {
        head = omega (arith, ap (λ n. n * buffer.blocks) next.0, next.1, place.is);
        room = omega (arith, next.1, fits);
        some = inl (omega (arith, some));
      }

-- What is made of the articles so far: the begins up to block `at`, and no others.
record IsMade (buffer : Buffer) (blocks : List (List ℕ)) (begins : List Begin) (at : ℕ)
    (done : List Token) : Type 0 where
  tight : IsTight buffer begins at
  sizes : AllByRecursion (IsSized buffer.blocks) begins
  finds : (t : Token) → Contains done t
      → finished_at buffer begins t.cycle t.first ≡ Some (article_in blocks t)
  only : (cycle first : ℕ) (article : Article) → finished_at buffer begins cycle first ≡ Some
      article
      → (t : Token) × Contains done t × (t.cycle ≡ cycle) × (t.first ≡ first)
      × (article ≡ article_in blocks t)
  begun : (t : Token) → Contains done t → buffer.first_cycle ≤ t.cycle
  before : (t : Token) → Contains done t → blocks_before buffer t.cycle t.first < at
  count : length begins + blocks_in done ≡ at + length done
  stored : stored_count begins ≡ length done

module _ (buffer : Buffer) (blocks : List (List ℕ)) where
  -- a begin at a place is none of an article that begins before it
  other : (begins : List Begin) (at : ℕ) → IsTight buffer begins at → (b : Begin) (q r : ℕ)
      → b.fresh ≡ false → IsPlace buffer at q r → 1 ≤ b.size → r + b.size ≤ buffer.blocks
      → (cycle first : ℕ) → buffer.first_cycle ≤ cycle → blocks_before buffer cycle first < at
      → is_at buffer (place_of buffer begins b) cycle first ≡ false
  other begins at tight b q r plain place some fits cycle first begun before =
      false_from_ne_true (is_at buffer (place_of buffer begins b) cycle first) (λ e.
      let p = at_parts buffer (place_of buffer begins b) cycle first e in
      let next = subst (λ f.
      ((place_after buffer.blocks (head_of buffer.blocks begins) f b.size).run ≡ q)
      × ((place_after buffer.blocks (head_of buffer.blocks begins) f b.size).used ≡ r)) (sym plain)
      (next_at buffer begins at tight q r b.size place some fits) in
      let run : cycle - buffer.first_cycle ≡ q = omega (arith, p.0, next.0) in
      omega (arith, ap (λ n. n * buffer.blocks) run, p.1, next.1, place.is, before))

  -- one block more that is no found article's
  made_lost : 1 ≤ buffer.blocks → (begins : List Begin) (at : ℕ) (done : List Token)
      → IsMade buffer blocks begins at done → IsMade buffer blocks (lost ∷ begins) (at + 1) done
  made_lost some begins at done made =
      let next = next_place buffer begins at made.tight some in
      let place = next.2 in
      let fits : next.1 + 1 ≤ buffer.blocks = omega (arith, place.within) in
      record {
        tight = tight_more buffer begins at made.tight lost next.0 next.1 refl place (omega arith)
            fits;
        sizes = (record { some = omega arith; within = some; finished = tt }, made.sizes);
        finds = λ t c. cond-false (is_at buffer (place_of buffer begins lost) t.cycle t.first)
            None (finished_at buffer begins t.cycle t.first)
            (other begins at made.tight lost next.0 next.1 refl place (omega arith) fits t.cycle
            t.first (made.begun t c) (made.before t c)) ∙ made.finds t c;
        only = λ cycle first article e. made.only cycle first article
            (was_finished buffer begins lost cycle first article refl e);
        begun = made.begun;
        before = λ t c. omega (arith, made.before t c);
        count = omega (arith, made.count);
        stored = made.stored;
      }

  made_with_lost : 1 ≤ buffer.blocks → (n : ℕ) (begins : List Begin) (at : ℕ) (done : List Token)
      → IsMade buffer blocks begins at done
      → IsMade buffer blocks (with_lost n begins) (at + n) done
  unfolding with_lost
  made_with_lost some zero begins at done made =
      subst (λ m. IsMade buffer blocks begins m done) (omega arith) made
  made_with_lost some (suc n) begins at done made =
      subst (λ m. IsMade buffer blocks (lost ∷ with_lost n begins) m done) (omega arith)
      (made_lost some (with_lost n begins) (at + n) done
      (made_with_lost some n begins at done made))

  -- one found article more, right behind the others
  made_found : (begins : List Begin) (at : ℕ) (done : List Token) (t : Token) (cycle used : ℕ)
      → IsMade buffer blocks begins at done
      → IsFoundAgain buffer blocks cycle used (token_view t)
      → blocks_before buffer t.cycle t.first ≡ at
      → IsMade buffer blocks (found_begin blocks t ∷ begins) (at + size_of t.length)
      (done ++ t ∷ [])
  made_found begins at done t cycle used made found here =
      let piece = found.there.pieces 0 (omega (arith, found.there.some)) in
      let b = found_begin blocks t in
      let some : 1 ≤ size_of t.length = omega (arith, piece.inside) in
      let place : IsPlace buffer at (t.cycle - buffer.first_cycle) t.first =
      record { is = here; within = omega (arith, piece.ends, some) } in
      let next = next_at buffer begins at made.tight (t.cycle - buffer.first_cycle) t.first
      (size_of t.length) place some piece.ends in
      let itself : is_at buffer (place_of buffer begins b) t.cycle t.first ≡ true =
      ap (λ (h : Head). is_at buffer h t.cycle t.first)
      (λ i. record { run = next.0 i; used = next.1 i })
      ∙ ap (λ n. (n == t.cycle) && (t.first == t.first)) (omega (arith, piece.begun))
      ∙ and_from (t.cycle == t.cycle) (t.first == t.first) (eq-eqb t.cycle t.cycle refl)
      (eq-eqb t.first t.first refl) in
      record {
        tight = tight_more buffer begins at made.tight b (t.cycle - buffer.first_cycle) t.first
            refl place some piece.ends;
        sizes = (
          record {
            some = some;
            within = omega (arith, piece.ends);
            finished = record {
              size = ap size_of (whole_length buffer blocks t found.there);
              class = piece.image.block.class;
              octets = omega (
                arith,
                whole_length buffer blocks t found.there,
                piece.image.block.article_length,
              );
            };
          },
          made.sizes,
        );
        finds = λ u c. elim (Contains-push_cases done t u c) [
          | inl old ↦ cond-false (is_at buffer (place_of buffer begins b) u.cycle u.first)
              b.finished (finished_at buffer begins u.cycle u.first)
              (other begins at made.tight b (t.cycle - buffer.first_cycle) t.first refl place some
              piece.ends u.cycle u.first (made.begun u old) (made.before u old))
              ∙ made.finds u old
          | inr e ↦ subst (λ (v : Token). finished_at buffer (b ∷ begins) v.cycle v.first
              ≡ Some (article_in blocks v)) e
              (cond-true (is_at buffer (place_of buffer begins b) t.cycle t.first) b.finished
              (finished_at buffer begins t.cycle t.first) itself)
        ];
        only = λ cycle first article e.
            elim (chosen (is_at buffer (place_of buffer begins b) cycle first) b.finished
            (finished_at buffer begins cycle first) (Some article) e) [
              | inl p ↦
                  let parts = at_parts buffer (place_of buffer begins b) cycle first p.0 in (
                    t,
                    Contains-push done t,
                    omega (arith, parts.0, next.0, piece.begun),
                    omega (arith, parts.1, next.1),
                    sym (same_some p.1),
                  )
              | inr p ↦
                  let o = made.only cycle first article p.1 in
                  (o.0, Contains-append_left done (t ∷ []) o.0 o.1, o.2, o.3, o.4)
            ];
        begun = λ u c. elim (Contains-push_cases done t u c) [
          | inl old ↦ made.begun u old
          | inr e ↦ subst (λ (v : Token). buffer.first_cycle ≤ v.cycle) e piece.begun
        ];
        before = λ u c. elim (Contains-push_cases done t u c) [
          | inl old ↦ omega (arith, made.before u old)
          | inr e ↦ subst (λ (v : Token). blocks_before buffer v.cycle v.first
              < at + size_of t.length) e (omega (arith, here, some))
        ];
        count = omega (
          arith,
          made.count,
          sum_by_push (λ (u : Token). size_of u.length) done t,
          length-append done (t ∷ []),
        );
        stored = omega (arith, made.stored, length-append done (t ∷ []));
      }

  -- nothing is made yet
  made_none : IsMade buffer blocks [] 0 []
  made_none = record {
    tight = record { head = omega arith; room = omega arith; some = inr refl };
    sizes = tt;
    finds = λ t c. absurd (omega (arith, c.1));
    only = λ cycle first article e. absurd (none_is_none e);
    begun = λ t c. absurd (omega (arith, c.1));
    before = λ t c. absurd (omega (arith, c.1));
    count = refl;
    stored = refl;
  }

  -- the place of a block on the line
  line_of : (cycle first : ℕ) → buffer.first_cycle ≤ cycle
      → blocks_before buffer cycle first + on_line buffer.blocks buffer.first_cycle 0
      ≡ on_line buffer.blocks cycle first
  line_of cycle first begun =
      let d = cycle - buffer.first_cycle in
      let same : cycle ≡ d + buffer.first_cycle = omega (arith, begun) in
      omega (arith, ap (λ n. n * buffer.blocks) same, add-mul d buffer.first_cycle buffer.blocks)

  made_all : 1 ≤ buffer.blocks → (cycle used to : ℕ) (tokens : List Token)
      → ((t : Token) → Contains tokens t → IsFoundAgain buffer blocks cycle used (token_view t))
      → (begins : List Begin) (at : ℕ) (done : List Token) → IsMade buffer blocks begins at done
      → AreOnLine buffer.blocks (at + on_line buffer.blocks buffer.first_cycle 0)
      (to + on_line buffer.blocks buffer.first_cycle 0) tokens
      → IsMade buffer blocks (begins_on buffer blocks at to begins tokens) to (done ++ tokens)
  unfolding begins_on
  made_all some cycle used to [] found begins at done made order =
      subst (λ (ts : List Token). IsMade buffer blocks (with_lost (to - at) begins) to ts)
      (sym (append-nil done))
      (subst (λ m. IsMade buffer blocks (with_lost (to - at) begins) m done)
      (omega (arith, order)) (made_with_lost some (to - at) begins at done made))
  made_all some cycle used to (t ∷ later) found begins at done made order =
      let f = found t (Contains-append_left (t ∷ []) later t (Contains-push [] t)) in
      let start = blocks_before buffer t.cycle t.first in
      let begun = (f.there.pieces 0 (omega (arith, f.there.some))).begun in
      let line = line_of t.cycle t.first begun in
      let filled : IsMade buffer blocks (with_lost (start - at) begins) start done =
      subst (λ m. IsMade buffer blocks (with_lost (start - at) begins) m done)
      (omega (arith, order.0, line)) (made_with_lost some (start - at) begins at done made) in
      let next = made_found (with_lost (start - at) begins) start done t cycle used filled f refl in
      subst (λ (ts : List Token). IsMade buffer blocks (begins_on buffer blocks
      (start + size_of t.length) to
      (found_begin blocks t ∷ with_lost (start - at) begins) later) to ts)
      (append_assoc done (t ∷ []) later)
      (made_all some cycle used to later
      (λ u c. found u (Contains-append_right (t ∷ []) later u c))
      (found_begin blocks t ∷ with_lost (start - at) begins) (start + size_of t.length)
      (done ++ t ∷ []) next
      (subst (λ n. AreOnLine buffer.blocks n
      (to + on_line buffer.blocks buffer.first_cycle 0) later)
      (omega (arith, line)) order.1))

-- A device, its front and what is found there.
module _ (buffer : Buffer) (blocks : List (List ℕ)) (cycle used : ℕ) (tokens : List Token)
    (some : 1 ≤ buffer.blocks) (front : IsFrontOn buffer blocks cycle used)
    (lists : ListsFound buffer blocks cycle used tokens) where
  abbrev h : History
  h = found_history buffer blocks cycle used tokens

  first_cycle : buffer.first_cycle ≤ cycle
  first_cycle = elim front.reached [
    | inl r ↦ omega (arith, r.piece.begun, r.cycle_is)
    | inr r ↦ omega (arith, r.cycle_is)
  ]

  made : IsMade buffer blocks h.begins (blocks_before buffer cycle used) tokens
  made = made_all buffer blocks some cycle used (blocks_before buffer cycle used) tokens
      (λ t c. (lists.all t).0 c) [] 0 [] (made_none buffer blocks)
      (subst (λ n. AreOnLine buffer.blocks (0 + on_line buffer.blocks buffer.first_cycle 0) n
      tokens)
      (sym (line_of buffer blocks cycle used first_cycle))
      (subst (λ n. AreOnLine buffer.blocks n (on_line buffer.blocks cycle used) tokens)
      (omega arith) lists.order))

  abbrev last_head : Head
  last_head = head_of buffer.blocks h.begins

  front_is : (cycle_of h ≡ cycle) × (used_of h ≡ used)
  front_is = elim front.reached [
    | inl r ↦
        let one = line_one buffer.blocks last_head.run last_head.used (cycle - buffer.first_cycle)
        used
        (elim made.tight.some [
          | inl s ↦ s
          | inr s ↦ omega (
            arith,
            made.tight.head,
            ap (λ n. n * buffer.blocks) s,
            r.used_is,
            r.piece.inside,
          )
        ])
        made.tight.room (omega (arith, r.used_is, r.piece.inside))
        (front_within buffer blocks cycle used front) made.tight.head in
        (omega (arith, one.0, first_cycle), one.1)
    | inr r ↦
        let zero_at : blocks_before buffer cycle used ≡ 0 =
        omega (arith, r.used_is, ap (λ n. n * buffer.blocks) (none_over r.cycle_is)) in
        elim made.tight.some [
          | inl s ↦ absurd (omega (arith, s, made.tight.head, zero_at))
          | inr s ↦ (
            omega (arith, s, r.cycle_is),
            omega
                (arith, made.tight.head, zero_at, r.used_is),
          )
        ]
  ]
    where
      none_over : cycle ≡ buffer.first_cycle → cycle - buffer.first_cycle ≡ 0
      none_over e = omega (arith, e)

  -- what is found by the history is found
  back : (t : terms.Token) → IsFoundAgain buffer blocks (cycle_of h) (used_of h) t
      → IsFoundAgain buffer blocks cycle used t
  back t f = subst (λ n. IsFoundAgain buffer blocks cycle n t) front_is.1
      (subst (λ n. IsFoundAgain buffer blocks n (used_of h) t) front_is.0 f)

  abbrev declared : terms.Token → Token
  declared t = record {
    class = t.class;
    buffer = t.buffer;
    cycle = t.cycle;
    first = t.first;
    length = t.length;
  }

  live_of : (t : terms.Token) → IsFoundAgain buffer blocks (cycle_of h) (used_of h) t
      → IsLiveToken h t
  live_of t f =
      let u = declared t in
      let piece = f.there.pieces 0 (omega (arith, f.there.some)) in
      record {
        article = article_in blocks u;
        finished = made.finds u ((lists.all u).1 (back t f));
        buffer = piece.number;
        class = refl;
        octets = whole_length buffer blocks u f.there;
        live = live_unpassed buffer.blocks (cycle_of h) (used_of h) t.cycle t.first
            (omega (arith, piece.ends, piece.inside)) made.tight.room f.live;
      }

  article_blocks : (since first k : ℕ) (article : Article)
      → finished_at buffer h.begins since first ≡ Some article
      → k < size_of (length article.text)
      → block_at blocks (first + k) ≡ block_image
      (block_of since first article.class article.text k)
  article_blocks since first k article e inside =
      let o = made.only since first article e in
      let t = o.0 in
      let there = ((lists.all t).0 o.1).there in
      let within : k < size_of t.length =
      omega (
        arith,
        inside,
        ap (λ (a : Article). size_of (length a.text)) o.4,
        ap size_of (whole_length buffer blocks t there),
      ) in
      subst (λ (a : Article). block_at blocks (first + k)
      ≡ block_image (block_of since first a.class a.text k)) (sym o.4)
      (subst (λ n. block_at blocks (n + k) ≡ block_image (block_of since n t.class
      (article_in blocks t).text k)) o.3
      (subst (λ n. block_at blocks (t.first + k) ≡ block_image (block_of n t.first t.class
      (article_in blocks t).text k)) o.2 (text_blocks buffer blocks t there k within)))

  module _ (count : length blocks ≡ buffer.blocks) (first_fits : buffer.first_cycle < 2 ^ 32)
      (blocks_fit : buffer.blocks < 2 ^ 32) where
    pub found_told : Tells blocks h
    found_told = record {
      count = count;
      front = subst (λ n. IsFrontOn buffer blocks (cycle_of h) n) (sym front_is.1)
          (subst (λ n. IsFrontOn buffer blocks n used) (sym front_is.0) front);
      found = live_of;
      articles = λ since first k article e inside unpassed.
          article_blocks since first k article e inside;
      sizes = made.sizes;
      idle = refl;
      cycle = elim front.reached [
        | inl r ↦ omega (arith, front_is.0, r.cycle_is, r.piece.image.block.cycle)
        | inr r ↦ omega (arith, front_is.0, r.cycle_is, first_fits)
      ];
      fits = blocks_fit;
    }

  pub found_counted : CountsFound h tokens
  found_counted = record {
    begun =
        let run : cycle_of h - buffer.first_cycle ≡ last_head.run = omega arith in
        omega (arith, made.count, made.tight.head, ap (λ n. n * buffer.blocks) run);
    stored = made.stored;
  }

  -- each found article is one of its begins, finished
  pub found_finished : (t : Token) → Contains tokens t
      → finished_at buffer h.begins t.cycle t.first ≡ Some (article_in blocks t)
  found_finished = made.finds

  -- and what is finished is a found article
  pub found_only : (since first : ℕ) (article : Article)
      → finished_at buffer h.begins since first ≡ Some article
      → (t : Token) × Contains tokens t × (t.cycle ≡ since) × (t.first ≡ first)
      × (article ≡ article_in blocks t)
  found_only = made.only
