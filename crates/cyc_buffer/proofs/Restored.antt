-- What a start gives back of a device: nothing is wrong with it, and its whole articles are listed.
use Rattle.std.proofs.Common.{◌≡◌, ◌∙◌, ℕ, ◌+◌, ◌-◌, ◌*◌, ◌<◌, ◌≤◌, inl, inr, Bool, true}
use Rattle.std.proofs.Common.{false, refl, sym, ap, subst, arith, List, [], map, zero, suc}
use Rattle.std.specs.List.{Contains}
use Rattle.std.proofs.lemmas.Bool.{false≢true, cases_lt}
use Rattle.news_terms.specs.HeadBlocks.{HeadBlock}
use Rattle.news_terms.specs.Places.{size_of, on_line}
use Rattle.news_terms.specs.Token as terms
use Rattle.cyc_token.specs.Token.{token_view}
use Rattle.cyc_token.specs.declared.Token.{Token}
use Rattle.cyc_buffer.specs.Marks.{is_marked}
use Rattle.cyc_buffer.specs.Reads.{AreBits, AreSound, HasReadAll}
use Rattle.cyc_buffer.specs.Reads.{IsAmong, IsFound, IsListed, IsRisingTo}
use Rattle.cyc_buffer.specs.Stopped.{IsRising, IsWhole, has_bit}
use Rattle.cyc_buffer.proofs.Refusals.{same_token}
use Rattle.cyc_buffer.proofs.Rising.{rising_from, rising_wider}
use Rattle.cyc_buffer.proofs.StartLemmas.{IsCovered, IsMarkedWhole, IsReadFirst}
use Rattle.cyc_buffer.proofs.Whole.{read_before, read_behind, whole_before, whole_behind}
use Rattle.cyc_buffer.proofs.Whole.{whole_within}

-- tokens of the same parts are the same
token_by_view : (t u : Token) → token_view t ≡ token_view u → t ≡ u
token_by_view t u e = λ i. record {
  class = (e i).class;
  buffer = (e i).buffer;
  cycle = (e i).cycle;
  first = (e i).first;
  length = (e i).length;
}

-- a token that was found at a marked block is among those of its stretch
found_among : (starts : ℕ → Bool) (blocks : List (List ℕ)) (number since end from to at : ℕ)
    (t : terms.Token)
    → from ≤ at → at < to → starts at ≡ true → IsFound starts blocks number since end at t
    → IsAmong starts blocks number since end from to t
found_among starts blocks number since end from to at t behind before marked found = record {
  marked = ap starts found.here ∙ marked;
  behind = omega (arith, behind, found.here);
  before = omega (arith, before, found.here);
  found = subst (λ n. IsFound starts blocks number since end n t) (sym found.here) found;
}

-- All that the marks say was read.
module _ (heads blocks : List (List ℕ)) (b : HeadBlock) (words : List ℕ) (tokens : List Token)
    (none kept : List ℕ)
    (bits : AreBits heads b.blocks words) (sound : AreSound b)
    (unkept : (j : ℕ) → is_marked none j ≡ false)
    (all : HasReadAll (is_marked words) blocks b tokens none kept) where
  -- a listed token whose article is whole
  pub record IsWholeAt (at : ℕ) : Type 0 where
    pub token : Token
    pub here : token.first ≡ at
    pub whole : IsWhole heads blocks b (token_view token)
    pub read : IsReadFirst heads blocks b.cycle b.head (token_view token)
    pub listed : Contains tokens token
    pub marks : (k : ℕ) → k < size_of token.length → is_marked kept (at + k) ≡ true
    pub only : (t : terms.Token) → t.first ≡ at → IsWhole heads blocks b t → t ≡ token_view token

  -- what was read of a first block in front of the head
  first_before : (t : terms.Token)
      → IsAmong (is_marked words) blocks b.number b.cycle b.head 0 b.head t
      → IsReadFirst heads blocks b.cycle b.head t
  first_before t a = record {
    marked = (whole_before heads blocks b words bits sound t a).marked;
    unpassed = inl (a.found.read.cycle, a.before);
    octets = a.found.only.length;
    class = a.found.only.class;
  }

  -- and behind it
  first_behind : b.first_cycle < b.cycle → (t : terms.Token)
      → IsAmong (is_marked words) blocks b.number (b.cycle - 1) b.blocks b.head b.blocks t
      → IsReadFirst heads blocks b.cycle b.head t
  first_behind later t a = record {
    marked = (whole_behind heads blocks b words bits sound later t a).marked;
    unpassed = inr (omega (arith, a.found.read.cycle, later), a.behind);
    octets = a.found.only.length;
    class = a.found.only.class;
  }

  at_before : (at : ℕ) → at < b.head
      → IsListed (is_marked words) blocks b.number b.cycle b.head at tokens kept
      → is_marked words at ≡ true → IsWholeAt at
  at_before at before l marked =
      let a = found_among (is_marked words) blocks b.number b.cycle b.head 0 b.head at
      (token_view l.token) (omega arith) before marked l.found in
      record {
        token = l.token;
        here = l.found.here;
        whole = whole_before heads blocks b words bits sound (token_view l.token) a;
        read = first_before (token_view l.token) a;
        listed = l.listed;
        marks = l.marks;
        only = λ t here w. same_token blocks b.number b.cycle b.head at t (token_view l.token)
            l.found.only l.found.read.buffer l.found.read.cycle l.found.here here
            (read_before heads blocks b words bits sound t w (omega (arith, here, before)));
      }

  at_behind : b.first_cycle < b.cycle → (at : ℕ) → b.head ≤ at → at < b.blocks
      → (some_tokens : List Token) (some_kept : List ℕ)
      → ((t : Token) → Contains some_tokens t → Contains tokens t)
      → ((j : ℕ) → is_marked some_kept j ≡ true → is_marked kept j ≡ true)
      → IsListed (is_marked words) blocks b.number (b.cycle - 1) b.blocks at some_tokens some_kept
      → is_marked words at ≡ true → IsWholeAt at
  at_behind later at behind before some_tokens some_kept listed kept_too l marked =
      let a = found_among (is_marked words) blocks b.number (b.cycle - 1) b.blocks b.head b.blocks
      at (token_view l.token) behind before marked l.found in
      record {
        token = l.token;
        here = l.found.here;
        whole = whole_behind heads blocks b words bits sound later (token_view l.token) a;
        read = first_behind later (token_view l.token) a;
        listed = listed l.token l.listed;
        marks = λ k inside. kept_too (at + k) (l.marks k inside);
        only = λ t here w. same_token blocks b.number (b.cycle - 1) b.blocks at t
            (token_view l.token)
            l.found.only l.found.read.buffer l.found.read.cycle l.found.here here
            (read_behind heads blocks b words bits sound t w (omega (arith, here, behind)));
      }

  -- each bit is of a whole article, whose token is listed
  pub whole_at : (at : ℕ) → at < b.blocks → has_bit heads at ≡ true → IsWholeAt at
  whole_at at within set =
      let marked = bits at within ∙ set in
      elim (cases_lt at b.head) [
        | inl h ↦ at_before at h (all.before.each at (omega arith) h marked) marked
        | inr h ↦ elim all.behind [
          | inl p ↦ at_behind p.0 at h within all.some_tokens all.some_kept
              all.before.stay_listed all.before.stay_marked (p.1.each at h within marked) marked
          | inr p ↦ absurd (false≢true (sym (p.1 at h within) ∙ marked))
        ]
      ]

  -- a listed token's article is whole, and its first block was read
  pub record IsListedWhole (t : Token) : Type 0 where
    pub whole : IsWhole heads blocks b (token_view t)
    pub read : IsReadFirst heads blocks b.cycle b.head (token_view t)

  pub listed_whole : (t : Token) → Contains tokens t → IsListedWhole t
  listed_whole t c = elim (all.before.listed t c) [
    | inl old ↦ elim all.behind [
      | inl p ↦ elim (p.1.listed t old) [
        | inl nothing ↦ absurd (no_element t nothing)
        | inr a ↦ record {
          whole = whole_behind heads blocks b words bits sound p.0 (token_view t) a;
          read = first_behind p.0 (token_view t) a;
        }
      ]
      | inr p ↦ absurd (no_element t (subst (λ (ts : List Token). Contains ts t) p.2 old))
    ]
    | inr a ↦ record {
      whole = whole_before heads blocks b words bits sound (token_view t) a;
      read = first_before (token_view t) a;
    }
  ]
    where
      no_element : (t : Token) → Contains [] t → ⊥
      no_element t c = omega (arith, c.1)

  -- and each whole article's token is listed
  pub whole_listed : (t : Token) → IsWhole heads blocks b (token_view t) → Contains tokens t
  whole_listed t w =
      let at = whole_at t.first (omega (arith, w.some, within t w)) w.marked in
      subst (λ (x : Token). Contains tokens x)
      (sym (token_by_view t at.token (at.only (token_view t) refl w))) at.listed
    where
      within : (t : Token) → IsWhole heads blocks b (token_view t)
          → t.first + size_of t.length ≤ b.blocks
      within t w = whole_within heads blocks b words bits sound (token_view t) w

  -- the block is one of a whole article's whose first block was read
  covered_by : (j : ℕ) (t : terms.Token) (index : ℕ) → IsReadFirst heads blocks b.cycle b.head t
      → t.first < b.blocks → index < size_of t.length → t.first + index ≡ j
      → IsCovered heads blocks b.cycle b.head b.blocks j
  covered_by j t index read within inside here = record {
    token = t;
    read = read;
    within = within;
    index = index;
    inside = inside;
    here = here;
  }

  pub told : (j : ℕ) → is_marked kept j ≡ true
      → IsCovered heads blocks b.cycle b.head b.blocks j
  told j m = elim (all.before.told j m) [
    | inl old ↦ elim all.behind [
      | inl p ↦ elim (p.1.told j old) [
        | inl nothing ↦ absurd (false≢true (sym (unkept j) ∙ nothing))
        | inr c ↦ covered_by j c.token c.index (first_behind p.0 c.token c.among) c.among.before
            c.inside c.here
      ]
      | inr p ↦ absurd (false≢true (sym (unkept j)
          ∙ ap (λ (ks : List ℕ). is_marked ks j) (sym p.3) ∙ old))
    ]
    | inr c ↦ covered_by j c.token c.index (first_before c.token c.among)
        (omega (arith, c.among.before, sound.head)) c.inside c.here
  ]

  pub whole_marked : (j : ℕ) → j < b.blocks → has_bit heads j ≡ true
      → IsMarkedWhole heads blocks b.cycle b.head kept j
  whole_marked j within set =
      let at = whole_at j within set in
      record { token = token_view at.token; first = at.here; read = at.read; marks = at.marks }

  -- the places of the tokens rise
  pub all_rising : IsRising b.blocks (map token_view tokens)
  all_rising = rising_from b.blocks 0 (on_line b.blocks b.cycle b.head) (map token_view tokens)
      (all.before.rising b.blocks 0 (elim all.behind [
        | inl p ↦ rising_wider b.blocks 0 (on_line b.blocks (b.cycle - 1) b.blocks)
            (on_line b.blocks b.cycle 0) (map token_view all.some_tokens)
            (p.1.rising b.blocks 0 (omega arith)) (cycle_end b.cycle b.blocks (omega (arith, p.0)))
        | inr p ↦ subst (λ (ts : List Token).
            IsRisingTo b.blocks 0 (on_line b.blocks b.cycle 0) (map token_view ts)) (sym p.2)
            (omega arith)
      ]))
    where
      cycle_end : (cycle count : ℕ) → 1 ≤ cycle → (cycle - 1) * count + count ≤ cycle * count + 0
      cycle_end zero count h = absurd (omega (arith, h))
      cycle_end (suc n) count h = omega (arith, ap (λ m. m * count) (before_suc n))
        where
          before_suc : (n : ℕ) → suc n - 1 ≡ n
          before_suc n = omega arith
