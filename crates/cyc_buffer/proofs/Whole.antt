-- Whole articles by what the marks of first blocks say.
use Rattle.std.proofs.Common.{◌≡◌, ◌∙◌, ℕ, ◌+◌, ◌-◌, ◌<◌, ◌≤◌, inl, inr, nat_lt, sym}
use Rattle.std.proofs.Common.{subst, arith, List}
use Rattle.std.proofs.lemmas.Bool.{cond-true, cond-false, lt-ltb, le-ltb}
use Rattle.news_terms.specs.HeadBlocks.{HeadBlock}
use Rattle.news_terms.specs.Places.{size_of}
use Rattle.news_terms.specs.Token.{Token}
use Rattle.cyc_buffer.specs.Marks.{is_marked}
use Rattle.cyc_buffer.specs.Reads.{AreBits, AreSound, HasMark, IsAmong, IsClear, IsMissing, IsRead}
use Rattle.cyc_buffer.specs.Stopped.{IsDamaged, IsWhole, NotWhole, has_bit, end_by}

-- before the head articles end by the head, and behind it by the last block
end_before : (b : HeadBlock) (at : ℕ) → at < b.head → end_by b at ≡ b.head
end_before b at h = cond-true (nat_lt at b.head) b.head b.blocks (lt-ltb at b.head h)

pub end_behind : (b : HeadBlock) (at : ℕ) → b.head ≤ at → end_by b at ≡ b.blocks
end_behind b at h = cond-false (nat_lt at b.head) b.head b.blocks (le-ltb at b.head h)

module _ (heads blocks : List (List ℕ)) (b : HeadBlock) (words : List ℕ)
    (bits : AreBits heads b.blocks words) (sound : AreSound b) where
  -- a whole article in front of the head is one of the head's cycle
  pub read_before : (t : Token) → IsWhole heads blocks b t → t.first < b.head
      → IsRead blocks b.number b.cycle b.head t
  read_before t w before = record {
    buffer = w.buffer;
    cycle = elim w.live [ inl p ↦ p.0 | inr p ↦ absurd (omega (arith, p.1, before)) ];
    some = w.some;
    ends = subst (λ n. t.first + size_of t.length ≤ n) (end_before b t.first before) w.ends;
    images = w.images;
  }

  -- a whole article behind the head is one of the cycle before
  pub read_behind : (t : Token) → IsWhole heads blocks b t → b.head ≤ t.first
      → IsRead blocks b.number (b.cycle - 1) b.blocks t
  read_behind t w behind = record {
    buffer = w.buffer;
    cycle = elim w.live [
      | inl p ↦ absurd (omega (arith, p.1, behind))
      | inr p ↦ omega (arith, p.0)
    ];
    some = w.some;
    ends = subst (λ n. t.first + size_of t.length ≤ n) (end_behind b t.first behind) w.ends;
    images = w.images;
  }

  -- a whole article ends within the buffer
  pub whole_within : (t : Token) → IsWhole heads blocks b t → t.first + size_of t.length ≤ b.blocks
  whole_within t w = elim w.live [
    | inl p ↦ omega (arith, (read_before t w p.1).ends, sound.head)
    | inr p ↦ (read_behind t w p.1).ends
  ]

  -- the marks are clear inside a whole article
  whole_clear : (t : Token) → IsWhole heads blocks b t → IsClear (is_marked words) t
  whole_clear t w j behind inside =
      bits j (omega (arith, inside, whole_within t w)) ∙ w.clear j behind inside

  -- what is clear by the marks is clear by the bits
  bits_clear : (t : Token) → t.first + size_of t.length ≤ b.blocks → IsClear (is_marked words) t
      → IsClear (λ j. has_bit heads j) t
  bits_clear t within clear j behind inside =
      sym (bits j (omega (arith, inside, within))) ∙ clear j behind inside

  -- an article that was read in front of the head is whole
  pub whole_before : (t : Token) → IsAmong (is_marked words) blocks b.number b.cycle b.head 0 b.head
      t
      → IsWhole heads blocks b t
  whole_before t a =
      let r = a.found.read in
      let within : t.first + size_of t.length ≤ b.blocks = omega (arith, r.ends, sound.head) in
      record {
        marked = sym (bits t.first (omega (arith, a.before, sound.head))) ∙ a.marked;
        buffer = r.buffer;
        some = r.some;
        begun = omega (arith, r.cycle, sound.cycle);
        live = inl (r.cycle, a.before);
        ends = subst (λ n. t.first + size_of t.length ≤ n) (sym (end_before b t.first a.before))
            r.ends;
        images = r.images;
        clear = bits_clear t within a.found.clear;
      }

  -- and so is one that was read behind it, where there is a cycle before
  pub whole_behind : b.first_cycle < b.cycle → (t : Token)
      → IsAmong (is_marked words) blocks b.number (b.cycle - 1) b.blocks b.head b.blocks t
      → IsWhole heads blocks b t
  whole_behind later t a =
      let r = a.found.read in
      record {
        marked = sym (bits t.first a.before) ∙ a.marked;
        buffer = r.buffer;
        some = r.some;
        begun = omega (arith, r.cycle, later);
        live = inr (omega (arith, r.cycle, later), a.behind);
        ends = subst (λ n. t.first + size_of t.length ≤ n) (sym (end_behind b t.first a.behind))
            r.ends;
        images = r.images;
        clear = bits_clear t r.ends a.found.clear;
      }

  -- a mark in front of the head that is of no article is damage
  pub damage_before : IsMissing (is_marked words) blocks b.number b.cycle b.head 0
      → IsDamaged heads blocks b
  damage_before m = NotWhole m.at (omega (arith, m.before, sound.head))
      (sym (bits m.at (omega (arith, m.before, sound.head))) ∙ m.marked)
      (λ t here w. m.none t here (read_before t w (omega (arith, here, m.before)))
      (whole_clear t w))

  -- and so is one behind it
  pub damage_behind : IsMissing (is_marked words) blocks b.number (b.cycle - 1) b.blocks b.head
      → IsDamaged heads blocks b
  damage_behind m = NotWhole m.at m.before (sym (bits m.at m.before) ∙ m.marked)
      (λ t here w. m.none t here (read_behind t w (omega (arith, here, m.behind)))
      (whole_clear t w))

  -- in the first cycle any mark behind the head is
  pub damage_first : b.cycle ≤ b.first_cycle → HasMark words b.head b.blocks
      → IsDamaged heads blocks b
  damage_first first m = NotWhole m.at m.before (sym (bits m.at m.before) ∙ m.marked)
      (λ t here w. elim w.live [
        | inl p ↦ omega (arith, p.1, here, m.behind)
        | inr p ↦ omega (arith, p.0, w.begun, first)
      ])
