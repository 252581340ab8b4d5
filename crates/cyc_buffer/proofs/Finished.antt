-- Where finished articles lie.
use Rattle.std.proofs.Common.{◌≡◌, ◌∙◌, ℕ, ◌+◌, ◌<◌, ◌≤◌, ◌⊎◌, inl, inr, ◌==◌, true, false, refl}
use Rattle.std.proofs.Common.{sym, subst, arith, List, [], ◌∷◌, length, Option, None, Some}
use Rattle.std.specs.List.{AllByRecursion}
use Rattle.std.proofs.lemmas.Bool.{and_parts, and_from, eqb-true, eq-eqb, cond-false}
use Rattle.std.proofs.lemmas.Bool.{false_from_ne_true}
use Rattle.news_terms.specs.Places.{Buffer, Head, size_of}
use Rattle.cyc_buffer.specs.History.{Article, Begin, head_of, is_at, finished_at}
use Rattle.news_terms.specs.Picks.{place_after, head_past}
use Rattle.cyc_buffer.specs.BufferState.{IsSized, HasItsSize, IsOfSize}
use Rattle.cyc_buffer.proofs.Places.{IsPlaced, placed, placed_within, chosen}

-- where the next begin of these goes
abbrev pub place_of : Buffer → List Begin → Begin → Head
place_of buffer earlier b = place_after buffer.blocks (head_of buffer.blocks earlier) b.fresh b.size

-- an article that ends here is before the head
abbrev pub IsBefore : Buffer → Head → (cycle end : ℕ) → Type 0
IsBefore buffer head cycle end =
    (cycle < buffer.first_cycle + head.run)
    ⊎ ((cycle ≡ buffer.first_cycle + head.run) × (end ≤ head.used))

-- where a finished article lies
pub record Lies (buffer : Buffer) (begins : List Begin) (cycle first : ℕ) (article : Article) : Type
    0 where
  pub some : 1 ≤ size_of (length article.text)
  pub within : first + size_of (length article.text) ≤ buffer.blocks
  pub class : article.class < 256
  pub octets : length article.text < 4294967296
  pub before : IsBefore buffer (head_of buffer.blocks begins) cycle
      (first + size_of (length article.text))

pub at_parts : (buffer : Buffer) (at : Head) (cycle first : ℕ) → is_at buffer at cycle first ≡ true
    → (buffer.first_cycle + at.run ≡ cycle) × (at.used ≡ first)
at_parts buffer at cycle first e =
    let both = and_parts (buffer.first_cycle + at.run == cycle) (at.used == first) e in
    (eqb-true (buffer.first_cycle + at.run) cycle both.0, eqb-true at.used first both.1)

pub at_itself : (buffer : Buffer) (at : Head)
    → is_at buffer at (buffer.first_cycle + at.run) at.used ≡ true
at_itself buffer at = and_from (buffer.first_cycle + at.run == buffer.first_cycle + at.run)
    (at.used == at.used)
    (eq-eqb (buffer.first_cycle + at.run) (buffer.first_cycle + at.run) refl)
    (eq-eqb at.used at.used refl)

pub none_is_none : {X : Type 0} → {x : X} → None ≡ Some x → ⊥
none_is_none e = cc

pub same_some : {X : Type 0} → {x y : X} → Some x ≡ Some y → x ≡ y
same_some e = cc

-- what lies before the head lies before it after one more begin
later_before : (buffer : Buffer) (head at : Head) (size cycle end : ℕ)
    → IsPlaced buffer.blocks head size at
    → IsBefore buffer head cycle end → IsBefore buffer (head_past at size) cycle end
later_before buffer head at size cycle end (inl p) (inl q) = inl (omega (arith, p.0, q))
later_before buffer head at size cycle end (inl p) (inr q) =
    inr (omega (arith, p.0, q.0), omega (arith, p.1, q.1))
later_before buffer head at size cycle end (inr p) (inl q) = inl (omega (arith, p.0, q))
later_before buffer head at size cycle end (inr p) (inr q) = inl (omega (arith, p.0, q.0))

-- the newest begin, finished, lies right before the head
lies_newest : (buffer : Buffer) (earlier : List Begin) (b : Begin) (cycle first : ℕ)
    (article : Article)
    → IsSized buffer.blocks b → IsOfSize b.size article
    → is_at buffer (place_of buffer earlier b) cycle first ≡ true
    → Lies buffer (b ∷ earlier) cycle first article
lies_newest buffer earlier b cycle first article sized size e =
    let at = at_parts buffer (place_of buffer earlier b) cycle first e in
    let ends = placed_within buffer.blocks (head_of buffer.blocks earlier) b.fresh b.size
    sized.within in
    record {
      some = omega (arith, sized.some, size.size);
      within = omega (arith, at.1, size.size, ends);
      class = size.class;
      octets = size.octets;
      before = inr (sym at.0, omega (arith, at.1, size.size));
    }

-- an earlier one lies before the head too
lies_earlier : (buffer : Buffer) (earlier : List Begin) (b : Begin) (cycle first : ℕ)
    (article : Article)
    → Lies buffer earlier cycle first article → Lies buffer (b ∷ earlier) cycle first article
lies_earlier buffer earlier b cycle first article l = record {
  some = l.some;
  within = l.within;
  class = l.class;
  octets = l.octets;
  before = later_before buffer (head_of buffer.blocks earlier)
      (place_after buffer.blocks (head_of buffer.blocks earlier) b.fresh b.size) b.size cycle
      (first + size_of (length article.text))
      (placed buffer.blocks (head_of buffer.blocks earlier) b.fresh b.size) l.before;
}

-- the article of a begin is one of its size
pub of_size : (size : ℕ) (finished : Option Article) (article : Article) → HasItsSize size finished
    → finished ≡ Some article → IsOfSize size article
of_size size finished article h e = subst (HasItsSize size) e h

-- a finished article lies before the head, and within the buffer
pub lies : (buffer : Buffer) (begins : List Begin) (cycle first : ℕ) (article : Article)
    → AllByRecursion (IsSized buffer.blocks) begins
    → finished_at buffer begins cycle first ≡ Some article
    → Lies buffer begins cycle first article
lies buffer [] cycle first article sized e = absurd (none_is_none e)
lies buffer (b ∷ earlier) cycle first article sized e =
    elim (chosen (is_at buffer (place_of buffer earlier b) cycle first) b.finished
    (finished_at buffer earlier cycle first) (Some article) e) [
      | inl p ↦ lies_newest buffer earlier b cycle first article sized.0
          (of_size b.size b.finished article sized.0.finished p.1) p.0
      | inr p ↦ lies_earlier buffer earlier b cycle first article
          (lies buffer earlier cycle first article sized.1 p.1)
    ]

-- the place of the next begin is no finished article's
pub not_at_next : (buffer : Buffer) (begins : List Begin) (b : Begin) (cycle first : ℕ)
    (article : Article)
    → Lies buffer begins cycle first article → is_at buffer (place_of buffer begins b) cycle first
    ≡ false
not_at_next buffer begins b cycle first article l =
    false_from_ne_true (is_at buffer (place_of buffer begins b) cycle first) (λ e.
    let at = at_parts buffer (place_of buffer begins b) cycle first e in
    elim (placed buffer.blocks (head_of buffer.blocks begins) b.fresh b.size) [
      | inl p ↦ elim l.before [
        | inl q ↦ omega (arith, at.0, at.1, p.0, q)
        | inr q ↦ omega (arith, at.0, at.1, p.0, p.1, q.0, q.1, l.some)
      ]
      | inr p ↦ elim l.before [
        | inl q ↦ omega (arith, at.0, p.0, q)
        | inr q ↦ omega (arith, at.0, p.0, q.0)
      ]
    ])

-- a begin that isn't finished adds no article
pub was_finished : (buffer : Buffer) (begins : List Begin) (b : Begin) (cycle first : ℕ)
    (article : Article)
    → b.finished ≡ None → finished_at buffer (b ∷ begins) cycle first ≡ Some article
    → finished_at buffer begins cycle first ≡ Some article
was_finished buffer begins b cycle first article none e =
    elim (chosen (is_at buffer (place_of buffer begins b) cycle first) b.finished
    (finished_at buffer begins cycle first) (Some article) e) [
      | inl p ↦ absurd (none_is_none (sym none ∙ p.1))
      | inr p ↦ p.1
    ]

-- and takes none away
pub stays_finished : (buffer : Buffer) (begins : List Begin) (b : Begin) (cycle first : ℕ)
    (article : Article)
    → AllByRecursion (IsSized buffer.blocks) begins
    → finished_at buffer begins cycle first ≡ Some article
    → finished_at buffer (b ∷ begins) cycle first ≡ Some article
stays_finished buffer begins b cycle first article sized e =
    cond-false (is_at buffer (place_of buffer begins b) cycle first) b.finished
    (finished_at buffer begins cycle first)
    (not_at_next buffer begins b cycle first article
    (lies buffer begins cycle first article sized e)) ∙ e
