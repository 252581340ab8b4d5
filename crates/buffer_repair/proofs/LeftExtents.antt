-- The articles that were begun in one buffer, among those of others: each lies in it, at its front
-- or past it.
use Rattle.std.proofs.Common.{◌≡◌, ◌∙◌, ℕ, ◌+◌, ◌*◌, ◌≤◌, Bool, inl, inr, refl, sym, ap, arith}
use Rattle.std.proofs.Common.{List, [], ◌∷◌, ◌++◌, All, map, Some, slice_get, append_assoc}
use Rattle.std.proofs.Common.{append-nil}
use Rattle.std.proofs.lemmas.Bool.{eq-eqb, ne_eqb}
use Rattle.std.proofs.lemmas.List.Elements.{All-nil, All-push, All-weaker}
use Rattle.std.proofs.lemmas.List.Elements.{filter-append}
use Rattle.std.specs.List.{AllByRecursion, filter}
use Rattle.cyc_buffer.proofs.Numbers.{further}
use Rattle.cyc_buffer.proofs.Places.{placed, placed_within}
use Rattle.cyc_buffer.proofs.Sound.{used_within}
use Rattle.cyc_buffer.specs.BufferState.{IsSized}
use Rattle.cyc_buffer.specs.History.{Begin, asked}
use Rattle.news_terms.proofs.BufferArticles.{front_of_group, own_push, own_stays}
use Rattle.news_terms.proofs.CourseLaws.{order_push}
use Rattle.news_terms.specs.Courses.{LieInOrder, LiesInGroup, articles_of, is_in_buffer}
use Rattle.news_terms.specs.Picks.{front_at, head_of, place_after}
use Rattle.news_terms.specs.Places.{Buffer, Extent, Group, Head, on_line}
use Rattle.news_terms.specs.Places.{place_in_buffer}

-- a begin is at the front of its buffer or past it
placed_past : (buffer : Buffer) (head : Head) (fresh : Bool) (size : ℕ)
    → head.used ≤ buffer.blocks
    → front_at buffer head
    ≤ on_line buffer.blocks (buffer.first_cycle + (place_after buffer.blocks head fresh size).run)
    (place_after buffer.blocks head fresh size).used
placed_past buffer head fresh size room =
    let at = place_after buffer.blocks head fresh size in
    elim (placed buffer.blocks head fresh size) [
      | inl p ↦ omega (arith, p.1, ap (λ n. (buffer.first_cycle + n) * buffer.blocks) p.0)
      | inr p ↦ omega (
        arith,
        p.1,
        room,
        further (buffer.first_cycle + head.run) (buffer.first_cycle + at.run) buffer.blocks
            (omega (arith, p.0)),
      )
    ]

module _ (buffer : Buffer) where
  -- the article of one more begin
  abbrev next_one : List (ℕ × Bool) → ℕ × Bool → Extent
  next_one earlier begin = record {
    place = place_in_buffer buffer
        (place_after buffer.blocks (head_of buffer.blocks earlier) begin.1 begin.0);
    size = begin.0;
  }

  -- a buffer's articles lie in it
  pub own_all : (begins : List (ℕ × Bool))
      → filter (is_in_buffer buffer) (articles_of buffer begins) ≡ articles_of buffer begins
  own_all [] = refl
  own_all (begin ∷ earlier) =
      own_push buffer (articles_of buffer earlier) (next_one earlier begin)
      (eq-eqb buffer.number buffer.number refl)
      ∙ ap (λ articles. articles ++ next_one earlier begin ∷ []) (own_all earlier)

  -- and in no other
  pub none_of_other : (other : Buffer) → (buffer.number ≡ other.number → ⊥)
      → (begins : List (ℕ × Bool))
      → filter (is_in_buffer other) (articles_of buffer begins) ≡ []
  none_of_other other apart [] = refl
  none_of_other other apart (begin ∷ earlier) =
      own_stays other (articles_of buffer earlier) (next_one earlier begin)
      (ne_eqb buffer.number other.number apart)
      ∙ none_of_other other apart earlier

  -- they follow each other behind articles of other buffers
  pub own_order : (before : List Extent) → filter (is_in_buffer buffer) before ≡ []
      → (begins : List Begin) → AllByRecursion (IsSized buffer.blocks) begins
      → LieInOrder before (articles_of buffer (map asked begins))
  own_order before none [] sized = tt
  own_order before none (b ∷ earlier) sized =
      let articles = articles_of buffer (map asked earlier) in
      let same : articles ≡ filter (is_in_buffer buffer) (before ++ articles) =
      sym (filter-append (is_in_buffer buffer) before articles
      ∙ ap (λ front. front ++ filter (is_in_buffer buffer) articles) none
      ∙ own_all (map asked earlier)) in
      let front = front_of_group buffer (map asked earlier) (before ++ articles) same in
      order_push before articles (next_one (map asked earlier) (asked b))
      (own_order before none earlier sized.1)
      (rw front (placed_past buffer (head_of buffer.blocks (map asked earlier)) b.fresh b.size
      (used_within buffer.blocks earlier sized.1)))

  -- each lies in a group that has the buffer
  pub own_within : (group : Group) (i : ℕ) → slice_get group.buffers i ≡ Some buffer
      → (begins : List Begin) → AllByRecursion (IsSized buffer.blocks) begins
      → All (LiesInGroup group) (articles_of buffer (map asked begins))
  own_within group i there [] sized = All-nil (LiesInGroup group)
  own_within group i there (b ∷ earlier) sized =
      All-push (LiesInGroup group) (articles_of buffer (map asked earlier))
      (next_one (map asked earlier) (asked b)) (own_within group i there earlier sized.1)
      (record {
        among = record { index = i; there = there };
        ends = record {
          ends = placed_within buffer.blocks (head_of buffer.blocks (map asked earlier)) b.fresh
              b.size sized.0.within;
        };
      })

  -- what holds of the size of each begin holds of that of each article
  pub own_sizes : (P : ℕ → Type 0) (begins : List Begin)
      → AllByRecursion (λ (b : Begin). P b.size) begins
      → All (λ (one : Extent). P one.size) (articles_of buffer (map asked begins))
  own_sizes P [] each = All-nil (λ (one : Extent). P one.size)
  own_sizes P (b ∷ earlier) each =
      All-push (λ (one : Extent). P one.size) (articles_of buffer (map asked earlier))
      (next_one (map asked earlier) (asked b)) (own_sizes P earlier each.1) each.0

  -- no article is in a later cycle than the last
  pub own_cycles : (begins : List (ℕ × Bool))
      → All (λ (one : Extent). one.place.cycle
      ≤ buffer.first_cycle + (head_of buffer.blocks begins).run) (articles_of buffer begins)
  own_cycles [] = All-nil (λ (one : Extent). one.place.cycle ≤ buffer.first_cycle + 0)
  own_cycles (begin ∷ earlier) =
      let head = head_of buffer.blocks earlier in
      let at = place_after buffer.blocks head begin.1 begin.0 in
      let later : head.run ≤ at.run =
      elim (placed buffer.blocks head begin.1 begin.0) [
        | inl p ↦ omega (arith, p.0)
        | inr p ↦ omega (arith, p.0)
      ] in
      All-push (λ (one : Extent). one.place.cycle ≤ buffer.first_cycle + at.run)
      (articles_of buffer earlier) (next_one earlier begin)
      (All-weaker (λ (one : Extent). one.place.cycle ≤ buffer.first_cycle + head.run)
      (λ (one : Extent). one.place.cycle ≤ buffer.first_cycle + at.run)
      (λ one before. omega (arith, before, later)) (articles_of buffer earlier)
      (own_cycles earlier))
      (omega arith)

-- articles that follow each other, and others behind them
pub order_append : (before first later : List Extent) → LieInOrder before first
    → LieInOrder (before ++ first) later → LieInOrder before (first ++ later)
order_append before [] later one other = rw (append-nil before) at other
order_append before (e ∷ first) later one other = (
  one.0,
  order_append (before ++ e ∷ []) first later one.1 (rw (append_assoc before (e ∷ []) first) other),
)
