-- Courses: where a buffer is after what was begun, that the next article has a place, and what
-- stays so by one more article.
use Rattle.std.proofs.Common.{◌≡◌, ◌∙◌, ℕ, ◌+◌, ◌*◌, ◌<◌, ◌≤◌, ◌==◌, ◌&&◌, nat_lt, nat_le, Bool}
use Rattle.std.proofs.Common.{true, false, length, List, [], ◌∷◌, ◌++◌, All, fold, Option, None}
use Rattle.std.proofs.Common.{Some, slice_get, ◌⊎◌, inl, inr, refl, sym, ap, subst, arith}
use Rattle.std.proofs.Common.{if◌then◌else◌, append_assoc, append-nil, le_refl, le_trans, le_of_eq}
use Rattle.std.proofs.lemmas.Bool.{cases_eq, cond-true, cond-false, eq-eqb, ne_eqb, leb-true}
use Rattle.std.proofs.lemmas.List.Elements.{All-append, All-cons, All-nil, All-head, All-tail}
use Rattle.std.proofs.lemmas.List.Sums.{fold_push}
use Rattle.std.proofs.lemmas.Option.{same_Some, none-some}
use Rattle.news_terms.specs.Courses.{At, Course, IsLaid, LieInOrder, LiesInGroup, at_after, at_past}
use Rattle.news_terms.specs.Courses.{course_next, course_past, first_at, first_course, pick_in}
use Rattle.news_terms.specs.Courses.{place_in, place_next, placed_at, position_in}
use Rattle.news_terms.specs.Fronts.{EndsInBuffer, FitsGroup, HasOwnNumbers, IsAmongBuffers}
use Rattle.news_terms.specs.Picks.{Pick}
use Rattle.news_terms.specs.Places.{Buffer, Group, Mode, Interleave, Sequential, Place, Extent}
use Rattle.news_terms.specs.Places.{blocks_of, front_after, front_past, on_line}
use Rattle.news_terms.specs.Positions.{Position, index_after, pick_at, position_past}
use Rattle.news_terms.proofs.Extents.{whose_turn}
use Rattle.news_terms.proofs.FrontLaws.{same_buffer}

-- FRONTS

-- the front of a buffer is where the buffer is
pub front_is_at : (buffer : Buffer) (articles : List Extent)
    → front_after buffer articles
    ≡ on_line buffer.blocks (at_after buffer articles).cycle (at_after buffer articles).used
front_is_at buffer articles = from (first_at buffer) articles
  where
    -- one article more, by whether it is in the buffer
    by_test : (at : At) (one : Extent) (here : Bool)
        → (if here then on_line buffer.blocks one.place.cycle one.place.first + one.size
        else on_line buffer.blocks at.cycle at.used)
        ≡ on_line buffer.blocks
        (if here then record { cycle = one.place.cycle; used = one.place.first + one.size }
        else at).cycle
        (if here then record { cycle = one.place.cycle; used = one.place.first + one.size }
        else at).used
    by_test at one true = omega arith
    by_test at one false = refl

    from : (at : At) (articles : List Extent)
        → fold (front_past buffer) (on_line buffer.blocks at.cycle at.used) articles
        ≡ on_line buffer.blocks (fold (at_past buffer) at articles).cycle
        (fold (at_past buffer) at articles).used
    from at [] = refl
    from at (one ∷ later) =
        ap (λ front. fold (front_past buffer) front later)
        (by_test at one (one.place.buffer.number == buffer.number))
        ∙ from (at_past buffer at one) later

-- one more article moves where a buffer is
pub at_push : (buffer : Buffer) (articles : List Extent) (one : Extent)
    → at_after buffer (articles ++ one ∷ []) ≡ at_past buffer (at_after buffer articles) one
at_push buffer articles one = fold_push (at_past buffer) (first_at buffer) articles one

-- one more article in it moves the front of a buffer past its last block
pub front_moves : (buffer : Buffer) (articles : List Extent) (place : Place) (size : ℕ)
    → place.buffer.number ≡ buffer.number
    → front_after buffer (articles ++ record { place = place; size = size } ∷ [])
    ≡ on_line buffer.blocks place.cycle place.first + size
front_moves buffer articles place size same =
    fold_push (front_past buffer) (on_line buffer.blocks buffer.first_cycle 0) articles
    (record { place = place; size = size })
    ∙ cond-true (place.buffer.number == buffer.number) _ _
    (eq-eqb place.buffer.number buffer.number same)

-- one more article elsewhere leaves the front of a buffer
pub front_stays : (buffer : Buffer) (articles : List Extent) (place : Place) (size : ℕ)
    → (place.buffer.number ≡ buffer.number → ⊥)
    → front_after buffer (articles ++ record { place = place; size = size } ∷ [])
    ≡ front_after buffer articles
front_stays buffer articles place size other =
    fold_push (front_past buffer) (on_line buffer.blocks buffer.first_cycle 0) articles
    (record { place = place; size = size })
    ∙ cond-false (place.buffer.number == buffer.number) _ _
    (ne_eqb place.buffer.number buffer.number other)

-- a buffer of the group uses no more than its blocks
pub used_within : (group : Group) → HasOwnNumbers group → (i : ℕ) (buffer : Buffer)
    → slice_get group.buffers i ≡ Some buffer → (articles : List Extent)
    → All (LiesInGroup group) articles → (at_after buffer articles).used ≤ buffer.blocks
used_within group numbers i buffer there articles lie =
    from (first_at buffer) (omega arith) articles lie
  where
    by_number : (at : At) → at.used ≤ buffer.blocks → (one : Extent) → LiesInGroup group one
        → (one.place.buffer.number ≡ buffer.number)
        ⊎ (one.place.buffer.number ≡ buffer.number → ⊥)
        → (at_past buffer at one).used ≤ buffer.blocks
    by_number at within one lies (inl same) =
        let is : one.place.buffer ≡ buffer =
        same_buffer group numbers lies.among.index i one.place.buffer buffer lies.among.there
        there same in
        le_trans
        (le_of_eq (ap (λ (a : At). a.used)
        (cond-true (one.place.buffer.number == buffer.number)
        (record { cycle = one.place.cycle; used = one.place.first + one.size }) at
        (eq-eqb one.place.buffer.number buffer.number same))))
        (subst (λ (b : Buffer). one.place.first + one.size ≤ b.blocks) is lies.ends.ends)
    by_number at within one lies (inr other) =
        le_trans
        (le_of_eq (ap (λ (a : At). a.used)
        (cond-false (one.place.buffer.number == buffer.number)
        (record { cycle = one.place.cycle; used = one.place.first + one.size }) at
        (ne_eqb one.place.buffer.number buffer.number other))))
        within

    from : (at : At) → at.used ≤ buffer.blocks → (articles : List Extent)
        → All (LiesInGroup group) articles
        → (fold (at_past buffer) at articles).used ≤ buffer.blocks
    from at within [] lie = within
    from at within (one ∷ later) lie =
        from (at_past buffer at one)
        (by_number at within one (All-head (LiesInGroup group) one later lie)
        (cases_eq one.place.buffer.number buffer.number))
        later (All-tail (LiesInGroup group) one later lie)

-- PLACES

-- the front of the next cycle is past each place of this one
further : (blocks cycle used : ℕ) → used ≤ blocks
    → cycle * blocks + used ≤ (cycle + 1) * blocks + 0
further blocks cycle used within = omega (arith, within)

-- the place is in the buffer, at its front or past it
placed_past : (buffer : Buffer) (at : At) (fresh : Bool) (size : ℕ) → at.used ≤ buffer.blocks
    → on_line buffer.blocks at.cycle at.used
    ≤ on_line buffer.blocks (placed_at buffer at fresh size).cycle
    (placed_at buffer at fresh size).first
placed_past buffer at fresh size within =
    by (fresh && nat_lt 0 at.used) (nat_le (at.used + size) buffer.blocks)
  where
    here : Place
    here = record { buffer = buffer; cycle = at.cycle; first = at.used }

    next : Place
    next = record { buffer = buffer; cycle = at.cycle + 1; first = 0 }

    Past : Place → Type 0
    Past place =
        on_line buffer.blocks at.cycle at.used ≤ on_line buffer.blocks place.cycle place.first

    by : (skips fits : Bool) → Past (if skips then next else (if fits then here else next))
    by true fits = further buffer.blocks at.cycle at.used within
    by false true = le_refl _
    by false false = further buffer.blocks at.cycle at.used within

-- the article ends in the buffer
placed_ends : (buffer : Buffer) (at : At) (fresh : Bool) (size : ℕ) → size ≤ buffer.blocks
    → (placed_at buffer at fresh size).first + size ≤ buffer.blocks
placed_ends buffer at fresh size small =
    by (fresh && nat_lt 0 at.used) (nat_le (at.used + size) buffer.blocks) refl
  where
    here : Place
    here = record { buffer = buffer; cycle = at.cycle; first = at.used }

    next : Place
    next = record { buffer = buffer; cycle = at.cycle + 1; first = 0 }

    by : (skips fits : Bool) → nat_le (at.used + size) buffer.blocks ≡ fits
        → (if skips then next else (if fits then here else next)).first + size ≤ buffer.blocks
    by true fits e = omega (arith, small)
    by false true e = leb-true (at.used + size) buffer.blocks e
    by false false e = omega (arith, small)

-- the place is in the buffer
pub placed_buffer : (buffer : Buffer) (at : At) (fresh : Bool) (size : ℕ)
    → (placed_at buffer at fresh size).buffer ≡ buffer
placed_buffer buffer at fresh size =
    by (fresh && nat_lt 0 at.used) (nat_le (at.used + size) buffer.blocks)
  where
    here : Place
    here = record { buffer = buffer; cycle = at.cycle; first = at.used }

    next : Place
    next = record { buffer = buffer; cycle = at.cycle + 1; first = 0 }

    by : (skips fits : Bool)
        → (if skips then next else (if fits then here else next)).buffer ≡ buffer
    by true fits = refl
    by false true = refl
    by false false = refl

-- THE NEXT ARTICLE

-- where the next article goes: to the buffer that is picked, after what is begun there
pub record IsNext (group : Group) (course : Course) (size : ℕ) (place : Place) : Type 0 where
  pub buffer : Buffer
  pub there : slice_get group.buffers (pick_in group course size).index ≡ Some buffer
  pub is :
      place ≡ placed_at buffer (at_after buffer course.articles) (pick_in group course size).fresh
      size

-- a place that is next is such
pub next_is : (group : Group) (course : Course) (size : ℕ) (place : Place)
    → place_next group course size ≡ Some place → IsNext group course size place
next_is group course size place next =
    by (slice_get group.buffers (pick_in group course size).index) refl next
  where
    by : (found : Option Buffer)
        → slice_get group.buffers (pick_in group course size).index ≡ found
        → place_in found course.articles (pick_in group course size).fresh size ≡ Some place
        → IsNext group course size place
    by None there is = absurd (none-some place is)
    by (Some buffer) there is =
        record { buffer = buffer; there = there; is = sym (same_Some _ place is) }

-- the buffer after one of m is one of them
after_within : (m index : ℕ) → index < m → index_after m index < m
after_within m index within = by (cases_eq (index + 1) m)
  where
    by : (index + 1 ≡ m) ⊎ (index + 1 ≡ m → ⊥) → index_after m index < m
    by (inl last) =
        let is : index_after m index ≡ 0 =
        cond-true (index + 1 == m) 0 (index + 1) (eq-eqb (index + 1) m last) in
        omega (arith, is, within)
    by (inr more) =
        let is : index_after m index ≡ index + 1 =
        cond-false (index + 1 == m) 0 (index + 1) (ne_eqb (index + 1) m more) in
        omega (arith, is, within, more)

-- a pick from a position in the group is one of its buffers
pub pick_at_within : (mode : Mode) (buffers : List Buffer) (at : Position) (size : ℕ)
    → at.index < length buffers → (pick_at mode buffers at size).index < length buffers
pick_at_within Interleave buffers at size within = within
pick_at_within Sequential buffers at size within =
    by (nat_le (at.used + size) (blocks_of (slice_get buffers at.index)))
  where
    Within : Pick → Type 0
    Within pick = pick.index < length buffers

    by : (fits : Bool)
        → Within (if fits then record { index = at.index; fresh = false }
        else record { index = index_after (length buffers) at.index; fresh = true })
    by true = within
    by false = after_within (length buffers) at.index within

-- so is the position after it
past_within : (mode : Mode) (buffers : List Buffer) (at : Position) (pick : Pick) (size : ℕ)
    → at.index < length buffers → pick.index < length buffers
    → (position_past mode buffers at pick size).index < length buffers
past_within Interleave buffers at pick size within picked =
    after_within (length buffers) at.index within
past_within Sequential buffers at pick size within picked = picked

-- the turn of a course that is laid is one of the group's buffers
pub turn_within : (group : Group) (course : Course) → IsLaid group course
    → 0 < length group.buffers → course.turn < length group.buffers
turn_within group course laid some = laid.turn some

-- so is its pick
pub pick_within : (group : Group) (course : Course) → IsLaid group course
    → 0 < length group.buffers → (size : ℕ)
    → (pick_in group course size).index < length group.buffers
pick_within group course laid some size =
    pick_at_within group.mode group.buffers (position_in group course) size (laid.turn some)

-- on a course that is laid the next article has a place, where the group has a buffer
pub next_some : (group : Group) (course : Course) → IsLaid group course
    → 0 < length group.buffers → (size : ℕ)
    → (place : Place) × (place_next group course size ≡ Some place)
next_some group course laid some size =
    let pick : Pick = pick_in group course size in
    let whose : (one : Buffer) × (slice_get group.buffers pick.index ≡ Some one) =
    whose_turn group.buffers pick.index (pick_within group course laid some size) in (
      placed_at whose.0 (at_after whose.0 course.articles) pick.fresh size,
      ap (λ found. place_in found course.articles pick.fresh size) whose.1,
    )

-- it is in one of the group's buffers
pub next_among : (group : Group) (course : Course) (size : ℕ) (place : Place)
    → place_next group course size ≡ Some place → IsAmongBuffers group place
next_among group course size place next =
    let is : IsNext group course size place = next_is group course size place next in
    record {
      index = (pick_in group course size).index;
      there = is.there
          ∙ ap Some (sym (placed_buffer is.buffer (at_after is.buffer course.articles)
          (pick_in group course size).fresh size))
          ∙ ap (λ (p : Place). Some p.buffer) (sym is.is);
    }

-- it ends there
pub next_ends : (group : Group) (course : Course) (size : ℕ) → FitsGroup group size
    → (place : Place) → place_next group course size ≡ Some place → EndsInBuffer place size
next_ends group course size fits place next =
    let is : IsNext group course size place = next_is group course size place next in
    let at : At = at_after is.buffer course.articles in
    let fresh : Bool = (pick_in group course size).fresh in
    subst (λ (p : Place). EndsInBuffer p size) (sym is.is)
    (record {
      ends = le_trans
          (placed_ends is.buffer at fresh size
          (fits.room (pick_in group course size).index is.buffer is.there))
          (le_of_eq (ap (λ (b : Buffer). b.blocks) (sym (placed_buffer is.buffer at fresh size))));
    })

-- it is at the front of its buffer or past it
pub next_past : (group : Group) (course : Course) → HasOwnNumbers group → IsLaid group course
    → (size : ℕ) (place : Place) → place_next group course size ≡ Some place
    → front_after place.buffer course.articles
    ≤ on_line place.buffer.blocks place.cycle place.first
next_past group course numbers laid size place next =
    let is : IsNext group course size place = next_is group course size place next in
    let at : At = at_after is.buffer course.articles in
    let fresh : Bool = (pick_in group course size).fresh in
    let past : on_line is.buffer.blocks at.cycle at.used
    ≤ on_line is.buffer.blocks (placed_at is.buffer at fresh size).cycle
    (placed_at is.buffer at fresh size).first =
    placed_past is.buffer at fresh size
    (used_within group numbers (pick_in group course size).index is.buffer is.there
    course.articles laid.within) in
    let there : front_after is.buffer course.articles
    ≤ on_line is.buffer.blocks place.cycle place.first =
    subst (λ (p : Place). front_after is.buffer course.articles
    ≤ on_line is.buffer.blocks p.cycle p.first) (sym is.is)
    (le_trans (le_of_eq (front_is_at is.buffer course.articles)) past) in
    let same : is.buffer ≡ place.buffer =
    sym (ap (λ (p : Place). p.buffer) is.is ∙ placed_buffer is.buffer at fresh size) in
    subst (λ (b : Buffer). front_after b course.articles ≤ on_line b.blocks place.cycle place.first)
    same there

-- the course after an article that has a place
pub course_is_past : (group : Group) (course : Course) (size : ℕ) (place : Place)
    → place_next group course size ≡ Some place
    → course_next group course size ≡ course_past group course size (Some place)
course_is_past group course size place next = ap (course_past group course size) next

-- its articles are one more
pub articles_next : (group : Group) (course : Course) (size : ℕ) (place : Place)
    → place_next group course size ≡ Some place
    → (course_next group course size).articles
    ≡ course.articles ++ record { place = place; size = size } ∷ []
articles_next group course size place next =
    ap (λ (c : Course). c.articles) (course_is_past group course size place next)

-- WHAT STAYS

-- articles in order stay so by one more at its front or past it
pub order_push : (before articles : List Extent) (one : Extent) → LieInOrder before articles
    → front_after one.place.buffer (before ++ articles)
    ≤ on_line one.place.buffer.blocks one.place.cycle one.place.first
    → LieInOrder before (articles ++ one ∷ [])
order_push before [] one order past = (
  subst (λ list. front_after one.place.buffer list
      ≤ on_line one.place.buffer.blocks one.place.cycle one.place.first)
      (append-nil before) past,
  tt,
)
order_push before (first ∷ later) one order past = (
  order.0,
  order_push (before ++ first ∷ []) later one order.1
      (subst (λ list. front_after one.place.buffer list
      ≤ on_line one.place.buffer.blocks one.place.cycle one.place.first)
      (sym (append_assoc before (first ∷ []) later)) past),
)

-- and were so before, each at its front or past it
pub order_pop : (before articles : List Extent) (one : Extent)
    → LieInOrder before (articles ++ one ∷ [])
    → LieInOrder before articles
    × (front_after one.place.buffer (before ++ articles)
    ≤ on_line one.place.buffer.blocks one.place.cycle one.place.first)
order_pop before [] one order = (
  tt,
  subst (λ list. front_after one.place.buffer list
      ≤ on_line one.place.buffer.blocks one.place.cycle one.place.first)
      (sym (append-nil before)) order.0,
)
order_pop before (first ∷ later) one order =
    let rest : LieInOrder (before ++ first ∷ []) later
    × (front_after one.place.buffer ((before ++ first ∷ []) ++ later)
    ≤ on_line one.place.buffer.blocks one.place.cycle one.place.first) =
    order_pop (before ++ first ∷ []) later one order.1 in (
      (order.0, rest.0),
      subst (λ list. front_after one.place.buffer list
          ≤ on_line one.place.buffer.blocks one.place.cycle one.place.first)
          (append_assoc before (first ∷ []) later) rest.1,
    )

-- nothing begun is laid
pub first_laid : (group : Group) → IsLaid group first_course
first_laid group =
    record { turn = λ some. some; within = All-nil (LiesInGroup group); order = tt }

-- one more article leaves a course laid
pub next_laid : (group : Group) (course : Course) (size : ℕ) → HasOwnNumbers group
    → IsLaid group course → FitsGroup group size → IsLaid group (course_next group course size)
next_laid group course size numbers laid fits = by (place_next group course size) refl
  where
    by : (found : Option Place) → place_next group course size ≡ found
        → IsLaid group (course_past group course size found)
    by None next = laid
    by (Some place) next =
        let one : Extent = record { place = place; size = size } in
        record {
          turn = λ some.
              past_within group.mode group.buffers (position_in group course)
              (pick_in group course size) size (laid.turn some)
              (pick_within group course laid some size);
          within = All-append (LiesInGroup group) course.articles (one ∷ []) laid.within
              (All-cons (LiesInGroup group) one []
              (record {
                among = next_among group course size place next;
                ends = next_ends group course size fits place next;
              })
              (All-nil (LiesInGroup group)));
          order = order_push [] course.articles one laid.order
              (next_past group course numbers laid size place next);
        }

-- so do several
pub sizes_laid : (group : Group) → HasOwnNumbers group → (sizes : List ℕ)
    → All (FitsGroup group) sizes → (course : Course) → IsLaid group course
    → IsLaid group (fold (course_next group) course sizes)
sizes_laid group numbers [] fit course laid = laid
sizes_laid group numbers (size ∷ sizes) fit course laid =
    sizes_laid group numbers sizes (All-tail (FitsGroup group) size sizes fit)
    (course_next group course size)
    (next_laid group course size numbers laid (All-head (FitsGroup group) size sizes fit))
