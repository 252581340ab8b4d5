-- Where a group is after one more article of its course.
use Rattle.std.proofs.Common.{◌≡◌, ◌∙◌, ℕ, ◌+◌, ◌<◌, nat_lt, nat_le, Bool, true, false, List}
use Rattle.std.proofs.Common.{length, [], ◌∷◌, ◌++◌, Some, slice_get, refl, sym, ap, arith}
use Rattle.std.proofs.Common.{if◌then◌else◌, ◌==◌}
use Rattle.std.proofs.lemmas.Bool.{cond-true, eq-eqb, ltb-false}
use Rattle.news_terms.specs.Courses.{At, Course, at_after, course_next, course_past, pick_in}
use Rattle.news_terms.specs.Courses.{place_in, placed_at, position_in, run_used}
use Rattle.news_terms.specs.Picks.{Pick}
use Rattle.news_terms.specs.Places.{Buffer, Extent, Group, Mode, Interleave, Sequential, Place}
use Rattle.news_terms.specs.Places.{blocks_of}
use Rattle.news_terms.specs.Positions.{Position, index_after, pick_at, position_past}
use Rattle.news_terms.proofs.CourseLaws.{at_push, pick_at_within, placed_buffer}
use Rattle.news_terms.proofs.Extents.{whose_turn}

-- a buffer is past an article that was placed in it
used_at : (buffer : Buffer) (articles : List Extent) (fresh : Bool) (size : ℕ)
    → (at_after buffer (articles ++ record {
      place = placed_at buffer (at_after buffer articles) fresh size;
      size = size;
    } ∷ [])).used
    ≡ (placed_at buffer (at_after buffer articles) fresh size).first + size
used_at buffer articles fresh size =
    let at : At = at_after buffer articles in
    let place : Place = placed_at buffer at fresh size in
    ap (λ (a : At). a.used)
    (at_push buffer articles (record { place = place; size = size })
    ∙ cond-true (place.buffer.number == buffer.number) _ _
    (eq-eqb place.buffer.number buffer.number
    (ap (λ (b : Buffer). b.number) (placed_buffer buffer at fresh size))))

-- a fresh article has the blocks used of its cycle to itself
fresh_first : (buffer : Buffer) (at : At) (size : ℕ)
    → (placed_at buffer at true size).first ≡ 0
fresh_first buffer at size =
    by (nat_lt 0 at.used) (nat_le (at.used + size) buffer.blocks) refl
  where
    here : Place
    here = record { buffer = buffer; cycle = at.cycle; first = at.used }

    next : Place
    next = record { buffer = buffer; cycle = at.cycle + 1; first = 0 }

    by : (some fits : Bool) → nat_lt 0 at.used ≡ some
        → (if some then next else (if fits then here else next)).first ≡ 0
    by true fits e = refl
    by false true e = omega (arith, ltb-false 0 at.used e)
    by false false e = refl

-- one that isn't, where it fits, begins after the blocks used
plain_first : (buffer : Buffer) (at : At) (size : ℕ)
    → nat_le (at.used + size) buffer.blocks ≡ true
    → (placed_at buffer at false size).first ≡ at.used
plain_first buffer at size fits =
    ap (λ (p : Place). p.first) (cond-true (nat_le (at.used + size) buffer.blocks) _ _ fits)

-- where a group is after one more article, which lies where it was picked
picked_past : (mode : Mode) (buffers : List Buffer) (turn : ℕ) (articles : List Extent) (size : ℕ)
    → let at : Position =
    record { index = turn; used = run_used mode (slice_get buffers turn) articles } in
    let pick : Pick = pick_at mode buffers at size in
    (buffer : Buffer) → slice_get buffers pick.index ≡ Some buffer
    → run_used mode (slice_get buffers (position_past mode buffers at pick size).index)
    (articles ++ record {
      place = placed_at buffer (at_after buffer articles) pick.fresh size;
      size = size;
    } ∷ [])
    ≡ (position_past mode buffers at pick size).used
picked_past Interleave buffers turn articles size buffer there = refl
picked_past Sequential buffers turn articles size buffer there =
    ap (λ found. run_used Sequential found (articles ++ one ∷ [])) there
    ∙ used_at buffer articles (picked test).fresh size
    ∙ by_test test refl there
  where
    used : ℕ
    used = run_used Sequential (slice_get buffers turn) articles

    test : Bool
    test = nat_le (used + size) (blocks_of (slice_get buffers turn))

    picked : Bool → Pick
    picked fits =
        if fits then record { index = turn; fresh = false }
        else record { index = index_after (length buffers) turn; fresh = true }

    one : Extent
    one = record {
      place = placed_at buffer (at_after buffer articles) (picked test).fresh size;
      size = size;
    }

    by_test : (fits : Bool) → nat_le (used + size) (blocks_of (slice_get buffers turn)) ≡ fits
        → slice_get buffers (picked fits).index ≡ Some buffer
        → (placed_at buffer (at_after buffer articles) (picked fits).fresh size).first + size
        ≡ (if (picked fits).fresh then size else used + size)
    by_test true e is =
        ap (λ first. first + size)
        (plain_first buffer (at_after buffer articles) size
        (ap (λ found. nat_le (run_used Sequential found articles + size) (blocks_of found)) (sym is)
        ∙ e)
        ∙ ap (λ found. run_used Sequential found articles) (sym is))
    by_test false e is = omega (arith, fresh_first buffer (at_after buffer articles) size)

-- where a group is after one more article follows from where it was, the pick and the size
pub position_next : (group : Group) (course : Course) → course.turn < length group.buffers
    → (size : ℕ)
    → position_in group (course_next group course size)
    ≡ position_past group.mode group.buffers (position_in group course)
    (pick_in group course size) size
position_next group course within size =
    let pick : Pick = pick_in group course size in
    let after : Position =
    position_past group.mode group.buffers (position_in group course) pick size in
    let whose : (one : Buffer) × (slice_get group.buffers pick.index ≡ Some one) =
    whose_turn group.buffers pick.index
    (pick_at_within group.mode group.buffers (position_in group course) size within) in
    ap (λ found. position_in group
    (course_past group course size (place_in found course.articles pick.fresh size))) whose.1
    ∙ ap (λ (used : ℕ). record { index = after.index; used = used })
    (picked_past group.mode group.buffers course.turn course.articles size whose.0 whose.1)
