-- The articles of one buffer, by its own begins and among those of its group.
use Rattle.std.proofs.Common.{◌≡◌, ◌∙◌, ℕ, ◌+◌, ◌==◌, Bool, true, false, List, [], ◌∷◌, ◌++◌, fold}
use Rattle.std.proofs.Common.{length, refl, sym, ap, arith, add-zero, append-nil, if◌then◌else◌}
use Rattle.std.proofs.Common.{Option, None, Some, slice_get}
use Rattle.std.proofs.lemmas.List.{length_push}
use Rattle.std.proofs.lemmas.Bool.{cond-true, cond-false, eq-eqb, ne_eqb}
use Rattle.std.proofs.lemmas.List.Elements.{filter-append}
use Rattle.std.specs.List.{filter}
use Rattle.news_terms.specs.Courses.{At, articles_of, at_after, at_past, first_at, is_in_buffer}
use Rattle.news_terms.specs.Courses.{Course, course_next, course_past, pick_in, place_in}
use Rattle.news_terms.specs.Courses.{place_next, placed_at}
use Rattle.news_terms.specs.Fronts.{HasOwnNumbers}
use Rattle.news_terms.specs.Picks.{front_at, head_of, place_after}
use Rattle.news_terms.specs.Places.{Buffer, Extent, Group, Place, front_after, on_line}
use Rattle.news_terms.specs.Places.{place_in_buffer}
use Rattle.news_terms.proofs.CourseLaws.{articles_next, at_push, front_is_at, placed_buffer}
use Rattle.news_terms.proofs.CoursesOfSizes.{at_of, place_same}

-- a buffer is where the head of its begins is
pub at_of_begins : (buffer : Buffer) (begins : List (ℕ × Bool))
    → at_after buffer (articles_of buffer begins) ≡ at_of buffer (head_of buffer.blocks begins)
at_of_begins buffer [] =
    ap (λ (cycle : ℕ). record { cycle = cycle; used = 0 }) (sym (add-zero buffer.first_cycle))
at_of_begins buffer (begin ∷ earlier) =
    at_push buffer (articles_of buffer earlier)
    (record {
      place = place_in_buffer buffer
          (place_after buffer.blocks (head_of buffer.blocks earlier) begin.1 begin.0);
      size = begin.0;
    })
    ∙ cond-true (buffer.number == buffer.number) _ _ (eq-eqb buffer.number buffer.number refl)

-- what lies in other buffers leaves where a buffer is
pub at_of_own : (buffer : Buffer) (articles : List Extent)
    → at_after buffer (filter (is_in_buffer buffer) articles) ≡ at_after buffer articles
at_of_own buffer articles = from (first_at buffer) articles
  where
    by_test : (at : At) (one : Extent) (later : List Extent) (here : Bool)
        → is_in_buffer buffer one ≡ here
        → ((at : At) → fold (at_past buffer) at (filter (is_in_buffer buffer) later)
        ≡ fold (at_past buffer) at later)
        → fold (at_past buffer) at
        (if here then one ∷ filter (is_in_buffer buffer) later
        else filter (is_in_buffer buffer) later)
        ≡ fold (at_past buffer) (at_past buffer at one) later
    by_test at one later true is rest = rest (at_past buffer at one)
    by_test at one later false is rest =
        rest at
        ∙ ap (λ a. fold (at_past buffer) a later) (sym (ap (λ (b : Bool).
        if b then record { cycle = one.place.cycle; used = one.place.first + one.size } else at)
        is))

    from : (at : At) (articles : List Extent)
        → fold (at_past buffer) at (filter (is_in_buffer buffer) articles)
        ≡ fold (at_past buffer) at articles
    from at [] = refl
    from at (one ∷ later) =
        by_test at one later (is_in_buffer buffer one) refl (λ a. from a later)

-- where a buffer's begins are its group's articles in it, it is where they say
pub at_of_group : (buffer : Buffer) (begins : List (ℕ × Bool)) (articles : List Extent)
    → articles_of buffer begins ≡ filter (is_in_buffer buffer) articles
    → at_after buffer articles ≡ at_of buffer (head_of buffer.blocks begins)
at_of_group buffer begins articles same =
    sym (at_of_own buffer articles) ∙ ap (at_after buffer) (sym same) ∙ at_of_begins buffer begins

-- so is its front
pub front_of_group : (buffer : Buffer) (begins : List (ℕ × Bool)) (articles : List Extent)
    → articles_of buffer begins ≡ filter (is_in_buffer buffer) articles
    → front_after buffer articles ≡ front_at buffer (head_of buffer.blocks begins)
front_of_group buffer begins articles same =
    front_is_at buffer articles
    ∙ ap (λ (at : At). on_line buffer.blocks at.cycle at.used)
    (at_of_group buffer begins articles same)

-- one more article joins those of its buffer
pub own_push : (buffer : Buffer) (articles : List Extent) (one : Extent)
    → is_in_buffer buffer one ≡ true
    → filter (is_in_buffer buffer) (articles ++ one ∷ [])
    ≡ filter (is_in_buffer buffer) articles ++ one ∷ []
own_push buffer articles one here =
    filter-append (is_in_buffer buffer) articles (one ∷ [])
    ∙ ap (λ rest. filter (is_in_buffer buffer) articles ++ rest)
    (cond-true (is_in_buffer buffer one) (one ∷ []) [] here)

-- and of no other
pub own_stays : (buffer : Buffer) (articles : List Extent) (one : Extent)
    → is_in_buffer buffer one ≡ false
    → filter (is_in_buffer buffer) (articles ++ one ∷ [])
    ≡ filter (is_in_buffer buffer) articles
own_stays buffer articles one elsewhere =
    filter-append (is_in_buffer buffer) articles (one ∷ [])
    ∙ ap (λ rest. filter (is_in_buffer buffer) articles ++ rest)
    (cond-false (is_in_buffer buffer one) (one ∷ []) [] elsewhere)
    ∙ append-nil (filter (is_in_buffer buffer) articles)

-- a buffer has as many articles as begins
pub length-articles_of : (buffer : Buffer) (begins : List (ℕ × Bool))
    → length (articles_of buffer begins) ≡ length begins
length-articles_of buffer [] = refl
length-articles_of buffer (begin ∷ earlier) =
    let one : Extent =
    record {
      place = place_in_buffer buffer
          (place_after buffer.blocks (head_of buffer.blocks earlier) begin.1 begin.0);
      size = begin.0;
    } in
    let more : length (articles_of buffer earlier ++ one ∷ [])
    ≡ length (articles_of buffer earlier) + 1 =
    length_push (articles_of buffer earlier) one in
    omega (arith, more, length-articles_of buffer earlier)

-- the next article of a group, in the buffer that is picked
module _ (group : Group) (course : Course) (size : ℕ) where
  -- whether it is fresh
  abbrev fresh : Bool
  fresh = (pick_in group course size).fresh

  module _ (buffer : Buffer) (begins : List (ℕ × Bool))
      (there : slice_get group.buffers (pick_in group course size).index ≡ Some buffer)
      (same : articles_of buffer begins ≡ filter (is_in_buffer buffer) course.articles) where
    -- where it goes, by the begins of that buffer
    abbrev own_place : Place
    own_place =
        place_in_buffer buffer
        (place_after buffer.blocks (head_of buffer.blocks begins) fresh size)

    -- that is its place
    pub next_in : place_next group course size ≡ Some own_place
    next_in =
        ap (λ found. place_in found course.articles fresh size) there
        ∙ ap (λ (at : At). Some (placed_at buffer at fresh size))
        (at_of_group buffer begins course.articles same)
        ∙ ap Some (place_same buffer (head_of buffer.blocks begins) fresh size)

    -- it joins the articles of that buffer
    pub own_next : articles_of buffer ((size, fresh) ∷ begins)
        ≡ filter (is_in_buffer buffer) (course_next group course size).articles
    own_next =
        let one : Extent = record { place = own_place; size = size } in
        ap (λ articles. articles ++ one ∷ []) same
        ∙ sym (own_push buffer course.articles one (eq-eqb buffer.number buffer.number refl))
        ∙ ap (filter (is_in_buffer buffer))
        (sym (articles_next group course size own_place next_in))

  -- and of no other
  pub own_left : HasOwnNumbers group → (i : ℕ) (buffer : Buffer)
      → slice_get group.buffers i ≡ Some buffer
      → (slice_get group.buffers (pick_in group course size).index ≡ Some buffer → ⊥)
      → filter (is_in_buffer buffer) (course_next group course size).articles
      ≡ filter (is_in_buffer buffer) course.articles
  own_left numbers i buffer there apart =
      by (slice_get group.buffers (pick_in group course size).index) refl
    where
      by : (found : Option Buffer)
          → slice_get group.buffers (pick_in group course size).index ≡ found
          → filter (is_in_buffer buffer)
          (course_past group course size (place_in found course.articles fresh size)).articles
          ≡ filter (is_in_buffer buffer) course.articles
      by None is = refl
      by (Some other) is =
          let at : At = at_after other course.articles in
          own_stays buffer course.articles
          (record { place = placed_at other at fresh size; size = size })
          (ne_eqb (placed_at other at fresh size).buffer.number buffer.number
          (λ same.
          apart (ap (slice_get group.buffers)
          (numbers.own (pick_in group course size).index i other buffer is there
          (ap (λ (b : Buffer). b.number) (sym (placed_buffer other at fresh size)) ∙ same))
          ∙ there)))
