-- How many articles a group began, by how far the fronts of its buffers have come.
use Rattle.std.proofs.Common.{◌≡◌, ℕ, ◌+◌, ◌*◌, ◌^◌, ◌≤◌, List, [], ◌∷◌, ◌++◌, length, sum_by, All}
use Rattle.std.proofs.Common.{Some, slice_get, ◌⊎◌, inl, inr, refl, subst, arith, length-append}
use Rattle.std.proofs.Common.{le_of_eq, le_trans, mul-le-mul_right, sym}
use Rattle.std.proofs.lemmas.Bool.{cases_eq}
use Rattle.std.proofs.lemmas.List.Elements.{All-pop}
use Rattle.news_terms.specs.Courses.{Course, IsLaid, LieInOrder, LiesInGroup}
use Rattle.news_terms.specs.Fronts.{HasOwnNumbers}
use Rattle.news_terms.specs.Places.{Buffer, Group, Extent, front_after, last_cycle, on_line}
use Rattle.news_terms.proofs.CourseLaws.{front_moves, front_stays, order_pop}
use Rattle.news_terms.proofs.Extents.{by_push}
use Rattle.news_terms.proofs.FrontLaws.{same_buffer}
use Rattle.relay_model.specs.Counted.{IsInTime}
use Rattle.relay_facts.proofs.Sums.{list_rises, list_within}

-- the fronts of buffers after these articles
abbrev Fronts : List Extent → Buffer → ℕ
Fronts articles = λ buffer. front_after buffer articles

-- the article is of a block at least
abbrev pub Is_some : Extent → Type 0
Is_some one = 1 ≤ one.size

-- one more article lowers no front of a group
front_rises : (group : Group) → HasOwnNumbers group → (articles : List Extent) (one : Extent)
    → LiesInGroup group one
    → front_after one.place.buffer articles
    ≤ on_line one.place.buffer.blocks one.place.cycle one.place.first
    → (i : ℕ) (buffer : Buffer) → slice_get group.buffers i ≡ Some buffer
    → front_after buffer articles ≤ front_after buffer (articles ++ one ∷ [])
front_rises group numbers articles one lies past i buffer there =
    by_number (cases_eq one.place.buffer.number buffer.number)
  where
    by_number : (one.place.buffer.number ≡ buffer.number)
        ⊎ (one.place.buffer.number ≡ buffer.number → ⊥)
        → front_after buffer articles ≤ front_after buffer (articles ++ one ∷ [])
    by_number (inl same) =
        let is : one.place.buffer ≡ buffer =
        same_buffer group numbers lies.among.index i one.place.buffer buffer lies.among.there there
        same in
        let before : front_after buffer articles
        ≤ on_line buffer.blocks one.place.cycle one.place.first =
        subst (λ (b : Buffer). front_after b articles
        ≤ on_line b.blocks one.place.cycle one.place.first) is past in
        omega (arith, before, front_moves buffer articles one.place one.size same)
    by_number (inr other) =
        le_of_eq (sym (front_stays buffer articles one.place one.size other))

-- it brings them on, by a block together at least
fronts_rise : (group : Group) → HasOwnNumbers group → (articles : List Extent) (one : Extent)
    → Is_some one → LiesInGroup group one
    → front_after one.place.buffer articles
    ≤ on_line one.place.buffer.blocks one.place.cycle one.place.first
    → sum_by (Fronts articles) group.buffers + 1
    ≤ sum_by (Fronts (articles ++ one ∷ [])) group.buffers
fronts_rise group numbers articles one some lies past =
    list_rises (Fronts articles) (Fronts (articles ++ one ∷ [])) group.buffers lies.among.index
    one.place.buffer lies.among.there
    (λ j buffer there. front_rises group numbers articles one lies past j buffer there)
    (omega (arith, past, front_moves one.place.buffer articles one.place one.size refl, some))

-- so the fronts of a group have come on by a block at least for each article begun
begun_within : (group : Group) → HasOwnNumbers group → (articles : List Extent)
    → All Is_some articles → All (LiesInGroup group) articles → LieInOrder [] articles
    → length articles + sum_by (Fronts []) group.buffers
    ≤ sum_by (Fronts articles) group.buffers
begun_within group numbers =
    by_push (λ articles. All Is_some articles → All (LiesInGroup group) articles
    → LieInOrder [] articles
    → length articles + sum_by (Fronts []) group.buffers
    ≤ sum_by (Fronts articles) group.buffers)
    (λ some lie order. omega arith)
    (λ articles one earlier some lie order.
    let sizes : All Is_some articles × Is_some one =
    All-pop Is_some (articles ++ one ∷ []) articles (Some one) refl some in
    let within : All (LiesInGroup group) articles × LiesInGroup group one =
    All-pop (LiesInGroup group) (articles ++ one ∷ []) articles (Some one) refl lie in
    let before : LieInOrder [] articles
    × (front_after one.place.buffer articles
    ≤ on_line one.place.buffer.blocks one.place.cycle one.place.first) =
    order_pop [] articles one order in
    omega (
      arith,
      length-append articles (one ∷ []),
      earlier sizes.0 within.0 before.0,
      fronts_rise group numbers articles one sizes.1 within.1 before.1,
    ))

-- an article in time ends at most 2^54 blocks from the beginning of the line
ends_within : (blocks cycle first size : ℕ) → blocks ≤ 2 ^ 22 → cycle ≤ last_cycle
    → first + size ≤ blocks
    → cycle * blocks + first + size ≤ 2 ^ 54
ends_within blocks cycle first size most in_time ends =
    omega (arith, most, ends, mul-le-mul_right blocks in_time)

-- no front of a group has come on by more than that, where all articles begun are in time
front_within : (group : Group) → HasOwnNumbers group → (i : ℕ) (buffer : Buffer)
    → slice_get group.buffers i ≡ Some buffer → buffer.blocks ≤ 2 ^ 22 → (articles : List Extent)
    → All (LiesInGroup group) articles → All IsInTime articles
    → Fronts articles buffer ≤ Fronts [] buffer + 2 ^ 54
front_within group numbers i buffer there most =
    by_push (λ articles. All (LiesInGroup group) articles → All IsInTime articles
    → Fronts articles buffer ≤ Fronts [] buffer + 2 ^ 54)
    (λ lie in_time. omega arith)
    (λ articles one earlier lie in_time.
    let within : All (LiesInGroup group) articles × LiesInGroup group one =
    All-pop (LiesInGroup group) (articles ++ one ∷ []) articles (Some one) refl lie in
    let timely : All IsInTime articles × IsInTime one =
    All-pop IsInTime (articles ++ one ∷ []) articles (Some one) refl in_time in
    by_number articles one within.1 timely.1 (earlier within.0 timely.0)
    (cases_eq one.place.buffer.number buffer.number))
  where
    by_number : (articles : List Extent) (one : Extent) → LiesInGroup group one → IsInTime one
        → Fronts articles buffer ≤ Fronts [] buffer + 2 ^ 54
        → (one.place.buffer.number ≡ buffer.number)
        ⊎ (one.place.buffer.number ≡ buffer.number → ⊥)
        → Fronts (articles ++ one ∷ []) buffer ≤ Fronts [] buffer + 2 ^ 54
    by_number articles one lies in_time earlier (inl same) =
        let is : one.place.buffer ≡ buffer =
        same_buffer group numbers lies.among.index i one.place.buffer buffer lies.among.there there
        same in
        let ends : one.place.first + one.size ≤ buffer.blocks =
        subst (λ (b : Buffer). one.place.first + one.size ≤ b.blocks) is lies.ends.ends in
        omega (
          arith,
          front_moves buffer articles one.place one.size same,
          ends_within buffer.blocks one.place.cycle one.place.first one.size most in_time ends,
        )
    by_number articles one lies in_time earlier (inr other) =
        le_trans (le_of_eq (front_stays buffer articles one.place one.size other)) earlier

-- a group began at most 2^54 articles for each of its buffers
pub begun_bounded : (group : Group) → HasOwnNumbers group
    → ((i : ℕ) (buffer : Buffer) → slice_get group.buffers i ≡ Some buffer
    → buffer.blocks ≤ 2 ^ 22)
    → (course : Course) → IsLaid group course → All Is_some course.articles
    → All IsInTime course.articles
    → length course.articles ≤ length group.buffers * 2 ^ 54
begun_bounded group numbers most course laid some in_time =
    omega (
      arith,
      begun_within group numbers course.articles some laid.within laid.order,
      list_within (Fronts course.articles) (Fronts []) (2 ^ 54) group.buffers
          (λ i buffer there. front_within group numbers i buffer there (most i buffer there)
          course.articles laid.within in_time),
    )
