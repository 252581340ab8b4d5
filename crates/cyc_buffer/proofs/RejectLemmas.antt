-- A history without an article that was rejected.
use Rattle.std.proofs.Common.{◌≡◌, ◌∙◌, ℕ, ◌+◌, inl, inr, Bool}
use Rattle.std.proofs.Common.{refl, sym, ap, arith, cond, List, [], ◌∷◌, length, map, filter}
use Rattle.std.proofs.Common.{None, Some, is_some}
use Rattle.std.specs.List.{AllByRecursion}
use Rattle.std.proofs.lemmas.Bool.{cond_both, cond-true, cond-false}
use Rattle.std.proofs.lemmas.Bool.{false_from_ne_true}
use Rattle.news_terms.specs.Picks as picks
use Rattle.news_terms.specs.Picks.{place_after}
use Rattle.news_terms.specs.Places.{Buffer, Head}
use Rattle.cyc_buffer.specs.BufferState.{IsSized}
use Rattle.cyc_buffer.specs.History.{Article, Begin, asked, begun_at}
use Rattle.cyc_buffer.specs.History.{finished_at, head_of, is_at, is_stored, stored_count}
use Rattle.cyc_buffer.specs.Rejecting.{begins_without}
use Rattle.cyc_buffer.proofs.Finished.{at_parts, none_is_none, place_of}
use Rattle.cyc_buffer.proofs.Places.{chosen}

module _ (buffer : Buffer) (cycle first : ℕ) where
  -- the begins without the one at the place
  abbrev rest : List Begin → List Begin
  rest begins = begins_without buffer cycle first begins

  -- a begin is at the place
  abbrev here : Begin → List Begin → Bool
  here b earlier = is_at buffer (place_of buffer earlier b) cycle first

  -- a begin that was never finished
  abbrev lost : Begin → Begin
  lost b = record b { finished = None }

  -- the same was asked for
  pub same_asked : (begins : List Begin) → map asked (rest begins) ≡ map asked begins
  same_asked [] = refl
  same_asked (b ∷ earlier) = cond_both (here b earlier) (lost b ∷ earlier) (b ∷ rest earlier)
      (λ (bs : List Begin). map asked bs ≡ map asked (b ∷ earlier)) (λ e. refl)
      (λ e. ap (λ rest_asked. asked b ∷ rest_asked) (same_asked earlier))

  -- the head is the same
  pub same_head : (begins : List Begin) → head_of buffer.blocks (rest begins)
      ≡ head_of buffer.blocks begins
  same_head begins = ap (picks.head_of buffer.blocks) (same_asked begins)

  -- the next begin is at a place or not, as before
  same_at : (b : Begin) (earlier : List Begin) (d g : ℕ)
      → is_at buffer (place_of buffer (rest earlier) b) d g
      ≡ is_at buffer (place_of buffer earlier b) d g
  same_at b earlier d g =
      ap (λ (o : Head). is_at buffer (place_after buffer.blocks o b.fresh b.size) d g)
      (same_head earlier)

  -- as many were begun
  pub same_length : (begins : List Begin) → length (rest begins) ≡ length begins
  same_length [] = refl
  same_length (b ∷ earlier) = cond_both (here b earlier) (lost b ∷ earlier) (b ∷ rest earlier)
      (λ (bs : List Begin). length bs ≡ length (b ∷ earlier)) (λ e. refl)
      (λ e. omega (arith, same_length earlier))

  -- each is of its size
  pub still_sized : (begins : List Begin) → AllByRecursion (IsSized buffer.blocks) begins
      → AllByRecursion (IsSized buffer.blocks) (rest begins)
  still_sized [] sized = tt
  still_sized (b ∷ earlier) sized = cond_both (here b earlier) (lost b ∷ earlier) (b ∷ rest earlier)
      (AllByRecursion (IsSized buffer.blocks))
      (λ e. (record { some = sized.0.some; within = sized.0.within; finished = tt }, sized.1))
      (λ e. (sized.0, still_sized earlier sized.1))

  -- the same was begun at each place
  pub same_begun : (begins : List Begin) (d g : ℕ)
      → begun_at buffer (rest begins) d g ≡ begun_at buffer begins d g
  same_begun [] d g = refl
  same_begun (b ∷ earlier) d g = cond_both (here b earlier) (lost b ∷ earlier) (b ∷ rest earlier)
      (λ (bs : List Begin). begun_at buffer bs d g ≡ begun_at buffer (b ∷ earlier) d g) (λ e. refl)
      (λ e. ap (λ c. cond c (Some b.size) (begun_at buffer (rest earlier) d g))
      (same_at b earlier d g)
      ∙ ap (cond (is_at buffer (place_of buffer earlier b) d g) (Some b.size))
      (same_begun earlier d g))

  -- nothing was finished at the place
  pub gone : (begins : List Begin) → finished_at buffer (rest begins) cycle first ≡ None
  gone [] = refl
  gone (b ∷ earlier) = cond_both (here b earlier) (lost b ∷ earlier) (b ∷ rest earlier)
      (λ (bs : List Begin). finished_at buffer bs cycle first ≡ None)
      (λ e. cond-true (here b earlier) None (finished_at buffer earlier cycle first) e)
      (λ e. cond-false (is_at buffer (place_of buffer (rest earlier) b) cycle first) b.finished
      (finished_at buffer (rest earlier) cycle first) (same_at b earlier cycle first ∙ e)
      ∙ gone earlier)

  -- at each other place the same was
  pub others : (begins : List Begin) (d g : ℕ) → (d ≡ cycle → g ≡ first → ⊥)
      → finished_at buffer (rest begins) d g ≡ finished_at buffer begins d g
  others [] d g other = refl
  others (b ∷ earlier) d g other =
      let at = is_at buffer (place_of buffer earlier b) d g in
      cond_both (here b earlier) (lost b ∷ earlier) (b ∷ rest earlier)
      (λ (bs : List Begin). finished_at buffer bs d g ≡ finished_at buffer (b ∷ earlier) d g)
      (λ e.
      let away = false_from_ne_true at (λ f.
      let one = at_parts buffer (place_of buffer earlier b) cycle first e in
      let two = at_parts buffer (place_of buffer earlier b) d g f in
      other (sym two.0 ∙ one.0) (sym two.1 ∙ one.1)) in
      cond-false at None (finished_at buffer earlier d g) away
      ∙ sym (cond-false at b.finished (finished_at buffer earlier d g) away))
      (λ e. ap (λ c. cond c b.finished (finished_at buffer (rest earlier) d g))
      (same_at b earlier d g)
      ∙ ap (cond at b.finished) (others earlier d g other))

  -- what is finished then was, at another place
  pub was_finished : (begins : List Begin) (d g : ℕ) (article : Article)
      → finished_at buffer (rest begins) d g ≡ Some article
      → (finished_at buffer begins d g ≡ Some article) × (d ≡ cycle → g ≡ first → ⊥)
  was_finished begins d g article e =
      let other : d ≡ cycle → g ≡ first → ⊥ = λ p q.
      none_is_none (sym (gone begins) ∙ ap (λ n. finished_at buffer (rest begins) n first) (sym p)
      ∙ ap (finished_at buffer (rest begins) d) (sym q) ∙ e) in
      (sym (others begins d g other) ∙ e, other)

  -- one less is stored, where one was finished at the place
  pub one_less : (begins : List Begin) (article : Article)
      → finished_at buffer begins cycle first ≡ Some article
      → stored_count begins ≡ stored_count (rest begins) + 1
  one_less [] article e = absurd (none_is_none e)
  one_less (b ∷ earlier) article e =
      elim (chosen (here b earlier) b.finished (finished_at buffer earlier cycle first)
      (Some article) e) [
        | inl p ↦ ap length (cond-true (is_stored b) (b ∷ filter is_stored earlier)
            (filter is_stored earlier) (ap is_some p.1))
            ∙ omega arith
            ∙ ap (λ (bs : List Begin). stored_count bs + 1)
            (sym (cond-true (here b earlier) (lost b ∷ earlier) (b ∷ rest earlier) p.0))
        | inr p ↦ cond_both (is_stored b) (b ∷ filter is_stored earlier) (filter is_stored earlier)
            (λ (bs : List Begin). length bs
            ≡ length (cond (is_stored b) (b ∷ filter is_stored (rest earlier))
            (filter is_stored (rest earlier))) + 1)
            (λ s. omega (
              arith,
              one_less earlier article p.1,
              ap length (cond-true (is_stored b) (b ∷ filter is_stored (rest earlier))
                  (filter is_stored (rest earlier)) s),
            ))
            (λ s. omega (
              arith,
              one_less earlier article p.1,
              ap length (cond-false (is_stored b) (b ∷ filter is_stored (rest earlier))
                  (filter is_stored (rest earlier)) s),
            ))
            ∙ ap (λ (bs : List Begin). stored_count bs + 1)
            (sym (cond-false (here b earlier) (lost b ∷ earlier) (b ∷ rest earlier) p.0))
      ]
