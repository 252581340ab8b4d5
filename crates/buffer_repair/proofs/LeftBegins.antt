-- The begins that a buffer is found again with: each is that of a found article, or one of a block
-- that is no found article's.
use Rattle.std.proofs.Common.{◌≡◌, ◌∙◌, ℕ, zero, suc, ◌+◌, ◌-◌, ◌*◌, inl, inr, arith, ap}
use Rattle.std.proofs.Common.{List, [], ◌∷◌, refl}
use Rattle.std.specs.List.{AllByRecursion, Contains}
use Rattle.std.proofs.lemmas.List.Elements.{Contains-append_left, Contains-append_right}
use Rattle.std.proofs.lemmas.List.Elements.{Contains-push}
use Rattle.cyc_buffer.specs.Crash.{IsUnused, ListsFound}
use Rattle.cyc_buffer.specs.FoundHistory.{begins_on, blocks_before, found_begin, lost, with_lost}
use Rattle.cyc_buffer.specs.History.{Begin}
use Rattle.cyc_token.specs.declared.Token.{Token}
use Rattle.news_terms.specs.Places.{Buffer, size_of}
use Rattle.buffer_repair.specs.Remains.{Remains, history_left}

-- what holds of a lost block holds of so many, and of those before them
each_lost : (P : Begin → Type 0) → P lost → (n : ℕ) (begins : List Begin)
    → AllByRecursion P begins → AllByRecursion P (with_lost n begins)
unfolding with_lost
each_lost P one zero begins each = each
each_lost P one (suc n) begins each = (one, each_lost P one n begins each)

-- what holds of a lost block and of each found article holds of each begin
pub each_begin : (P : Begin → Type 0) → P lost → (buffer : Buffer) (blocks : List (List ℕ))
    (at to : ℕ) (begins : List Begin) (tokens : List Token)
    → ((t : Token) → Contains tokens t → P (found_begin blocks t))
    → AllByRecursion P begins → AllByRecursion P (begins_on buffer blocks at to begins tokens)
unfolding begins_on
each_begin P one buffer blocks at to begins [] found each =
    each_lost P one (to - at) begins each
each_begin P one buffer blocks at to begins (t ∷ later) found each =
    let start = blocks_before buffer t.cycle t.first in
    each_begin P one buffer blocks (start + size_of t.length) to
    (found_begin blocks t ∷ with_lost (start - at) begins) later
    (λ u c. found u (Contains-append_right (t ∷ []) later u c)) (
      found t (Contains-append_left (t ∷ []) later t (Contains-push [] t)),
      each_lost P one (start - at) begins each,
    )

-- before the front of the first cycle nothing is found
none_found : (buffer : Buffer) (blocks : List (List ℕ)) (cycle used : ℕ) (tokens : List Token)
    → IsUnused buffer cycle used → ListsFound buffer blocks cycle used tokens → tokens ≡ []
none_found buffer blocks cycle used [] unused lists = refl
none_found buffer blocks cycle used (t ∷ later) unused lists =
    let found = (lists.all t).0
    (Contains-append_left (t ∷ []) later t (Contains-push [] t)) in
    let piece = found.there.pieces 0 (omega (arith, found.there.some)) in
    elim found.live [
      | inl here ↦ absurd (omega (arith, here.1, unused.used_is))
      | inr before ↦ absurd (omega (arith, before.0, unused.cycle_is, piece.begun))
    ]

-- so nothing is begun
pub none_begun : (r : Remains) → IsUnused r.buffer r.cycle r.used
    → ListsFound r.buffer r.blocks r.cycle r.used r.tokens → (history_left r).begins ≡ []
unfolding begins_on with_lost
none_begun r unused lists =
    let none = none_found r.buffer r.blocks r.cycle r.used r.tokens unused lists in
    let start : blocks_before r.buffer r.cycle r.used ≡ 0 =
    omega (
      arith,
      unused.used_is,
      ap (λ n. n * r.buffer.blocks) (over unused.cycle_is),
    ) in
    ap (begins_on r.buffer r.blocks 0 (blocks_before r.buffer r.cycle r.used) []) none
    ∙ ap (λ n. with_lost (n - 0) []) start
  where
    over : r.cycle ≡ r.buffer.first_cycle → r.cycle - r.buffer.first_cycle ≡ 0
    over e = omega (arith, e)
