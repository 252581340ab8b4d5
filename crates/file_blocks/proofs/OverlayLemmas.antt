-- A run in place of blocks: which block stands where.
use Rattle.std.proofs.Common.{◌≡◌, ◌≢◌, ◌∙◌, ◌+◌, ◌-◌, ◌<◌, ◌≤◌, inl, inr, ℕ, List, [], ◌∷◌}
use Rattle.std.proofs.Common.{◌++◌, length, take, drop, get_or, set, refl, sym, ap, subst, arith}
use Rattle.std.proofs.Common.{append_assoc}
use Rattle.std.proofs.lemmas.Bool.{cases_lt}
use Rattle.std.proofs.lemmas.List.{length-append, length-take-le, length-drop}
use Rattle.std.proofs.lemmas.List.{get_or_append_left, get_or-append-add, get_or-take, get_or-drop}
use Rattle.std.proofs.lemmas.List.{get_or-set_other, ext_get_or, set-append_right, drop_more}
use Rattle.std.proofs.lemmas.List.{take-append-drop}
use Rattle.file_blocks.specs.Overlay.{overlaid}

-- where a block is, by a run of so many from the first on
pub data Where (first count j : ℕ) : Type 0 where
  Before : j < first → Where first count j
  Within : (i : ℕ) → i < count → j ≡ first + i → Where first count j
  Behind : first + count ≤ j → Where first count j

-- it is before them, among them or behind them
pub where_is : (first count j : ℕ) → Where first count j
where_is first count j =
    elim (cases_lt j first) [
      | inl before ↦ Before before
      | inr since ↦ elim (cases_lt j (first + count)) [
        | inl within ↦ Within (j - first) (omega arith) (omega arith)
        | inr behind ↦ Behind behind
      ]
    ]

-- only so many blocks from the first on are others than before
pub record ChangesOnlyRun (first count : ℕ) (old new : List (List ℕ)) : Type 0 where
  pub before : (j : ℕ) → j < first → get_or new j [] ≡ get_or old j []
  pub behind : (j : ℕ) → first + count ≤ j → get_or new j [] ≡ get_or old j []

-- as many blocks stand there
pub length-overlaid : (first : ℕ) (run blocks : List (List ℕ)) → first + length run ≤ length blocks
    → length (overlaid first run blocks) ≡ length blocks
length-overlaid first run blocks h =
    let front = length-take-le first blocks (omega arith) in
    let rest = length-drop (first + length run) blocks in
    let behind = length-append run (drop (first + length run) blocks) in
    length-append (take first blocks) (run ++ drop (first + length run) blocks)
    ∙ (omega (arith, front, rest, behind))

-- before the run it is the block that was there
pub overlaid_before : (first : ℕ) (run blocks : List (List ℕ)) (j : ℕ) → first ≤ length blocks
    → j < first → get_or (overlaid first run blocks) j [] ≡ get_or blocks j []
overlaid_before first run blocks j h before =
    get_or_append_left (take first blocks) (run ++ drop (first + length run) blocks) [] j
    (omega (arith, length-take-le first blocks h))
    ∙ get_or-take first blocks j [] before

-- among the run it is the run's
pub overlaid_within : (first : ℕ) (run blocks : List (List ℕ)) (i : ℕ) → first ≤ length blocks
    → i < length run → get_or (overlaid first run blocks) (first + i) [] ≡ get_or run i []
overlaid_within first run blocks i h within =
    let rest : List (List ℕ) = drop (first + length run) blocks in
    ap (λ (n : ℕ). get_or (take first blocks ++ (run ++ rest)) (n + i) [])
    (sym (length-take-le first blocks h))
    ∙ get_or-append-add (take first blocks) (run ++ rest) i []
    ∙ get_or_append_left run rest [] i within

-- behind the run it is the block that was there
pub overlaid_behind : (first : ℕ) (run blocks : List (List ℕ)) (j : ℕ) → first ≤ length blocks
    → first + length run ≤ j → get_or (overlaid first run blocks) j [] ≡ get_or blocks j []
overlaid_behind first run blocks j h behind =
    let rest : List (List ℕ) = drop (first + length run) blocks in
    let i : ℕ = j - (first + length run) in
    let e : j ≡ length (take first blocks) + (length run + i) =
    omega (arith, length-take-le first blocks h) in
    ap (λ (n : ℕ). get_or (take first blocks ++ (run ++ rest)) n []) e
    ∙ get_or-append-add (take first blocks) (run ++ rest) (length run + i) []
    ∙ get_or-append-add run rest i []
    ∙ get_or-drop (first + length run) blocks i []
    ∙ ap (λ (n : ℕ). get_or blocks n []) (omega arith)

-- no run changes nothing
pub overlaid_none : (first : ℕ) (run blocks : List (List ℕ)) → run ≡ []
    → overlaid first run blocks ≡ blocks
overlaid_none first run blocks none =
    ap (λ (r : List (List ℕ)). overlaid first r blocks) none
    ∙ ap (λ (n : ℕ). take first blocks ++ drop n blocks) (omega arith)
    ∙ take-append-drop first blocks

-- one block more of the run is set where it follows
pub overlaid_more : (first : ℕ) (run blocks : List (List ℕ)) (block : List ℕ)
    → first + length run < length blocks
    → overlaid first (run ++ block ∷ []) blocks
    ≡ set (overlaid first run blocks) (first + length run) block
overlaid_more first run blocks block h =
    let m : ℕ = length run in
    let front : List (List ℕ) = take first blocks in
    let behind : List (List ℕ) = drop (first + m) blocks in
    let rest : List (List ℕ) = drop (first + m + 1) blocks in
    let first_is : length front ≡ first = length-take-le first blocks (omega arith) in
    let long : first + length (run ++ block ∷ []) ≡ first + m + 1 =
    ap (λ (n : ℕ). first + n) (length-append run (block ∷ [])) ∙ omega arith in
    ap (λ (n : ℕ). front ++ ((run ++ block ∷ []) ++ drop n blocks)) long
    ∙ ap (λ (tail : List (List ℕ)). front ++ tail) (append_assoc run (block ∷ []) rest)
    ∙ sym (set-append_right front (run ++ behind) first (first + m) block first_is (omega arith)
    ∙ ap (λ (n : ℕ). front ++ set (run ++ behind) n block) (omega arith)
    ∙ ap (λ (tail : List (List ℕ)). front ++ tail)
    (set-append_right run behind m m block refl (omega arith))
    ∙ ap (λ (n : ℕ). front ++ (run ++ set behind n block)) (omega arith)
    ∙ ap (λ (tail : List (List ℕ)). front ++ (run ++ set tail 0 block))
    (drop_more blocks (first + m) [] h))

-- where only blocks in its place are others, a run looks as before
pub overlaid_same : (first : ℕ) (run old new : List (List ℕ)) → length new ≡ length old
    → first + length run ≤ length old → ChangesOnlyRun first (length run) old new
    → overlaid first run new ≡ overlaid first run old
overlaid_same first run old new long h c =
    let at : (j : ℕ) → j < length (overlaid first run new)
    → get_or (overlaid first run new) j [] ≡ get_or (overlaid first run old) j [] =
    λ j within. elim (where_is first (length run) j) [
      | Before before ↦ overlaid_before first run new j (omega arith) before
          ∙ c.before j before ∙ sym (overlaid_before first run old j (omega arith) before)
      | Within i among is ↦
          subst (λ p. get_or (overlaid first run new) p [] ≡ get_or (overlaid first run old) p [])
          (sym is)
          (overlaid_within first run new i (omega arith) among
          ∙ sym (overlaid_within first run old i (omega arith) among))
      | Behind behind ↦ overlaid_behind first run new j (omega arith) behind
          ∙ c.behind j behind ∙ sym (overlaid_behind first run old j (omega arith) behind)
    ] in
    ext_get_or [] (overlaid first run new) (overlaid first run old)
    (length-overlaid first run new (omega arith) ∙ long ∙ sym (length-overlaid first run old h)) at

-- blocks into which a run was written, and no other, are those with the run in place of theirs
pub overlaid_written : (first : ℕ) (run old new : List (List ℕ)) → length new ≡ length old
    → first + length run ≤ length old → ChangesOnlyRun first (length run) old new
    → ((i : ℕ) → i < length run → get_or new (first + i) [] ≡ get_or run i [])
    → new ≡ overlaid first run old
overlaid_written first run old new long h c written =
    let at : (j : ℕ) → j < length new → get_or new j [] ≡ get_or (overlaid first run old) j [] =
    λ j within. elim (where_is first (length run) j) [
      | Before before ↦ c.before j before
          ∙ sym (overlaid_before first run old j (omega arith) before)
      | Within i among is ↦
          subst (λ p. get_or new p [] ≡ get_or (overlaid first run old) p []) (sym is)
          (written i among ∙ sym (overlaid_within first run old i (omega arith) among))
      | Behind behind ↦ c.behind j behind
          ∙ sym (overlaid_behind first run old j (omega arith) behind)
    ] in
    ext_get_or [] new (overlaid first run old) (long ∙ sym (length-overlaid first run old h)) at

-- a run without its last block looks the same but for that one
pub overlaid_fewer : (first : ℕ) (run blocks : List (List ℕ)) (block : List ℕ) (j : ℕ)
    → first + length run < length blocks → j ≢ first + length run
    → get_or (overlaid first run blocks) j []
    ≡ get_or (overlaid first (run ++ block ∷ []) blocks) j []
overlaid_fewer first run blocks block j h other =
    sym (ap (λ (seen : List (List ℕ)). get_or seen j []) (overlaid_more first run blocks block h)
    ∙ get_or-set_other (overlaid first run blocks) (first + length run) j block [] other)
