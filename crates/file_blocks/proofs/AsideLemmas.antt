-- What is seen of a store of runs where a block is written past a run that is set aside.
use Rattle.std.proofs.Common.{◌≡◌, ◌∙◌, ◌+◌, ◌-◌, ◌*◌, ◌<◌, ◌≤◌, inl, inr, ℕ, List, []}
use Rattle.std.proofs.Common.{length, drop, get_or, set, sym, ap, subst, arith}
use Rattle.std.proofs.lemmas.Bool.{cases_eq, cases_lt}
use Rattle.std.proofs.lemmas.Grind.{get_or_after_one}
use Rattle.std.proofs.lemmas.List.{length-set, length-drop, ext_get_or}
use Rattle.std.proofs.lemmas.List.{get_or-set_same, get_or-set_other}
use Rattle.cyc_block.specs.Store.{ChangesOnly}
use Rattle.file_blocks.specs.Blocks.{blocks_of}
use Rattle.file_blocks.proofs.CutLemmas.{length-blocks_of}
use Rattle.cyc_block.specs.declared.TheConstants.{BLOCK_OCTETS}
use Rattle.file_blocks.specs.File.{octets_in, ChangesOnlyIn}
use Rattle.file_blocks.specs.Overlay.{overlaid}
use Rattle.file_blocks.proofs.OverlayLemmas.{Before, Within, Behind, where_is}
use Rattle.file_blocks.proofs.OverlayLemmas.{overlaid_before, overlaid_within, overlaid_behind}
use Rattle.file_blocks.proofs.SeenLemmas.{length-seen, single_read, there_seen}
use Rattle.file_blocks.proofs.StoreLemmas.{IsRun, run_change}

-- blocks of which block k alone is another are those with that block set
pub is_set : (k : ℕ) (old new : List (List ℕ)) (block : List ℕ) → length new ≡ length old
    → k < length old → ChangesOnly k old new → get_or new k [] ≡ block → new ≡ set old k block
is_set k old new block long h c is =
    ext_get_or [] new (set old k block) (long ∙ sym (length-set old k block))
    (λ j within. elim (cases_eq j k) [
      | inl same ↦
          subst (λ (p : ℕ). get_or new p [] ≡ get_or (set old k block) p []) (sym same)
          (is ∙ sym (get_or-set_same old k block [] h))
      | inr other ↦ c j other ∙ sym (get_or-set_other old k j block [] other)
    ])

-- a run without its first block looks the same but for that one
pub overlaid_later : (first : ℕ) (run blocks : List (List ℕ)) → 0 < length run
    → first + length run ≤ length blocks
    → ChangesOnly first (overlaid first run blocks) (overlaid (first + 1) (drop 1 run) blocks)
overlaid_later first run blocks some h j other =
    let long = length-drop 1 run in
    elim (where_is first (length run) j) [
      | Before before ↦
          overlaid_before (first + 1) (drop 1 run) blocks j (omega arith) (omega arith)
          ∙ sym (overlaid_before first run blocks j (omega arith) before)
      | Within i among is ↦ elim (cases_lt 0 i) [
        | inl later ↦
            ap (λ (p : ℕ). get_or (overlaid (first + 1) (drop 1 run) blocks) p [])
            (is ∙ (omega (arith, later)))
            ∙ overlaid_within (first + 1) (drop 1 run) blocks (i - 1) (omega arith)
            (omega (arith, long, later, among))
            ∙ get_or_after_one run (i - 1) []
            ∙ ap (λ (p : ℕ). get_or run p []) (omega (arith, later))
            ∙ sym (overlaid_within first run blocks i (omega arith) among)
            ∙ ap (λ (p : ℕ). get_or (overlaid first run blocks) p []) (sym is)
        | inr none ↦ absurd (other (is ∙ (omega (arith, none))))
      ]
      | Behind behind ↦
          overlaid_behind (first + 1) (drop 1 run) blocks j (omega arith)
          (omega (arith, long, some, behind))
          ∙ sym (overlaid_behind first run blocks j (omega arith) behind)
    ]

-- where block k alone is another, it alone is one under a run
pub overlaid_other : (first : ℕ) (run : List (List ℕ)) (k : ℕ) (old new : List (List ℕ))
    → length new ≡ length old → first + length run ≤ length old → ChangesOnly k old new
    → ChangesOnly k (overlaid first run old) (overlaid first run new)
overlaid_other first run k old new long h c j other =
    elim (where_is first (length run) j) [
      | Before before ↦ overlaid_before first run new j (omega (arith, long)) before
          ∙ c j other ∙ sym (overlaid_before first run old j (omega arith) before)
      | Within i among is ↦
          subst (λ (p : ℕ). get_or (overlaid first run new) p []
          ≡ get_or (overlaid first run old) p [])
          (sym is)
          (overlaid_within first run new i (omega (arith, long)) among
          ∙ sym (overlaid_within first run old i (omega arith) among))
      | Behind behind ↦ overlaid_behind first run new j (omega (arith, long)) behind
          ∙ c j other ∙ sym (overlaid_behind first run old j (omega arith) behind)
    ]

-- without the first block of a run, what is seen is the same but for that
pub later_seen : (n first count later : ℕ) (held room : List ℕ) (fewer : List (List ℕ))
    → first + count ≤ n → 0 < count → later ≡ first + 1
    → fewer ≡ drop 1 (blocks_of count room)
    → ChangesOnly first (overlaid first (blocks_of count room) (blocks_of n held))
    (overlaid later fewer (blocks_of n held))
later_seen n first count later held room fewer h some at is j other =
    let run : List (List ℕ) = blocks_of count room in
    let there : List (List ℕ) = blocks_of n held in
    let long = length-blocks_of count room in
    ap (λ (p : ℕ). get_or (overlaid p fewer there) j []) at
    ∙ ap (λ (r : List (List ℕ)). get_or (overlaid (first + 1) r there) j []) is
    ∙ overlaid_later first run there (omega (arith, long, some))
    (omega (arith, long, h, length-blocks_of n held)) j other

-- where block k alone is another in the file, it alone is one of what is seen
pub changed_seen : (n first count k : ℕ) (old new room : List ℕ) → first + count ≤ n
    → ChangesOnly k (blocks_of n old) (blocks_of n new)
    → ChangesOnly k (overlaid first (blocks_of count room) (blocks_of n old))
    (overlaid first (blocks_of count room) (blocks_of n new))
changed_seen n first count k old new room h c =
    overlaid_other first (blocks_of count room) k (blocks_of n old) (blocks_of n new)
    (length-blocks_of n new ∙ sym (length-blocks_of n old))
    (omega (arith, h, length-blocks_of count room, length-blocks_of n old)) c

-- where block k alone is another in the file, and isn't gathered, it is seen as it is there
pub set_seen : (n first count k : ℕ) (old new room block : List ℕ) → first + count ≤ n → k < n
    → (first ≤ k → k < first + count → ⊥)
    → ChangesOnly k (blocks_of n old) (blocks_of n new) → get_or (blocks_of n new) k [] ≡ block
    → overlaid first (blocks_of count room) (blocks_of n new)
    ≡ set (overlaid first (blocks_of count room) (blocks_of n old)) k block
set_seen n first count k old new room block h within apart c is =
    let before : List (List ℕ) = overlaid first (blocks_of count room) (blocks_of n old) in
    let after : List (List ℕ) = overlaid first (blocks_of count room) (blocks_of n new) in
    let before_long : length before ≡ n = length-seen n first count old room h in
    is_set k before after block (length-seen n first count new room h ∙ sym before_long)
    (omega (arith, before_long, within)) (changed_seen n first count k old new room h c)
    (there_seen n first count k new room h apart ∙ is)

-- a block at its place is a run of one
pub one_run : (n k place size : ℕ) → k < n → place ≡ k * BLOCK_OCTETS → size ≡ BLOCK_OCTETS
    → IsRun n k 1 place size
one_run n k place size h at long = record {
  within = omega (arith, h);
  begins = at;
  long = omega (arith, long);
}

-- a change of the octets of one block is one of that block alone
pub one_changed : (n k place size : ℕ) (old new : List ℕ) → IsRun n k 1 place size
    → ChangesOnlyIn place size old new → ChangesOnly k (blocks_of n old) (blocks_of n new)
one_changed n k place size old new is c j other =
    let changes = run_change n k 1 place size old new is c in
    elim (where_is k 1 j) [
      | Before before ↦ changes.before j before
      | Within i among at ↦ absurd (other (at ∙ (omega (arith, among))))
      | Behind behind ↦ changes.behind j behind
    ]

-- what was written at the place of a block is that block
pub one_written : (n k place size : ℕ) (new block : List ℕ) → k < n → place ≡ k * BLOCK_OCTETS
    → size ≡ BLOCK_OCTETS → octets_in new place size ≡ block
    → get_or (blocks_of n new) k [] ≡ block
one_written n k place size new block h at long is =
    sym (single_read n k place new block h at
    (sym is ∙ ap (λ (s : ℕ). octets_in new place s) long))

-- where block k alone is another, setting it leaves the same
pub set_changed : (k : ℕ) (old new : List (List ℕ)) (block : List ℕ) → length new ≡ length old
    → k < length old → ChangesOnly k old new → set new k block ≡ set old k block
set_changed k old new block long h c =
    is_set k old (set new k block) block (length-set new k block ∙ long) h
    (λ j other. get_or-set_other new k j block [] other ∙ c j other)
    (get_or-set_same new k block [] (omega (arith, long, h)))
