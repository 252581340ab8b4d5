-- Which blocks are in memory alone after a call.
use Rattle.std.proofs.Common.{◌≡◌, ◌∙◌, ◌+◌, ◌-◌, ◌<◌, ◌≤◌, inl, inr, ℕ, List}
use Rattle.std.proofs.Common.{[], length, sym, ap, subst, arith, Result, Ok, Err, OnErr, OnOk}
use Rattle.std.proofs.lemmas.Bool.{cases_lt}
use Rattle.file_blocks.proofs.CutLemmas.{length-blocks_of}
use Rattle.file_blocks.proofs.SeenLemmas.{there_seen}
use Rattle.file_blocks.specs.Run.{Holds}
use Rattle.file_blocks.specs.Store.{AreInFile, AreWritten, IsSetAside, KeepsAside, PassesBy}
use Rattle.file_blocks.specs.Store.{gathered_of}
use Rattle.file_blocks.specs.declared.file.RunFile.{Ghosts}
use Rattle.file_blocks.specs.declared.run.Run.{Run}
use Rattle.file_blocks.specs.declared.store.FileBlocks.{FileBlocks}

-- where nothing is gathered all blocks are in the file
pub all_written : {F : Type 0} (store : FileBlocks F) (first last : ℕ) → gathered_of store ≡ []
    → AreWritten first last store
all_written store first last none j since until held =
    let long = length-blocks_of store.gathered.count store.gathered.octets.items in
    let empty : length (gathered_of store) ≡ 0 = ap (λ (bs : List (List ℕ)). length bs) none in
    omega (arith, long, empty, held.0, held.1)

-- blocks none of which is in memory alone are in the file as they are seen
pub in_file : {F : Type 0} (g : Ghosts F) (store : FileBlocks F) (first last : ℕ)
    → AreWritten first last store → AreInFile g first last store
in_file g store first last written j since until =
    sym
    (there_seen store.count store.gathered.first store.gathered.count j (g.held store.file)
    store.gathered.octets.items store.gathered_within
    (λ after before. written j since until (after, before)))

-- a run that was written leaves nothing, and one that wasn't is as it was
pub keeps_asked : {F A E : Type 0} (result : Result A E) (k : ℕ) (old new : FileBlocks F)
    → OnOk result (new.gathered.count ≡ 0) → OnErr result (new.gathered ≡ old.gathered)
    → OnErr result (IsSetAside new) → KeepsAside k old new
keeps_asked (Ok x) k old new none same aside = record {
  no_more = λ j held. absurd (omega (arith, none, held.0, held.1));
  rest = λ stays j other was. absurd (omega (arith, none, new.aside_some stays));
  aside = λ j held. absurd (omega (arith, none, held.0, held.1));
}
keeps_asked (Err e) k old new none same aside = record {
  no_more = λ j held. subst (λ (run : Run). Holds run j) same held;
  rest = λ stays j other was. subst (λ (run : Run). Holds run j) (sym same) was;
  aside = λ j held. aside;
}

-- a run without its first block, in whose place it was to be written, has the others
pub keeps_later : {F : Type 0} (k : ℕ) (old new : FileBlocks F) → old.gathered.first ≡ k
    → new.gathered.first ≡ old.gathered.first + 1 → new.gathered.count + 1 ≡ old.gathered.count
    → (0 < new.gathered.count → IsSetAside new) → KeepsAside k old new
keeps_later k old new at first fewer aside = record {
  no_more = λ j held. (
    (omega (arith, first, fewer, held.0, held.1)),
    (omega (arith, first, fewer, held.0, held.1)),
  );
  rest = λ stays j other was. elim (cases_lt old.gathered.first j) [
    | inl later ↦ ((omega (arith, first, later)), (omega (arith, first, fewer, was.1)))
    | inr none ↦ absurd (other (omega (arith, at, none, was.0)))
  ];
  aside = λ j held. aside (omega (arith, held.0, held.1));
}

-- what is gathered later as it was keeps what was kept
pub keeps_on : {F : Type 0} (k : ℕ) (old mid new : FileBlocks F) → new.gathered ≡ mid.gathered
    → new.set_aside ≡ mid.set_aside → KeepsAside k old mid → KeepsAside k old new
keeps_on k old mid new run aside kept = record {
  no_more = λ j held. kept.no_more j (subst (λ (r : Run). Holds r j) run held);
  rest = λ stays j other was. subst (λ (r : Run). Holds r j) (sym run)
      (kept.rest (sym aside ∙ stays) j other was);
  aside = λ j held. aside ∙ kept.aside j (subst (λ (r : Run). Holds r j) run held);
}

-- where a block from this one on up to block k is in memory alone, and block k isn't the first of
-- these, a write of block k waits
pub not_passed : {F : Type 0} (k index from : ℕ) (store : FileBlocks F) → 0 < store.gathered.count
    → ¬ (store.gathered.first ≡ k) → from ≡ k - index → store.gathered.first ≤ k
    → from < store.gathered.first + store.gathered.count → ¬ PassesBy k index store
not_passed k index from store some other at begins ends passes = elim passes [
  | inl same ↦ other (sym same)
  | inr written ↦ elim (cases_lt store.gathered.first from) [
    | inl later ↦ written from (omega (arith, at)) (omega (arith, at))
        (omega (arith, later), ends)
    | inr none ↦ written store.gathered.first (omega (arith, at, none)) begins
        (omega arith, omega (arith, some))
  ]
]
