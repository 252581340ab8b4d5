-- A new queue has the rule, and a push and a pop keep it.
use Rattle.std.proofs.Common.{◌≡◌, ◌≢◌, ℕ, zero, suc, ◌+◌, true, false}
use Rattle.std.proofs.Common.{List, [], ◌∷◌, ◌++◌, refl, sym, ap, ◌∙◌, subst, arith, append_assoc}
use mathlib.Core.Option.{some-ne-none, some-injective}
use native.Mathlib.Decide.{ℕ_discrete}
use Rattle.crossbeam_queue.specs.Fifo.{Pushes, Pops, Learns}
use Rattle.job_queue.specs.declared.known.Known.{Known}
use Rattle.job_queue.specs.declared.parcel.Parcel.{Parcel}
use Rattle.job_queue.specs.Parcels.{end_of, is_mark, of_end, has_mark, is_sealed}
use Rattle.job_queue.specs.Delivery.{knows, knows_all, end_knows, OfEnd, IsOpen, OfWriter}
use Rattle.job_queue.specs.Delivery.{Fits, Delivers}
use Rattle.job_queue.specs.Delivery.{HasHanded, HasTaken, Compared}
use Rattle.job_queue.proofs.Lists.{of_end_snoc, of_end_snoc_else, mark_snoc, seal_snoc}
use Rattle.job_queue.proofs.Passes.{All, all_set}

-- a new queue has the rule
pub begins : Delivers [] (knows_all ∷ [])
begins = (0, (λ end. 0), [], [], refl, (λ end. refl), first)
  where
    first : All (Fits 0 (λ end. 0) [] []) (knows_all ∷ [])
    first zero k e =
        subst (Fits 0 (λ end. 0) [] [] 0) (some-injective _ _ e)
        ((λ end low high. (refl, refl)), λ takes. (refl, refl))
    first (suc j) k e = absurd (some-ne-none k (sym e))

-- of each end still nothing follows its mark, after a parcel of an end that had pushed none
stays_sealed : (log handed : List Parcel) (p : Parcel) (e : ℕ) → handed ≡ of_end (end_of p) log
    → has_mark handed ≡ false → is_sealed (of_end e log) ≡ true → Dec (end_of p ≡ e)
    → is_sealed (of_end e (log ++ p ∷ [])) ≡ true
stays_sealed log handed p e is unmarked was (yes same) =
    let mine : of_end e log ≡ handed = ap (λ end. of_end end log) (sym same) ∙ sym is in
    ap is_sealed (of_end_snoc e log p same ∙ ap (λ l. l ++ p ∷ []) mine)
    ∙ seal_snoc handed p unmarked
stays_sealed log handed p e is unmarked was (no other) =
    ap is_sealed (of_end_snoc_else e log p other) ∙ was

-- a push by a pass that has the parcel's end alone
hands_over : (n pass : ℕ) (k : Known) (p : Parcel) → k.low ≡ end_of p → k.high ≡ end_of p + 1
    → has_mark k.handed ≡ false → Pushes Delivers n pass k p (HasHanded k p)
hands_over n pass k p low high unmarked held passes room h at =
    let after : Known = knows k.low k.high (k.handed ++ p ∷ []) k.takes k.taken in
    let log = h.2 ++ p ∷ [] in
    let mine = h.6 pass k at in
    let own = mine.0 (end_of p) (omega arith) (omega arith) in (
      after,
      (
        h.0,
        h.1,
        log,
        h.3,
        ap (λ l. l ++ p ∷ []) h.4 ∙ append_assoc h.3 held (p ∷ []),
        (λ e. stays_sealed h.2 k.handed p e own.1 unmarked (h.5 e) (ℕ_discrete (end_of p) e)),
        all_set (Fits h.0 h.1 log h.3) passes pass after (
          (λ e from to.
              let same : end_of p ≡ e = omega arith in
              let was : k.handed ≡ of_end e h.2 = own.1 ∙ ap (λ end. of_end end h.2) same in (
                ap h.1 (sym same) ∙ own.0,
                ap (λ l. l ++ p ∷ []) was ∙ sym (of_end_snoc e h.2 p same),
              )),
          mine.1,
        )
            (λ j u other there.
            let theirs = h.6 j u there in (
              (λ e from to.
                  let was = theirs.0 e from to in
                  let apart : end_of p ≢ e = λ is. other (sym was.0 ∙ ap h.1 (sym is) ∙ own.0) in
                  (was.0, was.1 ∙ sym (of_end_snoc_else e h.2 p apart))),
              theirs.1,
            )),
      ),
      refl,
    )

-- a pop by the pass that takes
takes_one : (pass : ℕ) (k : Known) → k.takes ≡ true → Pops Delivers pass k (HasTaken k)
takes_one pass k may p held passes h at =
    let after : Known = knows k.low k.high k.handed k.takes (k.taken ++ p ∷ []) in
    let taken = h.3 ++ p ∷ [] in
    let mine = h.6 pass k at in
    let own = mine.1 may in (
      after,
      (
        h.0,
        h.1,
        h.2,
        taken,
        h.4 ∙ sym (append_assoc h.3 (p ∷ []) held),
        h.5,
        all_set (Fits h.0 h.1 h.2 taken) passes pass after
            (mine.0, (λ takes. (own.0, ap (λ l. l ++ p ∷ []) own.1)))
            (λ j u other there.
            let theirs = h.6 j u there in
            (theirs.0, (λ takes. absurd (other ((theirs.1 takes).0 ∙ sym own.0))))),
      ),
      refl,
    )

-- a push by the pass of an end
pub end_hands_over : (n pass e : ℕ) (k : Known) (p : Parcel) → OfEnd e k
    → end_of p ≡ e → has_mark k.handed ≡ false → Pushes Delivers n pass k p (HasHanded k p)
end_hands_over n pass e k p own is unmarked =
    hands_over n pass k p (ap (λ (u : Known). u.low) own ∙ sym is)
    (ap (λ (u : Known). u.high) own ∙ ap (λ end. end + 1) (sym is)) unmarked

-- a pop by the writer's pass
pub writer_takes : (pass : ℕ) (k : Known) → OfWriter k
    → Pops Delivers pass k (HasTaken k)
writer_takes pass k own = takes_one pass k (ap (λ (u : Known). u.takes) own)

-- what a pass with ends learns where it takes too
pub compares : (pass : ℕ) (k : Known) → Learns Delivers pass k (Compared k)
compares pass k held passes h at e from to takes =
    let mine = h.6 pass k at in
    let own = mine.0 e from to in
    let is : h.2 ≡ k.taken ++ held = h.4 ∙ ap (λ l. l ++ held) (sym (mine.1 takes).1) in
    (own.1 ∙ ap (of_end e) is, ap is_sealed own.1 ∙ h.5 e)

-- what the pass of an open end knows after it handed this over
pub knows_more : (e : ℕ) (k after : Known) (p : Parcel) → IsOpen e k → HasHanded k p after
    → OfEnd e after × (has_mark after.handed ≡ is_mark p)
knows_more e k after p open_now more =
    let handed : after.handed ≡ k.handed ++ p ∷ [] = ap (λ (u : Known). u.handed) more in
    let is : after ≡ end_knows e (k.handed ++ p ∷ []) =
    more ∙ ap (λ (u : Known). knows u.low u.high (k.handed ++ p ∷ []) u.takes u.taken) open_now.0
    in (
      is ∙ ap (end_knows e) (sym handed),
      ap has_mark handed ∙ mark_snoc k.handed p open_now.1,
    )
