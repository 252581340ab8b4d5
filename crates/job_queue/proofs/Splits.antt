-- Splitting and joining passes keep the rule of a job queue.
use Rattle.std.proofs.Common.{◌≡◌, ◌≢◌, ℕ, ◌<◌, ◌≤◌, ◌==◌, true}
use Rattle.std.proofs.Common.{List, [], length, set, cond, refl, sym, ap, ◌∙◌, ⊎_elim, arith}
use mathlib.Core.Option.{some}
use mathlib.Core.Logic.{dite}
use native.Mathlib.Decide.{dec_le}
use lib.Dec.{leb, ltb}
use lib.ListN.{get_elem?}
use Rattle.std.proofs.lemmas.Bool.Decides.{nat_tests}
use Rattle.crossbeam_queue.specs.Fifo.{Forks, Merges}
use Rattle.crossbeam_queue.proofs.Lists.{at_set}
use Rattle.job_queue.specs.declared.known.Known.{Known}
use Rattle.job_queue.specs.Parcels.{of_end}
use Rattle.job_queue.specs.Delivery.{FitsEnds, FitsTaker, Fits, Delivers, knows_nothing}
use Rattle.job_queue.specs.Delivery.{without_taker, taker_of, without_first, first_of}
use Rattle.job_queue.specs.Delivery.{without_ends, ends_of, meeting}
use Rattle.job_queue.proofs.Lists.{off}
use Rattle.job_queue.proofs.Passes.{All, all_set, all_new}

-- the right to take goes to a new pass
pub cuts_taker : (pass : ℕ) (k : Known) → k.takes ≡ true
    → Forks Delivers pass k (without_taker k) (taker_of k)
cuts_taker pass k may held passes h at =
    let left : Known = without_taker k in
    let right : Known = taker_of k in
    let rest : List Known = set passes pass left in
    let mine = h.6 pass k at in
    let own = mine.1 may in
    let Old : ℕ → Known → Type 0 = λ j u. FitsEnds h.1 h.2 j u × (u.takes ≢ true) in
    let old : All Old rest =
    all_set Old passes pass left (mine.0, λ takes. off takes)
    (λ j u other there.
    let theirs = h.6 j u there in
    (theirs.0, λ takes. other ((theirs.1 takes).0 ∙ sym own.0)))
    in (
      length rest,
      h.1,
      h.2,
      h.3,
      h.4,
      h.5,
      all_new (Fits (length rest) h.1 h.2 h.3) rest right
          (λ j u other there. let was = old j u there in (was.0, λ takes. absurd (was.1 takes)))
          ((λ e from to. absurd (omega arith)), λ takes. (refl, own.1)),
    )

-- the lowest end goes to a new pass
pub cuts_first : (pass : ℕ) (k : Known) → k.low < k.high → k.handed ≡ []
    → Forks Delivers pass k (without_first k) (first_of k)
cuts_first pass k some_end none held passes h at =
    let left : Known = without_first k in
    let right : Known = first_of k in
    let rest : List Known = set passes pass left in
    let n = length rest in
    let holder : ℕ → ℕ = λ e. cond (e == k.low) n (h.1 e) in
    let mine = h.6 pass k at in
    let own = mine.0 k.low (omega arith) some_end in
    let Old : ℕ → Known → Type 0 =
    λ j u. ((e : ℕ) → u.low ≤ e → e < u.high
    → (e ≢ k.low) × (h.1 e ≡ j) × (u.handed ≡ of_end e h.2)) × FitsTaker h.0 h.3 j u
    in
    let old : All Old rest =
    all_set Old passes pass left (
      (λ e from to.
          let was = mine.0 e (omega arith) to in ((λ is. omega arith), was.0, was.1)),
      mine.1,
    )
    (λ j u other there.
    let theirs = h.6 j u there in (
      (λ e from to.
          let was = theirs.0 e from to in
          ((λ is. other (sym was.0 ∙ ap h.1 is ∙ own.0)), was.0, was.1)),
      theirs.1,
    ))
    in (
      h.0,
      holder,
      h.2,
      h.3,
      h.4,
      h.5,
      all_new (Fits h.0 holder h.2 h.3) rest right
          (λ j u other there.
          let was = old j u there in (
            (λ e from to.
                let theirs = was.0 e from to in
                (holder_else (h.1 e) n e k.low theirs.0 ∙ theirs.1, theirs.2)),
            was.1,
          )) (
            (λ e from to.
                let is : e ≡ k.low = omega arith in
                (holder_here (h.1 e) n e k.low is, own.1 ∙ ap (λ end. of_end end h.2) (sym is))),
            λ takes. absurd (off takes),
          ),
    )
  where
    holder_here : (a n e low : ℕ) → e ≡ low → cond (e == low) n a ≡ n
    holder_here a n e low is = grind (arith, nat_tests)

    holder_else : (a n e low : ℕ) → e ≢ low → cond (e == low) n a ≡ a
    holder_else a n e low is = grind (arith, nat_tests)

-- a, at the numbers from low up to and without high, and else b
within : (low high a b e : ℕ) → ℕ
within low high a b e = cond (leb low e) (cond (ltb e high) a b) b

-- at one of these numbers it is a
within_in : (low high a b e : ℕ) → low ≤ e → e < high → within low high a b e ≡ a
unfolding within
within_in low high a b e from to = grind (arith, nat_tests)

-- at another it is b
within_out : (low high a b e : ℕ) → (low ≤ e → e < high → ⊥) → within low high a b e ≡ b
unfolding within
within_out low high a b e out = dite (dec_le low e)
    (λ from. dite (dec_le high e) (λ past. grind (arith, nat_tests))
    (λ to. absurd (out from (omega arith))))
    (λ below. grind (arith, nat_tests))

-- all ends go to a new pass
pub cuts_ends : (pass : ℕ) (k : Known) → Forks Delivers pass k (without_ends k) (ends_of k)
cuts_ends pass k held passes h at =
    let left : Known = without_ends k in
    let right : Known = ends_of k in
    let rest : List Known = set passes pass left in
    let n = length rest in
    let holder : ℕ → ℕ = λ e. within k.low k.high n (h.1 e) e in
    let mine = h.6 pass k at in
    let Old : ℕ → Known → Type 0 =
    λ j u. ((e : ℕ) → u.low ≤ e → e < u.high
    → (k.low ≤ e → e < k.high → ⊥) × (h.1 e ≡ j) × (u.handed ≡ of_end e h.2))
    × FitsTaker h.0 h.3 j u
    in
    let old : All Old rest =
    all_set Old passes pass left ((λ e from to. absurd (omega arith)), mine.1)
    (λ j u other there.
    let theirs = h.6 j u there in (
      (λ e from to.
          let was = theirs.0 e from to in (
            (λ low high. other (sym was.0 ∙ (mine.0 e low high).0)),
            was.0,
            was.1,
          )),
      theirs.1,
    ))
    in (
      h.0,
      holder,
      h.2,
      h.3,
      h.4,
      h.5,
      all_new (Fits h.0 holder h.2 h.3) rest right
          (λ j u other there.
          let was = old j u there in (
            (λ e from to.
                let theirs = was.0 e from to in
                (within_out k.low k.high n (h.1 e) e theirs.0 ∙ theirs.1, theirs.2)),
            was.1,
          )) (
            (λ e from to. (within_in k.low k.high n (h.1 e) e from to, (mine.0 e from to).1)),
            λ takes. absurd (off takes),
          ),
    )

-- a pass takes in the ends of another, which is spent
pub meets : (pass : ℕ) (k : Known) (other : ℕ) (u : Known)
    → Merges Delivers pass k other u (meeting k u) knows_nothing
meets pass k other u held passes h at two at' =
    let both : Known = meeting k u in
    let rest : List Known = set passes pass both in
    let mine = h.6 pass k at in
    let was : get_elem? passes other ≡ some u =
    ⊎_elim (λ (is : (other ≡ pass) × (both ≡ u)). absurd (two is.0))
    (λ (is : (other ≢ pass) × (get_elem? passes other ≡ some u)). is.1)
    (at_set passes pass other both u at')
    in
    let theirs = h.6 other u was in
    let holder : ℕ → ℕ = λ e. within u.low u.high pass (h.1 e) e in
    let Now : ℕ → Known → Type 0 = λ j y. j ≢ other → Fits h.0 holder h.2 h.3 j y in
    let now : All Now rest =
    all_set Now passes pass both
    (λ apart. (
      (λ e from to. (within_in u.low u.high pass (h.1 e) e from to, (theirs.0 e from to).1)),
      mine.1,
    ))
    (λ j y differs there apart.
    let old = h.6 j y there in (
      (λ e from to.
          let own = old.0 e from to in
          let out : u.low ≤ e → e < u.high → ⊥ =
          λ low high. apart (sym own.0 ∙ (theirs.0 e low high).0)
          in
          (within_out u.low u.high pass (h.1 e) e out ∙ own.0, own.1)),
      old.1,
    ))
    in (
      h.0,
      holder,
      h.2,
      h.3,
      h.4,
      h.5,
      all_set (Fits h.0 holder h.2 h.3) rest other knows_nothing
          ((λ e from to. absurd (omega arith)), (λ takes. absurd (off takes)))
          (λ j y apart there. now j y there apart),
    )
