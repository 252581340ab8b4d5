use Rattle.std.proofs.Common.{◌≡◌, ◌+◌, ◌*◌, ◌^◌, ◌<◌, ◌≤◌, ◌||◌, ◌∙◌, ℕ, Bool, ap, cond, map}
use Rattle.std.proofs.Common.{refl, sym, take, arith}
use Rattle.std.proofs.lemmas.List.Folds.{list_any-append}
use Rattle.std.proofs.lemmas.List.Sums.{sum_by-append}
use Rattle.std.specs.List.{list_any}
use Rattle.std.proofs.lemmas.List.{take_all}
use Rattle.live_jobs.specs.Gathered.{all_told}
use Rattle.live_jobs.specs.Mismatches.{conflicts_in, is_conflict, is_receipt_of}
use Rattle.live_jobs.specs.Mismatches.{mismatched_receipts_in}
use Rattle.live_jobs.proofs.AllTold.{told_on}
use Rattle.live_jobs.proofs.Borne.{all_borne_out, none_conflicts}
use Rattle.live_jobs.proofs.Jobs.{as_receipts, none_yet}
use Rattle.live_jobs.proofs.answers.mismatched_receipts.Goals as goal

pub loop-writer-init : goal.loop-writer-init
loop-writer-init g c = record {
  jobs = λ end number register. none_yet c.new-jobs.result end number register
      c.new-jobs.ensures.empty;
  conflict = refl;
  few = omega arith;
}

few_more : (conflict more k : ℕ) → conflict ≤ k * 2 ^ 63 → more < 2 ^ 63
    → conflict + more ≤ (k + 1) * 2 ^ 63
few_more conflict more k few small = omega (arith, few, small)

pub loop-writer-preserved : goal.loop-writer-preserved
loop-writer-preserved g c =
    let inv = c.loop-writer.invariant in
    let k = c.loop-writer.writer-index in
    let added = c.in_ok-conflict.ensures in
    let these = c.writer-item.result.finished.items in
    let so_far = all_told (map (λ w. w.finished.items) (take k c.args.writers.now)) in
    let next = told_on (λ w. w.finished.items) c.args.writers.now k c.writer-item.result
    c.loop-writer-test.true c.writer-item.is in
    record {
      jobs = λ end number register.
          let of = is_receipt_of end number register in
          added.jobs end number register
          ∙ ap (λ (had : Bool). had || list_any of these) (inv.jobs end number register)
          ∙ sym (list_any-append of so_far these) ∙ ap (list_any of) (sym next);
      conflict = ap (λ (n : ℕ). n + c.in_ok-conflict.field-0) inv.conflict
          ∙ ap (λ (n : ℕ). conflicts_in so_far + n) added.conflict
          ∙ sym (sum_by-append (λ d. cond (is_conflict d.outcome) 1 0) so_far these)
          ∙ ap conflicts_in (sym next);
      few = few_more _ _ _ inv.few added.few;
    }

sums : (a b x y : ℕ) → a ≡ x → b ≡ y → a + b ≡ y + x
sums a b x y same also = omega (arith, same, also)

first_none : (n a b : ℕ) → n ≡ a + b → n ≡ 0 → a ≡ 0
first_none n a b is none = omega (arith, is, none)

second_none : (n a b : ℕ) → n ≡ a + b → n ≡ 0 → b ≡ 0
second_none n a b is none = omega (arith, is, none)

-- how many answers are mismatched, and how many jobs are in conflict
counted : goal.returns-clause-count
counted g c =
    let inv = c.loop-writer.invariant in
    let so_far = take c.loop-writer.writer-index c.args.writers.now in
    let all : so_far ≡ c.args.writers.now = take_all _ _ c.loop-writer-test.false in
    let mismatched = as_receipts c.loop-writer.jobs (all_told (map (λ w. w.finished.items) so_far))
    inv.jobs 0 (map (λ a. a.now) c.args.answers.now) in
    sums _ _ _ _ inv.conflict (c.all_mismatched.ensures.count ∙ mismatched)
    ∙ ap (λ ws. mismatched_receipts_in (map (λ a. a.now) c.args.answers.now)
    (map (λ w. w.finished.items) ws)) all

pub returns-clause-count : goal.returns-clause-count
returns-clause-count g c = counted g c

pub returns-clause-borne_out : goal.returns-clause-borne_out
returns-clause-borne_out g c =
    λ none.
    let is = counted g c in
    all_borne_out (map (λ a. a.now) c.args.answers.now)
    (all_told (map (λ w. w.finished.items) c.args.writers.now)) (first_none _ _ _ is none)

pub returns-clause-none_conflicts : goal.returns-clause-none_conflicts
returns-clause-none_conflicts g c =
    λ none.
    let is = counted g c in
    none_conflicts (all_told (map (λ w. w.finished.items) c.args.writers.now))
    (second_none _ _ _ is none)
