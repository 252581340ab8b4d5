-- Each case of the next block, both ways.
use Rattle.std.proofs.Common.{◌≤◌, ◌<◌, ℕ, List, length, refl, sym, ap, subst, ◌∙◌}
use Rattle.std.proofs.lemmas.Option.{none-some}
use Rattle.news_terms.specs.Blocks.{unstuffed, next_block_by, Whole}
use Rattle.news_terms.proofs.BlockLemmas.{CutsBlock-from_first, first_block-cuts}
use Rattle.news_terms.proofs.BlockLemmas.{first_block-none_cuts}
use Rattle.news_terms.proofs.NextLemmas.{next_block-whole, next_block-oversize, IsNextBlock}
use Rattle.news_terms.proofs.NextLemmas.{next_block-is}
use Rattle.stream_cut.proofs.laws.next_block_law.Goals as goal

pub returns-clause-whole : goal.returns-clause-whole
returns-clause-whole c = λ limit s text rest. (
  λ e. let is = subst (IsNextBlock limit s) e (next_block-is limit s) in (
    record { lines = is.0; cuts = CutsBlock-from_first s is.0 rest is.1; unstuffs = is.2 },
    subst (λ (x : List ℕ). length x ≤ limit) (sym is.2) is.3,
  ),
  λ h. next_block-whole limit s (h.0).lines rest (first_block-cuts s (h.0).lines rest (h.0).cuts)
      (subst (λ (x : List ℕ). length x ≤ limit) (h.0).unstuffs h.1)
      ∙ ap (λ (x : List ℕ). Whole x rest) (sym (h.0).unstuffs),
)

pub returns-clause-oversize : goal.returns-clause-oversize
returns-clause-oversize c = λ limit s rest. (
  λ e. let is = subst (IsNextBlock limit s) e (next_block-is limit s) in (
    unstuffed is.0,
    record {
      lines = is.0;
      cuts = CutsBlock-from_first s is.0 rest is.1;
      unstuffs = refl;
    },
    is.2,
  ),
  λ h. next_block-oversize limit s (h.1).lines rest (first_block-cuts s (h.1).lines rest (h.1).cuts)
      (subst (λ (x : List ℕ). limit < length x) (h.1).unstuffs h.2),
)

pub returns-clause-unfinished : goal.returns-clause-unfinished
returns-clause-unfinished c = λ limit s. (
  λ e lines rest cut. none-some (lines, rest)
      (sym (subst (IsNextBlock limit s) e (next_block-is limit s))
      ∙ first_block-cuts s lines rest cut),
  λ h. ap (next_block_by limit) (first_block-none_cuts s h),
)
