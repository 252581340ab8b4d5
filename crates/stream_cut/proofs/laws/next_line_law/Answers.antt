-- Each case of the next line, both ways.
use Rattle.std.proofs.Common.{◌≡◌, ◌+◌, ◌<◌, ℕ, List, Option, Some, None, length, refl, subst}
use Rattle.std.proofs.Common.{arith}
use Rattle.news_terms.specs.Lines.{first_line, Cut, TooLong, Incomplete}
use Rattle.news_terms.proofs.LineLemmas.{CutsLine-from_first, first_line-cuts, first_line-none}
use Rattle.news_terms.proofs.LineLemmas.{no_first_line}
use Rattle.stream_cut.specs.Look.{EndsAt}
use Rattle.stream_cut.specs.Cuts.{HasLongLine}
use Rattle.stream_cut.proofs.PlaceLemmas.{EndsAt-front, EndsAt-line, EndsAt-least}
use Rattle.stream_cut.proofs.NextLemmas.{IsNextLine, next_line-is, next_line-from}
use Rattle.stream_cut.proofs.laws.next_line_law.Goals as goal

-- each CRLF of a stream with a long line comes late
late : (s : List ℕ) → HasLongLine s → (k : ℕ) → EndsAt s k → 512 < k + 2
late s h k ends = at (first_line s) refl
  where
    at : (o : Option (List ℕ × List ℕ)) → first_line s ≡ o → 512 < k + 2
    at None e = absurd (EndsAt-line s k e ends)
    at (Some p) e = omega (
      arith,
      h.none p.0 p.1 (CutsLine-from_first s p.0 p.1 e),
      EndsAt-least s p.0 p.1 k e ends,
    )

pub returns-clause-line : goal.returns-clause-line
returns-clause-line c = λ s line rest. (
  λ e. let is = subst (IsNextLine s) e (next_line-is s) in
      record { cuts = CutsLine-from_first s line rest is.0; fits = is.1 },
  λ h. next_line-from s (Cut line rest) (first_line-cuts s line rest h.cuts, h.fits),
)

pub returns-clause-too_long : goal.returns-clause-too_long
returns-clause-too_long c = λ s. (
  λ e. let is = subst (IsNextLine s) e (next_line-is s) in
      record {
        long = is.0;
        none = λ line rest cut. is.1 (length line)
            (EndsAt-front s line rest cut.whole);
      },
  λ h. next_line-from s TooLong (h.long, late s h),
)

pub returns-clause-incomplete : goal.returns-clause-incomplete
returns-clause-incomplete c = λ s. (
  λ e. let is = subst (IsNextLine s) e (next_line-is s) in
      record { short = is.0; none = λ line rest cut. no_first_line s line rest is.1 cut.whole },
  λ h. next_line-from s Incomplete (h.short, first_line-none s h.none),
)
