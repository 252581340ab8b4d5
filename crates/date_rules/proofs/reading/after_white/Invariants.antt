use Rattle.std.proofs.Common.{◌≡◌, ◌≤◌, ◌+◌, length, take}
use Rattle.std.specs.Prelude.{not}
use Rattle.std.specs.List.{suffix_len}
use Rattle.news_terms.specs.Article.{is_white}
use Rattle.date_rules.proofs.reading.after_white.Given as goal

-- none of the octets passed is white
abbrev pub invariant-loop-end : goal.invariant-loop-end
invariant-loop-end l = record {
  within : l.end ≤ length l.text;
  passed : l.end + suffix_len (λ c. not (is_white c)) l.text
      ≡ length l.text + suffix_len (λ c. not (is_white c)) (take l.end l.text);
}

abbrev pub decreases-loop-end : goal.decreases-loop-end
decreases-loop-end l = l.end
