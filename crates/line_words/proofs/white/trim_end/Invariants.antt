use Rattle.std.proofs.Common.{◌≡◌, ◌≤◌, length, take}
use Rattle.line_words.specs.White.{without_trailing_white}
use Rattle.line_words.proofs.white.trim_end.Given as goal

-- the octets passed are white
abbrev pub invariant-loop-end : goal.invariant-loop-end
invariant-loop-end l = record {
  within : l.end ≤ length l.text;
  passed : without_trailing_white (take l.end l.text) ≡ without_trailing_white l.text;
}

abbrev pub decreases-loop-end : goal.decreases-loop-end
decreases-loop-end l = l.end
