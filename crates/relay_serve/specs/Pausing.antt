-- What is told of a relay that takes no new articles for now (docs/PROTOCOL.md, `pause` and `go`;
-- docs/FORMATS.md, Report).
use Rattle.std.specs.Prelude.{ℕ, Bool, true, false, List, [], codes}

-- what whoever asked it to pause, or to go on, is told
abbrev pub told_so : (paused : Bool) → List ℕ
told_so true = codes "paused\n"
told_so false = codes "going\n"

-- the line of its report, which one that isn't paused has not
abbrev pub paused_text : (paused : Bool) → List ℕ
paused_text true = codes "paused\n"
paused_text false = []
