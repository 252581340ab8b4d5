use Rattle.std.proofs.Common.{List, Option, Result, ℕ}
use Rattle.std.specs.Prelude.{unwrap_or}
use Rattle.relay_report.specs.declared.fault.ServeError.{ServeError}
use Rattle.relay_lives.specs.Lives.{anybody, Lived, Served}
use Rattle.relay_lives.proofs.lives.serve_others.Given as goal

-- whatever follows the life that has ended well by now follows the first
abbrev pub invariant-lives : goal.invariant-lives
invariant-lives g l =
    (result : Result (Unit {0}) ServeError) (after : Option (List ℕ))
    → Lived anybody l.folder l.sessions (Served (unwrap_or l.other l.config))
    result (g.W.Write.contents l.writer) after
    → Lived anybody l.folder l.sessions (Served l.config) result
    (g.W.Write.contents l.fn.writer) after
