-- What a call leaves of a file, whatever file it is.
use Rattle.std.specs.Prelude.{◌≡◌, ◌+◌, Result, OnErr, OnOk}
use Rattle.file_blocks.specs.declared.file.RunFile.{Ghosts}

-- What a read leaves of a file: nothing of it is another, it was one call, and it failed where an
-- error is answered, and only there.
pub record IsReadFrom {F A E : Type 0} (g : Ghosts F) (old new : F) (result : Result A E)
    : Type 0 where
  pub same : g.honest old → g.held new ≡ g.held old
  pub honest : g.honest old → g.honest new
  pub calls : g.calls new ≡ g.calls old + 1
  pub failed : OnErr result (g.failures new ≡ g.failures old + 1)
  pub no_failure : OnOk result (g.failures new ≡ g.failures old)
