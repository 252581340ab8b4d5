use Rattle.std.proofs.Common.{◌∙◌, refl, subst, List, ℕ}
use Rattle.std.specs.Io.KnownBytes.{Appends}
use Rattle.relay_check.proofs.looking.tell_refusal.Goals as goal

-- the line was written
pub returns-in-Ok-written : goal.returns-in-Ok-written
returns-in-Ok-written g c = (
  refl,
  subst
      (λ (line : List ℕ). Appends (g.W.Write.contents c.args.writer.now)
      (g.W.Write.contents c.put-written.new.writer) line)
      (c.as_bytes.ensures.value ∙ c.in-Ok.ensures.ok)
      c.in-Ok-written.ensures,
)
