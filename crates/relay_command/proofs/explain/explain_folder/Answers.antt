use Rattle.std.proofs.Common.{subst}
use Rattle.std.specs.Io.KnownBytes.{Appends}
use Rattle.relay_report.specs.Written.{GainsFront}
use Rattle.relay_command.proofs.Explains.{untold}
use Rattle.relay_command.proofs.explain.explain_folder.Goals as goal

-- the text was written,
pub returns-in-Ok-put : goal.returns-in-Ok-put
returns-in-Ok-put g c = (
  c.in-Ok.text.items,
  c.in-Ok.ensures.text,
  subst (λ octets. Appends (g.W.Write.contents c.args.writer.now)
      (g.W.Write.contents c.put.new.writer) octets) c.deref.ensures.value c.in-Ok-put.ensures,
)

-- or a front of it,
pub returns-in-Ok : goal.returns-in-Ok
returns-in-Ok g c = (
  c.in-Ok.text.items,
  c.in-Ok.ensures.text,
  subst (λ octets. GainsFront octets (g.W.Write.contents c.args.writer.now)
      (g.W.Write.contents c.put.new.writer)) c.deref.ensures.value c.in-Err-put.ensures,
)

-- or there is none, and nothing was written
pub returns : goal.returns
returns g c = untold c.args.folder.now _ c.in-Err.error
    (g.W.Write.contents c.args.writer.now) c.in-Err.ensures.error
