use Rattle.std.proofs.Common.{◌∙◌, subst, ℕ, List, Result, Err, Ok}
use denote.Ref.{Bor}
use Rattle.std.specs.Global.{Vec}
use Rattle.std.specs.declared.io.Error.{Error}
use Rattle.std.specs.Io.KnownBytes.{Appends}
use Rattle.relay_report.specs.Written.{GainsFront}
use Rattle.relay_command.specs.Ask.{Answered}
use Rattle.relay_command.specs.declared.ask.Request.{Request}
use Rattle.relay_command.proofs.Asks.{answered, unformed, unheard}
use Rattle.relay_command.proofs.ask.ask_in.Goals as goal

-- what the relay told was written in this form,
pub returns-in-Ok-put : goal.returns-in-Ok-put
returns-in-Ok-put g c = (
  c.in-Ok.told,
  answered _ _ _ _ c.in-Ok.ensures,
  subst (λ octets. Appends (g.W.Write.contents c.args.writer.now)
      (g.W.Write.contents c.put.new.writer) octets)
      (c.deref.ensures.value ∙ c.in-Ok-in_form.ensures.text) c.in-Ok-put.ensures,
)

-- or a front of it,
pub returns-in-Ok-in_form : goal.returns-in-Ok-in_form
returns-in-Ok-in_form g c = (
  c.in-Ok.told,
  answered _ _ _ _ c.in-Ok.ensures,
  subst (λ octets. GainsFront octets (g.W.Write.contents c.args.writer.now)
      (g.W.Write.contents c.put.new.writer))
      (c.deref.ensures.value ∙ c.in-Ok-in_form.ensures.text) c.in-Err-put.ensures,
)

-- or there was no memory for what is made of it, and nothing was written;
pub returns-in-Ok : goal.returns-in-Ok
returns-in-Ok g c =
    let post = λ (folder : Bor (List ℕ)) (request : Request) (answer : Result (Vec ℕ) Error).
    g.A.FnOnce.post c.args.ask (folder, (request, tt)) answer in
    unformed (Answered post) c.args.folder.now c.args.request c.args.form c.in-Ok.told
    (g.W.Write.contents c.args.writer.now)
    (answered post c.args.folder c.args.request (Ok c.in-Ok.told) c.in-Ok.ensures)
    c.in-Err-in_form.ensures.memory

-- or it could not be asked, and nothing was written.
pub returns : goal.returns
returns g c =
    let post = λ (folder : Bor (List ℕ)) (request : Request) (answer : Result (Vec ℕ) Error).
    g.A.FnOnce.post c.args.ask (folder, (request, tt)) answer in
    unheard (Answered post) c.args.folder.now c.args.request c.args.form c.in-Err.error
    c.kind.result c.unheard.result (g.W.Write.contents c.args.writer.now)
    (answered post c.args.folder c.args.request (Err c.in-Err.error) c.in-Err.ensures)
    c.kind.ensures c.unheard.ensures
