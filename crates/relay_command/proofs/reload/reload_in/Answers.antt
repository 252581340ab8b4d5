use Rattle.std.proofs.Common.{ℕ, List, Option, Result, Err, Ok, subst}
use denote.Ref.{Bor}
use Rattle.std.specs.Global.{Vec}
use Rattle.std.specs.declared.io.Error.{Error}
use Rattle.relay_command.specs.Ask.{Answered, TellsReload}
use Rattle.relay_command.specs.declared.ask.Request.{Request}
use Rattle.relay_command.specs.declared.ask.Request.TheVariants.{Reload}
use Rattle.relay_command.proofs.Asks.{answered, reload_told, reload_unheard}
use Rattle.relay_command.proofs.reload.reload_in.Goals as goal

-- there is a configuration in the folder, and the relay was asked and told that it reloaded,
pub returns-in-Ok-tell_reload : goal.returns-in-Ok-tell_reload
returns-in-Ok-tell_reload g c =
    let post = λ (folder : Bor (List ℕ)) (request : Request) (answer : Result (Vec ℕ) Error).
    g.A.FnOnce.post c.args.ask (folder, (request, tt)) answer in
    let tells = subst (λ octets. TellsReload octets (Ok tt) (g.W.Write.contents c.args.writer.now)
    (g.W.Write.contents c.tell_reload.new.writer)) c.deref.ensures.value
    c.in-Ok-tell_reload.ensures in (
      c.in-Ok.config,
      c.in-Ok.ensures,
      reload_told (Answered post) c.args.folder.now c.in-Ok-ask.told (Ok tt) _ _
          (answered post c.args.folder Reload (Ok c.in-Ok-ask.told) c.in-Ok-ask.ensures) tells,
    )

-- or that failed so,
pub returns-in-Ok-ask : goal.returns-in-Ok-ask
returns-in-Ok-ask g c =
    let post = λ (folder : Bor (List ℕ)) (request : Request) (answer : Result (Vec ℕ) Error).
    g.A.FnOnce.post c.args.ask (folder, (request, tt)) answer in
    let tells = subst (λ octets. TellsReload octets (Err c.in-Err-tell_reload.error)
    (g.W.Write.contents c.args.writer.now) (g.W.Write.contents c.tell_reload.new.writer))
    c.deref.ensures.value c.in-Err-tell_reload.ensures in (
      c.in-Ok.config,
      c.in-Ok.ensures,
      reload_told (Answered post) c.args.folder.now c.in-Ok-ask.told
          (Err c.in-Err-tell_reload.error) _ _
          (answered post c.args.folder Reload (Ok c.in-Ok-ask.told) c.in-Ok-ask.ensures) tells,
    )

-- or it could not be asked, and nothing was written
pub returns : goal.returns
returns g c =
    let post = λ (folder : Bor (List ℕ)) (request : Request) (answer : Result (Vec ℕ) Error).
    g.A.FnOnce.post c.args.ask (folder, (request, tt)) answer in (
      c.in-Ok.config,
      c.in-Ok.ensures,
      reload_unheard (Answered post) c.args.folder.now c.in-Err-ask.error c.kind.result
          c.unheard.result (g.W.Write.contents c.args.writer.now)
          (answered post c.args.folder Reload (Err c.in-Err-ask.error) c.in-Err-ask.ensures)
          c.kind.ensures c.unheard.ensures,
    )
