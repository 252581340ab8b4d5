use Rattle.std.proofs.Common.{ℕ, List, Result, map, string_bytes}
use denote.Ref.{Bor, MutBor}
use Rattle.std.specs.Global.{Vec}
use Rattle.std.specs.declared.io.Error.{Error}
use Rattle.relay_conf.specs.declared.settings.Config.{Config}
use Rattle.relay_report.specs.declared.fault.ServeError.{ServeError}
use Rattle.relay_command.specs.Adding.{HandedTo}
use Rattle.relay_command.specs.Ask.{Answered}
use Rattle.relay_command.specs.CommandLine.{asked}
use Rattle.relay_command.specs.declared.ask.Request.{Request}
use Rattle.relay_command.proofs.Runs.{helped, ran}
use Rattle.relay_command.proofs.program.obey.Goals as goal

-- what the words ask for was done
pub returns-in-Ok : goal.returns-in-Ok
returns-in-Ok g c =
    let post = λ (folder : Bor (List ℕ)) (request : Request) (answer : Result (Vec ℕ) Error).
    g.A.FnOnce.post c.args.ask (folder, (request, tt)) answer in
    let stands = λ (config : Bor Config) (folder : Bor (List ℕ)) (writer : MutBor _)
    (answer : Result (Unit {0}) ServeError) (after : MutBor _).
    g.T.FnOnce.post c.args.stand (config, (folder, (writer, tt))) (answer, (after, tt)) in
    ran g.W.Write.contents _ c.requires.rightly _ c.requires.adds_rightly
    (HandedTo g.W.Write.contents stands) (Answered post)
    (map string_bytes c.args.words.now) (asked c.in-Ok.job) c.perform-done.result
    (g.R.Read.remaining c.args.reader.now) (g.W.Write.contents c.args.writer.now)
    (g.W.Write.contents c.perform-done.new.writer) c.in-Ok.ensures c.perform-done.ensures

-- or they ask for nothing that is done
pub returns-in-Err : goal.returns-in-Err
returns-in-Err g c =
    let post = λ (folder : Bor (List ℕ)) (request : Request) (answer : Result (Vec ℕ) Error).
    g.A.FnOnce.post c.args.ask (folder, (request, tt)) answer in
    let stands = λ (config : Bor Config) (folder : Bor (List ℕ)) (writer : MutBor _)
    (answer : Result (Unit {0}) ServeError) (after : MutBor _).
    g.T.FnOnce.post c.args.stand (config, (folder, (writer, tt))) (answer, (after, tt)) in
    helped g.W.Write.contents _ c.requires.rightly _ c.requires.adds_rightly
    (HandedTo g.W.Write.contents stands) (Answered post)
    (map string_bytes c.args.words.now) c.help.result (g.R.Read.remaining c.args.reader.now)
    (g.W.Write.contents c.args.writer.now) (g.W.Write.contents c.help.new.writer)
    (c.help.ensures (map string_bytes c.args.words.now) c.in-Err.ensures)
