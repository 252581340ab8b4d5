use Rattle.std.proofs.Common.{◌∙◌, ap, sym}
use Rattle.relay_command.specs.CommandLine.{Adds, Checks, Goes, Pauses, Reloads, Stops}
use Rattle.relay_command.proofs.command_line.job_named.Goals as goal

pub returns-then-is-2 : goal.returns-then-is-2
returns-then-is-2 c =
    let check = sym c.is-2.ensures ∙ c.if-is-2.true in
    rw check (ap Checks c.in_ok-folder.ensures)

pub returns-then-is-3 : goal.returns-then-is-3
returns-then-is-3 c =
    let check = sym c.is-2.ensures ∙ c.if-is-2.false in
    let explain = sym c.is-3.ensures ∙ c.if-is-3.true in
    rw (check, explain, ← c.in_ok-folder.ensures) c.explanation.ensures

pub returns-then-is-4 : goal.returns-then-is-4
returns-then-is-4 c =
    let token = sym c.is.ensures ∙ c.if-is.false in
    let check = sym c.is-2.ensures ∙ c.if-is-2.false in
    let explain = sym c.is-3.ensures ∙ c.if-is-3.false in
    let serve = sym c.is-4.ensures ∙ c.if-is-4.true in
    rw (check, explain, token, serve, ← c.in_ok-folder.ensures) c.service.ensures

pub returns-then-is-5 : goal.returns-then-is-5
returns-then-is-5 c =
    let token = sym c.is.ensures ∙ c.if-is.false in
    let check = sym c.is-2.ensures ∙ c.if-is-2.false in
    let explain = sym c.is-3.ensures ∙ c.if-is-3.false in
    let serve = sym c.is-4.ensures ∙ c.if-is-4.false in
    let stop = sym c.is-5.ensures ∙ c.if-is-5.true in
    rw (check, explain, token, serve, stop) (ap Stops c.in_ok-folder.ensures)

pub returns-then-is-6 : goal.returns-then-is-6
returns-then-is-6 c =
    let token = sym c.is.ensures ∙ c.if-is.false in
    let check = sym c.is-2.ensures ∙ c.if-is-2.false in
    let explain = sym c.is-3.ensures ∙ c.if-is-3.false in
    let serve = sym c.is-4.ensures ∙ c.if-is-4.false in
    let stop = sym c.is-5.ensures ∙ c.if-is-5.false in
    let report = sym c.is-6.ensures ∙ c.if-is-6.true in
    rw (check, explain, token, serve, stop, report, ← c.in_ok-folder.ensures) c.reporting.ensures

pub returns-then-is-7 : goal.returns-then-is-7
returns-then-is-7 c =
    let token = sym c.is.ensures ∙ c.if-is.false in
    let check = sym c.is-2.ensures ∙ c.if-is-2.false in
    let explain = sym c.is-3.ensures ∙ c.if-is-3.false in
    let serve = sym c.is-4.ensures ∙ c.if-is-4.false in
    let stop = sym c.is-5.ensures ∙ c.if-is-5.false in
    let report = sym c.is-6.ensures ∙ c.if-is-6.false in
    let add = sym c.is-7.ensures ∙ c.if-is-7.true in
    rw (check, explain, token, serve, stop, report, add) (ap Adds c.in_ok-folder.ensures)

pub returns-then-is-8 : goal.returns-then-is-8
returns-then-is-8 c =
    let token = sym c.is.ensures ∙ c.if-is.false in
    let check = sym c.is-2.ensures ∙ c.if-is-2.false in
    let explain = sym c.is-3.ensures ∙ c.if-is-3.false in
    let serve = sym c.is-4.ensures ∙ c.if-is-4.false in
    let stop = sym c.is-5.ensures ∙ c.if-is-5.false in
    let report = sym c.is-6.ensures ∙ c.if-is-6.false in
    let add = sym c.is-7.ensures ∙ c.if-is-7.false in
    let pause = sym c.is-8.ensures ∙ c.if-is-8.true in
    rw (check, explain, token, serve, stop, report, add, pause)
    (ap Pauses c.in_ok-folder.ensures)

pub returns-then-is-9 : goal.returns-then-is-9
returns-then-is-9 c =
    let token = sym c.is.ensures ∙ c.if-is.false in
    let check = sym c.is-2.ensures ∙ c.if-is-2.false in
    let explain = sym c.is-3.ensures ∙ c.if-is-3.false in
    let serve = sym c.is-4.ensures ∙ c.if-is-4.false in
    let stop = sym c.is-5.ensures ∙ c.if-is-5.false in
    let report = sym c.is-6.ensures ∙ c.if-is-6.false in
    let add = sym c.is-7.ensures ∙ c.if-is-7.false in
    let pause = sym c.is-8.ensures ∙ c.if-is-8.false in
    let go = sym c.is-9.ensures ∙ c.if-is-9.true in
    rw (check, explain, token, serve, stop, report, add, pause, go)
    (ap Goes c.in_ok-folder.ensures)

pub returns-then-is-10 : goal.returns-then-is-10
returns-then-is-10 c =
    let token = sym c.is.ensures ∙ c.if-is.false in
    let check = sym c.is-2.ensures ∙ c.if-is-2.false in
    let explain = sym c.is-3.ensures ∙ c.if-is-3.false in
    let serve = sym c.is-4.ensures ∙ c.if-is-4.false in
    let stop = sym c.is-5.ensures ∙ c.if-is-5.false in
    let report = sym c.is-6.ensures ∙ c.if-is-6.false in
    let add = sym c.is-7.ensures ∙ c.if-is-7.false in
    let pause = sym c.is-8.ensures ∙ c.if-is-8.false in
    let go = sym c.is-9.ensures ∙ c.if-is-9.false in
    let reload = sym c.is-10.ensures ∙ c.if-is-10.true in
    rw (check, explain, token, serve, stop, report, add, pause, go, reload)
    (ap Reloads c.in_ok-folder.ensures)

pub returns : goal.returns
returns c =
    let token = sym c.is.ensures ∙ c.if-is.false in
    let check = sym c.is-2.ensures ∙ c.if-is-2.false in
    let explain = sym c.is-3.ensures ∙ c.if-is-3.false in
    let serve = sym c.is-4.ensures ∙ c.if-is-4.false in
    let stop = sym c.is-5.ensures ∙ c.if-is-5.false in
    let report = sym c.is-6.ensures ∙ c.if-is-6.false in
    let add = sym c.is-7.ensures ∙ c.if-is-7.false in
    let pause = sym c.is-8.ensures ∙ c.if-is-8.false in
    let go = sym c.is-9.ensures ∙ c.if-is-9.false in
    let reload = sym c.is-10.ensures ∙ c.if-is-10.false in
    rw (
      check,
      explain,
      token,
      serve,
      stop,
      report,
      add,
      pause,
      go,
      reload,
      ← c.in_ok-folder.ensures,
    ) c.drilling.ensures
