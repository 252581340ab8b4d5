use Rattle.std.proofs.Common.{Ok, Some, ap, ◌∙◌}
use Rattle.line_words.specs.Parts.{parts_after}
use Rattle.relay_drill.specs.Drill.{names_of}
use Rattle.relay_drill.proofs.Scripts.{keyword_gives, line_gives}
use Rattle.relay_drill.proofs.script.read_line.Goals as goal

pub returns-in-Some-Open : goal.returns-in-Some-Open
returns-in-Some-Open c =
    keyword_gives (names_of c.args.config.now) c.args.line.now c.cut.result.0.now
    (parts_after 32 c.cut.result.1) c.keyword_of.result _ (Ok c.open.result) c.cut.ensures
    c.keyword_of.ensures (c.in-Some-Open.is ∙ ap Some c.in-Some-Open.field-0-is)
    (line_gives c.open.result _ (rw c.deref.ensures.value at c.open.ensures))

pub returns-in-Some-Send : goal.returns-in-Some-Send
returns-in-Some-Send c =
    keyword_gives (names_of c.args.config.now) c.args.line.now c.cut.result.0.now
    (parts_after 32 c.cut.result.1) c.keyword_of.result _ c.send.result c.cut.ensures
    c.keyword_of.ensures (c.in-Some-Send.is ∙ ap Some c.in-Some-Send.field-0-is)
    c.send.ensures

pub returns-in-Some-Raw : goal.returns-in-Some-Raw
returns-in-Some-Raw c =
    keyword_gives (names_of c.args.config.now) c.args.line.now c.cut.result.0.now
    (parts_after 32 c.cut.result.1) c.keyword_of.result _ c.raw.result c.cut.ensures
    c.keyword_of.ensures (c.in-Some-Raw.is ∙ ap Some c.in-Some-Raw.field-0-is)
    c.raw.ensures

pub returns-in-Some-Split : goal.returns-in-Some-Split
returns-in-Some-Split c =
    keyword_gives (names_of c.args.config.now) c.args.line.now c.cut.result.0.now
    (parts_after 32 c.cut.result.1) c.keyword_of.result _ (Ok c.split.result) c.cut.ensures
    c.keyword_of.ensures (c.in-Some-Split.is ∙ ap Some c.in-Some-Split.field-0-is)
    (line_gives c.split.result _ c.split.ensures)

pub returns-in-Some-Turn : goal.returns-in-Some-Turn
returns-in-Some-Turn c =
    keyword_gives (names_of c.args.config.now) c.args.line.now c.cut.result.0.now
    (parts_after 32 c.cut.result.1) c.keyword_of.result _ (Ok c.turn.result) c.cut.ensures
    c.keyword_of.ensures (c.in-Some-Turn.is ∙ ap Some c.in-Some-Turn.field-0-is)
    (line_gives c.turn.result _ c.turn.ensures)

pub returns-in-Some-Write : goal.returns-in-Some-Write
returns-in-Some-Write c =
    keyword_gives (names_of c.args.config.now) c.args.line.now c.cut.result.0.now
    (parts_after 32 c.cut.result.1) c.keyword_of.result _ (Ok c.write.result) c.cut.ensures
    c.keyword_of.ensures (c.in-Some-Write.is ∙ ap Some c.in-Some-Write.field-0-is)
    (line_gives c.write.result _ c.write.ensures)

pub returns-in-Some-Rounds : goal.returns-in-Some-Rounds
returns-in-Some-Rounds c =
    keyword_gives (names_of c.args.config.now) c.args.line.now c.cut.result.0.now
    (parts_after 32 c.cut.result.1) c.keyword_of.result _ (Ok c.rounds.result) c.cut.ensures
    c.keyword_of.ensures (c.in-Some-Rounds.is ∙ ap Some c.in-Some-Rounds.field-0-is)
    (line_gives c.rounds.result _ c.rounds.ensures)

pub returns-in-Some-Break : goal.returns-in-Some-Break
returns-in-Some-Break c =
    keyword_gives (names_of c.args.config.now) c.args.line.now c.cut.result.0.now
    (parts_after 32 c.cut.result.1) c.keyword_of.result _ (Ok c.break_off.result) c.cut.ensures
    c.keyword_of.ensures (c.in-Some-Break.is ∙ ap Some c.in-Some-Break.field-0-is)
    (line_gives c.break_off.result _ c.break_off.ensures)

pub returns-in-Some-Expire : goal.returns-in-Some-Expire
returns-in-Some-Expire c =
    keyword_gives (names_of c.args.config.now) c.args.line.now c.cut.result.0.now
    (parts_after 32 c.cut.result.1) c.keyword_of.result _ (Ok c.expire.result) c.cut.ensures
    c.keyword_of.ensures (c.in-Some-Expire.is ∙ ap Some c.in-Some-Expire.field-0-is)
    (line_gives c.expire.result _ c.expire.ensures)

pub returns-in-Some-Fail : goal.returns-in-Some-Fail
returns-in-Some-Fail c =
    keyword_gives (names_of c.args.config.now) c.args.line.now c.cut.result.0.now
    (parts_after 32 c.cut.result.1) c.keyword_of.result _ (Ok c.fail.result) c.cut.ensures
    c.keyword_of.ensures (c.in-Some-Fail.is ∙ ap Some c.in-Some-Fail.field-0-is)
    (line_gives c.fail.result _ (rw c.deref-in-Some-Fail.ensures.value at c.fail.ensures))

pub returns-in-Some-Restart : goal.returns-in-Some-Restart
returns-in-Some-Restart c =
    keyword_gives (names_of c.args.config.now) c.args.line.now c.cut.result.0.now
    (parts_after 32 c.cut.result.1) c.keyword_of.result _ (Ok c.alone.result) c.cut.ensures
    c.keyword_of.ensures (c.in-Some-Restart.is ∙ ap Some c.in-Some-Restart.field-0-is)
    (line_gives c.alone.result _ c.alone.ensures)

pub returns-in-Some-Crash : goal.returns-in-Some-Crash
returns-in-Some-Crash c =
    keyword_gives (names_of c.args.config.now) c.args.line.now c.cut.result.0.now
    (parts_after 32 c.cut.result.1) c.keyword_of.result _ (Ok c.crash.result)
    c.cut.ensures c.keyword_of.ensures (c.in-Some-Crash.is ∙ ap Some c.in-Some-Crash.field-0-is)
    (line_gives c.crash.result _ (rw c.deref-in-Some-Crash.ensures.value at c.crash.ensures))

pub returns-in-Some-Report : goal.returns-in-Some-Report
returns-in-Some-Report c =
    keyword_gives (names_of c.args.config.now) c.args.line.now c.cut.result.0.now
    (parts_after 32 c.cut.result.1) c.keyword_of.result _ (Ok c.alone-in-Some-Report.result)
    c.cut.ensures c.keyword_of.ensures (c.in-Some-Report.is ∙ ap Some c.in-Some-Report.field-0-is)
    (line_gives c.alone-in-Some-Report.result _ c.alone-in-Some-Report.ensures)
