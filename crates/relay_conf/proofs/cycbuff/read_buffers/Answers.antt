use Rattle.std.proofs.Common.{sym, vec_items, vec_len, Global, arith}
use Rattle.std.proofs.lemmas.Bool.{eqb-true, eqb-false}
use Rattle.relay_conf.specs.Cycbuff.{early_fault}
use Rattle.relay_conf.specs.CycbuffDraft.{HasBuffers}
use Rattle.relay_conf.specs.Lines.{lines_of}
use Rattle.relay_conf.specs.declared.cycbuff.BufferConf.{BufferConf}
use Rattle.relay_conf.proofs.CycbuffReadings.{draft_error, names_decide}
use Rattle.relay_conf.proofs.cycbuff.read_buffers.Goals as goal

pub returns-in_err-draft : goal.returns-in_err-draft
returns-in_err-draft c =
    draft_error (vec_items {X = BufferConf} {Z = Global}) early_fault HasBuffers
    (lines_of c.args.text.now) c.in_err-draft.field-0.0 c.from_residual.result _
    c.from_residual.ensures.1 (c.in_err-draft.ensures c.new.ensures)

pub returns-then-is_empty : goal.returns-then-is_empty
returns-then-is_empty c =
    let draft = c.in_ok-draft.draft in
    (names_decide (lines_of c.args.text.now) draft (c.in_ok-draft.ensures c.new.ensures)).0
    (omega (arith, draft.names.ok.0, eqb-true (vec_len draft.names) 0 (sym c.if-is_empty.ensures)))

pub returns : goal.returns
returns c =
    let draft = c.in_ok-draft.draft in
    (names_decide (lines_of c.args.text.now) draft (c.in_ok-draft.ensures c.new.ensures)).1
    (λ e. eqb-false (vec_len draft.names) 0 (sym c.if-is_empty.ensures)
    (omega (arith, e, draft.names.ok.0)))
