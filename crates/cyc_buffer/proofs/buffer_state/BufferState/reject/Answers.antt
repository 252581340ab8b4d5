-- A register takes back the article that begins at a token's place.
use Rattle.std.proofs.Common.{◌∙◌, ◌-◌, ap, sym}
use Rattle.std.proofs.lemmas.Bool.{false≢true}
use Rattle.cyc_token.specs.Token.{token_view}
use Rattle.cyc_buffer.specs.declared.buffer_state.Counts.{Counts}
use Rattle.cyc_buffer.proofs.Rejected.{keeps_without}
use Rattle.cyc_buffer.proofs.RejectMarks.{live_marked, marked_live}
use Rattle.cyc_buffer.proofs.buffer_state.BufferState.reject.Goals as goal

-- a live article has its marks
pub returns-then-not-has_begin-clause-rejected : goal.returns-then-not-has_begin-clause-rejected
returns-then-not-has_begin-clause-rejected c h keeps live =
    absurd (false≢true (sym c.if-not-has_begin.true
    ∙ c.has_begin.ensures.1 (live_marked c.args.self.now h keeps c.args.token.now live)))

pub returns-clause-rejected : goal.returns-clause-rejected
returns-clause-rejected c h keeps live =
    keeps_without c.args.self.now _ h (token_view c.args.token.now) c.end_of-end.result keeps live
    c.args.self.now.line.within c.end_of-end.ensures.ends c.unmark.ensures.line
    c.unmark.ensures.progress c.unmark.ensures.starts c.unmark.ensures.kept
    (ap (λ (n : Counts). n.begun) c.unmark.ensures.counts)
    (c.saturating_sub-self.ensures ∙ ap (λ (n : Counts). n.stored - 1) c.unmark.ensures.counts)

-- what is marked is a live article
pub returns-clause-unknown : goal.returns-clause-unknown
returns-clause-unknown c h keeps none =
    absurd (none (marked_live c.args.self.now h keeps c.args.token.now
    (c.has_begin.ensures.0 c.if-not-has_begin.false)))
