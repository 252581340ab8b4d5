use Rattle.std.proofs.Common.{◌∙◌, ℕ, List, subst, sym}
use Rattle.id_history.specs.Views.{history_view}
use Rattle.relay_core.proofs.Restarts.{rereads, unread_of}
use Rattle.relay_core.proofs.Starts.{rings_hold}
use Rattle.relay_core.specs.Desks.{AreOf}
use Rattle.relay_core.specs.Stopping.{TellsHistory}
use Rattle.relay_core.proofs.system.System.reread.Goals as goal

-- the own text is read, if there is memory
pub returns-in-Err-clause-unread : goal.returns-in-Err-clause-unread
returns-in-Err-clause-unread g c =
    unread_of c.args.self.now c.args.stop c.deref.result.now c.in-Err.error
    (subst (λ (t : List ℕ). TellsHistory c.args.self.now c.args.stop t) (sym c.deref.ensures.value)
    c.in_ok-text.ensures)
    c.in-Err.ensures.none

pub resume-requires : goal.resume-requires
resume-requires g c =
    rings_hold c.args.self.now.config (history_view c.in-Ok.history) c.in-Ok.ensures.reads.holds

-- and all is made of it
pub returns-clause-reread : goal.returns-clause-reread
returns-clause-reread g c =
    rereads c.args.self.now c.args.stop c.deref.result.now (history_view c.in-Ok.history)
    c.in_ok-desks.desks
    (subst (λ (t : List ℕ). TellsHistory c.args.self.now c.args.stop t) (sym c.deref.ensures.value)
    c.in_ok-text.ensures)
    c.in-Ok.ensures.only
    (subst (λ (n : ℕ). AreOf c.args.self.now.config (history_view c.in-Ok.history) n
    c.in_ok-desks.desks) (c.len.ensures ∙ c.args.self.now.group_writers.ok.0) c.in_ok-desks.ensures)
