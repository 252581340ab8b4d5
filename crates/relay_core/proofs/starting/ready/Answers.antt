use Rattle.std.proofs.Common.{◌∙◌, ℕ, List, ap, refl, subst, sym}
use Rattle.id_history.specs.Views.{history_view}
use Rattle.relay_core.proofs.Starts.{ahead_of, history_refused, not_started, rings_hold}
use Rattle.relay_core.proofs.Starts.{unread_or_room}
use Rattle.block_shelf.specs.Each.{AreEach}
use Rattle.block_shelf.specs.Starting.{IsUnwritten, WillKeepHeld}
use Rattle.block_shelf.specs.declared.starting.Unstarted.{Unstarted}
use Rattle.relay_core.proofs.starting.ready.Goals as goal

-- the text isn't read
pub returns-in-Err-clause-refused : goal.returns-in-Err-clause-refused
returns-in-Err-clause-refused g c =
    unread_or_room c.args.config.now c.args.stores.items c.args.text.now c.refused.result
    c.in-Err.error
    (ap (λ (u : Unstarted g.row.S.Denot). u.error) c.refused.ensures ∙ c.unread.ensures)
    (ap (λ (u : Unstarted g.row.S.Denot). u.buffer) c.refused.ensures)
    (ap (λ (u : Unstarted g.row.S.Denot). u.stores.items) c.refused.ensures) c.in-Err.ensures.none

-- a buffer isn't started
pub returns-in-Err-start-clause-refused : goal.returns-in-Err-start-clause-refused
returns-in-Err-start-clause-refused g c =
    not_started c.args.config.now c.args.stores.items c.args.text.now c.in-Err-start.unstarted
    (history_view c.in-Ok.history) c.in-Ok.ensures.reads c.in-Ok.ensures.only
    c.in-Err-start.ensures.refusal c.in-Err-start.ensures.cause

pub desks_behind-requires : goal.desks_behind-requires
desks_behind-requires g c =
    rings_hold c.args.config.now (history_view c.in-Ok.history) c.in-Ok.ensures.reads.holds

-- nothing is made of the history
pub returns-in-Err-desks_behind-clause-refused : goal.returns-in-Err-desks_behind-clause-refused
returns-in-Err-desks_behind-clause-refused g c =
    let error = c.refused-in-Err-desks_behind.ensures in
    history_refused c.args.config.now c.args.stores.items c.args.text.now
    c.refused-in-Err-desks_behind.result (history_view c.in-Ok.history) c.in-Ok-start.unopened
    c.in-Err-desks_behind.fault c.in-Ok.ensures.reads c.in-Ok.ensures.only
    c.in-Ok-start.ensures.started c.in-Ok-start.ensures.held
    c.in-Err-desks_behind.ensures.refused (ap (λ (u : Unstarted g.row.S.Denot). u.error) error)
    (ap (λ (u : Unstarted g.row.S.Denot). u.buffer) error)
    (subst (λ items. AreEach (IsUnwritten g.S.BlockStore _) c.args.stores.items items)
    (sym (ap (λ (u : Unstarted g.row.S.Denot). u.stores.items) error ∙ c.into_stores.ensures))
    c.in-Ok-start.ensures.started.unwritten)

-- all is made of it
pub returns-in-Ok-desks_behind-clause-readied : goal.returns-in-Ok-desks_behind-clause-readied
returns-in-Ok-desks_behind-clause-readied g c =
    let kept = history_view c.in-Ok.history in
    record {
      history = kept;
      reads = c.in-Ok.ensures.reads;
      only = c.in-Ok.ensures.only;
      behind = ahead_of c.args.config.now c.args.stores.items kept c.in-Ok-start.unopened _
          c.in-Ok-desks_behind.ensures.behind c.in-Ok-start.ensures.started
          c.in-Ok-start.ensures.held;
      from_stores = c.in-Ok-start.ensures.started;
      keeps = subst (λ (ps : List ℕ). WillKeepHeld c.args.config.now.buffers c.args.stores.items
          c.in-Ok.history.stop ps c.in-Ok-start.unopened) c.deref.ensures.value
          c.in-Ok-start.ensures.keeps;
      desks = c.in-Ok-desks_behind.ensures.desks;
      stop_is = refl;
      newest_is = refl;
    }
