-- What is due of a session that owes a block, by the block at the front of its unread octets.
use Rattle.std.proofs.Common.{◌≡◌, ◌∙◌, ◌+◌, ap, refl, sym, subst, drop, ℕ, List, Option, None}
use Rattle.std.proofs.Common.{Some, Ok, Err}
use Rattle.buffer_group.specs.Jobs.{article_view}
use Rattle.news_terms.specs.Blocks.{NextBlock, Unfinished, next_block}
use Rattle.news_terms.specs.Reply.{SyntaxError}
use Rattle.article_verdict.specs.Verdict.{reason_view}
use Rattle.relay_model.specs.Asks.{Due, IsDue, IsDueIn, IsDueOfBlock, IsDueWhereOwing, due_as}
use Rattle.relay_model.specs.Asks as asks
use Rattle.relay_model.specs.State as model
use Rattle.relay_model.specs.State.{in_phase, with_unread}
use Rattle.relay_model.specs.Terms.{Terms}
use Rattle.stream_cut.specs.Stream.{AwaitsEnd, Stream}
use Rattle.peer_session.specs.Asking.{IsJudged, IsOwedAsked, IsSaying, IsAwaitingBlock, TextAt}
use Rattle.peer_session.specs.Asking.{next_text}
use Rattle.peer_session.specs.Asking.{IsAccepted, IsRefused}
use Rattle.peer_session.specs.Planning.{PlanFor, Plans, block_passed}
use Rattle.peer_session.specs.Session.{HasAll, HasReadNone, gathered_of, passed, phase_view}
use Rattle.peer_session.specs.Session.{session_view, transfer_view}
use Rattle.peer_session.specs.declared.phase.Phase.TheVariants as phases
use Rattle.peer_session.specs.declared.phase.Transfer.{Transfer}
use Rattle.peer_session.specs.declared.phase.Todo.{Todo}
use Rattle.peer_session.specs.declared.phase.Todo.TheVariants as todos
use Rattle.peer_session.specs.declared.session.Session.{Session}
use Rattle.peer_session.specs.declared.steps.Step.{Step}
use Rattle.peer_session.specs.declared.steps.Step.TheVariants as steps
use Rattle.peer_session.proofs.PlanCommon.{plan_of, stands_so, with_stream}

-- what is due of a session that owes a block
pub due_where_owing : (w : Terms) (session : Session) (now : ℕ) (transfer : Transfer)
    (id : Option (List ℕ)) (next : NextBlock) (d : Due)
    → session.phase ≡ phases.AwaitsBlock transfer id → session.cutter.limit ≡ w.max_article
    → next_block session.cutter.limit session.cutter.unread ≡ next
    → IsDueWhereOwing w (session_view session) now (transfer_view transfer) id next d
    → IsDue w (session_view session) now d
due_where_owing w session now transfer id next d owes limit is due =
    subst (λ phase. IsDueIn w (session_view session) now (phase_view phase) d) (sym owes)
    (subst (λ next. IsDueWhereOwing w (session_view session) now (transfer_view transfer) id next d)
    (sym (ap (λ limit. next_block limit session.cutter.unread) (sym limit) ∙ is)) due)

-- where no block is whole nothing is due
pub rests_owing : (w : Terms) (old : Session) (now : ℕ) (stream : Stream)
    → IsAwaitingBlock old.phase → AwaitsEnd old.cutter stream
    → Plans w old now (record { todo = todos.Rest; read = 0; step = steps.Nothing })
    (with_stream old stream)
rests_owing w old now stream owes waits =
    plan_of w old now _ (with_stream old stream) (λ limit has_all. record {
      stands = record {
        is = same;
        gathers = refl;
        limit = ap (λ stream. stream.limit) waits.left ∙ limit;
        has_all = subst (λ phase. HasAll phase stream.dropped) (sym owes.2) tt;
      };
      due = due_as asks.Rests (session_view old);
      is_due = due_where_owing w old now owes.0 owes.1 Unfinished _ owes.2 limit waits.unfinished
          refl;
      due_is = ap (due_as asks.Rests) same;
      fits = subst HasReadNone (sym owes.2) tt;
      is_step = tt;
      asks_of = tt;
    })
  where
    same : session_view old ≡ session_view (with_stream old stream)
    same = ap (λ unread. with_unread (session_view old) unread)
        (sym (ap (λ stream. stream.unread) waits.left))

-- by a block's text, None where it is oversize
of_text : (w : Terms) (m : model.Session) (now : ℕ) (transfer : model.Transfer)
    (id : Option (List ℕ)) (text : Option (List ℕ)) (rest : List ℕ) (d : Due)
    → IsDueOfBlock w (with_unread m rest) now transfer id text d
    → IsDueWhereOwing w m now transfer id (next_text text rest) d
of_text w m now transfer id None rest d due = due
of_text w m now transfer id (Some text) rest d due = due

-- what is due of a session that owes a block, where one is whole
due_of_block : (w : Terms) (session : Session) (now read : ℕ) (transfer : Transfer)
    (id : Option (List ℕ)) (text : Option (List ℕ)) (d : Due)
    → session.phase ≡ phases.AwaitsBlock transfer id → session.cutter.limit ≡ w.max_article
    → TextAt read text session.cutter
    → IsDueOfBlock w (passed read session) now (transfer_view transfer) id text d
    → IsDue w (session_view session) now d
due_of_block w session now read transfer id text d owes limit text_at due =
    due_where_owing w session now transfer id _ d owes limit text_at
    (of_text w (session_view session) now (transfer_view transfer) id text
    (drop (session.cutter.dropped + read) session.cutter.unread) d due)

-- the block of a TAKETHIS that named no message-id
plans_syntax : (w : Terms) (session : Session) (now read : ℕ) (transfer : Transfer)
    (text : Option (List ℕ)) (one : Todo × Step) → session.phase ≡ phases.AwaitsBlock transfer None
    → TextAt read text session.cutter → IsSaying SyntaxError one
    → Plans w session now (record { todo = one.0; read = read; step = one.1 }) session
plans_syntax w session now read transfer text one owes text_at saying =
    plan_of w session now _ session (λ limit has_all.
    subst (λ one. PlanFor w (session_view session) (gathered_of session.phase) now
    (record { todo = one.0; read = read; step = one.1 }) session) (sym saying.is) (record {
      stands = stands_so w session limit has_all;
      due = due_as (asks.Says SyntaxError) (in_phase (passed read session) model.Ready);
      is_due = due_of_block w session now read transfer None text _ owes limit text_at refl;
      due_is = (SyntaxError, saying.said, refl);
      fits = tt;
      is_step = tt;
      asks_of = tt;
    }))

-- the block of an id, judged
plans_judged : (w : Terms) (session : Session) (now read : ℕ) (transfer : Transfer)
    (id : List ℕ) (text : Option (List ℕ)) (one : Todo × Step)
    → session.phase ≡ phases.AwaitsBlock transfer (Some id) → TextAt read text session.cutter
    → IsJudged w session.peer now id text one
    → Plans w session now (record { todo = one.0; read = read; step = one.1 }) session
plans_judged w session now read transfer id text one owes text_at
    (IsRefused reason judges is) =
    plan_of w session now _ session (λ limit has_all.
    subst (λ one. PlanFor w (session_view session) (gathered_of session.phase) now
    (record { todo = one.0; read = read; step = one.1 }) session) (sym is) (record {
      stands = stands_so w session limit has_all;
      due = due_as (asks.Refuses (transfer_view transfer) id (reason_view reason))
          (block_passed read session id);
      is_due = due_of_block w session now read transfer (Some id) text _ owes limit text_at
          (Err (reason_view reason), judges, refl);
      due_is = (transfer, id, reason_view reason, owes, refl);
      fits = tt;
      is_step = (transfer_view transfer, refl);
      asks_of = tt;
    }))
plans_judged w session now read transfer id text one owes text_at
    (IsAccepted article judges is) =
    plan_of w session now _ session (λ limit has_all.
    subst (λ one. PlanFor w (session_view session) (gathered_of session.phase) now
    (record { todo = one.0; read = read; step = one.1 }) session) (sym is) (record {
      stands = stands_so w session limit has_all;
      due = due_as (asks.Takes (transfer_view transfer) id (article_view article))
          (block_passed read session id);
      is_due = due_of_block w session now read transfer (Some id) text _ owes limit text_at
          (Ok (article_view article), judges, refl);
      due_is = (transfer, owes, refl);
      fits = tt;
      is_step = (transfer_view transfer, article_view article, refl);
      asks_of = tt;
    }))

-- the block that is owed
pub plans_owed : (w : Terms) (session : Session) (now read : ℕ) (transfer : Transfer)
    (id : Option (List ℕ)) (text : Option (List ℕ)) (one : Todo × Step)
    → session.phase ≡ phases.AwaitsBlock transfer id → TextAt read text session.cutter
    → IsOwedAsked w session.peer now id text one
    → Plans w session now (record { todo = one.0; read = read; step = one.1 }) session
plans_owed w session now read transfer None text one owes text_at asked =
    plans_syntax w session now read transfer text one owes text_at asked
plans_owed w session now read transfer (Some id) text one owes text_at asked =
    plans_judged w session now read transfer id text one owes text_at asked
