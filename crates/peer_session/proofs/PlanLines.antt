-- What is due of a session that reads a command, by the line at the front of its unread octets.
use Rattle.std.proofs.Common.{arith, ◌≡◌, ◌∙◌, ◌+◌, nat_lt, true, false, ap, refl, sym, subst}
use Rattle.std.proofs.Common.{inr, take, drop, ℕ, None, if◌then◌else◌}
use Rattle.std.proofs.Common.{Bool, List, Option, Result, Ok, Some, ◌∷◌}
use Rattle.std.proofs.lemmas.Bool.{ltb-true, ltb-false}
use Rattle.cyc_token.specs.Token.{token_view}
use Rattle.news_terms.specs.Command.{Command, CommandFault, command_of}
use Rattle.news_terms.specs.Command as commands
use Rattle.news_terms.specs.Lines.{NextLine, Cut, TooLong, Incomplete, next_line}
use Rattle.news_terms.specs.Reply.{Reply, LineTooLong, SyntaxError}
use Rattle.nntp_text.specs.Command.{part_view}
use Rattle.nntp_text.specs.declared.command.Part.{Part}
use Rattle.relay_model.specs.Asks.{Due, IsDue, IsDueIn, IsDueOfLine, IsDueWhereReady, due_as}
use Rattle.relay_model.specs.Asks.{IsDueAtCommand, run_out, with_offer}
use Rattle.relay_model.specs.Asks as asks
use Rattle.relay_model.specs.State as model
use Rattle.relay_model.specs.State.{OpenOffer, in_phase, with_offers, with_unread}
use Rattle.relay_model.specs.Terms.{Terms}
use Rattle.stream_cut.specs.Stream.{Stream, ShowsLine}
use Rattle.peer_session.specs.Answers.{AsksOf}
use Rattle.peer_session.specs.Asking.{AskedFor, IsAskedBy, IsFetching, IsLeaving, IsLooking}
use Rattle.peer_session.specs.Asking.{IsReleaseOf}
use Rattle.peer_session.specs.Asking.{IsFull, IsNone, IsOffered, IsOffering, IsSaying, IsToken}
use Rattle.peer_session.specs.Planning.{PlanFor, Plans, offering}
use Rattle.peer_session.specs.Session.{HasAll, HasReadNone, gathered_of, passed, phase_view}
use Rattle.peer_session.specs.Session.{session_view}
use Rattle.peer_session.specs.declared.phase.Due.{Due as CodeDue}
use Rattle.peer_session.specs.declared.phase.Phase.TheVariants as phases
use Rattle.peer_session.specs.declared.phase.Todo.{Todo}
use Rattle.peer_session.specs.declared.phase.Todo.TheVariants as todos
use Rattle.peer_session.specs.declared.session.Session.{Session}
use Rattle.peer_session.specs.declared.steps.Step.{Step}
use Rattle.peer_session.specs.declared.steps.Step.TheVariants as steps
use Rattle.peer_session.proofs.PlanCommon.{all_kept, plan_of, stands_so}
use Rattle.peer_session.proofs.OfferLemmas.{ended_first}

-- what is due of a session that reads a command
pub due_at_command : (w : Terms) (session : Session) (now : ℕ)
    (ended : Option (OpenOffer × List OpenOffer)) (d : Due) → session.phase ≡ phases.Ready
    → run_out w.offers now session.offers ≡ ended
    → IsDueAtCommand w (session_view session) now ended d → IsDue w (session_view session) now d
due_at_command w session now ended d ready is due =
    subst (λ phase. IsDueIn w (session_view session) now (phase_view phase) d) (sym ready)
    (subst (λ ended. IsDueAtCommand w (session_view session) now ended d) (sym is) due)

-- what is due of a session that reads a line
pub due_where_ready : (w : Terms) (session : Session) (now : ℕ) (next : NextLine) (d : Due)
    → session.phase ≡ phases.Ready → run_out w.offers now session.offers ≡ None
    → next_line session.cutter.unread ≡ next
    → IsDueWhereReady w (session_view session) now next d → IsDue w (session_view session) now d
due_where_ready w session now next d ready lasting is due =
    due_at_command w session now None d ready lasting
    (subst (λ next. IsDueWhereReady w (session_view session) now next d) (sym is) due)

-- a session that reads a command is in that phase once the line counts as read
pub ready_passed : (read : ℕ) (session : Session) → session.phase ≡ phases.Ready
    → in_phase (passed read session) model.Ready ≡ passed read session
ready_passed read session ready =
    ap (λ phase. in_phase (passed read session) (phase_view phase)) (sym ready)

-- a line that is answered by this reply and nothing more
pub said_asked : (w : Terms) (now : ℕ) (session : Session)
    (asked : Result Command CommandFault) (reply : Reply) (one : Todo × Step)
    → ((read : ℕ) → IsDueOfLine w (passed read session) now asked
    (due_as (asks.Says reply) (passed read session)))
    → IsSaying reply one → IsAskedBy w now session asked one
said_asked w now session asked reply one due saying read ready =
    subst (AskedFor w now read session asked) (sym saying.is) (record {
      due = due_as (asks.Says reply) (passed read session);
      is_due = due read;
      due_is = (
        reply,
        saying.said,
        ap (due_as (asks.Says reply)) (sym (ready_passed read session ready)),
      );
      fits = tt;
      is_step = tt;
      asks_of = tt;
    })

-- a line that is answered by this reply, with which the session leaves
pub left_asked : (w : Terms) (now : ℕ) (session : Session)
    (asked : Result Command CommandFault) (reply : Reply) (one : Todo × Step)
    → ((m : model.Session) → IsDueOfLine w m now asked (due_as (asks.Leaves reply) m))
    → IsLeaving reply one → IsAskedBy w now session asked one
left_asked w now session asked reply one due leaving read ready =
    subst (AskedFor w now read session asked) (sym leaving.is) (record {
      due = due_as (asks.Leaves reply) (passed read session);
      is_due = due (passed read session);
      due_is = (reply, leaving.said, refl);
      fits = tt;
      is_step = tt;
      asks_of = tt;
    })

-- TAKETHIS: a block is owed
pub owed_asked : (w : Terms) (now : ℕ) (session : Session) (id : Option (List ℕ))
    → IsAskedBy w now session (Ok (commands.TakeThis id)) (todos.Owe id, steps.Nothing)
owed_asked w now session id read ready = record {
  due = due_as asks.GoesOn (in_phase (passed read session) (model.AwaitsBlock model.TakesThis id));
  is_due = refl;
  due_is = refl;
  fits = tt;
  is_step = tt;
  asks_of = tt;
}

-- a fetch of a message-id
pub look_asked_so : (w : Terms) (now : ℕ) (session : Session) (part : Part) (id : List ℕ)
    (one : Todo × Step) → IsLooking part id one
    → IsAskedBy w now session (Ok (commands.Fetch (part_view part) id)) one
look_asked_so w now session part id one looking read ready =
    subst (AskedFor w now read session (Ok (commands.Fetch (part_view part) id)))
    (sym looking) (record {
      due = due_as (asks.Looks (part_view part) id) (passed read session);
      is_due = refl;
      due_is = refl;
      fits = ready;
      is_step = (part_view part, refl);
      asks_of = tt;
    })

-- what is due of an id that is offered, by whether a further offer may be opened
abbrev by_full : model.Transfer → List ℕ → (now : ℕ) → model.Session → (full : Bool) → Due
by_full transfer id now m full =
    if full then due_as (asks.Says (asks.later transfer id)) m
    else due_as (asks.Offers transfer id) (with_offers m (with_offer m.offers id now))

-- CHECK
pub check_asked_so : (w : Terms) (now : ℕ) (session : Session) (id : List ℕ) (one : Todo × Step)
    → IsOffering session.offers now model.TakesThis id one
    → IsAskedBy w now session (Ok (commands.Check id)) one
check_asked_so w now session id one (IsFull full saying) read ready =
    said_asked w now session (Ok (commands.Check id)) (asks.later model.TakesThis id) one
    (λ read. ap (by_full model.TakesThis id now (passed read session)) (sym full)) saying read
    ready
check_asked_so w now session id one (IsOffered free is) read ready =
    subst (AskedFor w now read session (Ok (commands.Check id))) (sym is) (record {
      due = due_as (asks.Offers model.TakesThis id) (offering read session id now);
      is_due = ap (by_full model.TakesThis id now (passed read session)) (sym free);
      due_is = (free, refl);
      fits = ready;
      is_step = (model.TakesThis, refl);
      asks_of = tt;
    })

-- IHAVE
pub ihave_asked_so : (w : Terms) (now : ℕ) (session : Session) (id : List ℕ) (one : Todo × Step)
    → IsOffering session.offers now model.Has id one
    → IsAskedBy w now session (Ok (commands.Ihave id)) one
ihave_asked_so w now session id one (IsFull full saying) read ready =
    said_asked w now session (Ok (commands.Ihave id)) (asks.later model.Has id) one
    (λ read. ap (by_full model.Has id now (passed read session)) (sym full)) saying read ready
ihave_asked_so w now session id one (IsOffered free is) read ready =
    subst (AskedFor w now read session (Ok (commands.Ihave id))) (sym is) (record {
      due = due_as (asks.Offers model.Has id) (offering read session id now);
      is_due = ap (by_full model.Has id now (passed read session)) (sym free);
      due_is = (free, refl, refl);
      fits = ready;
      is_step = (model.Has, refl);
      asks_of = tt;
    })

-- XFETCH
pub fetch_asked : (w : Terms) (now : ℕ) (session : Session) (word : List ℕ) (one : Todo × Step)
    → IsFetching word one → IsAskedBy w now session (Ok (commands.FetchToken word)) one
fetch_asked w now session word one (IsToken token reading asked is one_is) read ready =
    subst (AskedFor w now read session (Ok (commands.FetchToken word))) (sym one_is) (record {
      due = due_as (asks.Reads model.OfToken (token_view token) 0) (passed read session);
      is_due = (asks.Reads model.OfToken (token_view token) 0, asked, refl);
      due_is = (
        ap (λ fetch. fetch.prepared) is,
        ap (λ fetch. fetch.had) is,
        ap (λ fetch. fetch.gathered) is,
        ap (due_as (asks.Reads model.OfToken (token_view token) 0))
            (sym (ready_passed read session ready))
            ∙ ap (λ fetch. due_as (asks.Reads fetch.asked fetch.token 0)
            (in_phase (passed read session) model.Ready)) (sym is),
      );
      fits = ready;
      is_step = (model.OfToken, refl);
      asks_of = inr (refl, refl);
    })
fetch_asked w now session word one (IsNone asked saying) read ready =
    said_asked w now session (Ok (commands.FetchToken word)) SyntaxError one
    (λ m. (asks.Says SyntaxError, asked, refl)) saying read ready

-- what a line asks is planned
pub plans_line : (w : Terms) (session : Session) (now end : ℕ) (one : Todo × Step)
    → session.phase ≡ phases.Ready → run_out w.offers now session.offers ≡ None
    → ShowsLine session.cutter end
    → IsAskedBy w now session (command_of (take end session.cutter.unread)) one
    → Plans w session now (record { todo = one.0; read = end + 2; step = one.1 }) session
plans_line w session now end one ready lasting shows asked =
    let so = asked (end + 2) ready in
    plan_of w session now _ session (λ limit has_all. record {
      stands = stands_so w session limit has_all;
      due = so.due;
      is_due = due_where_ready w session now (Cut (take end session.cutter.unread)
          (drop (session.cutter.dropped + (end + 2)) session.cutter.unread)) so.due ready lasting
          (shows.cut ∙ ap (λ count. Cut (take end session.cutter.unread)
          (drop count session.cutter.unread)) (all_kept session.cutter (end + 2) shows.kept))
          so.is_due;
      due_is = so.due_is;
      fits = so.fits;
      is_step = so.is_step;
      asks_of = subst (λ phase. AsksOf w (session_view session) (gathered_of phase) so.due.ask)
          (sym ready) so.asks_of;
    })

-- no line within the limit comes
pub plans_too_long : (w : Terms) (session : Session) (now : ℕ) (one : Todo × Step)
    → session.phase ≡ phases.Ready → run_out w.offers now session.offers ≡ None
    → session.cutter.dropped ≡ 0
    → next_line session.cutter.unread ≡ TooLong → IsLeaving LineTooLong one
    → Plans w session now (record { todo = one.0; read = 0; step = one.1 }) session
plans_too_long w session now one ready lasting kept too_long leaving =
    plan_of w session now _ session (λ limit has_all.
    subst (λ one. PlanFor w (session_view session) (gathered_of session.phase) now
    (record { todo = one.0; read = 0; step = one.1 }) session) (sym leaving.is) (record {
      stands = stands_so w session limit has_all;
      due = due_as (asks.Leaves LineTooLong) (session_view session);
      is_due = due_where_ready w session now TooLong _ ready lasting too_long refl;
      due_is = (
        LineTooLong,
        leaving.said,
        ap (λ dropped. due_as (asks.Leaves LineTooLong) (with_unread (session_view session)
            (drop (dropped + 0) session.cutter.unread))) (sym kept),
      );
      fits = tt;
      is_step = tt;
      asks_of = tt;
    }))

-- no line is whole
pub rests_ready : (w : Terms) (session : Session) (now : ℕ) → session.phase ≡ phases.Ready
    → run_out w.offers now session.offers ≡ None
    → next_line session.cutter.unread ≡ Incomplete
    → Plans w session now (record { todo = todos.Rest; read = 0; step = steps.Nothing }) session
rests_ready w session now ready lasting incomplete =
    plan_of w session now _ session (λ limit has_all. record {
      stands = stands_so w session limit has_all;
      due = due_as asks.Rests (session_view session);
      is_due = due_where_ready w session now Incomplete _ ready lasting incomplete refl;
      due_is = refl;
      fits = subst HasReadNone (sym ready) tt;
      is_step = tt;
      asks_of = tt;
    })

-- where a command is due all unread octets are kept
pub never_passing : (w : Terms) (session : Session) (now : ℕ) (one : CodeDue)
    → session.phase ≡ phases.Ready → nat_lt 0 session.cutter.dropped ≡ true
    → Plans w session now one session
never_passing w session now one ready passing m gathered stands =
    let kept : session.cutter.dropped ≡ 0 =
    subst (λ phase. HasAll phase session.cutter.dropped) ready stands.has_all in
    absurd (omega (arith, kept, ltb-true 0 session.cutter.dropped passing))

-- where no block is passed all unread octets are kept
pub not_passing : (stream : Stream) → nat_lt 0 stream.dropped ≡ false → stream.dropped ≡ 0
not_passing stream not = omega (arith, ltb-false 0 stream.dropped not)

-- an offer that has run out ends
pub ends_offer : (w : Terms) (session : Session) (now : ℕ) (id : List ℕ)
    (ended : OpenOffer × List OpenOffer) (one : CodeDue) → session.phase ≡ phases.Ready
    → run_out w.offers now session.offers ≡ Some ended → ended.0.id ≡ id → IsReleaseOf id one
    → Plans w session now one session
ends_offer w session now id ended one ready out is asked =
    plan_of w session now one session (λ limit has_all.
    subst (λ one. PlanFor w (session_view session) (gathered_of session.phase) now one session)
    (sym asked) (record {
      stands = stands_so w session limit has_all;
      due = due_as (asks.Releases id) (with_offers (session_view session) ended.1);
      is_due = due_at_command w session now (Some ended) _ ready out
          (ap (λ id. due_as (asks.Releases id) (with_offers (session_view session) ended.1))
          (sym is));
      due_is = (
        id,
        ended.0.since,
        ended.1,
        ended_first w.offers now session.offers ended out
            ∙ ap (λ id. record { id = id; since = ended.0.since } ∷ ended.1) is,
        refl,
      );
      fits = subst HasReadNone (sym ready) tt;
      is_step = refl;
      asks_of = tt;
    }))
