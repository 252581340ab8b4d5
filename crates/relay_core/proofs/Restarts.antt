-- A Restart: what it is answered, and what that leaves.
use Rattle.std.proofs.Common.{◌≡◌, ◌∙◌, ℕ, true, false, List, Option, refl}
use Rattle.std.proofs.Common.{sym, ap, subst, le_refl, true≢false, length}
use Rattle.std.specs.Prelude.{Result, Err}
use Rattle.article_verdict.proofs.SoundTerms.{are_sound}
use Rattle.article_verdict.specs.Config.{terms_of}
use Rattle.block_shelf.specs.Keeping.{KeepsTexts}
use Rattle.block_shelf.specs.Openings.{Opening}
use Rattle.block_shelf.specs.declared.buffer_set.BufferSet.{BufferSet}
use Rattle.cyc_block.specs.declared.store.BlockStore.{Ghosts}
use Rattle.feed_queue.specs.Feeds.{KeepsFeeds}
use Rattle.feed_queue.specs.Left.{AreLeft}
use Rattle.id_history.specs.History as texts
use Rattle.id_history.specs.declared.fault.HistoryError.{HistoryError}
use Rattle.id_history.specs.declared.fault.HistoryError.TheVariants as errors
use Rattle.id_history.specs.Lasting.{AreLasting}
use Rattle.id_history.specs.Mark.{mark_of}
use Rattle.id_history.proofs.LastingLaws.{lasting-restart}
use Rattle.relay_facts.proofs.Runs.{step_well}
use Rattle.relay_model.specs.Run as run
use Rattle.relay_model.specs.Run.{restarted}
use Rattle.relay_model.specs.Terms.{Terms}
use Rattle.relay_model.specs.World as world
use Rattle.relay_model.specs.World.{Fault, World, with_failures}
use Rattle.relay_core.specs.Peers.{NoPeers, peer_at}
use Rattle.relay_core.specs.declared.peers.Peers.{Peers}
use Rattle.relay_core.proofs.Beginnings.{idle_group_writers, rings_are}
use Rattle.relay_core.proofs.Records.{record_holds}
use Rattle.relay_core.proofs.Refusing.{never_refuses}
use Rattle.relay_core.proofs.Starts.{nobody}
use Rattle.relay_core.proofs.Stops.{closed_texts, nothing_open}
use Rattle.relay_core.specs.Agreement.{ring_sizes, AgreesAs}
use Rattle.relay_core.specs.Desks.{AreOf, Reads}
use Rattle.relay_core.specs.Idle.{TellsIdle}
use Rattle.relay_core.specs.Restarting.{AgreesLater, BeginsAgain, IsOfRestart, IsReread, IsUnread}
use Rattle.relay_core.specs.Restarting.{RestartsRightly, refused_as}
use Rattle.relay_core.specs.Stopping.{Tells, TellsHistory, next_stop, stop_of}
use Rattle.block_shelf.specs.Restarting.{KeepsOn, StaysKept}
use Rattle.relay_core.specs.Views.{fault_view}
use Rattle.relay_core.specs.declared.desks.Desks.{Desks}
use Rattle.relay_core.specs.declared.event.CoreError.{CoreError}
use Rattle.relay_core.specs.declared.event.CoreError.TheVariants as faults
use Rattle.relay_core.specs.declared.event.Output.TheVariants as outputs
use Rattle.block_shelf.specs.declared.restarting.RestartFault.{RestartFault}
use Rattle.block_shelf.specs.declared.restarting.RestartFault.TheVariants as restarts
use Rattle.block_shelf.specs.Leaving.{Trust, honestly}
use Rattle.relay_core.specs.declared.system.System.{System}
use Rattle.relay_core.specs.Steps.{StepsAs}

-- a refusal of the buffer set isn't that an id is being stored
pub not_idle : (fault : RestartFault) → refused_as fault ≡ faults.NotIdle → ⊥
not_idle restarts.Memory e = cc
not_idle restarts.Busy e = cc
not_idle (restarts.Failed number) e = cc

-- what is refused isn't quiet
not_quiet : {A : Type 0} (error : CoreError) → outputs.Refused error ≡ outputs.Quiet → A
not_quiet error is = absurd (cc)

-- the reason of a refusal is its own
same_error : (a b : CoreError) → outputs.Refused a ≡ outputs.Refused b → a ≡ b
same_error a b is = cc

same_fault : (a b : Fault) → world.Refuses a ≡ world.Refuses b → a ≡ b
same_fault a b is = cc

module _ {S : Type 0} {g : Ghosts S} (s : System S g) where
  abbrev w : Terms
  w = terms_of s.config

  -- WHAT IS READ BACK

  -- the text of a relay is that of a history of its configuration
  tells_reads : (stop : ℕ) (text : List ℕ) (trusted : Trust) (x : World) → AgreesAs trusted s x
      → (told : Tells w stop x.state text) → Reads s.config text told.kept
  tells_reads stop text trusted x agrees told =
      record {
        fits = told.fits;
        holds = record_holds s.config x agrees.well told.kept
            (subst (λ ns. AreLeft told.kept.feeds ns x.state.feed)
            (sym (rings_are s.config.relay.feeds.items)) told.history.feeds)
            told.history.ids told.history.positions;
        text_is = told.written;
      }

  -- so it can be read
  pub is_read : (stop : ℕ) (text : List ℕ) → TellsHistory s stop text
      → ((kept : texts.Kept) → Reads s.config text kept → ⊥)
      → (trusted : Trust) (x : World) → AgreesAs trusted s x → ⊥
  is_read stop text tells none trusted x agrees =
      none (tells trusted x agrees).kept
      (tells_reads stop text trusted x agrees (tells trusted x agrees))

  -- why the own text isn't read: memory was refused, if it agrees with a world
  pub unread_of : (stop : ℕ) (text : List ℕ) (error : HistoryError) → TellsHistory s stop text
      → (error ≡ errors.BadHistory → (kept : texts.Kept) → Reads s.config text kept → ⊥)
      → IsUnread s error
  unread_of stop text errors.Memory tells none = tt
  unread_of stop text errors.BadHistory tells none = is_read stop text tells (none refl)

  -- what is read back of the own history is what a Restart leaves
  pub rereads : (stop : ℕ) (text : List ℕ) (kept : texts.Kept) (desks : Desks)
      → TellsHistory s stop text
      → ((one : texts.Kept) → Reads s.config text one → kept ≡ one)
      → AreOf s.config kept (length s.group_writers.items) desks → IsReread s desks
  rereads stop text kept desks tells one_text of =
      record {
        claims = λ trusted x agrees idle.
            let told = tells trusted x agrees in
            let is : kept ≡ told.kept = one_text told.kept
            (tells_reads stop text trusted x agrees told) in
            let lasts = of.claims x.state.claim
            (subst (λ (k : texts.Kept). AreLasting k.ids x.state.claim) (sym is) told.history.ids)
            in
            record {
              agrees = λ id none.
                  lasts.agrees id none ∙ ap mark_of (lasting-restart (x.state.claim id) (idle id));
            };
        desk = λ trusted x agrees.
            let told = tells trusted x agrees in
            let is : kept ≡ told.kept = one_text told.kept
            (tells_reads stop text trusted x agrees told) in
            subst (λ ns. KeepsFeeds desks.desk ns x.state.feed)
            (rings_are s.config.relay.feeds.items)
            (of.desk x.state.feed
            (subst (λ ns. AreLeft kept.feeds ns x.state.feed)
            (sym (rings_are s.config.relay.feeds.items))
            (subst (λ (k : texts.Kept). AreLeft k.feeds (ring_sizes w) x.state.feed) (sym is)
            told.history.feeds)));
        group_writers = of.group_writers;
        expirer = of.expirer;
      }

  -- WHAT IT IS ANSWERED

  -- an id is being stored
  pub busy : TellsIdle s.shards false
      → StepsAs run.Restart s (outputs.Refused faults.NotIdle) s
  busy tells = λ leaving x agrees.
      let one = tells x.state.claim agrees.core.claims in
      record {
        after = x;
        agrees = agrees;
        is_step = run.IsDone refl (run.IsBusy one.0 one.1 refl refl);
      }

  -- memory was refused before a device was called
  pub no_room : StepsAs run.Restart s (outputs.Refused faults.Memory) s
  no_room = λ leaving x agrees.
      record {
        after = x;
        agrees = agrees;
        is_step = run.IsDone refl (run.HasNoRoom x.work.failures (λ b. le_refl _) refl refl);
      }

  -- what is refused in no world that the relay agrees with
  pub never : ((trusted : Trust) (x : World) → AgreesAs trusted s x → ⊥)
      → StepsAs run.Restart s (outputs.Refused faults.NotRestarted) s
  never none = λ leaving x agrees. absurd (none (honestly leaving) x agrees)

  -- what a restart of the buffer set leaves, done or not
  leaves : (trusted : Trust) (x : World) (result : Result (Unit {0}) RestartFault)
      (buffer_set : BufferSet S g) → AgreesAs trusted s x → TellsIdle s.shards true
      → KeepsOn s.buffer_set result buffer_set
      → StaysKept trusted w x.state.begun x.state.kept x.work.failures result buffer_set
  leaves trusted x result buffer_set agrees idle keeps =
      keeps trusted w x.state.begun x.state.kept x.work.failures
      (closed_texts s trusted x agrees (idle x.state.claim agrees.core.claims))

  -- the relay agrees with the world with these failures
  agrees_later : (trusted : Trust) (x : World) (result : Result (Unit {0}) RestartFault)
      (buffer_set : BufferSet S g) → AgreesAs trusted s x → TellsIdle s.shards true
      → (stays : StaysKept trusted w x.state.begun x.state.kept x.work.failures result buffer_set)
      → AgreesAs trusted (record s { buffer_set = buffer_set }) (with_failures x stays.later)
  agrees_later trusted x result buffer_set agrees idle stays =
      let T : (ℕ → Option Opening) → Type 0 = λ all. KeepsTexts trusted buffer_set w x.state.begun
      x.state.kept all stays.later in
      record {
        core = record {
          newest = agrees.core.newest;
          claims = agrees.core.claims;
          count = agrees.core.count;
          group_writers = agrees.core.group_writers;
          desk = agrees.core.desk;
          buffer_set = subst T (sym (nothing_open w x (idle x.state.claim agrees.core.claims)
              agrees.well)) stays.keeps;
          expirer = agrees.core.expirer;
        };
        peers = agrees.peers;
        well = step_well w x (with_failures x stays.later) run.Restart
            (world.Refuses world.Memory) (are_sound s.config) agrees.well
            (run.IsDone refl (run.HasNoRoom stays.later stays.rises refl refl));
      }

  -- a buffer isn't restarted
  pub refused_there : (result : Result (Unit {0}) RestartFault) (fault : RestartFault)
      (buffer_set : BufferSet S g) → TellsIdle s.shards true
      → KeepsOn s.buffer_set result buffer_set
      → result ≡ Err fault
      → StepsAs run.Restart s (outputs.Refused (refused_as fault))
      (record s { buffer_set = buffer_set })
  refused_there result restarts.Memory buffer_set idle keeps is = λ leaving x agrees.
      let stays = leaves (honestly leaving) x result buffer_set agrees idle keeps in
      record {
        after = with_failures x stays.later;
        agrees = agrees_later (honestly leaving) x result buffer_set agrees idle stays;
        is_step = run.IsDone refl (run.HasNoRoom stays.later stays.rises refl refl);
      }
  refused_there result restarts.Busy buffer_set idle keeps is = λ leaving x agrees.
      absurd ((leaves (honestly leaving) x result buffer_set agrees idle keeps).free is)
  refused_there result (restarts.Failed number) buffer_set idle keeps is = λ leaving x agrees.
      let stays = leaves (honestly leaving) x result buffer_set agrees idle keeps in
      let at = stays.failed number is refl in
      record {
        after = with_failures x stays.later;
        agrees = agrees_later (honestly leaving) x result buffer_set agrees idle stays;
        is_step = run.IsDone refl (run.HasNot number at.buffer stays.later at.there
            (idle x.state.claim agrees.core.claims) at.failed refl refl);
      }

  -- it is done
  pub done : (result : Result (Unit {0}) RestartFault) (buffer_set : BufferSet S g) (desks : Desks)
      (stop : ℕ) (new : System S g) → TellsIdle s.shards true
      → KeepsOn s.buffer_set result buffer_set
      → IsReread s desks → BeginsAgain desks stop (record s { buffer_set = buffer_set }) new
      → StepsAs run.Restart s outputs.Quiet new
  done result buffer_set desks stop new idle keeps is again =
      subst (λ (t : System S g). StepsAs run.Restart s outputs.Quiet t) (sym again.rest)
      (goes new.peers again.nobody)
    where
      goes : (peers : Peers) → NoPeers peers
          → StepsAs run.Restart s outputs.Quiet (record s {
            buffer_set = buffer_set;
            peers = peers;
            shards = desks.shards;
            desk = desks.desk;
            group_writers = desks.group_writers;
            expirer = desks.expirer;
            stop = stop;
          })
      goes peers none = λ leaving x agrees.
          let stays = leaves (honestly leaving) x result buffer_set agrees idle keeps in
          let idles = idle x.state.claim agrees.core.claims in
          let step : run.Step w x run.Restart world.Quiet (restarted x stays.later) =
          run.IsDone refl (run.IsDone stays.later idles stays.rises refl refl) in
          record {
            after = restarted x stays.later;
            agrees = record {
              core = record {
                newest = agrees.core.newest;
                claims = is.claims (honestly leaving) x agrees idles;
                count = is.group_writers.count_is ∙ agrees.core.count;
                group_writers = idle_group_writers desks.group_writers.items is.group_writers.each;
                desk = is.desk (honestly leaving) x agrees;
                buffer_set = stays.keeps;
                expirer = sym is.expirer;
              };
              peers = λ n. nobody true w x.state.kept (peer_at peers n)
                  (x.state.session n) (none n);
              well = step_well w x (restarted x stays.later) run.Restart world.Quiet
                  (are_sound s.config) agrees.well step;
            };
            is_step = step;
          }

  -- WHAT IT IS REFUSED FOR

  -- a Restart while an id is being stored
  pub rightly_busy : TellsIdle s.shards false
      → RestartsRightly s (outputs.Refused faults.NotIdle) s
  rightly_busy tells =
      record {
        busy = λ claims keeps id storing. refl;
        idle = λ claims keeps is. tells claims keeps;
        same = λ is. refl;
        only = λ fault is.
            subst IsOfRestart (same_fault world.NotIdle fault is) tt;
        kept = λ fault is trusted x agrees.
            record {
              later = x.work.failures;
              rises = λ b. le_refl (x.work.failures b);
              agrees = agrees;
            };
        stays = λ fault is. refl;
        stop = λ is. not_quiet faults.NotIdle is;
      }

  -- one that is refused otherwise
  pub rightly_refused : (error : CoreError) (new : System S g) → TellsIdle s.shards true
      → IsOfRestart (fault_view error) → (error ≡ faults.NotIdle → ⊥)
      → stop_of new ≡ stop_of s
      → ((trusted : Trust) (x : World) → AgreesAs trusted s x → AgreesLater trusted new x)
      → RestartsRightly s (outputs.Refused error) new
  rightly_refused error new idle of other same later =
      record {
        busy = λ claims keeps id storing.
            absurd (true≢false (sym storing ∙ idle claims keeps id));
        idle = λ claims keeps is. absurd (other (same_error error faults.NotIdle is));
        same = λ is. absurd (other (same_error error faults.NotIdle is));
        only = λ fault is. subst IsOfRestart (same_fault (fault_view error) fault is) of;
        kept = λ fault is. later;
        stays = λ fault is. same;
        stop = λ is. not_quiet error is;
      }

  -- the buffer set that is left keeps all
  pub later_of : (result : Result (Unit {0}) RestartFault) (buffer_set : BufferSet S g)
      → TellsIdle s.shards true → KeepsOn s.buffer_set result buffer_set
      → (trusted : Trust) (x : World)
      → AgreesAs trusted s x → AgreesLater trusted (record s { buffer_set = buffer_set }) x
  later_of result buffer_set idle keeps trusted x agrees =
      let stays = leaves trusted x result buffer_set agrees idle keeps in
      record {
        later = stays.later;
        rises = stays.rises;
        agrees = agrees_later trusted x result buffer_set agrees idle stays;
      }

  -- a refusal of the buffer set is one of a Restart
  of_restart : (fault : RestartFault) → IsOfRestart (fault_view (refused_as fault))
  of_restart restarts.Memory = tt
  of_restart restarts.Busy = tt
  of_restart (restarts.Failed number) = tt

  -- one that is refused by the buffer set
  pub rightly_there : (result : Result (Unit {0}) RestartFault) (fault : RestartFault)
      (buffer_set : BufferSet S g) → TellsIdle s.shards true
      → KeepsOn s.buffer_set result buffer_set
      → RestartsRightly s (outputs.Refused (refused_as fault))
      (record s { buffer_set = buffer_set })
  rightly_there result fault buffer_set idle keeps =
      rightly_refused (refused_as fault) (record s { buffer_set = buffer_set }) idle
      (of_restart fault)
      (not_idle fault) refl (later_of result buffer_set idle keeps)

  -- nothing has failed
  pub later_none : (trusted : Trust) (x : World) → AgreesAs trusted s x → AgreesLater trusted s x
  later_none trusted x agrees =
      record {
        later = x.work.failures;
        rises = λ b. le_refl (x.work.failures b);
        agrees = agrees;
      }

  -- one that is done
  pub rightly_done : (new : System S g) → TellsIdle s.shards true
      → stop_of new ≡ next_stop (stop_of s) → RestartsRightly s outputs.Quiet new
  rightly_done new idle raised =
      record {
        busy = λ claims keeps id storing.
            absurd (true≢false (sym storing ∙ idle claims keeps id));
        idle = λ claims keeps is. not_quiet faults.NotIdle (sym is);
        same = λ is. not_quiet faults.NotIdle (sym is);
        only = λ fault is. absurd (never_refuses world.Quiet fault is refl);
        kept = λ fault is. absurd (never_refuses world.Quiet fault is refl);
        stays = λ fault is. absurd (never_refuses world.Quiet fault is refl);
        stop = λ is. raised;
      }
