-- A pop, an answer, and the writer out of its group writer and back.
use Rattle.std.proofs.Common.{◌≡◌, ◌<◌, ◌≤◌, ℕ, true, false, List, Option, None, Some, Vec, refl}
use Rattle.std.proofs.Common.{sym, ap, subst, ◌∙◌, Bool}
use Rattle.std.proofs.Math.ListN.{length-set, set}
use Rattle.std.proofs.lemmas.Bool.{le-leb, le-ltb, lt-leb, lt-ltb}
use Rattle.std.proofs.lemmas.Option.{slice_get-get_or}
use Rattle.std.specs.Prelude.{length, map, slice_get, get_or, vec_len, nat_le, nat_lt}
use Rattle.std.specs.Vec.{with_item}
use Rattle.std.specs.declared.alloc.Global.{Global}
use Rattle.article_verdict.proofs.SoundTerms.{are_sound}
use Rattle.article_verdict.specs.Config.{terms_of}
use Rattle.block_shelf.specs.Calls.{token_of}
use Rattle.block_shelf.specs.Keeping.{KeepsTexts}
use Rattle.block_shelf.specs.Openings.{Opening}
use Rattle.block_shelf.specs.declared.buffer_set.Begun.{Begun}
use Rattle.block_shelf.specs.Leaving.{honestly}
use Rattle.buffer_group.specs.Jobs.{job_view}
use Rattle.buffer_group.specs.Writers.{writer_view}
use Rattle.buffer_group.specs.declared.job.Job.{Job}
use Rattle.buffer_group.specs.declared.writer.Writer.{Writer}
use Rattle.buffer_group.specs.declared.writer.Writer.TheVariants as code
use Rattle.cyc_block.specs.declared.store.BlockStore.{Ghosts}
use Rattle.peer_session.specs.Session.{outcome_view}
use Rattle.peer_session.specs.declared.steps.Outcome.{Outcome}
use Rattle.peer_session.specs.declared.steps.Outcome.TheVariants as outcomes
use Rattle.relay_conf.specs.declared.settings.Config.{Config}
use Rattle.relay_facts.proofs.Puts.{put_at_here, put_at_there}
use Rattle.relay_facts.proofs.Runs.{step_well}
use Rattle.relay_model.specs.Run as run
use Rattle.relay_model.specs.Run.{first_of_two, refusal}
use Rattle.relay_model.specs.State as model
use Rattle.relay_model.specs.State.{Kept, put_at}
use Rattle.relay_model.specs.Terms.{Terms, last_moment}
use Rattle.relay_model.specs.World as world
use Rattle.relay_model.specs.World.{World}
use Rattle.relay_model.specs.Writers as writers
use Rattle.relay_model.specs.Writers.{popped, answered}
use Rattle.relay_core.specs.Peers.{TellsPeer, peer_at, with_slot}
use Rattle.relay_core.specs.declared.peers.Peer.{Peer}
use Rattle.relay_core.specs.declared.peers.Peers.{Peers}
use Rattle.relay_core.proofs.GroupWriters.{get_other, get_same, group_writer_at, same_or_other}
use Rattle.relay_core.proofs.Turning.{refused}
use Rattle.relay_core.proofs.Writers.{group_writers_same, openings_stay}
use Rattle.relay_core.specs.Agreement.{AgreesBy, GroupWriterIs, PeerIs}
use Rattle.relay_core.specs.Openings.{opening_of}
use Rattle.relay_core.specs.Queues.{IsPopped, jobs_of}
use Rattle.relay_core.specs.Sharing.{KeepsFrame}
use Rattle.relay_core.specs.Writing.{Advances, WriterOut, writer_of}
use Rattle.relay_core.specs.declared.event.CoreError.TheVariants as faults
use Rattle.relay_core.specs.declared.event.Output.TheVariants as outputs
use Rattle.relay_core.specs.declared.queue.Queue.{Queue}
use Rattle.relay_core.specs.declared.system.GroupWriter.{GroupWriter}
use Rattle.relay_core.specs.declared.system.System.{System}
use Rattle.relay_core.specs.Steps.{StepsAs}

some_is : {A : Type 0} → (a b : A) → Some a ≡ Some b → a ≡ b
some_is a b e = cc

-- a group writer of the code is within its list
pub inside_of : (group_writers : Vec GroupWriter Global) (h : ℕ) → h < vec_len group_writers
    → h < length group_writers.items
inside_of group_writers h within = subst (λ (k : ℕ). h < k) group_writers.ok.0 within

-- what an outcome leaves of a peer
told_here : (w : Terms) (kept : List Kept) (at : Option Peer) (session : Option model.Session)
    (slot : Option world.Outcome) (outcome : Outcome) → PeerIs true w kept at session slot
    → PeerIs true w kept (with_slot at outcome) session (Some (outcome_view outcome))
told_here w kept None session slot outcome h = h
told_here w kept (Some peer) session slot outcome h = (
  h.0,
  h.1,
  record {
    gathered = h.2.gathered;
    stands = h.2.stands;
    fronts = h.2.fronts;
    slot_is = refl;
  },
  h.3,
)

module _ {S : Type 0} {g : Ghosts S} (h now : ℕ) (old : System S g) where
  abbrev w : Terms
  w = terms_of old.config

  -- the oldest job is taken
  popped_one : (group_writer : GroupWriter) (job : Job) (queue : Queue)
      → h < length old.group_writers.items
      → group_writer ≡ get_or old.group_writers.items h group_writer
      → IsPopped (jobs_of group_writer.queue) (Some job) (jobs_of queue)
      → Advances h now code.Idle old (code.Popped job) (record old {
        group_writers =
            with_item old.group_writers h (record { queue = queue; writer = group_writer.writer });
      })
  popped_one group_writer job queue inside at pops = λ leaving x out well.
      let there : slice_get old.group_writers.items h ≡ Some group_writer =
      slice_get-get_or old.group_writers.items h group_writer inside ∙ ap Some (sym at) in
      let rest : List model.Job = map job_view (jobs_of queue) in
      let one : GroupWriter = record { queue = queue; writer = group_writer.writer } in
      let u : world.Writer = world.Popped (job_view job) in
      let T : (ℕ → Option Opening)
      → Type 0 = λ o. KeepsTexts (honestly leaving) old.buffer_set w x.state.begun
      x.state.kept o x.work.failures in
      record {
        after = popped x h (job_view job) rest;
        writes = writers.Pops (job_view job) rest out.writer_is
            (out.queue group_writer there ∙ ap (λ js. map job_view js) pops) refl;
        out = record {
          newest = out.newest;
          claims = out.claims;
          count = length-set old.group_writers.items h one ∙ out.count;
          queue = λ other at'.
              put_at_here x.work.queue h rest h refl
              ∙ ap (λ (l : GroupWriter). map job_view (jobs_of l.queue))
              (some_is one other (sym (get_same old.group_writers.items h one inside) ∙ at'));
          writer_is = put_at_here x.work.writer h u h refl;
          group_writers = λ k differ.
              let P : Option GroupWriter
              → Type 0 = λ o. GroupWriterIs o (put_at x.work.queue h rest k)
              (put_at x.work.writer h u k) in
              let Q : List model.Job
              → Type 0 = λ q. GroupWriterIs (slice_get old.group_writers.items k) q
              (put_at x.work.writer h u k) in
              subst P (sym (get_other old.group_writers.items h one k differ))
              (subst Q (sym (put_at_there x.work.queue h rest k differ))
              (group_writers_same w h code.Idle old x out u k differ));
          desk = out.desk;
          expirer = out.expirer;
          buffer_set = subst T (openings_stay x.work.writer h u (ap opening_of out.writer_is))
              out.buffer_set;
          peers = out.peers;
        };
      }

  -- no job waits
  none_popped : (group_writer : GroupWriter) (queue : Queue)
      → h < length old.group_writers.items
      → group_writer ≡ get_or old.group_writers.items h group_writer
      → IsPopped (jobs_of group_writer.queue) None (jobs_of queue)
      → Advances h now code.Idle old code.Idle (record old {
        group_writers =
            with_item old.group_writers h (record { queue = queue; writer = group_writer.writer });
      })
  none_popped group_writer queue inside at pops = λ leaving x out well.
      let there : slice_get old.group_writers.items h ≡ Some group_writer =
      slice_get-get_or old.group_writers.items h group_writer inside ∙ ap Some (sym at) in
      let one : GroupWriter = record { queue = queue; writer = group_writer.writer } in
      record {
        after = x;
        writes = writers.NoJob out.writer_is
            (out.queue group_writer there ∙ ap (λ js. map job_view js) pops.0) refl;
        out = record {
          newest = out.newest;
          claims = out.claims;
          count = length-set old.group_writers.items h one ∙ out.count;
          queue = λ other at'.
              out.queue group_writer there ∙ ap (λ js. map job_view js) (pops.0 ∙ sym pops.1)
              ∙ ap (λ (l : GroupWriter). map job_view (jobs_of l.queue))
              (some_is one other (sym (get_same old.group_writers.items h one inside) ∙ at'));
          writer_is = out.writer_is;
          group_writers = λ k differ.
              let P : Option GroupWriter
              → Type 0 = λ o. GroupWriterIs o (x.work.queue k) (x.work.writer k) in
              subst P (sym (get_other old.group_writers.items h one k differ))
              (out.group_writers k differ);
          desk = out.desk;
          expirer = out.expirer;
          buffer_set = out.buffer_set;
          peers = out.peers;
        };
      }

  -- the oldest job is taken, if there is one
  pub popped_job : (group_writer : GroupWriter) (job : Option Job) (queue : Queue)
      (writer : Writer Begun)
      → h < length old.group_writers.items
      → group_writer ≡ get_or old.group_writers.items h group_writer
      → IsPopped (jobs_of group_writer.queue) job (jobs_of queue) → writer ≡ writer_of job
      → Advances h now code.Idle old writer (record old {
        group_writers =
            with_item old.group_writers h (record { queue = queue; writer = group_writer.writer });
      })
  popped_job group_writer job queue writer inside at pops is =
      subst (λ v. Advances h now code.Idle old v (record old {
        group_writers =
            with_item old.group_writers h (record { queue = queue; writer = group_writer.writer });
      })) (sym is) (by_job job pops)
    where
      by_job : (o : Option Job) → IsPopped (jobs_of group_writer.queue) o (jobs_of queue)
          → Advances h now code.Idle old (writer_of o) (record old {
            group_writers =
                with_item old.group_writers h
                (record { queue = queue; writer = group_writer.writer });
          })
      by_job None none = none_popped group_writer queue inside at none
      by_job (Some one) some = popped_one group_writer one queue inside at some

  told_out : {leaving : Bool} (s : ℕ) (outcome : Outcome) (v : Writer Begun) (x : World)
      (peers : Peers)
      → TellsPeer s outcome old.peers peers → opening_of (writer_view token_of v) ≡ None
      → WriterOut leaving w h v old x
      → WriterOut leaving w h code.Idle (record old { peers = peers })
      (answered x h s (outcome_view outcome))
  told_out {leaving} s outcome v x peers tells none out =
      let T : (ℕ → Option Opening)
      → Type 0 = λ o. KeepsTexts (honestly leaving) old.buffer_set w x.state.begun
      x.state.kept o x.work.failures in
      let told = put_at x.work.slot s (Some (outcome_view outcome)) in
      record {
        newest = out.newest;
        claims = out.claims;
        count = out.count;
        queue = out.queue;
        writer_is = put_at_here x.work.writer h world.Idle h refl;
        group_writers = group_writers_same w h v old x out world.Idle;
        desk = out.desk;
        expirer = out.expirer;
        buffer_set = subst T (openings_stay x.work.writer h world.Idle
            (ap opening_of out.writer_is ∙ none)) out.buffer_set;
        peers = λ k. same_or_other k s
            (λ same.
            let P : ℕ → Type 0 = λ i. PeerIs true w x.state.kept (peer_at peers i)
            (x.state.session i) (told i) in
            let Q : Option Peer → Type 0 = λ o. PeerIs true w x.state.kept o
            (x.state.session s) (told s) in
            let R : Option world.Outcome → Type 0 = λ o. PeerIs true w x.state.kept
            (with_slot (peer_at old.peers s) outcome) (x.state.session s) o in
            subst P (sym same) (subst Q (sym tells.here)
            (subst R (sym (put_at_here x.work.slot s (Some (outcome_view outcome)) s refl))
            (told_here w x.state.kept (peer_at old.peers s) (x.state.session s) (x.work.slot s)
            outcome (out.peers s)))))
            (λ differ.
            let Q : Option Peer → Type 0 = λ o. PeerIs true w x.state.kept o
            (x.state.session k) (told k) in
            let R : Option world.Outcome → Type 0 = λ o. PeerIs true w x.state.kept
            (peer_at old.peers k) (x.state.session k) o in
            subst Q (sym (tells.others k differ))
            (subst R (sym (put_at_there x.work.slot s (Some (outcome_view outcome)) k differ))
            (out.peers k)));
      }

  -- the session is told that its article is kept
  pub told_kept : (s : ℕ) (peers : Peers) → TellsPeer s outcomes.Kept old.peers peers
      → Advances h now (code.Settled s) old code.Idle (record old { peers = peers })
  told_kept s peers tells = λ leaving x out well.
      record {
        after = answered x h s world.IsKept;
        writes = writers.TellsKept s out.writer_is refl;
        out = told_out s outcomes.Kept (code.Settled s) x peers tells refl out;
      }

  -- and that it isn't
  pub told_failed : (s : ℕ) (peers : Peers) → TellsPeer s outcomes.Failed old.peers peers
      → Advances h now (code.Forgotten s) old code.Idle (record old { peers = peers })
  told_failed s peers tells = λ leaving x out well.
      record {
        after = answered x h s world.HasFailed;
        writes = writers.TellsFailed s out.writer_is refl;
        out = told_out s outcomes.Failed (code.Forgotten s) x peers tells refl out;
      }

module _ {S : Type 0} {g : Ghosts S} where
  -- by what the code learnt of the writer
  pub as_taken : (h now : ℕ) (v u : Writer Begun) (old : System S g) (v' : Writer Begun)
      (new : System S g) → v ≡ u → Advances h now u old v' new → Advances h now v old v' new
  as_taken h now v u old v' new e advances =
      let P : Writer Begun → Type 0 = λ z. Advances h now z old v' new in
      subst P (sym e) advances

  -- the writer is taken out of its group writer
  taken_out : {leaving : Bool} (w : Terms) (h : ℕ) (old : System S g) (x : World)
      (group_writer idle : GroupWriter)
      → h < length old.group_writers.items
      → group_writer ≡ get_or old.group_writers.items h group_writer
      → idle.queue ≡ group_writer.queue → AgreesBy (honestly leaving) w old x
      → WriterOut leaving w h group_writer.writer
      (record old { group_writers = with_item old.group_writers h idle }) x
  taken_out w h old x group_writer idle inside at same agrees =
      let here : GroupWriterIs (Some group_writer) (x.work.queue h) (x.work.writer h) =
      group_writer_at old.group_writers.items h group_writer _ _
      inside at (agrees.core.group_writers h) in
      record {
        newest = agrees.core.newest;
        claims = agrees.core.claims;
        count = length-set old.group_writers.items h idle ∙ agrees.core.count;
        queue = λ other at'.
            here.0 ∙ ap (λ q. map job_view (jobs_of q)) (sym same)
            ∙ ap (λ (l : GroupWriter). map job_view (jobs_of l.queue))
            (some_is idle other (sym (get_same old.group_writers.items h idle inside) ∙ at'));
        writer_is = here.1;
        group_writers = λ k differ.
            let P : Option GroupWriter
            → Type 0 = λ o. GroupWriterIs o (x.work.queue k) (x.work.writer k) in
            subst P (sym (get_other old.group_writers.items h idle k differ))
            (agrees.core.group_writers k);
        desk = agrees.core.desk;
        expirer = agrees.core.expirer;
        buffer_set = agrees.core.buffer_set;
        peers = agrees.peers;
      }

  -- the writer is taken out of its group writer, goes on, and is put back
  pub written : (h now : ℕ) (old : System S g) (group_writer idle : GroupWriter)
      (advanced : System S g)
      (writer : Writer Begun) (last done : GroupWriter) → h < length old.group_writers.items
      → now ≤ last_moment → group_writer ≡ get_or old.group_writers.items h group_writer
      → idle.queue ≡ group_writer.queue
      → Advances h now group_writer.writer
      (record old { group_writers = with_item old.group_writers h idle }) writer
      advanced
      → KeepsFrame (record old { group_writers = with_item old.group_writers h idle }) advanced
      → last ≡ get_or advanced.group_writers.items h last → done.queue ≡ last.queue
      → done.writer ≡ writer
      → StepsAs (run.Write h now) old outputs.Quiet
      (record advanced { group_writers = with_item advanced.group_writers h done })
  written h now old group_writer idle advanced writer last done inside in_time at same
      advances frame at'
      same' is = λ leaving x agrees.
      let w : Terms = terms_of old.config in
      let a = advances leaving x
      (taken_out w h old x group_writer idle inside at same agrees) agrees.well in
      let out = a.out in
      let count : length advanced.group_writers.items ≡ length old.group_writers.items =
      frame.group_writers ∙ length-set old.group_writers.items h idle in
      let inside' : h < length advanced.group_writers.items =
      subst (λ (k : ℕ). h < k) (sym count) inside in
      let there : slice_get advanced.group_writers.items h ≡ Some last =
      slice_get-get_or advanced.group_writers.items h last inside' ∙ ap Some (sym at') in
      let one : nat_lt h (length w.groups) ≡ true =
      lt-ltb h _ (subst (λ (k : ℕ). h < k) agrees.core.count inside) in
      let other : nat_le now last_moment ≡ true = le-leb now last_moment in_time in
      let open_one : refusal w x.state (run.Write h now) ≡ None =
      λ i. first_of_two (one i) world.NoGroup (other i) world.BadMoment in
      let step : run.Step w x (run.Write h now) world.Quiet a.after =
      run.IsDone open_one (refl, a.writes) in
      let new : System S g =
      record advanced { group_writers = with_item advanced.group_writers h done } in
      let C : Config → Type 0 = λ c. AgreesBy (honestly leaving) (terms_of c) new a.after in
      let P : ℕ → Type 0 =
      λ k. GroupWriterIs (slice_get (set advanced.group_writers.items h done) k)
      (a.after.work.queue k) (a.after.work.writer k) in
      record {
        after = a.after;
        agrees = subst C (sym frame.config) (record {
          core = record {
            newest = out.newest;
            claims = out.claims;
            count = length-set advanced.group_writers.items h done ∙ out.count;
            group_writers = λ k. same_or_other k h
                (λ here.
                let Q : Option GroupWriter → Type 0 = λ o. GroupWriterIs o (a.after.work.queue h)
                (a.after.work.writer h) in
                subst P (sym here)
                (subst Q (sym (get_same advanced.group_writers.items h done inside')) (
                  out.queue last there ∙ ap (λ q. map job_view (jobs_of q)) (sym same'),
                  out.writer_is ∙ ap (writer_view token_of) (sym is),
                )))
                (λ differ.
                let Q : Option GroupWriter → Type 0 = λ o. GroupWriterIs o (a.after.work.queue k)
                (a.after.work.writer k) in
                subst Q (sym (get_other advanced.group_writers.items h done k differ))
                (out.group_writers k differ));
            desk = out.desk;
            expirer = out.expirer;
            buffer_set = out.buffer_set;
          };
          peers = out.peers;
          well = step_well w x a.after (run.Write h now) world.Quiet (are_sound old.config)
              agrees.well step;
        });
        is_step = step;
      }

  -- there is no such group
  pub no_group : (s : System S g) (h now : ℕ) → length s.group_writers.items ≤ h
      → StepsAs (run.Write h now) s (outputs.Refused faults.NoGroup) s
  no_group s h now past = refused (run.Write h now) faults.NoGroup s (λ leaving x agrees.
      let none : nat_lt h (length (terms_of s.config).groups) ≡ false =
      le-ltb h _ (subst (λ (k : ℕ). k ≤ h) agrees.core.count past) in
      ap (λ b. first_of_two b world.NoGroup (nat_le now last_moment) world.BadMoment) none)

  -- it is too late
  pub late_write : (s : System S g) (h now : ℕ) → h < length s.group_writers.items
      → last_moment < now
      → StepsAs (run.Write h now) s (outputs.Refused faults.BadMoment) s
  late_write s h now within late = refused (run.Write h now) faults.BadMoment s (λ leaving x agrees.
      let one : nat_lt h (length (terms_of s.config).groups) ≡ true =
      lt-ltb h _ (subst (λ (k : ℕ). h < k) agrees.core.count within) in
      let past : nat_le now last_moment ≡ false = lt-leb now last_moment late in
      λ i. first_of_two (one i) world.NoGroup (past i) world.BadMoment)
