-- The push of a job.
use Rattle.std.proofs.Common.{◌≡◌, ◌<◌, ◌≤◌, ◌++◌, ◌∷◌, ℕ, Bool, true, false, List, []}
use Rattle.std.proofs.Common.{Option, None, Some, refl, sym, ap, subst, ◌∙◌, arith}
use Rattle.std.proofs.Math.ListN.{length-set}
use Rattle.std.proofs.lemmas.Bool.{le-ltb, leb-false, leb-true, lt-ltb}
use Rattle.std.proofs.lemmas.List.{length-map, map-append}
use Rattle.std.proofs.lemmas.Option.{none-some}
use Rattle.std.specs.Prelude.{nat_le, nat_lt, length, map, get_or}
use Rattle.std.specs.Vec.{with_item}
use Rattle.article_verdict.specs.Config.{terms_of}
use Rattle.buffer_group.specs.Jobs.{job_view}
use Rattle.buffer_group.specs.declared.job.Job.{Job}
use Rattle.cyc_block.specs.declared.store.BlockStore.{Ghosts}
use Rattle.peer_session.specs.Planning.{HandsOver}
use Rattle.peer_session.specs.declared.session.Session.{Session}
use Rattle.peer_session.specs.declared.steps.Answer.TheVariants as answers
use Rattle.peer_session.specs.declared.steps.Step.TheVariants as steps
use Rattle.relay_facts.proofs.Puts.{put_at_here, put_at_there}
use Rattle.relay_model.specs.Asks.{Ask}
use Rattle.relay_model.specs.Shares as shares
use Rattle.relay_model.specs.Shares.{Pushing}
use Rattle.relay_model.specs.State as model
use Rattle.relay_model.specs.Terms.{Terms}
use Rattle.relay_core.specs.declared.peers.Peer.{Peer}
use Rattle.relay_core.proofs.GroupWriters.{group_writer_at, group_writers_put}
use Rattle.relay_core.specs.Agreement.{GroupWriterIs}
use Rattle.relay_core.specs.Queues.{jobs_of}
use Rattle.relay_core.specs.Sharing.{AskFits, Gives, SharesStep}
use Rattle.relay_core.specs.declared.queue.Queue.{Queue}
use Rattle.relay_core.specs.declared.system.GroupWriter.{GroupWriter}
use Rattle.relay_core.specs.declared.system.System.{System}

-- a group writer's queue has as many jobs as that of the definitions
queue_length : (group_writer : GroupWriter) (q : List model.Job)
    → q ≡ map job_view (jobs_of group_writer.queue)
    → length q ≡ length (jobs_of group_writer.queue)
queue_length group_writer q e = ap length e ∙ length-map (jobs_of group_writer.queue) job_view

same_job : (a b : Job) → Some a ≡ Some b → a ≡ b
same_job a b e = cc

-- a group that is there isn't past the last
not_past : (here group there count : ℕ) → here < there → here ≡ group → count ≡ there
    → count ≤ group → ⊥
not_past here group there count within same counted past = omega arith

module _ {S : Type 0} {g : Ghosts S} (group : ℕ) (old : System S g) (peer : Peer) (n now : ℕ)
  where
    abbrev w : Terms
    w = terms_of old.config

    -- there is no room
    pub full_push : (group_writer : GroupWriter) → group < length old.group_writers.items
        → group_writer ≡ get_or old.group_writers.items group group_writer
        → nat_le 64 (length (jobs_of group_writer.queue)) ≡ true
        → SharesStep n now (steps.Push group) old peer (answers.Pushed false) old peer
    full_push group_writer inside at full =
        λ leaving x m d gathered but slot fits planned asked some.
        let job = asked.0 in
        let here : GroupWriterIs (Some group_writer) (x.work.queue group) (x.work.writer group) =
        group_writer_at old.group_writers.items group group_writer _ _
        inside at (but.core.group_writers group) in
        let size : length (x.work.queue job.article.group) ≡ length (jobs_of group_writer.queue) =
        ap (λ h. length (x.work.queue h)) asked.2
        ∙ queue_length group_writer (x.work.queue group) here.0 in
        let none : nat_lt (length (x.work.queue job.article.group)) 64 ≡ false =
        le-ltb _ 64 (subst (λ (k : ℕ). 64 ≤ k) (sym size) (leb-true 64 _ full)) in
        let P : Ask
        → Type 0 = λ ask. Gives leaving w n now ask gathered x (answers.Pushed false) old
        peer.slot in (
          subst P (sym asked.1) (record {
            told = shares.ToPush false;
            between = x;
            shares = subst (λ (b : Bool). Pushing x job b (shares.ToPush false) x) (sym none)
                (refl, refl);
            answers = (false, refl, refl);
            agrees = but;
            slot_is = slot;
          }),
          planned,
        )

    -- the session had a job
    pub no_job : (session : Session) (result : Option Job) → result ≡ None
        → HandsOver peer.session result session
        → SharesStep n now (steps.Push group) old peer (answers.Pushed false) old
        (record peer { session = session })
    no_job session result none hands = λ leaving x m d gathered but slot fits planned asked some.
        let over = hands w m d gathered asked.0 planned asked.1 in
        absurd (none-some over.one (sym none ∙ over.result_is))

    -- the job joins its group writer
    pub job_pushed
        : (group_writer : GroupWriter) (session : Session) (result : Option Job) (job : Job)
        (queue : Queue) → group < length old.group_writers.items
        → group_writer ≡ get_or old.group_writers.items group group_writer
        → nat_le 64 (length (jobs_of group_writer.queue)) ≡ false
        → HandsOver peer.session result session
        → result ≡ Some job → jobs_of queue ≡ jobs_of group_writer.queue ++ job ∷ []
        → SharesStep n now (steps.Push group) old peer (answers.Pushed true)
        (record old {
          group_writers =
              with_item old.group_writers group
              (record { queue = queue; writer = group_writer.writer });
        })
        (record peer { session = session })
    job_pushed group_writer session result job queue inside at room hands is joins =
        λ leaving x m d gathered but slot fits planned asked some.
        let one = asked.0 in
        let over = hands w m d gathered one planned asked.1 in
        let same : job_view job ≡ one =
        ap job_view (same_job job over.one (sym is ∙ over.result_is)) ∙ over.job_is in
        let here : GroupWriterIs (Some group_writer) (x.work.queue group) (x.work.writer group) =
        group_writer_at old.group_writers.items group group_writer _ _
        inside at (but.core.group_writers group) in
        let size : length (x.work.queue one.article.group) ≡ length (jobs_of group_writer.queue) =
        ap (λ h. length (x.work.queue h)) asked.2
        ∙ queue_length group_writer (x.work.queue group) here.0 in
        let has_room : nat_lt (length (x.work.queue one.article.group)) 64 ≡ true =
        lt-ltb _ 64 (subst (λ (k : ℕ). k < 64) (sym size) (leb-false 64 _ room)) in
        let new : System S g = record old {
          group_writers =
              with_item old.group_writers group
              (record { queue = queue; writer = group_writer.writer });
        } in
        let P : Ask → Type 0 = λ ask. Gives leaving w n now ask gathered x (answers.Pushed true) new
        peer.slot in
        let y = shares.pushed x one in
        let G : ℕ → Type 0 = λ h. y.work.queue h ≡ map job_view (jobs_of queue) in
        let joined : y.work.queue group ≡ map job_view (jobs_of queue) =
        subst G asked.2 (put_at_here x.work.queue one.article.group _ one.article.group refl
        ∙ ap (λ h. x.work.queue h ++ one ∷ []) asked.2
        ∙ ap (λ q. q ++ one ∷ []) here.0
        ∙ ap (λ j. map job_view (jobs_of group_writer.queue) ++ j ∷ []) (sym same)
        ∙ sym (map-append job_view (jobs_of group_writer.queue) (job ∷ []))
        ∙ ap (λ js. map job_view js) (sym joins)) in (
          subst P (sym asked.1) (record {
            told = shares.ToPush true;
            between = y;
            shares = subst (λ (b : Bool). Pushing x one b (shares.ToPush true) y) (sym has_room)
                (refl, refl);
            answers = (true, refl, refl);
            agrees = record {
              core = record {
                newest = but.core.newest;
                claims = but.core.claims;
                count = length-set old.group_writers.items group _ ∙ but.core.count;
                group_writers =
                    group_writers_put old.group_writers.items group _ x.work.queue
                    y.work.queue x.work.writer
                    x.work.writer inside (joined, here.1)
                    (λ h differ. put_at_there x.work.queue one.article.group _ h
                    (λ e. differ (e ∙ asked.2)))
                    (λ h differ. refl) but.core.group_writers;
                desk = but.core.desk;
                expirer = but.core.expirer;
                buffer_set = but.core.buffer_set;
              };
              peers = but.peers;
            };
            slot_is = slot;
          }),
          over.planned,
        )

    -- a group that has no group writer: no job goes there
    pub past_push : length old.group_writers.items ≤ group
        → SharesStep n now (steps.Push group) old peer (answers.Pushed false) old peer
    past_push past = λ leaving x m d gathered but slot fits planned asked some.
        let inside : asked.0.article.group < length w.groups =
        subst (λ (ask : Ask). AskFits w x ask gathered) asked.1 fits in
        let count : length old.group_writers.items ≡ length w.groups = but.core.count in
        let same : asked.0.article.group ≡ group = asked.2 in
        absurd (not_past asked.0.article.group group _ _ inside same count past)
