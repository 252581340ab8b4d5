use Rattle.std.proofs.Common.{◌∙◌, ◌+◌, ◌++◌, ◌∷◌, [], ℕ, ap, false, sym, subst, length, List, map}
use Rattle.std.proofs.lemmas.List.{length-replicate}
use Rattle.std.proofs.lemmas.Result.{IfOk-from_err}
use Rattle.std.specs.Prelude.{slice_get}
use Rattle.crossbeam_queue.specs.Passes.{IsPassOf}
use Rattle.job_queue.specs.Passes.{QueuePass}
use Rattle.live_jobs.specs.Gathered.{IsRest}
use Rattle.live_jobs.specs.JobChannels.{queue_of}
use Rattle.live_jobs.specs.Rows.{From}
use Rattle.live_jobs.specs.Started.{IsUnused}
use Rattle.live_jobs.specs.declared.channel.JobChannel.{JobChannel}
use Rattle.live_jobs.specs.declared.start.Plan.{Plan}
use Rattle.live_jobs.proofs.Rows.{length_snoc}
use Rattle.live_jobs.proofs.Plans.{ready_grown}
use Rattle.live_jobs.proofs.Taken.{no_flags}
use Rattle.live_jobs.proofs.Writers.{rests_snoc}
use Rattle.live_jobs.proofs.open.add_group.Goals as goal

pub add_channel-requires-clause-fit : goal.add_channel-requires-clause-fit
add_channel-requires-clause-fit g c =
    let same = c.reserve_group.ensures.same in
    subst (λ (x : List JobChannel × List (Plan _)). From (λ e p. IsUnused x.0 e p.seat) 0 x.1)
    (λ i. (sym (c.deref.ensures.value ∙ same.0) i, sym same.2 i)) c.requires.fit.plans

pub new_writer-writer-requires-clause-none : goal.new_writer-writer-requires-clause-none
new_writer-writer-requires-clause-none g c = λ e at.
    no_flags c.args.ends e (ap (λ l. slice_get l e) (sym c.in_ok-closed.ensures.closed) ∙ at)

-- where memory is refused there is none more
pub returns-in_err-closed : goal.returns-in_err-closed
returns-in_err-closed g c =
    let told = c.from_residual in
    record {
      fit = IfOk-from_err told.result _ told.ensures.0;
      services = IfOk-from_err told.result _ told.ensures.0;
    }

pub returns-in_err-channel : goal.returns-in_err-channel
returns-in_err-channel g c =
    let told = c.from_residual-in_err-channel in
    record {
      fit = IfOk-from_err told.result _ told.ensures.0;
      services = IfOk-from_err told.result _ told.ensures.0;
    }

-- the channel, its first pass and its writer stand behind those of the groups before
pub returns : goal.returns
returns g c =
    let before = c.args.opened.now in
    let same = c.reserve_group.ensures.same in
    let was = c.requires.fit in
    let add = c.in_ok-channel.ensures in
    let made = c.new_writer-writer.ensures in
    let channels = c.push_reserved.ensures.items
    ∙ (λ i. same.0 i ++ c.in_ok-channel.channel ∷ []) in
    let rests = c.push_reserved-2.ensures.items
    ∙ (λ i. same.1 i ++ c.in_ok-channel.first ∷ []) in
    let writers = c.push_reserved-3.ensures.items
    ∙ (λ i. same.3 i ++ c.new_writer-writer.result ∷ []) in
    let ends = ap length same.2 ∙ was.ends_count in
    record {
      fit = record {
        channels = length_snoc _ _ _ channels;
        count = length_snoc _ _ _ writers ∙ ap (λ (n : ℕ). n + 1) was.count;
        ends_count = add.ends ∙ ends;
        plans = subst
            (λ (ls : List JobChannel). From (λ e p. IsUnused ls e p.seat) 0
            c.add_channel.new.plans.items)
            ((λ i. (c.deref.ensures.value ∙ same.0) i ++ c.in_ok-channel.channel ∷ [])
            ∙ sym channels)
            add.fit;
        rests = rests_snoc before.channels.items _ c.in_ok-channel.channel _ before.rests.items _
            c.in_ok-channel.first was.rests channels rests add.rest.0
            (subst (λ n. IsRest n c.in_ok-channel.first) ends add.rest.1);
        writers = ready_grown (λ w. w.pass) (λ w. w.lent) (λ w. w.closed.items)
            before.channels.items _ c.in_ok-channel.channel _ before.writers.items _
            c.new_writer-writer.result
            was.writers was.count channels writers
            (subst (λ (p : QueuePass). IsPassOf (queue_of c.in_ok-channel.channel) p)
            (sym made.pass) add.writer.0)
            made.flags.0
            (ap length (made.flags.1 ∙ c.in_ok-closed.ensures.closed)
            ∙ length-replicate c.args.ends false);
      };
      services = add.services
          ∙ ap (λ (plans : List (Plan _)). map (λ p. p.service) plans) same.2;
    }
