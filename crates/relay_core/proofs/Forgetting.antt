-- An Expire reads a front, or forgets.
use Rattle.std.proofs.Common.{◌≡◌, ◌<◌, ◌≤◌, ◌++◌, ℕ, true, false, List, [], ◌∷◌, Option, None}
use Rattle.std.proofs.Common.{Some, refl, sym, ap, subst, ◌∙◌, arith, Bool}
use Rattle.std.proofs.lemmas.Bool.{le-leb, le-ltb, lt-leb, lt-ltb}
use Rattle.std.proofs.lemmas.List.{length-map, map-append}
use Rattle.std.proofs.lemmas.List.FromFn.{length-enumerate_from}
use Rattle.std.proofs.lemmas.Option.{same_Some, slice_get_past}
use Rattle.std.specs.List.{enumerate_from}
use Rattle.std.specs.Prelude.{◌-◌, length, map, nat_le, nat_lt, slice_get}
use Rattle.article_verdict.proofs.SoundTerms.{are_sound}
use Rattle.article_verdict.specs.Config.{terms_of}
use Rattle.block_shelf.specs.Reading.{IsFrontAt}
use Rattle.block_shelf.specs.declared.buffer_set.BufferSet.{BufferSet}
use Rattle.block_shelf.specs.Leaving.{honestly}
use Rattle.cyc_block.specs.declared.store.BlockStore.{Ghosts}
use Rattle.cyc_buffer.specs.declared.answers.Front.{Front}
use Rattle.id_history.specs.Expiry.{passed_view}
use Rattle.id_history.specs.Shards.{KeepsAll}
use Rattle.id_history.specs.declared.shards.Shards.{Shards}
use Rattle.news_terms.specs.Places.{Buffer}
use Rattle.relay_conf.specs.Places.{numbered_buffer}
use Rattle.relay_conf.specs.declared.settings.Config.{Config}
use Rattle.relay_facts.proofs.Runs.{step_well}
use Rattle.relay_model.specs.Claims as claims
use Rattle.relay_model.specs.State.{State}
use Rattle.relay_model.specs.Claims.{Claim}
use Rattle.relay_model.specs.Run as run
use Rattle.relay_model.specs.Run.{expired, first_of_two, forgetter, forgetting, forgotten}
use Rattle.relay_model.specs.Run.{passed_of, reads_front}
use Rattle.relay_model.specs.Terms.{Terms, last_moment, shard_count}
use Rattle.relay_model.specs.World as world
use Rattle.relay_model.specs.World.{World}
use Rattle.relay_core.specs.Expiring.{Forgets, IsNextFront, expirer_view, fronts_of, stage_view}
use Rattle.relay_core.specs.declared.event.CoreError.TheVariants as faults
use Rattle.relay_core.specs.declared.event.Output.TheVariants as outputs
use Rattle.relay_core.specs.declared.expiring.Expirer.{Expirer}
use Rattle.relay_core.specs.declared.expiring.Stage.{Stage}
use Rattle.relay_core.specs.declared.expiring.Stage.TheVariants as stages
use Rattle.relay_core.specs.declared.system.System.{System}
use Rattle.relay_core.specs.Agreement.{AgreesAs}
use Rattle.relay_core.specs.Steps.{StepsAs}
use Rattle.relay_core.proofs.Turning.{refused}

some_none : {A : Type 0} {x : A} → Some x ≡ None → ⊥
some_none e = cc

-- an Expire of a shard that is there, in time
pub may_expire : (shard now : ℕ) → shard < shard_count → now ≤ last_moment
    → first_of_two (nat_lt shard shard_count) world.NoShard (nat_le now last_moment)
    world.BadMoment
    ≡ None
may_expire shard now within early =
    let e : nat_lt shard shard_count ≡ true = lt-ltb shard shard_count within in
    let f : nat_le now last_moment ≡ true = le-leb now last_moment early in
    λ i. first_of_two (e i) world.NoShard (f i) world.BadMoment

-- there is no such shard
pub is_no_shard : (shard now : ℕ) → shard_count ≤ shard
    → first_of_two (nat_lt shard shard_count) world.NoShard (nat_le now last_moment)
    world.BadMoment
    ≡ Some world.NoShard
is_no_shard shard now past =
    let e : nat_lt shard shard_count ≡ false = le-ltb shard shard_count past in
    ap (λ b. first_of_two b world.NoShard (nat_le now last_moment) world.BadMoment) e

-- it is too late
pub is_late : (shard now : ℕ) → shard < shard_count → last_moment < now
    → first_of_two (nat_lt shard shard_count) world.NoShard (nat_le now last_moment)
    world.BadMoment
    ≡ Some world.BadMoment
is_late shard now within late =
    let e : nat_lt shard shard_count ≡ true = lt-ltb shard shard_count within in
    let f : nat_le now last_moment ≡ false = lt-leb now last_moment late in
    λ i. first_of_two (e i) world.NoShard (f i) world.BadMoment

-- there are at most 256 buffers
few_buffers : (config : Config) → length (terms_of config).buffers ≤ 256
few_buffers config =
    let count : length (terms_of config).buffers ≡ length config.buffers.buffers.items =
    length-map (enumerate_from 0 config.buffers.buffers.items) numbered_buffer
    ∙ length-enumerate_from 0 config.buffers.buffers.items in
    omega (arith, count, config.buffers.few_buffers)

-- so with 256 fronts all were read
pub all_read : {S : Type 0} {g : Ghosts S} (buffer_set : BufferSet S g) (expirer : Expirer)
    → 256 ≤ length (fronts_of expirer) → IsNextFront buffer_set expirer None
all_read buffer_set expirer past = λ trusted w σ openings failures keeps few.
    let P : Option Buffer → Type 0 = λ o. IsFrontAt w σ o None in
    subst P (sym (slice_get_past w.buffers (length (fronts_of expirer))
    (omega (arith, few, past)))) refl

-- no front is given: there is no such buffer
no_buffer : (w : Terms) (σ : State) (o : Option Buffer) (answer : Option Front)
    → IsFrontAt w σ o answer → answer ≡ None → o ≡ None
no_buffer w σ None answer at none = refl
no_buffer w σ (Some buffer) answer at none = absurd (some_none (sym at ∙ none))

-- the world with these claims, and the expirer this far
abbrev pub gone_on : World → (List ℕ → Claim) → world.Expirer → World
gone_on x claim expirer =
    record {
      state = record x.state { claim = claim };
      work = record x.work { expirer = expirer };
    }

module _ {S : Type 0} {g : Ghosts S} (s : System S g) (shard now : ℕ) where
  abbrev w : Terms
  w = terms_of s.config

  -- what an Expire makes of the world, with which these shards and this expirer agree
  record Expires (x : World) (shards : Shards) (expirer : Expirer) : Type 0 where
    pub claim : List ℕ → Claim
    pub to : world.Expirer
    pub world_is : expired w x shard now (expirer_view s.expirer) ≡ gone_on x claim to
    pub keeps : KeepsAll shards claim
    pub expirer_is : to ≡ expirer_view expirer

  -- no such shard
  pub no_shard : shard_count ≤ shard
      → StepsAs (run.Expire shard now) s (outputs.Refused faults.NoShard) s
  no_shard past =
      refused (run.Expire shard now) faults.NoShard s
      (λ leaving x agrees. is_no_shard shard now past)

  -- too late
  pub late_expire : shard < shard_count → last_moment < now
      → StepsAs (run.Expire shard now) s (outputs.Refused faults.BadMoment) s
  late_expire within late =
      refused (run.Expire shard now) faults.BadMoment s (λ leaving x agrees.
      is_late shard now within late)

  -- an Expire is had
  expires : (shards : Shards) (expirer : Expirer) → shard < shard_count → now ≤ last_moment
      → ((leaving : Bool) (x : World) → AgreesAs (honestly leaving) s x → Expires x shards expirer)
      → StepsAs (run.Expire shard now) s outputs.Quiet
      (record s { shards = shards; expirer = expirer })
  expires shards expirer within early goes = λ leaving x agrees.
      let one = goes leaving x agrees in
      let after = gone_on x one.claim one.to in
      let e : after ≡ expired w x shard now x.work.expirer =
      sym one.world_is
      ∙ ap (λ (o : world.Expirer). expired w x shard now o) (sym agrees.core.expirer) in
      let step : run.Step w x (run.Expire shard now) world.Quiet after =
      run.IsDone (may_expire shard now within early) (refl, e) in
      record {
        after = after;
        agrees = record {
          core = record {
            newest = agrees.core.newest;
            claims = one.keeps;
            count = agrees.core.count;
            group_writers = agrees.core.group_writers;
            desk = agrees.core.desk;
            buffer_set = agrees.core.buffer_set;
            expirer = one.expirer_is;
          };
          peers = agrees.peers;
          well = step_well w x after (run.Expire shard now) world.Quiet (are_sound s.config)
              agrees.well step;
        };
        is_step = step;
      }

  abbrev fronts : List claims.Passed
  fronts = map passed_view (fronts_of s.expirer)

  -- the buffer whose front is read next
  abbrev next_buffer : Option Buffer
  next_buffer = slice_get w.buffers (length fronts)

  next_is : slice_get w.buffers (length (fronts_of s.expirer)) ≡ next_buffer
  next_is =
      ap (λ (n : ℕ). slice_get w.buffers n) (sym (length-map (fronts_of s.expirer) passed_view))

  -- the next front is read
  pub front_read : (answer : Option Front) (front : Front) (expirer : Expirer)
      → shard < shard_count → now ≤ last_moment → s.expirer.stage ≡ stages.Reading
      → IsNextFront s.buffer_set s.expirer answer → answer ≡ Some front
      → expirer_view expirer
      ≡ world.Reading (map passed_view (fronts_of s.expirer ++ front ∷ []))
      → StepsAs (run.Expire shard now) s outputs.Quiet (record s { expirer = expirer })
  front_read answer front expirer within early reading next is reads =
      expires s.shards expirer within early (λ leaving x agrees.
      let P : Option Buffer → Type 0 = λ o. IsFrontAt w x.state o answer in
      by_buffer x agrees.core.claims next_buffer refl
      (subst P next_is (next (honestly leaving) w x.state _ x.work.failures agrees.core.buffer_set
      (few_buffers s.config))))
    where
      by_buffer : (x : World) → KeepsAll s.shards x.state.claim → (o : Option Buffer)
          → next_buffer ≡ o → IsFrontAt w x.state o answer → Expires x s.shards expirer
      by_buffer x keeps None none at = absurd (some_none (sym is ∙ at))
      by_buffer x keeps (Some buffer) there at =
          let one : passed_view front ≡ passed_of w x.state buffer =
          ap passed_view (same_Some front _ (sym is ∙ at)) in
          record {
            claim = x.state.claim;
            to = world.Reading (fronts ++ passed_of w x.state buffer ∷ []);
            world_is =
                ap (λ (stage : Stage). expired w x shard now (stage_view fronts stage)) reading
                ∙ ap (λ (o : Option Buffer). reads_front w x shard now fronts o) there;
            keeps = keeps;
            expirer_is = ap (λ (p : claims.Passed). world.Reading (fronts ++ p ∷ [])) (sym one)
                ∙ ap (λ (ps : List claims.Passed). world.Reading ps)
                (sym (map-append passed_view (fronts_of s.expirer) (front ∷ [])))
                ∙ sym reads;
          }

  -- what an Expire that forgets makes of the world
  forgets : {leaving : Bool} (shards : Shards) (expirer : Expirer) (left : ℕ) (x : World)
      → Forgets shard now w.remember left s.shards shards s.expirer expirer
      → AgreesAs (honestly leaving) s x
      → expired w x shard now (expirer_view s.expirer) ≡ forgotten w x shard now fronts left
      → Expires x shards expirer
  forgets shards expirer left x done agrees e =
      record {
        claim = forgetting x.state.claim shard now w.remember fronts;
        to = forgetter fronts left;
        world_is = e;
        keeps = done.claims x.state.claim agrees.core.claims;
        expirer_is = sym done.expirer_is;
      }

  -- all fronts are read: it forgets
  pub first_forgotten : (answer : Option Front) (shards : Shards) (expirer : Expirer)
      → shard < shard_count → now ≤ last_moment → s.expirer.stage ≡ stages.Reading
      → IsNextFront s.buffer_set s.expirer answer → answer ≡ None
      → Forgets shard now w.remember 15 s.shards shards s.expirer expirer
      → StepsAs (run.Expire shard now) s outputs.Quiet
      (record s { shards = shards; expirer = expirer })
  first_forgotten answer shards expirer within early reading next is done =
      expires shards expirer within early (λ leaving x agrees.
      let P : Option Buffer → Type 0 = λ o. IsFrontAt w x.state o answer in
      let none : next_buffer ≡ None = no_buffer w x.state next_buffer answer
      (subst P next_is (next (honestly leaving) w x.state _ x.work.failures agrees.core.buffer_set
      (few_buffers s.config))) is in
      forgets shards expirer 15 x done agrees
      (ap (λ (stage : Stage). expired w x shard now (stage_view fronts stage)) reading
      ∙ ap (λ (o : Option Buffer). reads_front w x shard now fronts o) none))

  -- it forgets on
  pub more_forgotten : (left less : ℕ) (shards : Shards) (expirer : Expirer)
      → shard < shard_count → now ≤ last_moment → s.expirer.stage ≡ stages.Forgetting left
      → less ≡ left - 1 → Forgets shard now w.remember less s.shards shards s.expirer expirer
      → StepsAs (run.Expire shard now) s outputs.Quiet
      (record s { shards = shards; expirer = expirer })
  more_forgotten left less shards expirer within early forgetting_on less_is done =
      expires shards expirer within early (λ leaving x agrees.
      forgets shards expirer less x done agrees
      (ap (λ (stage : Stage). expired w x shard now (stage_view fronts stage)) forgetting_on
      ∙ ap (λ (n : ℕ). forgotten w x shard now fronts n) (sym less_is)))
