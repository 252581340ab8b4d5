-- A Turn: the peer is taken out, served and put back.
use Rattle.std.proofs.Common.{◌≡◌, ◌≢◌, ◌≤◌, ◌<◌, ℕ, Bool, true, false, List, Option, None}
use Rattle.std.proofs.Common.{Some, refl, sym, ap, subst, ◌∙◌}
use Rattle.std.proofs.lemmas.Bool.{le-leb, lt-leb}
use Rattle.std.specs.Prelude.{IfSome, nat_le, option_map}
use Rattle.article_verdict.specs.Config.{terms_of}
use Rattle.article_verdict.proofs.SoundTerms.{are_sound}
use Rattle.cyc_block.specs.declared.store.BlockStore.{Ghosts}
use Rattle.peer_session.specs.Session.{Stands, session_view}
use Rattle.peer_session.proofs.Phases.{not_running}
use Rattle.relay_conf.specs.declared.settings.Config.{Config}
use Rattle.relay_facts.proofs.Puts.{put_at_here, put_at_there}
use Rattle.relay_facts.proofs.Runs.{step_well}
use Rattle.relay_model.specs.Run as run
use Rattle.relay_model.specs.Run.{is_there, is_running, first_of_two, refusal}
use Rattle.relay_model.specs.State as model
use Rattle.relay_model.specs.State.{Kept, put_at}
use Rattle.relay_model.specs.Terms.{Terms, last_moment}
use Rattle.relay_model.specs.World as world
use Rattle.relay_model.specs.World.{World, with_session}
use Rattle.relay_core.specs.Peers.{HasPlace, TakesPeer, peer_at, session_at}
use Rattle.relay_core.specs.declared.peers.Peer.{Peer}
use Rattle.relay_core.specs.declared.peers.Peers.{Peers}
use Rattle.relay_core.proofs.GroupWriters.{same_or_other}
use Rattle.relay_core.specs.Agreement.{AgreesBut, AgreesBy, Core, IsGone, PeerIs, PeerStands}
use Rattle.relay_core.specs.Agreement.{AgreesAs}
use Rattle.relay_core.specs.Turns.{Serves, StandsStill, TakesBack, IsBack, IsLetGo, PutsBack}
use Rattle.relay_core.specs.Views.{fault_view, output_view}
use Rattle.relay_core.specs.declared.event.CoreError.{CoreError}
use Rattle.relay_core.specs.declared.event.CoreError.TheVariants as faults
use Rattle.relay_core.specs.declared.event.Output.{Output}
use Rattle.relay_core.specs.declared.event.Output.TheVariants as outputs
use Rattle.relay_core.specs.declared.system.System.{System}
use Rattle.relay_core.specs.Steps.{StepsAs}
use Rattle.block_shelf.specs.Leaving.{Trust, honestly}

-- a phase's test that a closed session doesn't pass
gone_fails : (test : model.Phase → Bool) → test model.Ended ≡ false
    → (session : Option model.Session) → IsGone session → is_there test session ≡ false
gone_fails test ends None gone = refl
gone_fails test ends (Some m) gone = ap test gone ∙ ends

-- what the peers that are there say of their sessions is so in the definitions
pub is_there_as : (test : model.Phase → Bool) → test model.Ended ≡ false → (trusted : Bool)
    → (w : Terms) (kept : List Kept) (at : Option Peer) (session : Option model.Session)
    (slot : Option world.Outcome) → PeerIs trusted w kept at session slot
    → is_there test session
    ≡ is_there test (option_map (λ (peer : Peer). session_view peer.session) at)
is_there_as test ends trusted w kept None session slot is = gone_fails test ends session is
is_there_as test ends trusted w kept (Some peer) session slot is =
    ap (is_there test) is.1 ∙ ap (λ (m : model.Session). test m.phase) is.2.stands.is

-- the peer of a session that runs does
pub runs_as : (w : Terms) (peer : Peer) (m : model.Session) (gathered : List ℕ)
    → Stands w peer.session m gathered → is_running m.phase ≡ true
    → is_running (session_view peer.session).phase ≡ true
runs_as w peer m gathered stands runs =
    sym (ap (λ (one : model.Session). is_running one.phase) stands.is) ∙ runs

-- a peer that is put back stands for its session
put_back : (trusted : Bool) (w : Terms) (n : ℕ) (peer : Peer) (old new : Peers)
    (kept : List Kept) (slot : Option world.Outcome) (m : model.Session)
    → TakesBack n peer old new → PeerStands trusted w kept peer m slot
    → PeerIs trusted w kept (peer_at new n) (Some m) slot
put_back trusted w n peer old new kept slot m (IsBack runs gives) stands =
    let P : Option Peer → Type 0 = λ o. PeerIs trusted w kept o (Some m) slot in
    subst P (sym gives.here)
    (m, refl, stands, ap (λ (one : model.Session). is_running one.phase) stands.stands.is ∙ runs)
put_back trusted w n peer old new kept slot m (IsLetGo closed closes) stands =
    let P : Option Peer → Type 0 = λ o. PeerIs trusted w kept o (Some m) slot in
    subst P (sym closes.gone)
    (not_running m.phase
    (ap (λ (one : model.Session). is_running one.phase) stands.stands.is ∙ closed))

-- the others stay where one is put back
back_others : (n : ℕ) (peer : Peer) (old new : Peers) → TakesBack n peer old new → (s : ℕ)
    → s ≢ n → peer_at new s ≡ peer_at old s
back_others n peer old new (IsBack runs gives) s differ = gives.others s differ
back_others n peer old new (IsLetGo closed closes) s differ = closes.others s differ

-- with one peer put back and this session put, all peers are the sessions
pub peers_after : (trusted : Bool) (w : Terms) (n : ℕ) (peer : Peer) (old new : Peers)
    (kept : List Kept) (session : ℕ → Option model.Session) (slot : ℕ → Option world.Outcome)
    (m : model.Session) → TakesBack n peer old new → PeerStands trusted w kept peer m (slot n)
    → ((s : ℕ) → s ≢ n → PeerIs trusted w kept (peer_at old s) (session s) (slot s))
    → (s : ℕ) → PeerIs trusted w kept (peer_at new s) (put_at session n (Some m) s) (slot s)
peers_after trusted w n peer old new kept session slot m takes stands others s =
    same_or_other s n
    (λ same.
    let P : ℕ → Type 0 = λ k. PeerIs trusted w kept (peer_at new k)
    (put_at session n (Some m) k) (slot k) in
    let Q : Option model.Session → Type 0 = λ o. PeerIs trusted w kept (peer_at new n) o
    (slot n) in
    subst P (sym same) (subst Q (sym (put_at_here session n (Some m) n refl))
    (put_back trusted w n peer old new kept (slot n) m takes stands)))
    (λ differ.
    let P : Option Peer → Type 0 = λ o. PeerIs trusted w kept o (put_at session n (Some m) s)
    (slot s) in
    let Q : Option model.Session → Type 0 = λ o. PeerIs trusted w kept (peer_at old s) o
    (slot s) in
    subst P (sym (back_others n peer old new takes s differ))
    (subst Q (sym (put_at_there session n (Some m) s differ)) (others s differ)))

-- the same where the session stays
pub peers_again : (trusted : Bool) (w : Terms) (n : ℕ) (peer : Peer) (old new : Peers)
    (kept : List Kept) (session : ℕ → Option model.Session) (slot : ℕ → Option world.Outcome)
    (m : model.Session) → TakesBack n peer old new → session n ≡ Some m
    → PeerStands trusted w kept peer m (slot n)
    → ((s : ℕ) → s ≢ n → PeerIs trusted w kept (peer_at old s) (session s) (slot s))
    → (s : ℕ) → PeerIs trusted w kept (peer_at new s) (session s) (slot s)
peers_again trusted w n peer old new kept session slot m takes there stands others s =
    same_or_other s n
    (λ same.
    let P : ℕ → Type 0 = λ k. PeerIs trusted w kept (peer_at new k) (session k) (slot k) in
    let Q : Option model.Session → Type 0 = λ o. PeerIs trusted w kept (peer_at new n) o
    (slot n) in
    subst P (sym same) (subst Q (sym there)
    (put_back trusted w n peer old new kept (slot n) m takes stands)))
    (λ differ.
    let P : Option Peer → Type 0 = λ o. PeerIs trusted w kept o (session s) (slot s) in
    subst P (sym (back_others n peer old new takes s differ)) (others s differ))

-- a peer that was taken out has its place
pub place_of : (n : ℕ) (old : Peers) (result : Option Peer) (new : Peers) (peer : Peer)
    → TakesPeer n old result new → result ≡ Some peer → HasPlace new n
place_of n old result new peer takes is =
    subst (λ (o : Option Peer). IfSome o (λ _. HasPlace new n)) is takes.place

-- as its session runs or not, a peer is put back
pub back_is : (n : ℕ) (peer : Peer) (old new : Peers) (runs : Bool)
    → is_running (session_view peer.session).phase ≡ runs → PutsBack runs n peer old new
    → TakesBack n peer old new
back_is n peer old new true is puts = IsBack is puts
back_is n peer old new false is puts = IsLetGo is puts

-- an output is want of memory, or it isn't
by_memory : {A : Type 0} (output : Output) → (output ≡ outputs.Refused faults.Memory → A)
    → (output ≢ outputs.Refused faults.Memory → A) → A
by_memory outputs.Quiet memory other = other (λ e. cc)
by_memory (outputs.Sent s octets) memory other = other (λ e. cc)
by_memory (outputs.Rejected s octets reason) memory other = other (λ e. cc)
by_memory (outputs.Ended s octets) memory other = other (λ e. cc)
by_memory (outputs.Refused faults.Memory) memory other = memory refl
by_memory (outputs.Refused faults.NoSession) memory other = other (λ e. cc)
by_memory (outputs.Refused faults.SessionTaken) memory other = other (λ e. cc)
by_memory (outputs.Refused faults.NoGroup) memory other = other (λ e. cc)
by_memory (outputs.Refused faults.NoPeer) memory other = other (λ e. cc)
by_memory (outputs.Refused faults.BadMoment) memory other = other (λ e. cc)
by_memory (outputs.Refused faults.NoShard) memory other = other (λ e. cc)
by_memory (outputs.Refused faults.NotIdle) memory other = other (λ e. cc)
by_memory (outputs.Refused faults.NotRestarted) memory other = other (λ e. cc)

module _ {S : Type 0} {g : Ghosts S} where
  -- an event is refused, and nothing changes
  pub refused : (event : run.Event) (error : CoreError) (s : System S g)
      → ((leaving : Bool) (x : World) → AgreesAs (honestly leaving) s x
      → refusal (terms_of s.config) x.state event ≡ Some (fault_view error))
      → StepsAs event s (outputs.Refused error) s
  refused event error s why = λ leaving x agrees.
      record {
        after = x;
        agrees = agrees;
        is_step = run.IsRefused (fault_view error) (why leaving x agrees) refl refl;
      }

  -- all but the peers stays where these change
  pub core_with_peers : (trusted : Trust) (w : Terms) (s : System S g) (x : World) (peers : Peers)
      → Core trusted w s x → Core trusted w (record s { peers = peers }) x
  core_with_peers trusted w s x peers core =
      record {
        newest = core.newest;
        claims = core.claims;
        count = core.count;
        group_writers = core.group_writers;
        desk = core.desk;
        expirer = core.expirer;
        buffer_set = core.buffer_set;
      }

  -- with one peer taken out, all others are the sessions
  pub but_one : (trusted : Trust) (w : Terms) (n : ℕ) (s : System S g) (x : World)
      (result : Option Peer) (new : Peers) → AgreesBy trusted w s x
      → TakesPeer n s.peers result new → AgreesBut trusted w n (record s { peers = new }) x
  but_one trusted w n s x result new agrees takes =
      record {
        core = core_with_peers trusted w s x new agrees.core;
        peers = λ k differ.
            let P : Option Peer → Type 0 = λ o. PeerIs trusted.honest w x.state.kept o
            (x.state.session k) (x.work.slot k) in
            subst P (sym (takes.others k differ)) (agrees.peers k);
      }

  -- the peer that is taken out stands for the session
  pub lent_is : (trusted : Trust) (w : Terms) (n : ℕ) (s : System S g) (x : World) (peer : Peer)
      (result : Option Peer) (new : Peers) → AgreesBy trusted w s x
      → TakesPeer n s.peers result new → result ≡ Some peer
      → PeerIs trusted.honest w x.state.kept (Some peer) (x.state.session n) (x.work.slot n)
  lent_is trusted w n s x peer result new agrees takes is =
      let P : Option Peer → Type 0 = λ o. PeerIs trusted.honest w x.state.kept o (x.state.session n)
      (x.work.slot n) in
      subst P (sym takes.result_is ∙ is) (agrees.peers n)

  -- whether a session runs, by the peers that are there
  pub runs : (s : System S g) (n : ℕ) (answer : Bool) (x : World) (trusted : Trust)
      → answer ≡ is_there is_running (session_at s.peers n) → AgreesAs trusted s x
      → is_there is_running (x.state.session n) ≡ answer
  runs s n answer x trusted reports agrees =
      is_there_as is_running refl trusted.honest (terms_of s.config) x.state.kept
      (peer_at s.peers n)
      (x.state.session n) (x.work.slot n) (agrees.peers n) ∙ sym reports

  -- no such session runs
  pub none_runs : (s : System S g) (n now : ℕ) (answer : Bool)
      → answer ≡ is_there is_running (session_at s.peers n) → answer ≡ false
      → StepsAs (run.Turn n now) s (outputs.Refused faults.NoSession) s
  none_runs s n now answer reports wrong =
      refused (run.Turn n now) faults.NoSession s (λ leaving x agrees.
      ap (λ b. first_of_two b world.NoSession (nat_le now last_moment) world.BadMoment)
      (runs s n answer x (honestly leaving) reports agrees ∙ wrong))

  -- it is too late
  pub too_late : (s : System S g) (n now : ℕ) (answer : Bool)
      → answer ≡ is_there is_running (session_at s.peers n) → answer ≡ true
      → last_moment < now → StepsAs (run.Turn n now) s (outputs.Refused faults.BadMoment) s
  too_late s n now answer reports right late =
      refused (run.Turn n now) faults.BadMoment s (λ leaving x agrees.
      let e = runs s n answer x (honestly leaving) reports agrees ∙ right in
      let f : nat_le now last_moment ≡ false = lt-leb now last_moment late in
      λ i. first_of_two (e i) world.NoSession (f i) world.BadMoment)

  -- want of memory leaves a Turn's session as it was
  pub still : (s : System S g) (n : ℕ) (peer : Peer) (result : Option Peer) (lent : Peers)
      (new : System S g) (peer' : Peer) (back : Peers) → TakesPeer n s.peers result lent
      → result ≡ Some peer → StandsStill n (record s { peers = lent }) peer new peer'
      → new.config ≡ s.config → TakesBack n peer' new.peers back → (trusted : Trust) (x : World)
      → AgreesAs trusted s x → AgreesAs trusted (record new { peers = back }) x
  still s n peer result lent new peer' back takes is stands config gives trusted x agrees =
      let w : Terms = terms_of s.config in
      let here = lent_is trusted w n s x peer result lent agrees takes is in
      let but = stands.agrees trusted w x (but_one trusted w n s x result lent agrees takes) in
      let C : Config → Type 0 = λ c. AgreesBy trusted (terms_of c)
      (record new { peers = back }) x in
      subst C (sym config) (record {
        core = core_with_peers trusted w new x back but.core;
        peers = peers_again trusted.honest w n peer' new.peers back x.state.kept x.state.session
            x.work.slot here.0 gives here.1 (record {
              gathered = here.2.gathered;
              stands = stands.stands here.0 here.2.gathered here.2.stands;
              fronts = here.2.fronts;
              slot_is = here.2.slot_is ∙ ap (option_map _) (sym stands.slot);
            }) but.peers;
        well = agrees.well;
      })

  -- a Turn
  pub turned : (s : System S g) (n now : ℕ) (answer : Bool) (peer : Peer) (result : Option Peer)
      (lent : Peers) (output : Output) (new : System S g) (peer' : Peer) (back : Peers)
      → answer ≡ is_there is_running (session_at s.peers n) → answer ≡ true → now ≤ last_moment
      → TakesPeer n s.peers result lent → result ≡ Some peer
      → Serves n now (record s { peers = lent }) peer output new peer'
      → (output ≡ outputs.Refused faults.Memory
      → StandsStill n (record s { peers = lent }) peer new peer')
      → new.config ≡ s.config → TakesBack n peer' new.peers back
      → StepsAs (run.Turn n now) s output (record new { peers = back })
  turned s n now answer peer result lent output new peer' back reports right in_time takes is
      serves stands config gives = λ leaving x agrees.
      let w : Terms = terms_of s.config in
      let here = lent_is (honestly leaving) w n s x peer result lent agrees takes is in
      let early : nat_le now last_moment ≡ true = le-leb now last_moment in_time in
      let has_runs = runs s n answer x (honestly leaving) reports agrees ∙ right in
      let open_one : refusal w x.state (run.Turn n now) ≡ None =
      λ i. first_of_two (has_runs i) world.NoSession (early i) world.BadMoment in
      by_memory output
      (λ memory. record {
        after = x;
        agrees = still s n peer result lent new peer' back takes is (stands memory) config gives
            (honestly leaving) x agrees;
        is_step = run.WantsMemory refl (ap output_view memory) refl;
      })
      (λ other.
      let turn = serves leaving x here.0 (but_one (honestly leaving) w n s x result lent agrees
      takes) here.1 here.2
      agrees.well other in
      let after = with_session turn.between n turn.session in
      let step : run.Step w x (run.Turn n now) (output_view output) after =
      run.IsDone open_one turn.turns in
      let C : Config → Type 0 = λ c. AgreesBy (honestly leaving) (terms_of c)
      (record new { peers = back }) after in
      record {
        after = after;
        agrees = subst C (sym config) (record {
          core = record {
            newest = turn.agrees.core.newest;
            claims = turn.agrees.core.claims;
            count = turn.agrees.core.count;
            group_writers = turn.agrees.core.group_writers;
            desk = turn.agrees.core.desk;
            expirer = turn.agrees.core.expirer;
            buffer_set = turn.agrees.core.buffer_set;
          };
          peers = peers_after true w n peer' new.peers back turn.between.state.kept
              turn.between.state.session turn.between.work.slot turn.session gives turn.stands
              turn.agrees.peers;
          well = step_well w x after (run.Turn n now) (output_view output) (are_sound s.config)
              agrees.well step;
        });
        is_step = step;
      })
