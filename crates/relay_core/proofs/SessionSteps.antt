-- Open, Bytes and Break.
use Rattle.std.proofs.Common.{◌≡◌, ◌<◌, ◌≤◌, ◌++◌, ℕ, Bool, true, false, List, [], Option}
use Rattle.std.proofs.Common.{None, Some, refl, sym, ap, subst, ◌∙◌}
use Rattle.std.proofs.lemmas.Bool.{le-ltb, lt-ltb}
use Rattle.std.proofs.lemmas.List.{length-map}
use Rattle.std.specs.Prelude.{length, nat_lt, vec_len, if◌then◌else◌}
use Rattle.article_verdict.proofs.SoundTerms.{are_sound}
use Rattle.article_verdict.specs.Config.{terms_of}
use Rattle.cyc_block.specs.declared.store.BlockStore.{Ghosts}
use Rattle.feed_queue.specs.Permission.{identity_view}
use Rattle.news_terms.specs.Reply.{Greeting, reply_text}
use Rattle.peer_session.specs.Session.{BrokenOff, Fed, NewStands, StandsAsBefore}
use Rattle.peer_session.specs.declared.session.Session.{Session}
use Rattle.relay_conf.specs.declared.settings.Config.{Config}
use Rattle.relay_facts.proofs.Runs.{step_well}
use Rattle.relay_model.specs.Run as run
use Rattle.relay_model.specs.Run.{is_reading, is_running, is_taken, is_there, new_session}
use Rattle.relay_model.specs.Run.{opened, refusal}
use Rattle.relay_model.specs.State as model
use Rattle.relay_model.specs.State.{in_phase, with_unread}
use Rattle.relay_model.specs.Terms.{Terms}
use Rattle.relay_model.specs.World as world
use Rattle.relay_model.specs.World.{World, with_session}
use Rattle.relay_core.specs.Peers.{GivesPeer, SamePeers, TakesPeer, peer_at, session_at}
use Rattle.relay_core.specs.declared.peers.Peer.{Peer}
use Rattle.relay_core.specs.declared.peers.Peers.{Peers}
use Rattle.relay_core.proofs.Turning.{but_one, core_with_peers, is_there_as, lent_is, peers_after}
use Rattle.relay_core.proofs.Turning.{peers_again, refused, runs_as}
use Rattle.relay_core.specs.Agreement.{PeerIs, PeerStands, AgreesAs}
use Rattle.relay_core.specs.Turns.{IsBack}
use Rattle.relay_core.specs.Views.{output_view}
use Rattle.relay_core.specs.declared.event.CoreError.TheVariants as faults
use Rattle.relay_core.specs.declared.event.Output.{Output}
use Rattle.relay_core.specs.declared.event.Output.TheVariants as outputs
use Rattle.relay_core.specs.declared.system.System.{System}
use Rattle.relay_core.specs.Steps.{StepsAs}
use Rattle.block_shelf.specs.Leaving.{Trust, honestly}

-- there are as many peers as the configuration has
pub peers_count : (config : Config)
    → vec_len config.relay.peers ≡ length (terms_of config).peers
peers_count config =
    config.relay.peers.ok.0 ∙ sym (length-map config.relay.peers.items identity_view)

module _ {S : Type 0} {g : Ghosts S} (s : System S g) (n : ℕ) where
  abbrev w : Terms
  w = terms_of s.config

  -- what an event on one session gives
  record Changes (event : run.Event) (output : Output) (peer' : Peer) (x : World)
      (m : model.Session)
      : Type 0 where
    pub next : model.Session
    pub stands : PeerStands true w x.state.kept peer' next (x.work.slot n)
    pub runs : is_running next.phase ≡ true
    pub is_step : run.Step w x event (output_view output) (with_session x n next)

  -- one peer is taken out, changed and put back
  session_steps : (event : run.Event) (output : Output) (peer : Peer) (result : Option Peer)
      (lent : Peers) (peer' : Peer) (back : Peers) → TakesPeer n s.peers result lent
      → result ≡ Some peer → GivesPeer n peer' lent back
      → ((leaving : Bool) (x : World) (m : model.Session) → AgreesAs (honestly leaving) s x
      → x.state.session n ≡ Some m
      → PeerStands true w x.state.kept peer m (x.work.slot n) → is_running m.phase ≡ true
      → Changes event output peer' x m)
      → StepsAs event s output (record s { peers = back })
  session_steps event output peer result lent peer' back takes is gives changes =
      λ leaving x agrees.
      let here = lent_is (honestly leaving) w n s x peer result lent agrees takes is in
      let c = changes leaving x here.0 agrees here.1 here.2 here.3 in
      let still = runs_as w peer' c.next c.stands.gathered c.stands.stands c.runs in
      let but = but_one (honestly leaving) w n s x result lent agrees takes in
      record {
        after = with_session x n c.next;
        agrees = record {
          core = record {
            newest = but.core.newest;
            claims = but.core.claims;
            count = but.core.count;
            group_writers = but.core.group_writers;
            desk = but.core.desk;
            expirer = but.core.expirer;
            buffer_set = but.core.buffer_set;
          };
          peers = peers_after true w n peer' lent back x.state.kept x.state.session x.work.slot
              c.next (IsBack still gives) c.stands but.peers;
          well = step_well w x (with_session x n c.next) event (output_view output)
              (are_sound s.config) agrees.well c.is_step;
        };
        is_step = c.is_step;
      }

  -- whether a session reads, by the peers that are there
  pub reads : (answer : Bool) (x : World) (trusted : Trust)
      → answer ≡ is_there is_reading (session_at s.peers n) → AgreesAs trusted s x
      → is_there is_reading (x.state.session n) ≡ answer
  reads answer x trusted reports agrees =
      is_there_as is_reading refl trusted.honest w x.state.kept (peer_at s.peers n)
      (x.state.session n)
      (x.work.slot n) (agrees.peers n) ∙ sym reports

  abbrev pub none_if : Bool → Option world.Fault
  none_if b = if b then None else Some world.NoSession

  -- octets come to no session that reads
  pub not_reading : (piece : List ℕ) (answer : Bool)
      → answer ≡ is_there is_reading (session_at s.peers n) → answer ≡ false
      → StepsAs (run.Bytes n piece) s (outputs.Refused faults.NoSession) s
  not_reading piece answer reports wrong =
      refused (run.Bytes n piece) faults.NoSession s (λ leaving x agrees.
      ap none_if (reads answer x (honestly leaving) reports agrees ∙ wrong))

  -- no session that reads breaks off
  pub not_there : (answer : Bool) → answer ≡ is_there is_reading (session_at s.peers n)
      → answer ≡ false → StepsAs (run.Break n) s (outputs.Refused faults.NoSession) s
  not_there answer reports wrong = refused (run.Break n) faults.NoSession s (λ leaving x agrees.
      ap none_if (reads answer x (honestly leaving) reports agrees ∙ wrong))

  -- octets come
  pub fed : (piece : List ℕ) (answer : Bool) (peer : Peer) (result : Option Peer) (lent : Peers)
      (session : Session) (back : Peers)
      → answer ≡ is_there is_reading (session_at s.peers n) → answer ≡ true
      → TakesPeer n s.peers result lent → result ≡ Some peer → Fed peer.session piece session
      → GivesPeer n (record peer { session = session }) lent back
      → StepsAs (run.Bytes n piece) s outputs.Quiet (record s { peers = back })
  fed piece answer peer result lent session back reports right takes is feeds gives =
      session_steps (run.Bytes n piece) outputs.Quiet peer result lent
      (record peer { session = session }) back takes is gives
      (λ leaving x m agrees there stands runs.
      let open_one : refusal w x.state (run.Bytes n piece) ≡ None =
      ap none_if (reads answer x (honestly leaving) reports agrees ∙ right) in
      record {
        next = with_unread m (m.unread ++ piece);
        stands = record {
          gathered = stands.gathered;
          stands = feeds w m stands.gathered stands.stands;
          fronts = stands.fronts;
          slot_is = stands.slot_is;
        };
        runs = runs;
        is_step = run.IsDone open_one (m, there, refl, refl);
      })

  -- the connection is gone
  pub broken : (octets : List ℕ) (answer : Bool) (peer : Peer) (result : Option Peer)
      (lent : Peers) (session : Session) (back : Peers)
      → answer ≡ is_there is_reading (session_at s.peers n) → answer ≡ true
      → TakesPeer n s.peers result lent → result ≡ Some peer → BrokenOff peer.session session
      → GivesPeer n (record peer { session = session }) lent back → octets ≡ []
      → StepsAs (run.Break n) s (outputs.Ended n octets) (record s { peers = back })
  broken octets answer peer result lent session back reports right takes is breaks gives none =
      session_steps (run.Break n) (outputs.Ended n octets) peer result lent
      (record peer { session = session }) back takes is gives
      (λ leaving x m agrees there stands runs.
      let open_one : refusal w x.state (run.Break n) ≡ None =
      ap none_if (reads answer x (honestly leaving) reports agrees ∙ right) in
      record {
        next = in_phase m model.Leaving;
        stands = record {
          gathered = [];
          stands = breaks w m stands.gathered stands.stands;
          fronts = λ trusted. refl;
          slot_is = stands.slot_is;
        };
        runs = refl;
        is_step = run.IsDone open_one (m, there, ap (world.Ended n) none, refl);
      })

  -- there is no memory for a piece: the session stands as before
  pub unfed : (peer : Peer) (result : Option Peer) (lent : Peers) (session : Session)
      (back : Peers) → TakesPeer n s.peers result lent → result ≡ Some peer
      → StandsAsBefore peer.session session
      → GivesPeer n (record peer { session = session }) lent back → (trusted : Trust) (x : World)
      → AgreesAs trusted s x → AgreesAs trusted (record s { peers = back }) x
  unfed peer result lent session back takes is same gives trusted x agrees =
      let here = lent_is trusted w n s x peer result lent agrees takes is in
      let but = but_one trusted w n s x result lent agrees takes in
      let stays = same w here.0 here.2.gathered here.2.stands in
      let one : Peer = record peer { session = session } in
      let runs = runs_as w one here.0 here.2.gathered stays here.3 in
      record {
        core = core_with_peers trusted w s x back agrees.core;
        peers = peers_again trusted.honest w n (record peer { session = session }) lent back
            x.state.kept x.state.session x.work.slot here.0 (IsBack runs gives) here.1 (record {
              gathered = here.2.gathered;
              stands = stays;
              fronts = here.2.fronts;
              slot_is = here.2.slot_is;
            }) but.peers;
        well = agrees.well;
      }

  -- there is no memory for a new session: the peers that were there are there
  pub unopened : (peers : Peers) → SamePeers s.peers peers → (trusted : Trust) (x : World)
      → AgreesAs trusted s x → AgreesAs trusted (record s { peers = peers }) x
  unopened peers same trusted x agrees =
      record {
        core = core_with_peers trusted w s x peers agrees.core;
        peers = λ k.
            let P : Option Peer → Type 0 = λ o. PeerIs trusted.honest w x.state.kept o
            (x.state.session k) (x.work.slot k) in
            subst P (sym (same k)) (agrees.peers k);
        well = agrees.well;
      }

  -- an event that is answered want of memory leaves all as it was
  pub wanted : (event : run.Event) (new : System S g) → run.takes_memory event ≡ true
      → new.config ≡ s.config
      → ((leaving : Bool) (x : World) → AgreesAs (honestly leaving) s x
      → AgreesAs (honestly leaving) new x)
      → StepsAs event s (outputs.Refused faults.Memory) new
  wanted event new takes config same = λ leaving x agrees.
      record {
        after = x;
        agrees = same leaving x agrees;
        is_step = run.WantsMemory takes refl refl;
      }

  -- the number was had before
  pub was_taken : (peer : ℕ) (answer : Bool) → answer ≡ is_taken s.newest n → answer ≡ true
      → StepsAs (run.Open n peer) s (outputs.Refused faults.SessionTaken) s
  was_taken peer answer is right = refused (run.Open n peer) faults.SessionTaken s
      (λ leaving x agrees.
      let e : is_taken x.state.newest n ≡ true =
      ap (λ o. is_taken o n) agrees.core.newest ∙ sym is ∙ right in
      ap (λ (b : Bool). if b then Some world.SessionTaken
      else (if nat_lt peer (length w.peers) then None else Some world.NoPeer)) e)

  -- there is no such peer
  pub no_peer : (peer : ℕ) (answer : Bool) → answer ≡ is_taken s.newest n → answer ≡ false
      → length w.peers ≤ peer
      → StepsAs (run.Open n peer) s (outputs.Refused faults.NoPeer) s
  no_peer peer answer is wrong past = refused (run.Open n peer) faults.NoPeer s (λ leaving x agrees.
      let e : is_taken x.state.newest n ≡ false =
      ap (λ o. is_taken o n) agrees.core.newest ∙ sym is ∙ wrong in
      let f : nat_lt peer (length w.peers) ≡ false = le-ltb peer _ past in
      λ i. if e i then Some world.SessionTaken else (if f i then None else Some world.NoPeer))

  -- a session opens
  pub opened_one : (peer : ℕ) (answer : Bool) (session : Session) (greeting : List ℕ)
      (peers : Peers) → answer ≡ is_taken s.newest n → answer ≡ false → peer < length w.peers
      → NewStands w session peer → greeting ≡ reply_text Greeting
      → GivesPeer n (record { session = session; slot = None }) s.peers peers
      → StepsAs (run.Open n peer) s (outputs.Sent n greeting)
      (record s { peers = peers; newest = Some n })
  opened_one peer answer session greeting peers is wrong within stands greets gives =
      λ leaving x agrees.
      let e : is_taken x.state.newest n ≡ false =
      ap (λ o. is_taken o n) agrees.core.newest ∙ sym is ∙ wrong in
      let f : nat_lt peer (length w.peers) ≡ true = lt-ltb peer _ within in
      let open_one : refusal w x.state (run.Open n peer) ≡ None =
      λ i. if e i then Some world.SessionTaken
      else (if f i then None else Some world.NoPeer) in
      let step : run.Step w x (run.Open n peer) (world.Sent n greeting) (opened x n peer) =
      run.IsDone open_one (ap (world.Sent n) greets, refl) in
      let one : Peer = record { session = session; slot = None } in
      let runs = runs_as w one (new_session peer) [] stands refl in
      let fresh : x.work.slot n ≡ None =
      (agrees.well.awaited.absent n (agrees.well.numbered.unopened n e)).slot in
      record {
        after = opened x n peer;
        agrees = record {
          core = record {
            newest = refl;
            claims = agrees.core.claims;
            count = agrees.core.count;
            group_writers = agrees.core.group_writers;
            desk = agrees.core.desk;
            expirer = agrees.core.expirer;
            buffer_set = agrees.core.buffer_set;
          };
          peers = peers_after true w n (record { session = session; slot = None }) s.peers peers
              x.state.kept x.state.session x.work.slot (new_session peer) (IsBack runs gives)
              (record {
                gathered = [];
                stands = stands;
                fronts = λ trusted. refl;
                slot_is = fresh;
              })
              (λ k differ. agrees.peers k);
          well = step_well w x (opened x n peer) (run.Open n peer) (world.Sent n greeting)
              (are_sound s.config) agrees.well step;
        };
        is_step = step;
      }
