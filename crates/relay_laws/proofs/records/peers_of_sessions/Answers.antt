use Rattle.std.proofs.Common.{◌≡◌, ◌∙◌, ◌<◌, None, Some, refl, sym, ap, arith}
use Rattle.std.proofs.Common.{true≢false}
use Rattle.std.proofs.lemmas.Option.{none-some, same_Some}
use Rattle.relay_model.specs.Run.{is_running, is_taken}
use Rattle.relay_model.specs.State.{Session, Ready, Leaving, Ended, in_phase, empty_state}
use Rattle.relay_facts.proofs.Puts.{put_at_both}
use Rattle.relay_laws.specs.Worlds.{reading}
use Rattle.relay_laws.proofs.records.peers_of_sessions.Goals as goal

-- the session, once it has ended
abbrev one_ended : Session
one_ended = in_phase (record reading { peer = 2 }) Ended

pub returns-clause-running : goal.returns-clause-running
returns-clause-running c = λ is.
    let inside : 2 < 2 = is.peer 1 (in_phase (record reading { peer = 2 }) Ready) refl refl in
    omega (arith, inside)

pub returns-clause-leaving : goal.returns-clause-leaving
returns-clause-leaving c = λ is.
    let inside : 2 < 2 = is.peer 1 (in_phase (record reading { peer = 2 }) Leaving) refl refl in
    omega (arith, inside)

pub returns-clause-ended : goal.returns-clause-ended
returns-clause-ended c = record {
  unopened = λ s free.
      put_at_both (λ o. o ≡ None) empty_state.session 1 (Some one_ended) s
      (λ same. absurd (true≢false (sym (ap (is_taken (Some 1)) same) ∙ free)))
      (λ other. refl);
  peer = λ s session there running.
      put_at_both (λ o. o ≡ Some session → session.peer < 2) empty_state.session 1
      (Some one_ended) s
      (λ same e. absurd (true≢false (sym running
      ∙ ap (λ (one : Session). is_running one.phase) (sym (same_Some one_ended session e)))))
      (λ other e. absurd (none-some session e)) there;
}
