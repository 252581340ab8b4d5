-- Open, Bytes, Break.
use Rattle.std.proofs.Common.{◌≡◌, ◌<◌, ◌++◌, ℕ, true, false, List, length, Option, None, Some}
use Rattle.std.proofs.Common.{refl, sym}
use Rattle.std.proofs.Common.{ap, subst, arith, true≢false}
use Rattle.std.proofs.lemmas.Bool.{leb-false, lt-leb}
use Rattle.std.proofs.lemmas.Option.{none-some, same_Some}
use Rattle.relay_facts.proofs.Orderly.{IsOrderly}
use Rattle.relay_model.specs.Run.{is_running, is_taken, opened, new_session}
use Rattle.relay_model.specs.State.{Session, Leaving, in_phase, with_unread}
use Rattle.relay_model.specs.Terms.{Terms}
use Rattle.relay_model.specs.World.{World, with_session}
use Rattle.relay_facts.proofs.Places.{hand_of}
use Rattle.relay_facts.proofs.Puts.{put_at_both}
use Rattle.relay_facts.proofs.SessionOrderly.{Leaves, follows_orderly, held_put}
use Rattle.relay_facts.proofs.Unmoved.{alike, session_placed}

-- a number that isn't above the newest is taken; what is free after s opens was free before, and
-- isn't s
was_free : (newest : Option ℕ) (s n : ℕ) → is_taken newest s ≡ false → is_taken (Some s) n ≡ false
    → (is_taken newest n ≡ false) × (n ≡ s → ⊥)
was_free None s n free after = let past =
    leb-false n s after in (refl, λ e. absurd (omega (arith, past, e)))
was_free (Some newest) s n free after =
    let past = leb-false n s after in
    let before = leb-false s newest free in
    (lt-leb n newest (omega (arith, past, before)), λ e. absurd (omega (arith, past, e)))

-- Open: a new session under a number that is above all
pub opened_orderly : (w : Terms) (x : World) (s peer : ℕ) → is_taken x.state.newest s ≡ false
    → peer < length w.peers → IsOrderly w x → IsOrderly w (opened x s peer)
opened_orderly w x s peer free inside orderly =
    let after = opened x s peer in record {
      numbered = record {
        unopened = λ n empty. let was = was_free x.state.newest s n free empty in
            put_at_both (λ o. o ≡ None) x.state.session s (Some (new_session peer)) n
            (λ e. absurd (was.1 e)) (λ apart. orderly.numbered.unopened n was.0);
        peer = λ n session is running.
            put_at_both (λ o. o ≡ Some session → session.peer < length w.peers) x.state.session s
            (Some (new_session peer)) n
            (λ e same. subst (λ (one : Session). one.peer < length w.peers)
            (same_Some (new_session peer) session same) inside)
            (λ apart same. orderly.numbered.peer n session same running) is;
      };
      placed = session_placed w x after s (new_session peer)
          (alike x.state after.state (λ id. refl)) (λ g. refl) (λ n. refl)
          (λ g. refl) (λ g. refl) (sym (ap hand_of (orderly.numbered.unopened s free))) (λ e. refl)
          orderly.placed;
      sized = record {
        begun = orderly.sized.begun;
        laid = orderly.sized.laid;
        storing = orderly.sized.storing;
        held_one = held_put w x.state after.state s (new_session peer) (λ n. refl) orderly.sized
            (λ article has. absurd (none-some article has));
        kept = orderly.sized.kept;
      };
    }

-- what a session's own step leaves, where it touches nothing else
pub leaves_all : (x : World) (s : ℕ) (next : Session) → Leaves x (with_session x s next) s next
leaves_all x s next = record {
  puts = λ n. refl;
  claims = alike x.state (with_session x s next).state (λ id. refl);
  begun = λ g. refl;
  kept = refl;
  newest = refl;
  queue = λ g. refl;
  writer = λ g. refl;
}

-- Bytes: octets join those that aren't read
pub fed_orderly : (w : Terms) (x : World) (s : ℕ) (session : Session) (piece : List ℕ)
    → x.state.session s ≡ Some session → is_running session.phase ≡ true → IsOrderly w x
    → IsOrderly w (with_session x s (with_unread session (session.unread ++ piece)))
fed_orderly w x s session piece there runs orderly =
    let next = with_unread session (session.unread ++ piece) in
    follows_orderly w x (with_session x s next) s session next there
    (record {
      runs = runs;
      peer = refl;
      hand = refl;
      carries = orderly.placed.empty s session there;
      holds = λ article has. orderly.sized.held_one s session article there has;
    })
    (leaves_all x s next) orderly

-- Break: the session leaves, with what is in its hand
pub broken_orderly : (w : Terms) (x : World) (s : ℕ) (session : Session)
    → x.state.session s ≡ Some session → is_running session.phase ≡ true → IsOrderly w x
    → IsOrderly w (with_session x s (in_phase session Leaving))
broken_orderly w x s session there runs orderly =
    let next = in_phase session Leaving in
    follows_orderly w x (with_session x s next) s session next there
    (record {
      runs = runs;
      peer = refl;
      hand = refl;
      carries = λ e. absurd (true≢false e);
      holds = λ article has. absurd (none-some article has);
    })
    (leaves_all x s next) orderly
