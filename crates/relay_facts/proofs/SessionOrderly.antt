-- A step that puts one session in place of what it was: what has to hold of the new one.
use Rattle.std.proofs.Common.{◌≡◌, ◌∙◌, ◌≤◌, ◌<◌, ℕ, true, false, List, length, None, Some, All}
use Rattle.std.proofs.Common.{refl, sym, ap, subst}
use Rattle.std.proofs.lemmas.Option.{none-some, same_Some}
use Rattle.news_terms.specs.Courses.{Course, IsLaid}
use Rattle.news_terms.specs.Fronts.{FitsGroup}
use Rattle.news_terms.specs.Places.{Extent, Group}
use Rattle.relay_model.specs.Claims.{Accepted, Storing, Stage, Waiting}
use Rattle.relay_model.specs.Invariants.{IsNumbered, IsSized, IsSoundArticle, IsKeptRight, held}
use Rattle.relay_model.specs.Invariants.{may_carry}
use Rattle.relay_facts.proofs.Orderly.{IsOrderly}
use Rattle.relay_model.specs.Run.{is_running, is_taken}
use Rattle.relay_model.specs.State.{State, Session, Job, put_at}
use Rattle.relay_model.specs.Terms.{Terms}
use Rattle.relay_model.specs.World.{World}
use Rattle.relay_facts.proofs.Places.{hand_of}
use Rattle.relay_facts.proofs.Pushed.{handed, pushed_placed}
use Rattle.relay_facts.proofs.Puts.{put_at_both, put_id_both}
use Rattle.relay_facts.proofs.Taken.{IsFree, taken, taken_placed, job_of}
use Rattle.relay_facts.proofs.Unmoved.{StoresAlike, session_placed}

-- an article that was begun
abbrev pub FitsOne : Group → Extent → Type 0
FitsOne group one = (1 ≤ one.size) × FitsGroup group one.size

-- the sessions after one was put
abbrev pub Puts : State → ℕ → Session → State → Type 0
Puts σ s next τ = (n : ℕ) → τ.session n ≡ put_at σ.session s (Some next) n

-- a session that runs goes on as another of the same peer
pub numbered_put : (w : Terms) (σ τ : State) (s : ℕ) (old next : Session) → σ.session s ≡ Some old
    → is_running old.phase ≡ true → next.peer ≡ old.peer → Puts σ s next τ → τ.newest ≡ σ.newest
    → IsNumbered w σ → IsNumbered w τ
numbered_put w σ τ s old next there runs peer puts newest num = record {
  unopened = λ n free.
      let before = ap (λ m. is_taken m n) (sym newest) ∙ free in
      puts n ∙ put_at_both (λ o. o ≡ None) σ.session s (Some next) n
      (λ e. absurd (none-some old (sym (num.unopened n before) ∙ ap σ.session e ∙ there)))
      (λ apart. num.unopened n before);
  peer = λ n session is running.
      put_at_both (λ o. o ≡ Some session → session.peer < length w.peers) σ.session s (Some next) n
      (λ e same. subst (λ (one : Session). one.peer < length w.peers) (same_Some next session same)
      (subst (λ m. m < length w.peers) (sym peer) (num.peer s old there runs)))
      (λ apart same. num.peer n session same running)
      (sym (puts n) ∙ is);
}

-- what the session holds is sound, so what any holds is
pub held_put : (w : Terms) (σ τ : State) (s : ℕ) (next : Session) → Puts σ s next τ → IsSized w σ
    → ((article : Accepted) → held next.phase ≡ Some article → IsSoundArticle w article)
    → (n : ℕ) (session : Session) (article : Accepted) → τ.session n ≡ Some session
    → held session.phase ≡ Some article → IsSoundArticle w article
held_put w σ τ s next puts sized sound n session article is has =
    put_at_both (λ o. o ≡ Some session → IsSoundArticle w article) σ.session s (Some next) n
    (λ e same. sound article (ap (λ (one : Session). held one.phase) (same_Some next session same)
    ∙ has))
    (λ apart same. sized.held_one n session article same has)
    (sym (puts n) ∙ is)

-- what else a step leaves as it was
pub record Leaves (x y : World) (s : ℕ) (next : Session) : Type 0 where
  pub puts : Puts x.state s next y.state
  pub claims : StoresAlike x.state y.state
  pub begun : (g : ℕ) → y.state.begun g ≡ x.state.begun g
  pub kept : y.state.kept ≡ x.state.kept
  pub newest : y.state.newest ≡ x.state.newest
  pub queue : (g : ℕ) → y.work.queue g ≡ x.work.queue g
  pub writer : (g : ℕ) → y.work.writer g ≡ x.work.writer g

-- a session that may follow one that runs where its hand stays
pub record Follows (w : Terms) (old next : Session) : Type 0 where
  pub runs : is_running old.phase ≡ true
  pub peer : next.peer ≡ old.peer
  pub hand : next.hand ≡ old.hand
  pub carries : may_carry next.phase ≡ false → next.hand ≡ None
  pub holds : (article : Accepted) → held next.phase ≡ Some article → IsSoundArticle w article

-- a session follows, all jobs stay where they are
pub follows_orderly : (w : Terms) (x y : World) (s : ℕ) (old next : Session)
    → x.state.session s ≡ Some old
    → Follows w old next → Leaves x y s next → IsOrderly w x → IsOrderly w y
follows_orderly w x y s old next there follows leaves orderly = record {
  numbered = numbered_put w x.state y.state s old next there follows.runs follows.peer leaves.puts
      leaves.newest orderly.numbered;
  placed = session_placed w x y s next leaves.claims leaves.begun leaves.puts leaves.queue
      leaves.writer
      (follows.hand ∙ sym (ap hand_of there)) follows.carries orderly.placed;
  sized = record {
    begun = λ g group is. subst (λ (course : Course). All (FitsOne group) course.articles)
        (sym (leaves.begun g)) (orderly.sized.begun g group is);
    laid = λ g group is. subst (IsLaid group) (sym (leaves.begun g))
        (orderly.sized.laid g group is);
    storing = λ id n article stage e. orderly.sized.storing id n article stage
        (leaves.claims.earlier id n article stage e);
    held_one = held_put w x.state y.state s next leaves.puts orderly.sized follows.holds;
    kept = subst (All IsKeptRight) (sym leaves.kept) orderly.sized.kept;
  };
}

-- an article is taken into the session's hand
pub taken_orderly : (w : Terms) (x : World) (s : ℕ) (old next : Session) (id : List ℕ)
    (article : Accepted)
    → x.state.session s ≡ Some old → is_running old.phase ≡ true → IsFree x.state id
    → old.hand ≡ None → next.peer ≡ old.peer → next.hand ≡ Some (job_of s id article)
    → may_carry next.phase ≡ true
    → held next.phase ≡ None → IsSoundArticle w article → IsOrderly w x
    → IsOrderly w (taken x s id article next)
taken_orderly w x s old next id article there runs free empty peer hand carries holds
    sound orderly =
    let after = taken x s id article next in record {
      numbered = numbered_put w x.state after.state s old next there runs peer (λ n. refl) refl
          orderly.numbered;
      placed = taken_placed w x s id article next free (ap hand_of there ∙ empty) hand
          (λ not. absurd (cc (not, carries))) orderly.placed;
      sized = record {
        begun = orderly.sized.begun;
        laid = orderly.sized.laid;
        storing = λ k n other stage.
            put_id_both (λ c. c ≡ Storing n other stage → IsSoundArticle w other) x.state.claim id
            (Storing s article Waiting) k
            (λ e is. subst (IsSoundArticle w) (articles n other stage is) sound)
            (λ e is. orderly.sized.storing k n other stage is);
        held_one = held_put w x.state after.state s next (λ n. refl) orderly.sized
            (λ other has. absurd (none-some other (sym holds ∙ has)));
        kept = orderly.sized.kept;
      };
    }
  where
    articles : (n : ℕ) (other : Accepted) (stage : Stage)
        → Storing s article Waiting ≡ Storing n other stage → article ≡ other
    articles n other stage same = cc

-- the job in hand is handed to its queue
pub handed_orderly : (w : Terms) (x : World) (s : ℕ) (old next : Session) (job : Job)
    → x.state.session s ≡ Some old → is_running old.phase ≡ true → old.hand ≡ Some job
    → next.peer ≡ old.peer → next.hand ≡ None
    → ((article : Accepted) → held next.phase ≡ Some article → IsSoundArticle w article)
    → IsOrderly w x → IsOrderly w (handed x s job next)
handed_orderly w x s old next job there runs full peer empty holds orderly =
    let after = handed x s job next in record {
      numbered = numbered_put w x.state after.state s old next there runs peer (λ n. refl) refl
          orderly.numbered;
      placed = pushed_placed w x s job next (ap hand_of there ∙ full) empty orderly.placed;
      sized = record {
        begun = orderly.sized.begun;
        laid = orderly.sized.laid;
        storing = orderly.sized.storing;
        held_one = held_put w x.state after.state s next (λ n. refl) orderly.sized holds;
        kept = orderly.sized.kept;
      };
    }
