-- A pop: the writer takes the job that the queue loses.
use Rattle.std.proofs.Common.{◌≡◌, ◌∙◌, ◌+◌, ◌==◌, ℕ, Bool, true, false, List, ◌∷◌, Some, All}
use Rattle.std.proofs.Common.{count_by, cond, refl, sym, ap, subst, arith}
use Rattle.std.proofs.lemmas.Bool.{cond_both, eqb-true}
use Rattle.std.proofs.lemmas.List.Elements.{All-head, All-tail}
use Rattle.std.proofs.lemmas.List.Sums.{sum_by-cons}
use Rattle.relay_model.specs.Invariants.{IsPlaced, IsAt, WaitsAs, is_of, in_hand, job_at}
use Rattle.relay_model.specs.State.{Job}
use Rattle.relay_model.specs.Terms.{Terms}
use Rattle.relay_model.specs.World.{World, Writer, Idle, Popped}
use Rattle.relay_model.specs.Writers.{popped}

-- what the writer gains the queue loses
moved : (id : List ℕ) (job : Job) (rest queue : List Job) (writer : Writer) (here : Bool)
    → (here ≡ true → queue ≡ job ∷ rest) → (here ≡ true → writer ≡ Idle)
    → count_by (is_of id) (cond here rest queue) + in_hand id
    (job_at (cond here (Popped job) writer))
    ≡ count_by (is_of id) queue + in_hand id (job_at writer)
moved id job rest queue writer false has idle = refl
moved id job rest queue writer true has idle =
    subst (λ q. count_by (is_of id) rest + in_hand id (Some job)
    ≡ count_by (is_of id) q + in_hand id (job_at writer))
    (sym (has refl))
    (subst (λ v. count_by (is_of id) rest + in_hand id (Some job)
    ≡ count_by (is_of id) (job ∷ rest) + in_hand id (job_at v))
    (sym (idle refl))
    (omega (arith, sum_by-cons (λ j. cond (is_of id j) 1 0) job rest)))

-- a pop keeps each job in its one place
pub popped_placed : (w : Terms) (x : World) (g : ℕ) (job : Job) (rest : List Job)
    → x.work.writer g ≡ Idle → x.work.queue g ≡ job ∷ rest → IsPlaced w x
    → IsPlaced w (popped x g job rest)
popped_placed w x g job rest idle queue p =
    let heads = subst (λ q. All (λ (one : Job). (one.article.group ≡ g)
    × WaitsAs x.state one.session one) q) queue (p.queue g) in
    record {
      one = λ id s article stage claimed.
          let m = moved id job rest (x.work.queue article.group) (x.work.writer article.group)
          (article.group == g)
          (λ e. ap x.work.queue (eqb-true article.group g e) ∙ queue)
          (λ e. ap x.work.writer (eqb-true article.group g e) ∙ idle) in
          omega (arith, m, p.one id s article stage claimed);
      hand = p.hand;
      empty = p.empty;
      queue = λ h. cond_both (h == g) rest (x.work.queue h)
          (λ q. All (λ (one : Job). (one.article.group ≡ h) × WaitsAs x.state one.session one) q)
          (λ e. subst (λ n. All (λ (one : Job). (one.article.group ≡ n)
          × WaitsAs x.state one.session one) rest) (sym (eqb-true h g e))
          (All-tail (λ (one : Job). (one.article.group ≡ g) × WaitsAs x.state one.session one) job
          rest heads))
          (λ e. p.queue h);
      writer = λ h. cond_both (h == g) (Popped job) (x.work.writer h) (λ v. IsAt w x.state h v)
          (λ e. subst (λ n. IsAt w x.state n (Popped job)) (sym (eqb-true h g e))
          (let one = All-head (λ (one : Job). (one.article.group ≡ g)
          × WaitsAs x.state one.session one) job rest heads in (one.0, one.1.claimed)))
          (λ e. p.writer h);
    }
