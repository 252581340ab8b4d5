-- What threads are started with.
use Rattle.std.proofs.Common.{◌≡◌, ◌≢◌, ⊎_elim, ◌+◌, ◌<◌, ◌≤◌, arith, ℕ, Bool, false, List, []}
use Rattle.std.proofs.Common.{◌∷◌, ◌++◌, length, map, refl, Some, sym, ap, ◌∙◌, subst}
use Rattle.std.specs.Prelude.{slice_get, slice_set}
use Rattle.std.proofs.lemmas.List.{length-map, map-append}
use Rattle.std.proofs.lemmas.Option.{same_Some}
use Rattle.crossbeam_queue.specs.Passes.{IsPassOf}
use Rattle.job_queue.specs.Passes.{QueuePass}
use Rattle.job_queue.specs.declared.parcel.Handed.{Handed}
use Rattle.live_jobs.specs.Gathered.{AllClosed, hands_of}
use Rattle.live_jobs.specs.JobChannels.{queue_of}
use Rattle.live_jobs.specs.Rows.{From}
use Rattle.live_jobs.specs.Seats.{IsSeatOf, HasLeft, end_of, count_of, handed_by, left_end, left_by}
use Rattle.live_jobs.specs.Started.{Ready, Runs, Serves, Ended, Left, HasKept, AllKept}
use Rattle.live_jobs.specs.declared.channel.JobChannel.{JobChannel}
use Rattle.live_jobs.specs.declared.session.LeftSeat.{LeftSeat}
use Rattle.live_jobs.specs.declared.session.SessionSeat.{SessionSeat}
use Rattle.live_jobs.proofs.Passes.{get_set}
use Rattle.live_jobs.proofs.Rows.{each_snoc, get_snoc}
use Rattle.live_jobs.proofs.Writers.{within}

-- a seat that comes back with its closure is the seat that went in
pub same_seat : (channels now : List JobChannel) (seat was : SessionSeat) (end : ℕ)
    → channels ≡ now → seat ≡ was
    → end ≡ end_of was → IsSeatOf now was → IsSeatOf channels seat × (end_of seat ≡ end)
same_seat channels now seat was end l p e fits = (
  subst (λ (x : List JobChannel × SessionSeat). IsSeatOf x.0 x.1) (λ i. (sym l i, sym p i)) fits,
  ap end_of p ∙ sym e,
)

pub ended : (channels : List JobChannel) (ends g : ℕ) (channel : JobChannel) (n : ℕ)
    (pass : QueuePass) (lent : Bool)
    (closed : List Bool) → Runs channels ends g channel n → IsPassOf (queue_of channel) pass
    → AllClosed n closed → lent ≡ false → Ended channels ends g pass lent closed
ended channels ends g channel n pass lent closed runs is all here = (
  (λ other there. subst (λ (q : JobChannel). IsPassOf (queue_of q) pass)
      (same_Some channel other (sym runs.1 ∙ there)) is),
  subst (λ (k : ℕ). AllClosed k closed) runs.0 all,
  here,
)

pub left : (channels its : List JobChannel) (e end : ℕ) (seat : LeftSeat)
    → Serves channels e its end
    → left_end seat ≡ end → HasLeft its seat → Left channels e seat
left channels its e end seat serves is fits =
    (is ∙ serves.0, subst (λ (ls : List JobChannel). HasLeft ls seat) serves.1 fits)

module _ {X : Type 0} (P : ℕ → X → Type 0) where
  pub finished_next : (n : ℕ) (xs : List X) (new : X)
      → ((k : ℕ) (x : X) → k < n → slice_get xs k ≡ Some x → P k x) → P n new
      → (k : ℕ) (x : X) → k < n + 1 → slice_get (slice_set xs n new) k ≡ Some x → P k x
  finished_next n xs new finished this k x less at = ⊎_elim
      (λ (t : (k ≡ n) × (new ≡ x)).
      subst (λ (y : ℕ × X). P y.0 y.1) (λ i. (sym t.0 i, t.1 i)) this)
      (λ (t : (k ≢ n) × (slice_get xs k ≡ Some x)). let apart = t.0 in
      finished k x (omega arith) t.1)
      (get_set xs n new k x at)

  pub todo_next : (n : ℕ) (xs : List X) (new : X)
      → ((k : ℕ) (x : X) → n ≤ k → slice_get xs k ≡ Some x → P k x)
      → (k : ℕ) (x : X) → n + 1 ≤ k → slice_get (slice_set xs n new) k ≡ Some x → P k x
  todo_next n xs new todo k x past at = ⊎_elim
      (λ (t : (k ≡ n) × (new ≡ x)). let same = t.0 in absurd (omega arith))
      (λ (t : (k ≢ n) × (slice_get xs k ≡ Some x)). todo k x (omega arith) t.1)
      (get_set xs n new k x at)

-- ---- one writer more, with its channel
pub ready_grown : {X : Type 0} (f : X → QueuePass) (lent : X → Bool) (h : X → List Bool)
    (channels now : List JobChannel) (channel : JobChannel) (ends : ℕ) (xs ys : List X) (x : X)
    → From (λ g w. Ready channels ends g (f w) (lent w) (h w)) 0 xs → length xs ≡ length channels
    → now ≡ channels ++ channel ∷ [] → ys ≡ xs ++ x ∷ [] → IsPassOf (queue_of channel) (f x)
    → lent x ≡ false → length (h x) ≡ ends
    → From (λ g w. Ready now ends g (f w) (lent w) (h w)) 0 ys
ready_grown {X} f lent h channels now channel ends xs ys x all long grown more is here flags =
    subst (λ (ls : List JobChannel). From (λ g w. Ready ls ends g (f w) (lent w) (h w)) 0 ys)
    (sym grown)
    (each_snoc (λ g w. Ready (channels ++ channel ∷ []) ends g (f w) (lent w) (h w)) xs ys x
    (λ k w at. let old = all k w at in let less = within xs k w at in (
      (λ q there. ⊎_elim
          (λ (u : slice_get channels (0 + k) ≡ Some q). old.0 q u)
          (λ (u : (0 + k ≡ length channels) × (channel ≡ q)). let last = u.0 in
          absurd (omega arith))
          (get_snoc channels channel (0 + k) q there)),
      old.1,
      old.2,
    ))
    more (
      (λ q there. ⊎_elim
          (λ (u : slice_get channels (length xs) ≡ Some q).
          let less = within channels (length xs) q u in absurd (omega arith))
          (λ (u : (length xs ≡ length channels) × (channel ≡ q)).
          subst (λ (r : JobChannel). IsPassOf (queue_of r) (f x)) u.1 is)
          (get_snoc channels channel (length xs) q there)),
      here,
      flags,
    ))

-- ---- what the ends that have left keep
module _ {V : Type 0} (fits : V → (end count : ℕ) → List (List Handed) → Type 0) where
  -- what came back with its closure is what went in
  pub same_kept : (service was : V) (seat saw : SessionSeat) (end : ℕ) → service ≡ was → seat ≡ saw
      → end ≡ end_of saw → fits was (end_of saw) (count_of saw) (handed_by saw)
      → fits service end (count_of seat) (handed_by seat)
  same_kept service was seat saw end v p e kept =
      subst (λ (x : V × (ℕ × SessionSeat)). fits x.0 x.1.0 (count_of x.1.1) (handed_by x.1.1))
      (λ i. (sym v i, (sym e i, sym p i))) kept

  pub none_kept : (lefts : List LeftSeat) (services : List V) → length services ≡ 0
      → AllKept fits (hands_of lefts) services
  none_kept lefts [] none e jobs v left at = absurd (cc)
  none_kept lefts (w ∷ vs) none e jobs v left at = absurd (omega arith)

  pub kept_snoc
      : (lefts now : List LeftSeat) (left : LeftSeat) (services later : List V) (service : V)
      → AllKept fits (hands_of lefts) services → length services ≡ length lefts
      → now ≡ lefts ++ left ∷ [] → later ≡ services ++ service ∷ []
      → HasKept fits service (length lefts) (left_by left)
      → AllKept fits (hands_of now) later
  kept_snoc lefts now left services later service all long more also last e jobs v hands at =
      ⊎_elim
      (λ (t : slice_get services e ≡ Some v).
      ⊎_elim (λ (u : slice_get (hands_of lefts) e ≡ Some jobs). all e jobs v u t)
      (λ (u : (e ≡ length (hands_of lefts)) × (left_by left ≡ jobs)).
      let less = within services e v t in
      let many = length-map lefts left_by in
      let here = u.0 in
      absurd (omega arith))
      (get_snoc (hands_of lefts) (left_by left) e jobs handed))
      (λ (t : (e ≡ length services) × (service ≡ v)).
      ⊎_elim
      (λ (u : slice_get (hands_of lefts) e ≡ Some jobs).
      let less = within (hands_of lefts) e jobs u in
      let many = length-map lefts left_by in
      let here = t.0 in
      absurd (omega arith))
      (λ (u : (e ≡ length (hands_of lefts)) × (left_by left ≡ jobs)).
      subst (λ (x : V × (ℕ × List (List Handed))). HasKept fits x.0 x.1.0 x.1.1)
      (λ i. (t.1 i, (sym (t.0 ∙ long) i, u.1 i))) last)
      (get_snoc (hands_of lefts) (left_by left) e jobs handed))
      (get_snoc services service e v (ap (λ (l : List V). slice_get l e) (sym also) ∙ at))
    where
      handed : slice_get (hands_of lefts ++ left_by left ∷ []) e ≡ Some jobs
      handed = ap (λ (l : List (List (List Handed))). slice_get l e)
          (sym (ap hands_of more ∙ map-append left_by lefts (left ∷ []))) ∙ hands

-- ---- what is served, in the order in which it was given
module _ {P V : Type 0} (f : P → V) where
  pub services_next : (ps now : List P) (p : P) (v : V) (all rest next : List V)
      → map f ps ++ rest ≡ all → now ≡ ps ++ p ∷ [] → rest ≡ v ∷ next → f p ≡ v
      → map f now ++ next ≡ all
  services_next ps now p v all rest next so_far more is same =
      ap (λ (l : List P). map f l ++ next) more
      ∙ ap (λ (l : List V). l ++ next) (map-append f ps (p ∷ []))
      ∙ front (map f ps)
      ∙ ap (λ (l : List V). map f ps ++ l) (ap (λ (w : V). w ∷ next) same ∙ sym is)
      ∙ so_far
    where
      front : (xs : List V) → (xs ++ f p ∷ []) ++ next ≡ xs ++ f p ∷ next
      front [] = refl
      front (x ∷ xs) = ap (λ (l : List V). x ∷ l) (front xs)

  pub services_start : (ps : List P) (all rest : List V) → length ps ≡ 0 → rest ≡ all
      → map f ps ++ rest ≡ all
  services_start [] all rest none same = same
  services_start (p ∷ ps) all rest none same = absurd (omega arith)

  pub services_end : (ps : List P) (all rest : List V) → map f ps ++ rest ≡ all → rest ≡ []
      → map f ps ≡ all
  services_end ps all rest so_far none =
      sym (last (map f ps)) ∙ ap (λ (l : List V). map f ps ++ l) (sym none) ∙ so_far
    where
      last : (xs : List V) → xs ++ [] ≡ xs
      last [] = refl
      last (x ∷ xs) = ap (λ (l : List V). x ∷ l) (last xs)
