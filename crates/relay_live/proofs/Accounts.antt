-- Ends that have served nothing yet.
use Rattle.std.proofs.Common.{◌≡◌, ℕ, zero, suc, Bool, List, [], ◌∷◌, ◌++◌, length, map, Some, ap}
use Rattle.std.proofs.Common.{append-nil, refl, sym, ◌∙◌, subst}
use Rattle.std.specs.Prelude.{slice_get}
use Rattle.std.proofs.lemmas.List.{length-map, map-append}
use Rattle.std.proofs.lemmas.Option.{same_Some}
use Rattle.std.proofs.lemmas.Simd.{map-map}
use Rattle.job_queue.specs.declared.parcel.Handed.{Handed}
use Rattle.live_jobs.proofs.Passes.{map_at}
use Rattle.live_jobs.specs.declared.store_result.KeptJob.{KeptJob}
use Rattle.live_jobs.specs.Started.{no_jobs}
use Rattle.live_jobs.specs.declared.channel.JobChannel.{JobChannel}
use Rattle.live_store.specs.declared.record.StorePremises.{Ghosts}
use Rattle.relay_live.specs.Sessions.{Accounted, IsNothing, Sessions, NoneYet}
use Rattle.relay_model.specs.Terms.{Terms}

-- to these channels nothing was handed over
pub nothing : (channels : List JobChannel) → IsNothing (no_jobs channels)
nothing [] g list at = absurd (cc)
nothing (channel ∷ channels) zero list at = sym (same_Some [] list at)
nothing (channel ∷ channels) (suc g) list at = nothing channels g list at

-- an end that has handed nothing over and kept nothing has its accounts right
pub new_accounts : {J : Type 0} {g : Ghosts J} (trusted : Bool) (w : Terms) (end peer : ℕ)
    (jobs : List (List Handed)) (kept : List (KeptJob J g)) → IsNothing jobs
    → kept ≡ [] → Accounted trusted w end peer 0 jobs kept
new_accounts {J} {g} trusted w end peer jobs kept none empty honest trust =
    ∣ subst (λ (kept : List (KeptJob J g)). Sessions honest g.register w end peer (record {
      jobs = jobs;
      count = 0;
      kept = map (λ k. k.number) kept;
    })) (sym empty) (NoneYet jobs none) ∣₁

-- lists that are read alike are of one length
pub same_length : {X Y Z : Type 0} (f : X → Z) (h : Y → Z) (xs : List X) (ys : List Y)
    → map f xs ≡ map h ys → length xs ≡ length ys
same_length f h xs ys same = sym (length-map xs f) ∙ ap length same ∙ length-map ys h

module _ {X Y : Type 0} (f : X → Y) where
  -- what is the same of all is so of each
  pub each_same : {D : Type 0} (y : Y) (xs : List X) (ds : List D) (k : ℕ) (x : X)
      → map f xs ≡ map (λ d. y) ds → slice_get xs k ≡ Some x → f x ≡ y
  each_same {D} y xs ds k x same at =
      only ds k (ap (λ (l : List Y). slice_get l k) (sym same) ∙ map_at f xs k x at)
    where
      only : (es : List D) (j : ℕ) → slice_get (map (λ (d : D). y) es) j ≡ Some (f x) → f x ≡ y
      only [] j e = absurd (cc)
      only (d ∷ es) zero e = sym (same_Some y (f x) e)
      only (d ∷ es) (suc j) e = only es j e

  -- a row that is read from the front while another grows
  pub map_next : {P : Type 0} (g : P → Y) (ps now : List P) (p : P) (x : X) (all : List Y)
      (rest next : List X) → map g ps ++ map f rest ≡ all → now ≡ ps ++ p ∷ [] → rest ≡ x ∷ next
      → g p ≡ f x → map g now ++ map f next ≡ all
  map_next {P} g ps now p x all rest next so_far more is same =
      ap (λ (l : List P). map g l ++ map f next) more
      ∙ ap (λ (l : List Y). l ++ map f next) (map-append g ps (p ∷ []))
      ∙ front (map g ps)
      ∙ ap (λ (l : List Y). map g ps ++ l)
      (ap (λ (w : Y). w ∷ map f next) same ∙ ap (map f) (sym is))
      ∙ so_far
    where
      front : (ys : List Y) → (ys ++ g p ∷ []) ++ map f next ≡ ys ++ g p ∷ map f next
      front [] = refl
      front (y ∷ ys) = ap (λ (l : List Y). y ∷ l) (front ys)

  -- and has been read
  pub all_read : {P : Type 0} (g : P → Y) (ps : List P) (rest : List X) (all : List Y)
      → map g ps ++ map f rest ≡ all → rest ≡ [] → map g ps ≡ all
  all_read {P} g ps rest all so_far none =
      sym (append-nil (map g ps)) ∙ ap (λ (l : List X). map g ps ++ map f l) (sym none) ∙ so_far

-- what is read of the marks is the same of the services that came back as of those that were given
module _ {V M : Type 0} (mark : V → M) where
  pub same_marks : {P : Type 0} (service : P → V) (services ends : List V) (plans : List P)
      → map mark services ≡ map (λ p. mark (service p)) plans → map service plans ≡ ends
      → map mark services ≡ map mark ends
  same_marks service services ends plans same is =
      same ∙ sym (map-map mark service plans) ∙ ap (map mark) is

  pub marked : {Y : Type 0} (of : M → Y) (services ends : List V)
      → map mark services ≡ map mark ends
      → map (λ v. of (mark v)) services ≡ map (λ v. of (mark v)) ends
  marked of services ends same =
      sym (map-map of mark services) ∙ ap (map of) same ∙ map-map of mark ends
