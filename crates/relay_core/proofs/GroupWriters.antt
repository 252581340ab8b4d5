-- The group writers, when one of them was written.
use Rattle.std.proofs.Common.{◌≡◌, ◌≢◌, ◌<◌, ◌≤◌, ℕ, Bool, true, false, List, Option}
use Rattle.std.proofs.Common.{Some, refl, sym, ap, subst, ◌∙◌, ⊎_elim, arith, true≢false}
use Rattle.std.proofs.Math.ListN.{set, length-set}
use Rattle.std.proofs.lemmas.Bool.{cases_Bool, eqb-true, eq-eqb, ltb-false, ltb-true}
use Rattle.std.proofs.lemmas.List.{get_or-set_same, get_or-set_other}
use Rattle.std.proofs.lemmas.Option.{slice_get-get_or, slice_get_past}
use Rattle.std.specs.Prelude.{nat_eq, nat_lt, length, slice_get, get_or}
use Rattle.relay_model.specs.State as model
use Rattle.relay_model.specs.World as world
use Rattle.relay_core.specs.Agreement.{GroupWriterIs}
use Rattle.relay_core.specs.declared.system.GroupWriter.{GroupWriter}

-- what was written at a place is there
pub get_same : {A : Type 0} (xs : List A) (k : ℕ) (v : A) → k < length xs
    → slice_get (set xs k v) k ≡ Some v
get_same xs k v h =
    slice_get-get_or (set xs k v) k v (omega (arith, length-set xs k v))
    ∙ ap Some (get_or-set_same xs k v v h)

get_other_if : {A : Type 0} (xs : List A) (k : ℕ) (v : A) (j : ℕ) → j ≢ k → (b : Bool)
    → nat_lt j (length xs) ≡ b → slice_get (set xs k v) j ≡ slice_get xs j
get_other_if xs k v j differ true h =
    let within : j < length xs = ltb-true j (length xs) h in
    slice_get-get_or (set xs k v) j v (omega (arith, length-set xs k v))
    ∙ ap Some (get_or-set_other xs k j v v differ) ∙ sym (slice_get-get_or xs j v within)
get_other_if xs k v j differ false h =
    let past : length xs ≤ j = ltb-false j (length xs) h in
    slice_get_past (set xs k v) j (omega (arith, length-set xs k v))
    ∙ sym (slice_get_past xs j past)

-- at every other place is what was there
pub get_other : {A : Type 0} (xs : List A) (k : ℕ) (v : A) (j : ℕ) → j ≢ k
    → slice_get (set xs k v) j ≡ slice_get xs j
get_other xs k v j differ = get_other_if xs k v j differ (nat_lt j (length xs)) refl

-- a number is this one, or it isn't
pub same_or_other : {A : Type 0} (a b : ℕ) → (a ≡ b → A) → (a ≢ b → A) → A
same_or_other {A = A} a b same other =
    ⊎_elim (λ t. same (eqb-true a b t))
    (λ f. other (λ e.
    absurd (true≢false (sym (eq-eqb a b e) ∙ f))))
    (cases_Bool (nat_eq a b))

-- one group writer was written, with its queue and its writer; all others stay
pub group_writers_put : (group_writers : List GroupWriter) (k : ℕ) (group_writer : GroupWriter)
    (queue queue' : ℕ → List model.Job)
    (writer writer' : ℕ → world.Writer) → k < length group_writers
    → GroupWriterIs (Some group_writer) (queue' k) (writer' k)
    → ((h : ℕ) → h ≢ k → queue' h ≡ queue h)
    → ((h : ℕ) → h ≢ k → writer' h ≡ writer h)
    → ((h : ℕ) → GroupWriterIs (slice_get group_writers h) (queue h) (writer h))
    → (h : ℕ) → GroupWriterIs (slice_get (set group_writers k group_writer) h)
    (queue' h) (writer' h)
group_writers_put group_writers k group_writer queue queue' writer writer' within here queues
    writers all h =
    same_or_other h k
    (λ same.
    let P : ℕ → Type 0 = λ i. GroupWriterIs (slice_get (set group_writers k group_writer) i)
    (queue' i) (writer' i) in
    let Q : Option GroupWriter → Type 0 = λ o. GroupWriterIs o (queue' k) (writer' k) in
    subst P (sym same) (subst Q (sym (get_same group_writers k group_writer within)) here))
    (λ differ.
    let P : Option GroupWriter → Type 0 = λ o. GroupWriterIs o (queue' h) (writer' h) in
    let Q : List model.Job
    → Type 0 = λ q. GroupWriterIs (slice_get group_writers h) q (writer' h) in
    let R : world.Writer → Type 0 = λ v. GroupWriterIs (slice_get group_writers h) (queue h) v in
    subst P (sym (get_other group_writers k group_writer h differ))
    (subst Q (sym (queues h differ)) (subst R (sym (writers h differ)) (all h))))

-- the group writer that an index gives is this one of the definitions
pub group_writer_at : (group_writers : List GroupWriter) (k : ℕ) (group_writer : GroupWriter)
    (q : List model.Job) (v : world.Writer)
    → k < length group_writers → group_writer ≡ get_or group_writers k group_writer
    → GroupWriterIs (slice_get group_writers k) q v
    → GroupWriterIs (Some group_writer) q v
group_writer_at group_writers k group_writer q v within at is =
    let P : Option GroupWriter → Type 0 = λ o. GroupWriterIs o q v in
    subst P (slice_get-get_or group_writers k group_writer within ∙ ap Some (sym at)) is

-- two reads of an index give one group writer
pub same_group_writer : (group_writers : List GroupWriter) (k : ℕ) (a b : GroupWriter)
    → k < length group_writers
    → a ≡ get_or group_writers k a → b ≡ get_or group_writers k b → a ≡ b
same_group_writer group_writers k a b within is also =
    let e : Some a ≡ Some b = ap Some is ∙ sym (slice_get-get_or group_writers k a within)
    ∙ slice_get-get_or group_writers k b within ∙ ap Some (sym also) in
    cc
