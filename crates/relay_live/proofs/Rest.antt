-- Whether an id is being stored, shard after shard.
use Rattle.std.proofs.Common.{◌≡◌, ◌≢◌, ◌∙◌, ℕ, ◌+◌, ◌<◌, ◌==◌, Bool, true, false, List, arith}
use Rattle.std.proofs.Common.{ap, cond, length, map, refl, Some, slice_get, slice_index_or, subst}
use Rattle.std.proofs.Common.{sym, true≢false}
use Rattle.std.proofs.Math.Nat.{mod-lt}
use Rattle.std.proofs.lemmas.Bool.{eqb-false, eqb-true}
use Rattle.std.proofs.lemmas.List.{length-map}
use Rattle.std.proofs.lemmas.Option.{same_Some}
use Rattle.std.specs.Prelude.{sum}
use Rattle.cyc_block.specs.declared.store.BlockStore.{Ghosts}
use Rattle.cyc_buffer.specs.Head.{is_busy}
use Rattle.cyc_buffer.specs.declared.buffer.Buffer.{Buffer}
use Rattle.id_history.specs.Counts.{CountsOf}
use Rattle.id_history.specs.Shard.{Keeps}
use Rattle.id_history.specs.Shards.{EachKeeps, claims_at}
use Rattle.id_history.specs.declared.claims.Shard.{Shard}
use Rattle.id_history.specs.declared.counts.Counts.{Counts}
use Rattle.relay_core.proofs.Idleness.{told}
use Rattle.live_store.specs.Steps.{buffer_of}
use Rattle.live_store.specs.declared.numbered.NumberedBuffer.{NumberedBuffer}
use Rattle.live_store.specs.declared.record.StorePremises as store_premises
use Rattle.relay_live.proofs.Rooms.{below_as}
use Rattle.relay_live.specs.Stopping.{IsAtRest}
use Rattle.relay_live.specs.declared.alone.Alone.{Alone}
use Rattle.relay_model.specs.Claims.{Claim, Unknown, is_storing}
use Rattle.relay_model.specs.Run.{shard_of}
use Rattle.relay_model.specs.Terms.{shard_count}
use Rattle.post_history.specs.Shards.{shards_in}
use Rattle.post_history.specs.declared.book.Naming as naming
use Rattle.post_history.specs.declared.remembering.RememberingShard.{RememberingShard}

-- each message-id has one of the sixteen shards
pub shard_within : (id : List ℕ) → shard_of id < shard_count
shard_within id = mod-lt (sum id) (omega arith)

module _ (claims : List ℕ → Claim) (k : ℕ) (id : List ℕ) where
  -- the claim of an id in its own shard is its claim
  pub own_claim : shard_of id ≡ k → claims_at k claims id ≡ claims id
  own_claim own = by (shard_of id == k) refl
    where
      by : (b : Bool) → (shard_of id == k) ≡ b → claims_at k claims id ≡ claims id
      by true e = ap (λ t. cond t (claims id) Unknown) e
      by false e = absurd (eqb-false (shard_of id) k e own)

  -- in another it is none
  pub other_claim : shard_of id ≢ k → claims_at k claims id ≡ Unknown
  other_claim apart = by (shard_of id == k) refl
    where
      by : (b : Bool) → (shard_of id == k) ≡ b → claims_at k claims id ≡ Unknown
      by true e = absurd (apart (eqb-true (shard_of id) k e))
      by false e = ap (λ t. cond t (claims id) Unknown) e

  -- an id that a shard has as being stored is being stored
  pub storing_at : is_storing (claims_at k claims id) ≡ true → is_storing (claims id) ≡ true
  storing_at is = by (shard_of id == k) refl
    where
      by : (b : Bool) → (shard_of id == k) ≡ b → is_storing (claims id) ≡ true
      by true e = ap is_storing (sym (own_claim (eqb-true (shard_of id) k e))) ∙ is
      by false e =
          absurd (true≢false (sym is ∙ ap is_storing (other_claim (eqb-false (shard_of id) k e))))

-- of the ids of the first shards none is being stored
abbrev pub IsRestTo : List Shard → (count : ℕ) → Type 0
IsRestTo shards count =
    (claims : List ℕ → Claim) → EachKeeps shards claims → (id : List ℕ) → shard_of id < count
    → is_storing (claims id) ≡ false

module _ (shards : List Shard) (k : ℕ) (shard : Shard) (counts : Counts)
    (within : k < length shards) (read : shard ≡ slice_index_or shards k shard)
    (counted : (claims : List ℕ → Claim) → Keeps shard claims → CountsOf claims counts) where
  -- the counts of a shard are those of its own claims
  own_counts : (claims : List ℕ → Claim) → EachKeeps shards claims
      → CountsOf (claims_at k claims) counts
  own_counts claims keeps =
      counted (claims_at k claims)
      (subst (λ one. Keeps one (claims_at k claims)) (sym read) (keeps.each k shard within))

  -- an id is being stored where one is counted
  pub storing_found : (counts.storing ≡ 0 → ⊥) → (claims : List ℕ → Claim) → EachKeeps shards claims
      → (id : List ℕ) × (is_storing (claims id) ≡ true)
  storing_found some claims keeps =
      let found = told (claims_at k claims) counts false (own_counts claims keeps)
      (λ e. absurd (true≢false (sym e))) (λ e zero. some zero) in
      (found.0, storing_at claims k found.0 found.1)

  -- where none is, none is of the ids of one more shard
  pub rest_more : counts.storing ≡ 0 → IsRestTo shards k → IsRestTo shards (k + 1)
  rest_more none rest claims keeps id below = by (shard_of id == k) refl
    where
      by : (b : Bool) → (shard_of id == k) ≡ b → is_storing (claims id) ≡ false
      by true e =
          ap is_storing (sym (own_claim claims k id (eqb-true (shard_of id) k e)))
          ∙ told (claims_at k claims) counts true (own_counts claims keeps) (λ yes. none)
          (λ no zero. absurd (true≢false no)) id
      by false e =
          rest claims keeps id (omega (arith, below, eqb-false (shard_of id) k e))

-- no write is open in the buffers before this place
abbrev pub AreIdleTo : {S : Type 0} {s : Ghosts S} → List (Buffer S s) → (place : ℕ) → Type 0
AreIdleTo {S} {s} codes place =
    (b : ℕ) (code : Buffer S s) → b < place → slice_get codes b ≡ Some code
    → is_busy code ≡ false

-- nor in one more
pub idle_more : {S : Type 0} {s : Ghosts S} (codes : List (Buffer S s)) (place : ℕ)
    (code : Buffer S s) → slice_get codes place ≡ Some code → is_busy code ≡ false
    → AreIdleTo codes place → AreIdleTo codes (place + 1)
idle_more {S} {s} codes place code is idle before b one less there = by (b == place) refl
  where
    by : (same : Bool) → (b == place) ≡ same → is_busy one ≡ false
    by true e =
        let same : code ≡ one =
        same_Some code one (sym is ∙ ap (slice_get codes) (sym (eqb-true b place e)) ∙ there) in
        subst (λ (each : Buffer S s). is_busy each ≡ false) same idle
    by false e = before b one (omega (arith, less, eqb-false b place e)) there

-- where none is stored and none is written, as these shards and buffers say, all is at rest
pub at_rest : {S J L : Type 0} {s : Ghosts S} {j : store_premises.Ghosts J} {n : naming.Ghosts J}
    (alone : Alone S J L s j n)
    (shards : List Shard) (buffers : List (NumberedBuffer S J s j))
    → shards ≡ shards_in alone.shards.items
    → buffers ≡ alone.buffers.items → IsRestTo shards (length shards)
    → ((b : ℕ) (code : Buffer S s) → slice_get (map buffer_of buffers) b ≡ Some code
    → is_busy code ≡ false)
    → IsAtRest alone
at_rest {S} {J} {L} {s} {j} alone shards buffers same same_buffers none unwritten = record {
  claims = λ claims keeps id.
      none claims (subst (λ items. EachKeeps items claims) (sym same) keeps) id
      (below_as _ _ _ (shard_within id) (sym (ap length same
      ∙ length-map alone.shards.items (λ one. one.shard) ∙ alone.sixteen)));
  buffers = λ b code there.
      unwritten b code
      (subst (λ (items : List (NumberedBuffer S J s j)).
      slice_get (map buffer_of items) b ≡ Some code) (sym same_buffers) there);
}

-- as the shards that remember their posts say
pub rest_of : {J : Type 0} {g : naming.Ghosts J} (all : List (RememberingShard J g))
    → IsRestTo (shards_in all) (length all) → IsRestTo (shards_in all) (length (shards_in all))
rest_of all rest =
    subst (IsRestTo (shards_in all)) (sym (length-map all (λ one. one.shard))) rest
