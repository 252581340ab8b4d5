-- What is left of a shard after what may be forgotten is taken out of its map.
use Rattle.std.proofs.Common.{◌≡◌, ◌∙◌, ap, sym, refl, Bool, true, false, cond, not, List, ℕ, []}
use Rattle.std.proofs.Common.{◌∷◌}
use Rattle.std.proofs.Common.{Option, None, Some, String, Global, inl, inr, filter, length, ◌<◌}
use Rattle.std.proofs.Math.ListN.{get_or, set}
use Rattle.std.proofs.lemmas.Bool.{cases_Bool, eq-eqb}
use Rattle.std.proofs.lemmas.Bool.Decides.{eqb_tells}
use Rattle.std.proofs.lemmas.Map.{NonePasses, lookup-none}
use Rattle.std.proofs.lemmas.Map.Entries.{option_filter}
use Rattle.std.specs.HashMap.{HashMap, IsUnique}
use Rattle.std.specs.List.{AllByRecursion, IsDistinct}
use Rattle.std.specs.Map.{lookup, keys_of}
use Rattle.std.specs.Str.{bytes_eq}
use Rattle.std.specs.String.{string_bytes, string_eq}
use Rattle.std.proofs.lemmas.Slice.Eq.{bytes_eq-Decides}
use Rattle.relay_model.specs.Claims.{Claim, Passed, after_expire}
use Rattle.relay_model.specs.Claims as claim
use Rattle.id_history.specs.Expiry.{is_forgotten}
use Rattle.id_history.specs.OnlyIds.{OnlyIds}
use Rattle.id_history.specs.Mark.{Mark, Unknown, mark_of, claim_of, entry_mark}
use Rattle.id_history.specs.Shard.{mark_at, Keeps}
use Rattle.id_history.specs.declared.claims.Entry.{Entry}
use Rattle.id_history.specs.declared.claims.Shard.{Shard}
use Rattle.id_history.specs.declared.shards.Shards.{Shards}
use Rattle.id_history.specs.Shards.{KeepsAll}
use Rattle.relay_model.specs.Run.{shard_of, forgetting}
use Rattle.id_history.proofs.OwnLemmas.{claims_of, claims_of-kept}
use Rattle.id_history.proofs.ShardsLemmas.{put_back, claims_in, claims_in-own, Keeps-in}

abbrev Pairs : Type 0
Pairs = List (String Global × Entry)

-- the mark of a choice is the choice of the marks
mark_of-cond : (b : Bool) (c d : Claim) → mark_of (cond b c d) ≡ cond b (mark_of c) (mark_of d)
mark_of-cond true c d = refl
mark_of-cond false c d = refl

-- an Expire does to a claim what it does to its mark
mark_of-after_expire : (now remember : ℕ) (fronts : List Passed) (c : Claim)
    → mark_of (after_expire now remember fronts c)
    ≡ cond (is_forgotten now remember fronts (mark_of c)) Unknown (mark_of c)
mark_of-after_expire now remember fronts claim.Unknown = refl
mark_of-after_expire now remember fronts (claim.Offered session since) = refl
mark_of-after_expire now remember fronts (claim.Storing session article stage) = refl
mark_of-after_expire now remember fronts (claim.Stored token moment) =
    mark_of-cond (is_forgotten now remember fronts (mark_of (claim.Stored token moment)))
    claim.Unknown (claim.Stored token moment)
mark_of-after_expire now remember fronts (claim.Refused moment) =
    mark_of-cond (is_forgotten now remember fronts (mark_of (claim.Refused moment)))
    claim.Unknown (claim.Refused moment)

-- an entry of this mark stays
abbrev pub stays : (forgotten : Mark → Bool) → Entry → Bool
stays forgotten one = not (forgotten (entry_mark (Some one)))

-- where nothing is known there is nothing to forget
mark-stays : (forgotten : Mark → Bool) → forgotten Unknown ≡ false → (found : Option Entry)
    → entry_mark (option_filter (stays forgotten) found)
    ≡ cond (forgotten (entry_mark found)) Unknown (entry_mark found)
mark-stays forgotten none None = sym-cond (forgotten Unknown)
  where
    sym-cond : (b : Bool) → Unknown ≡ cond b Unknown Unknown
    sym-cond true = refl
    sym-cond false = refl
mark-stays forgotten none (Some one) = by (forgotten (entry_mark (Some one)))
  where
    by : (b : Bool) → entry_mark (cond (not b) (Some one) None)
        ≡ cond b Unknown (entry_mark (Some one))
    by true = refl
    by false = refl

-- a key that passes a query's test is the one key that does
none_passes : (test : String Global → Bool) (k : String Global) (es : Pairs)
    → ((y : String Global) → test y ≡ string_eq k y)
    → AllByRecursion (λ y. string_eq k y ≡ false) (keys_of es) → NonePasses test es
none_passes test k [] same all = tt
none_passes test k (e ∷ es) same all = (same e.0 ∙ all.0, none_passes test k es same all.1)

-- a look-up in what is left after one step of a filter
lookup-step : (test : String Global → Bool) (b : Bool) (e : String Global × Entry) (es : Pairs)
    → lookup test (cond b (e ∷ es) es)
    ≡ cond b (cond (test e.0) (Some e.1) (lookup test es)) (lookup test es)
lookup-step test true e es = refl
lookup-step test false e es = refl

same-cond : {X : Type 0} (b : Bool) (x : X) → cond b x x ≡ x
same-cond true x = refl
same-cond false x = refl

-- a look-up in what passes a test of the entries
lookup-kept : (id : List ℕ) (p : Entry → Bool) (es : Pairs) → IsDistinct string_eq (keys_of es)
    → lookup (λ k. bytes_eq id (string_bytes k)) (filter (λ e. p e.1) es)
    ≡ option_filter p (lookup (λ k. bytes_eq id (string_bytes k)) es)
unfolding IsDistinct
lookup-kept id p [] once = refl
lookup-kept id p (e ∷ es) once =
    let test : String Global → Bool = λ k. bytes_eq id (string_bytes k) in
    let rest = filter (λ (f : String Global × Entry). p f.1) es in
    let later = lookup-kept id p es once.1 in
    lookup-step test (p e.1) e rest
    ∙ elim (cases_Bool (test e.0)) [
      | inl passes ↦
          let same : (y : String Global) → test y ≡ string_eq e.0 y = λ y.
          ap (λ x. bytes_eq x (string_bytes y))
          ((bytes_eq-Decides id (string_bytes e.0)).0 passes) in
          let gone : lookup test rest ≡ None = later
          ∙ ap (option_filter p) (lookup-none test es (none_passes test e.0 es same once.0)) in
          ap (λ b. cond (p e.1) (cond b (Some e.1) (lookup test rest)) (lookup test rest)) passes
          ∙ ap (λ o. cond (p e.1) (Some e.1) o) gone
          ∙ ap (λ b. option_filter p (cond b (Some e.1) (lookup test es))) (sym passes)
      | inr fails ↦
          ap (λ b. cond (p e.1) (cond b (Some e.1) (lookup test rest)) (lookup test rest)) fails
          ∙ same-cond (p e.1) (lookup test rest) ∙ later
          ∙ ap (λ b. option_filter p (cond b (Some e.1) (lookup test es))) (sym fails)
    ]

-- what passes a test of the entries has the keys of message-ids alone
pub OnlyIds-kept : {S : Type 0} (old new : HashMap (String Global) Entry S) (p : Entry → Bool)
    → IsUnique string_eq old → new.entries ≡ filter (λ e. p e.1) old.entries → OnlyIds old
    → OnlyIds new
OnlyIds-kept old new p once left only = record {
  none = λ text fault.
      ap (lookup (λ k. bytes_eq text (string_bytes k))) left
      ∙ lookup-kept text p old.entries once ∙ ap (option_filter p) (only.none text fault);
}

-- the shard keeps what an Expire leaves of the claims that it kept
pub Keeps-expired : (old new : Shard) (now remember : ℕ) (fronts : List Passed)
    → IsUnique string_eq old.entries
    → new.entries.entries
    ≡ filter (λ e. stays (is_forgotten now remember fronts) e.1) old.entries.entries
    → (claims : List ℕ → Claim) → Keeps old claims
    → Keeps new (λ id. after_expire now remember fronts (claims id))
unfolding mark_at
Keeps-expired old new now remember fronts once left claims keeps = record {
  agrees = λ id.
      let forgotten = is_forgotten now remember fronts in
      let test : String Global → Bool = λ k. bytes_eq id (string_bytes k) in
      ap (λ es. entry_mark (lookup test es)) left
      ∙ ap entry_mark (lookup-kept id (stays forgotten) old.entries.entries once)
      ∙ mark-stays forgotten refl (lookup test old.entries.entries)
      ∙ ap (λ m. cond (forgotten m) Unknown m) (keeps.agrees id)
      ∙ sym (mark_of-after_expire now remember fronts (claims id));
}

-- an id of which the shard had nothing is still unknown to it
pub unknown-expired : (one later : Shard) (now remember : ℕ) (fronts : List Passed)
    → ((claims : List ℕ → Claim) → Keeps one claims
    → Keeps later (λ id. after_expire now remember fronts (claims id)))
    → (id : List ℕ) → mark_at one id ≡ Unknown → mark_at later id ≡ Unknown
unfolding claims_of
unknown-expired one later now remember fronts expired id none =
    (expired (claims_of one) (claims_of-kept one)).agrees id
    ∙ ap (λ m. mark_of (after_expire now remember fronts (claim_of m))) none

-- where the ids of one shard are gone through, those of the sixteen are
pub KeepsAll-expired : (old new : Shards) (one later : Shard) (k now remember : ℕ)
    (fronts : List Passed) → k < length old.shards.items
    → one ≡ get_or old.shards.items k one → new.shards.items ≡ set old.shards.items k later
    → ((claims : List ℕ → Claim) → Keeps one claims
    → Keeps later (λ id. after_expire now remember fronts (claims id)))
    → (claims : List ℕ → Claim) → KeepsAll old claims
    → KeepsAll new (forgetting claims k now (Some remember) fronts)
KeepsAll-expired old new one later k now remember fronts there at is_set expired claims keeps =
    let after = after_expire now remember fronts in
    put_back old new later k there is_set claims (forgetting claims k now (Some remember) fronts)
    (λ id. after (claims_in one k claims id)) keeps
    (expired (claims_in one k claims) (Keeps-in old one k claims at keeps))
    (λ id mine. ap after (claims_in-own one k claims id (sym mine))
    ∙ ap (λ b. cond b (after (claims id)) (claims id)) (sym (eq-eqb (shard_of id) k mine)))
    (λ id apart. elim (eqb_tells (shard_of id) k) [
      | inl same ↦ absurd (apart same.1)
      | inr other ↦ ap (λ b. cond b (after (claims id)) (claims id)) (sym other.0)
    ])
