-- What is left of a shard is in its entries.
use Rattle.std.proofs.Common.{◌≡◌, ◌≢◌, ◌∙◌, ap, sym, refl, Bool, true, false, ◌||◌, List, ℕ}
use Rattle.std.proofs.Common.{[], ◌∷◌, ◌++◌, Option, Some, String, Global, inl, inr, map}
use Rattle.std.proofs.Common.{cond}
use Rattle.std.proofs.Common.{append_assoc}
use Rattle.std.proofs.lemmas.Bool.{cases_Bool, false≢true, or_right}
use Rattle.std.proofs.lemmas.List.{append-nil, map-id}
use Rattle.std.proofs.lemmas.List.Concat.{flat_map-append}
use Rattle.std.proofs.lemmas.Slice.Eq.{bytes_eq-Decides}
use Rattle.std.specs.HashMap.{IsUnique}
use Rattle.std.specs.List.{AllByRecursion, IsDistinct, flat_map}
use Rattle.std.specs.Map.{lookup, keys_of}
use Rattle.std.specs.Set.{is_member}
use Rattle.std.specs.Str.{bytes_eq}
use Rattle.std.specs.String.{string_bytes, string_eq}
use Rattle.id_history.specs.History.{KeptId}
use Rattle.id_history.specs.Views.{id_view}
use Rattle.id_history.specs.declared.kept.KeptId as kept
use Rattle.relay_model.specs.Claims.{Claim, Unknown}
use Rattle.relay_model.specs.Claims as claim
use Rattle.relay_model.specs.State.{put_id}
use Rattle.id_history.specs.declared.claims.Entry.{Entry}
use Rattle.id_history.specs.declared.claims.Entry.TheVariants as entry
use Rattle.id_history.specs.declared.claims.Shard.{Shard}
use Rattle.id_history.specs.Lasting.{lasting, claim_of_kept, ids_of, HasLasting, GathersLasting}
use Rattle.id_history.specs.Lasting.{AreLasting, put_all}
use Rattle.id_history.specs.Mark.{mark_of, claim_of, entry_mark}
use Rattle.id_history.specs.Shard.{mark_at, Keeps}
use Rattle.id_history.specs.Shards.{KeepsAll}
use Rattle.id_history.specs.declared.shards.Shards.{Shards}
use Rattle.id_history.specs.LastingIn.{kept_by, kept_of}
use Rattle.id_history.proofs.CountLemmas.{each_found}

abbrev Pairs : Type 0
Pairs = List (String Global × Entry)

-- one entry more
pub kept-more : (base now after : List KeptId) (pairs more : Pairs) (pair : String Global × Entry)
    → more ≡ pairs ++ pair ∷ [] → now ≡ base ++ flat_map kept_of pairs → after ≡ now ++ kept_of pair
    → after ≡ base ++ flat_map kept_of more
kept-more base now after pairs more pair is so_far one =
    one ∙ ap (λ (xs : List KeptId). xs ++ kept_of pair) so_far
    ∙ append_assoc base (flat_map kept_of pairs) (kept_of pair)
    ∙ ap (λ (xs : List KeptId). base ++ xs)
    (ap (λ (xs : List KeptId). flat_map kept_of pairs ++ xs) (sym (append-nil (kept_of pair)))
    ∙ sym (flat_map-append kept_of pairs (pair ∷ [])) ∙ ap (flat_map kept_of) (sym is))

-- an entry of which nothing is left
pub none_more : (base now : List KeptId) (pairs more : Pairs) (pair : String Global × Entry)
    → more ≡ pairs ++ pair ∷ [] → now ≡ base ++ flat_map kept_of pairs → kept_of pair ≡ []
    → now ≡ base ++ flat_map kept_of more
none_more base now pairs more pair is so_far none =
    kept-more base now now pairs more pair is so_far
    (sym (append-nil now) ∙ ap (λ (xs : List KeptId). now ++ xs) (sym none))

-- an id that differs from each key differs from each id that is left
apart : (k : String Global) (pairs : Pairs)
    → AllByRecursion (λ y. string_eq k y ≡ false) (keys_of pairs)
    → AllByRecursion (λ y. bytes_eq (string_bytes k) y ≡ false) (ids_of (flat_map kept_of pairs))
apart k [] all = tt
apart k ((q, entry.Offered session since) ∷ pairs) all = apart k pairs all.1
apart k ((q, entry.Storing session) ∷ pairs) all = apart k pairs all.1
apart k ((q, entry.Stored token moment) ∷ pairs) all = (all.0, apart k pairs all.1)
apart k ((q, entry.Refused moment) ∷ pairs) all = (all.0, apart k pairs all.1)

-- keys that differ leave ids that differ
once : (pairs : Pairs) → IsDistinct string_eq (keys_of pairs)
    → IsDistinct bytes_eq (ids_of (flat_map kept_of pairs))
unfolding IsDistinct
once [] all = tt
once ((q, entry.Offered session since) ∷ pairs) all = once pairs all.1
once ((q, entry.Storing session) ∷ pairs) all = once pairs all.1
once ((q, entry.Stored token moment) ∷ pairs) all = (apart q pairs all.0, once pairs all.1)
once ((q, entry.Refused moment) ∷ pairs) all = (apart q pairs all.0, once pairs all.1)

-- what is left of a claim is left of its mark
lasting-mark : (c : Claim) → lasting c ≡ lasting (claim_of (mark_of c))
lasting-mark claim.Unknown = refl
lasting-mark (claim.Offered session since) = refl
lasting-mark (claim.Storing session article stage) = refl
lasting-mark (claim.Stored token moment) = refl
lasting-mark (claim.Refused moment) = refl

-- what is left of a claim that the shard keeps
lasting-at : (shard : Shard) (claims : List ℕ → Claim) → Keeps shard claims → (id : List ℕ)
    → lasting (claims id) ≡ lasting (claim_of (mark_at shard id))
lasting-at shard claims keeps id =
    lasting-mark (claims id) ∙ ap (λ m. lasting (claim_of m)) (sym (keeps.agrees id))

-- what is left of each entry is what is left of the claim
each : (shard : Shard) (claims : List ℕ → Claim) → Keeps shard claims → (pairs : Pairs)
    → AllByRecursion (λ p. lookup (string_eq p.0) shard.entries.entries ≡ Some p.1) pairs
    → AllByRecursion (λ (one : KeptId). claim_of_kept one ≡ lasting (claims one.id))
    (flat_map kept_of pairs)
unfolding mark_at
each shard claims keeps [] found = tt
each shard claims keeps ((q, entry.Offered session since) ∷ pairs) found =
    each shard claims keeps pairs found.1
each shard claims keeps ((q, entry.Storing session) ∷ pairs) found =
    each shard claims keeps pairs found.1
each shard claims keeps ((q, entry.Stored token moment) ∷ pairs) found = (
  sym (lasting-at shard claims keeps (string_bytes q)
      ∙ ap (λ o. lasting (claim_of (entry_mark o))) found.0),
  each shard claims keeps pairs found.1,
)
each shard claims keeps ((q, entry.Refused moment) ∷ pairs) found = (
  sym (lasting-at shard claims keeps (string_bytes q)
      ∙ ap (λ o. lasting (claim_of (entry_mark o))) found.0),
  each shard claims keeps pairs found.1,
)

-- what is left of what a look-up finds
left_of : Option Entry → Claim
left_of found = lasting (claim_of (entry_mark found))

-- an id of which something is left is among those that are left
member : (id : List ℕ) (pairs : Pairs)
    → left_of (lookup (λ k. bytes_eq id (string_bytes k)) pairs) ≢ Unknown
    → is_member bytes_eq (ids_of (flat_map kept_of pairs)) id ≡ true
unfolding left_of
member id [] left = absurd (left refl)
member id ((q, one) ∷ pairs) left =
    elim (cases_Bool (bytes_eq id (string_bytes q))) [
      | inl same ↦ here one (λ e. left (ap (λ b. left_of (cond b (Some one)
          (lookup (λ k. bytes_eq id (string_bytes k)) pairs))) same ∙ e)) same
      | inr other ↦ there one (member id pairs (λ e. left (ap (λ b. left_of (cond b (Some one)
          (lookup (λ k. bytes_eq id (string_bytes k)) pairs))) other ∙ e)))
    ]
  where
    here : (e : Entry) → left_of (Some e) ≢ Unknown → bytes_eq id (string_bytes q) ≡ true
        → is_member bytes_eq (ids_of (kept_by (string_bytes q) e ++ flat_map kept_of pairs)) id
        ≡ true
    here (entry.Offered session since) left same = absurd (left refl)
    here (entry.Storing session) left same = absurd (left refl)
    here (entry.Stored token moment) left same =
        ap (λ b. b || is_member bytes_eq (ids_of (flat_map kept_of pairs)) id) same
    here (entry.Refused moment) left same =
        ap (λ b. b || is_member bytes_eq (ids_of (flat_map kept_of pairs)) id) same

    there : (e : Entry) → is_member bytes_eq (ids_of (flat_map kept_of pairs)) id ≡ true
        → is_member bytes_eq (ids_of (kept_by (string_bytes q) e ++ flat_map kept_of pairs)) id
        ≡ true
    there (entry.Offered session since) among = among
    there (entry.Storing session) among = among
    there (entry.Stored token moment) among = or_right (bytes_eq id (string_bytes q)) _ among
    there (entry.Refused moment) among = or_right (bytes_eq id (string_bytes q)) _ among

-- what is left of all entries is what is left of the claims
pub HasLasting-from_entries : (shard : Shard) (claims : List ℕ → Claim)
    → IsUnique string_eq shard.entries → Keeps shard claims
    → HasLasting (flat_map kept_of shard.entries.entries) claims
unfolding mark_at left_of
HasLasting-from_entries shard claims unique keeps = record {
  once = once shard.entries.entries unique;
  each = each shard claims keeps shard.entries.entries
      (each_found shard.entries.entries unique);
  whole = λ id left. member id shard.entries.entries
      (λ e. left (lasting-at shard claims keeps id ∙ e));
}

-- so the list gains them
pub Gathers-from_entries : (shard : Shard) (before after : List KeptId)
    → IsUnique string_eq shard.entries → after ≡ before ++ flat_map kept_of shard.entries.entries
    → (claims : List ℕ → Claim) → Keeps shard claims → GathersLasting before after claims
Gathers-from_entries shard before after unique is claims keeps = record {
  more = flat_map kept_of shard.entries.entries;
  is = is;
  are = HasLasting-from_entries shard claims unique keeps;
}

-- what is left of the entries so far, where those are all
pub gathered-all : (before after : List KeptId) (so_far all : Pairs)
    → after ≡ before ++ flat_map kept_of so_far → so_far ≡ all
    → after ≡ before ++ flat_map kept_of all
gathered-all before after so_far all is same =
    is ∙ ap (λ (pairs : Pairs). before ++ flat_map kept_of pairs) same

-- what was put, and otherwise what was before
put_all-at : (claims base : List ℕ → Claim) (id : List ℕ) (entries : List KeptId)
    → AllByRecursion (λ (one : KeptId). claim_of_kept one ≡ lasting (claims one.id)) entries
    → put_all base entries id
    ≡ cond (is_member bytes_eq (ids_of entries) id) (lasting (claims id)) (base id)
put_all-at claims base id [] each = refl
put_all-at claims base id (one ∷ others) each =
    put_all-at claims (put_id base one.id (claim_of_kept one)) id others each.1
    ∙ elim (cases_Bool (bytes_eq id one.id)) [
      | inl same ↦
          let here : claim_of_kept one ≡ lasting (claims id) = each.0
          ∙ ap (λ i. lasting (claims i)) (sym ((bytes_eq-Decides id one.id).0 same)) in
          ap (λ b. cond (is_member bytes_eq (ids_of others) id) (lasting (claims id))
          (cond b (claim_of_kept one) (base id))) same
          ∙ ap (cond (is_member bytes_eq (ids_of others) id) (lasting (claims id))) here
          ∙ both (is_member bytes_eq (ids_of others) id) (lasting (claims id))
          ∙ ap (λ b. cond (b || is_member bytes_eq (ids_of others) id) (lasting (claims id))
          (base id)) (sym same)
      | inr apart ↦
          ap (λ b. cond (is_member bytes_eq (ids_of others) id) (lasting (claims id))
          (cond b (claim_of_kept one) (base id))) apart
          ∙ ap (λ b. cond (b || is_member bytes_eq (ids_of others) id) (lasting (claims id))
          (base id)) (sym apart)
    ]
  where
    both : (b : Bool) (c : Claim) → cond b c c ≡ c
    both true c = refl
    both false c = refl

-- of an id that isn't there nothing is left
nothing : (c : Claim) → (c ≢ Unknown → false ≡ true) → c ≡ Unknown
nothing claim.Unknown h = refl
nothing (claim.Offered session since) h = absurd (false≢true (h (λ e. cc)))
nothing (claim.Storing session article stage) h = absurd (false≢true (h (λ e. cc)))
nothing (claim.Stored token moment) h = absurd (false≢true (h (λ e. cc)))
nothing (claim.Refused moment) h = absurd (false≢true (h (λ e. cc)))

-- once all that is left was put, the claims are what is left
pub put_all-lasting : (claims : List ℕ → Claim) (entries : List KeptId) → AreLasting entries claims
    → (id : List ℕ) → put_all (λ other. Unknown) entries id ≡ lasting (claims id)
put_all-lasting claims entries are id =
    put_all-at claims (λ other. Unknown) id entries are.each
    ∙ elim (cases_Bool (is_member bytes_eq (ids_of entries) id)) [
      | inl among ↦ ap (λ b. cond b (lasting (claims id)) Unknown) among
      | inr none ↦ ap (λ b. cond b (lasting (claims id)) Unknown) none
          ∙ sym (nothing (lasting (claims id)) (λ left. sym none ∙ are.whole id left))
    ]

-- one more is put
pub put_all-push : (base : List ℕ → Claim) (entries : List KeptId) (one : KeptId) (id : List ℕ)
    → put_all base (entries ++ one ∷ []) id
    ≡ put_id (put_all base entries) one.id (claim_of_kept one) id
put_all-push base [] one id = refl
put_all-push base (first ∷ entries) one id =
    put_all-push (put_id base first.id (claim_of_kept first)) entries one id

-- shards that keep claims keep those that are equal to them
KeepsAll-same : (shards : Shards) (claims others : List ℕ → Claim)
    → ((id : List ℕ) → claims id ≡ others id) → KeepsAll shards claims → KeepsAll shards others
KeepsAll-same shards claims others same keeps = record {
  agrees = λ id none. keeps.agrees id none ∙ ap mark_of (same id);
}

-- the next of those that are left was put
pub KeepsAll-put_more : (old new : Shards) (entries more : List KeptId) (one : KeptId)
    → more ≡ entries ++ one ∷ []
    → ((claims : List ℕ → Claim) → KeepsAll old claims
    → KeepsAll new (put_id claims one.id (claim_of_kept one)))
    → KeepsAll old (put_all (λ id. Unknown) entries)
    → KeepsAll new (put_all (λ id. Unknown) more)
KeepsAll-put_more old new entries more one is put keeps =
    KeepsAll-same new (put_id (put_all (λ id. Unknown) entries) one.id (claim_of_kept one))
    (put_all (λ id. Unknown) more)
    (λ id. sym (put_all-push (λ other. Unknown) entries one id)
    ∙ ap (λ es. put_all (λ other. Unknown) es id) (sym is))
    (put (put_all (λ id. Unknown) entries) keeps)

-- what was put is what is left of the claims of which it is all
pub KeepsAll-put_all : (shards : Shards) (so_far all : List KeptId) → so_far ≡ all
    → KeepsAll shards (put_all (λ id. Unknown) so_far) → (claims : List ℕ → Claim)
    → AreLasting all claims → KeepsAll shards (λ id. lasting (claims id))
KeepsAll-put_all shards so_far all same keeps claims are =
    KeepsAll-same shards (put_all (λ id. Unknown) so_far) (λ id. lasting (claims id))
    (λ id. ap (λ es. put_all (λ other. Unknown) es id) same ∙ put_all-lasting claims all are id)
    keeps

-- items that came one by one are the list that they came from
pub views-same : (so_far all : List kept.KeptId) → map (λ one. one) so_far ≡ all
    → map id_view so_far ≡ map id_view all
views-same so_far all is = ap (map id_view) (sym (map-id so_far) ∙ is)
