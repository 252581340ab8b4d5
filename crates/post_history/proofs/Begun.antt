-- Shards take the ids that a relay began with.
use Rattle.std.proofs.Common.{◌≡◌, ◌∙◌, ℕ, ◌==◌, zero, suc, Bool, true, List, [], ◌∷◌, ap, cond}
use Rattle.std.proofs.Common.{Some, arith, slice_get, slice_index_or, subst, sym}
use Rattle.std.proofs.lemmas.Bool.Decides.{nat_tests}
use Rattle.std.proofs.lemmas.Option.{get_or_from_slice_get, slice_get_within}
use Rattle.std.specs.List.{AllByRecursion}
use Rattle.id_history.specs.History.{Fits, Kept, KeptId, history_octets}
use Rattle.id_history.specs.Lasting.{AreLasting, claim_of_kept, lasting}
use Rattle.id_history.specs.Mark.{mark_of}
use Rattle.id_history.specs.Shard.{Keeps, mark_at}
use Rattle.id_history.specs.Shards.{EachKeeps, claims_at}
use Rattle.id_history.specs.declared.claims.Shard.{Shard}
use Rattle.news_terms.specs.Token.{Token}
use Rattle.relay_model.specs.Claims.{Claim, Passed, Unknown}
use Rattle.relay_model.specs.Claims as claim
use Rattle.relay_model.specs.Run.{shard_of}
use Rattle.post_history.specs.Began.{IsStoredIn, TakeAll, Takes, kept_as}
use Rattle.post_history.specs.Remembering.{Remembers}
use Rattle.post_history.specs.Remembering as known
use Rattle.post_history.specs.declared.post.Post.{Post}

-- before the first post a shard knows what it took
pub begins : (shard : Shard) (fronts : List Passed) (text : List ℕ) (k : ℕ) (posts : List Post)
    → posts ≡ [] → Takes text k shard → ∥ Remembers shard fronts text k posts ∥₁
begins shard fronts text k posts none takes =
    subst (λ (ps : List Post). ∥ Remembers shard fronts text k ps ∥₁) (sym none)
    ∣ record {
      known = tt;
      begun = λ id token is here.
          let had = takes id token is here in known.Remembered had.0 had.1;
      own = record { once = tt; anew = λ id token is here. tt };
    } ∣₁

-- from no history nothing is taken
pub none_taken : (text : List ℕ) (shards : List Shard) → text ≡ [] → TakeAll text shards
none_taken text shards none k shard there id token is here =
    let same : [] ≡ history_octets is.history = sym none ∙ is.text_is in absurd cc

-- of the ids that are left one has what is left of its claim
each_at : (claims : List ℕ → Claim) (ids : List KeptId)
    → AllByRecursion (λ (one : KeptId). claim_of_kept one ≡ lasting (claims one.id)) ids
    → (place : ℕ) (one : KeptId) → slice_get ids place ≡ Some one
    → claim_of_kept one ≡ lasting (claims one.id)
each_at claims [] each place one at = absurd cc
each_at claims (first ∷ ids) each zero one at =
    let is : first ≡ one = cc at in
    subst (λ (x : KeptId). claim_of_kept x ≡ lasting (claims x.id)) is each.0
each_at claims (first ∷ ids) each (suc place) one at = each_at claims ids each.1 place one at

-- the shard of an id has the mark of its claim
own_mark : (shards : List Shard) (claims : List ℕ → Claim) → EachKeeps shards claims
    → (k : ℕ) (shard : Shard) → slice_get shards k ≡ Some shard
    → (id : List ℕ) → shard_of id ≡ k → mark_at shard id ≡ mark_of (claims id)
own_mark shards claims keeps k shard there id here =
    let each : Keeps shard (claims_at k claims) =
    subst (λ (one : Shard). Keeps one (claims_at k claims))
    (get_or_from_slice_get shards k shard shard there)
    (keeps.each k shard (slice_get_within shards k shard there)) in
    let own : (shard_of id == k) ≡ true = grind (arith, nat_tests) in
    each.agrees id ∙ ap (λ (b : Bool). mark_of (cond b (claims id) Unknown)) own

-- shards that keep what is left of a history's claims take what it has as stored
pub taken : (text : List ℕ) (kept : Kept) (shards : List Shard) (claims : List ℕ → Claim)
    → text ≡ history_octets kept → Fits kept
    → ((one other : Kept) → Fits one → Fits other → history_octets one ≡ history_octets other
    → one ≡ other)
    → AreLasting kept.ids claims → EachKeeps shards (λ id. lasting (claims id))
    → TakeAll text shards
taken text kept shards claims is fits one_text lasts keeps k shard there id token stored here =
    let same : stored.history ≡ kept =
    one_text stored.history kept stored.fits fits (sym stored.text_is ∙ is) in
    let one : KeptId = kept_as id token stored.moment in
    let at : slice_get kept.ids stored.place ≡ Some one =
    ap (λ (h : Kept). slice_get h.ids stored.place) (sym same) ∙ stored.there in
    let claim_is : claim.Stored token stored.moment ≡ lasting (claims id) =
    each_at claims kept.ids lasts.each stored.place one at in (
      stored.moment,
      own_mark shards (λ (other : List ℕ). lasting (claims other)) keeps k shard there id here
          ∙ ap mark_of (sym claim_is),
    )
