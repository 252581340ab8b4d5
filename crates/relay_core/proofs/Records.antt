-- What a history tells of a world that is well fits the configuration, and isn't ahead of its
-- stores.
use Rattle.std.proofs.Common.{◌≡◌, ◌∙◌, ◌<◌, ◌≤◌, ◌-◌, ◌+◌, ◌==◌, ◌||◌, ℕ, suc, Bool}
use Rattle.std.proofs.Common.{false, List, [], ◌∷◌, Option, None, Some, All, refl, sym, ap}
use Rattle.std.proofs.Common.{subst, length, map, drop, min, arith, slice_get, not, sum_by}
use Rattle.std.proofs.lemmas.Bool.{le-ltb, lt-ltb}
use Rattle.std.proofs.lemmas.Grind.{common_steps}
use Rattle.std.proofs.lemmas.List.{length-map}
use Rattle.std.proofs.lemmas.List.Elements.{All-drop, All-head, All-tail}
use Rattle.std.proofs.lemmas.List.Folds.{find_at}
use Rattle.std.proofs.lemmas.List.FromFn.{length-enumerate_from}
use Rattle.std.proofs.lemmas.List.Sums.{sum_by-cons}
use Rattle.std.proofs.lemmas.Option.{get_or_from_slice_get, none-some, same_Some, slice_get-map}
use Rattle.std.proofs.lemmas.Option.{slice_get_within}
use Rattle.std.specs.List.{AllByRecursion, AllZip, enumerate_from, list_any, position_or_len}
use Rattle.std.specs.Prelude.{IfSome, nat_lt, option_map, slice_index}
use Rattle.article_verdict.proofs.SoundTerms.{are_sound}
use Rattle.article_verdict.specs.Config.{terms_of}
use Rattle.block_shelf.proofs.NewBufferSet.{numbered_view}
use Rattle.feed_queue.specs.Feeds.{ring_size}
use Rattle.feed_queue.specs.Left.{AreLeft, IsLeft}
use Rattle.feed_queue.proofs.LeftLaws.{left_holds}
use Rattle.id_history.specs.History.{FeedHolds, Holds, IdHolds, IsThere, KeptFeed, KeptId}
use Rattle.id_history.specs.History as texts
use Rattle.id_history.specs.Lasting.{AreLasting, claim_of_kept, claim_since, lasting}
use Rattle.news_terms.specs.Places.{Buffer, Group}
use Rattle.news_terms.specs.Courses.{Course, IsLaid, position_in}
use Rattle.news_terms.specs.Ring.{ring}
use Rattle.news_terms.specs.Ring as rings
use Rattle.news_terms.specs.Token.{Token}
use Rattle.news_terms.proofs.ListPlaces.{mapped_at, holds_at}
use Rattle.relay_conf.specs.Places.{numbered_buffer}
use Rattle.relay_conf.specs.declared.cycbuff.BufferConf.{BufferConf}
use Rattle.relay_conf.specs.declared.settings.Config.{Config}
use Rattle.relay_facts.proofs.NamedBuffers.{named_number}
use Rattle.relay_facts.proofs.Recorded.{gained_below_fronts, gained_stored, stored_below}
use Rattle.relay_facts.proofs.ShortLists.{gained_at_most}
use Rattle.relay_model.specs.Claims as claims
use Rattle.relay_model.specs.Claims.{Claim, after_restart}
use Rattle.relay_model.specs.Fetches.{buffer_of}
use Rattle.relay_model.specs.Invariants.{IsWell}
use Rattle.relay_model.specs.OnRecord.{IsBelow, IsTimed}
use Rattle.relay_model.specs.Shares.{as_ring}
use Rattle.relay_model.specs.State.{Feed, State}
use Rattle.relay_model.specs.Terms.{Terms, last_moment}
use Rattle.relay_model.specs.World.{World}
use Rattle.cyc_buffer.specs.Filled.{Filled}
use Rattle.block_shelf.specs.Filled.{filled_at, filled_of}
use Rattle.relay_core.specs.Ahead.{all_stored, has_unbegun, is_ahead}
use Rattle.relay_core.specs.Ahead.{is_feed_ahead, is_id_ahead, is_past, is_unbegun}
use Rattle.relay_core.specs.Desks.{members_of, setting_of}
use Rattle.block_shelf.specs.Stopping.{ArePositions}

-- LISTS

-- what holds of each pair of two lists
zip_all : {X Y : Type 0} (P : X → Y → Type 0) (xs : List X) (ys : List Y) → length xs ≡ length ys
    → ((i : ℕ) (x : X) (y : Y) → slice_get xs i ≡ Some x → slice_get ys i ≡ Some y → P x y)
    → AllZip P xs ys
zip_all P [] [] count each = tt
zip_all P [] (y ∷ ys) count each = absurd (omega (arith, count))
zip_all P (x ∷ xs) [] count each = absurd (omega (arith, count))
zip_all P (x ∷ xs) (y ∷ ys) count each = (
  each 0 x y refl refl,
  zip_all P xs ys (omega (arith, count)) (λ i a b at there. each (suc i) a b at there),
)

-- what holds of each of a list
all_at : {X : Type 0} (P : X → Type 0) (xs : List X)
    → ((i : ℕ) (x : X) → slice_get xs i ≡ Some x → P x) → AllByRecursion P xs
all_at P [] each = tt
all_at P (x ∷ xs) each = (each 0 x refl, all_at P xs (λ i a at. each (suc i) a at))

of_all : {X : Type 0} (P : X → Type 0) (xs : List X) → All P xs → AllByRecursion P xs
of_all P [] all = tt
of_all P (x ∷ xs) all = (All-head P x xs all, of_all P xs (All-tail P x xs all))

pub weaker : {X : Type 0} (P Q : X → Type 0) → ((x : X) → P x → Q x) → (xs : List X)
    → AllByRecursion P xs → AllByRecursion Q xs
weaker P Q more [] all = tt
weaker P Q more (x ∷ xs) all = (more x all.0, weaker P Q more xs all.1)

-- where none passes, none does
none_pass : {X : Type 0} (p : X → Bool) (xs : List X) → AllByRecursion (λ (x : X). p x ≡ false) xs
    → list_any p xs ≡ false
none_pass p [] all = refl
none_pass p (x ∷ xs) all = by (p x) (list_any p xs) all.0 (none_pass p xs all.1)
  where
    by : (one others : Bool) → one ≡ false → others ≡ false → (one || others) ≡ false
    by one others e f = ap (λ b. b || others) e ∙ f

-- a sum over what is made of each
pub sum_by-map : {X Y : Type 0} (g : Y → ℕ) (f : X → Y) (xs : List X)
    → sum_by g (map f xs) ≡ sum_by (λ x. g (f x)) xs
sum_by-map g f [] = refl
sum_by-map g f (x ∷ xs) =
    sum_by-cons g (f x) (map f xs) ∙ ap (λ n. g (f x) + n) (sum_by-map g f xs)
    ∙ sym (sum_by-cons (λ y. g (f y)) x xs)

-- BUFFERS

-- the buffers of a configuration are numbered in their order
pub numbered : (config : Config) (b : ℕ) (buffer : Buffer)
    → slice_get (terms_of config).buffers b ≡ Some buffer → buffer.number ≡ b
numbered config b buffer there =
    by (slice_get config.buffers.buffers.items b)
    (sym (numbered_view config.buffers.buffers.items b) ∙ there)
  where
    by : (o : Option BufferConf)
        → option_map (λ (conf : BufferConf). numbered_buffer (b, conf)) o ≡ Some buffer
        → buffer.number ≡ b
    by None e = absurd (none-some buffer e)
    by (Some conf) e = ap (λ (one : Buffer). one.number) (sym (same_Some _ buffer e))

-- there are as many as the configuration has
pub buffers_count : (config : Config)
    → length (terms_of config).buffers ≡ length config.buffers.buffers.items
buffers_count config =
    length-map (enumerate_from 0 config.buffers.buffers.items) numbered_buffer
    ∙ length-enumerate_from 0 config.buffers.buffers.items

module _ (config : Config) where
  abbrev v : Terms
  v = terms_of config

  -- the buffer that a token names stands at its number
  pub named_there : (token : Token) (buffer : Buffer) → buffer_of v token ≡ Some buffer
      → slice_get v.buffers token.buffer ≡ Some buffer
  named_there token buffer named =
      ap (slice_get v.buffers) (sym (named_number v token.buffer buffer named)
      ∙ numbered config index buffer there)
      ∙ there
    where
      index : ℕ
      index = position_or_len (λ (one : Buffer). one.number == token.buffer) v.buffers

      there : slice_get v.buffers index ≡ Some buffer
      there = sym (find_at (λ (one : Buffer). one.number == token.buffer) v.buffers) ∙ named

  -- what is below a front names a buffer
  pub is_there : (σ : State) (token : Token) → IsBelow v σ token
      → IsThere (length config.buffers.buffers.items) token
  is_there σ token is =
      omega (
        arith,
        slice_get_within v.buffers token.buffer is.buffer
            (named_there token is.buffer is.named),
        buffers_count config,
      )

  -- and was begun
  pub was_begun : (σ : State) (token : Token) → IsBelow v σ token
      → is_unbegun (filled_of v σ) token ≡ false
  was_begun σ token is =
      ap (is_past token) (slice_get-map (filled_at v σ) v.buffers token.buffer
      ∙ ap (option_map (filled_at v σ)) (named_there token is.buffer is.named))
      ∙ ap not (lt-ltb _ _ is.below)

-- POSITIONS

-- positions are those of buffers of their groups
positions_fit : (groups : List Group) (begun : ℕ → Course) (positions : List ℕ)
    → ((h : ℕ) (group : Group) → slice_get groups h ≡ Some group → IsLaid group (begun h))
    → All (λ (group : Group). 1 ≤ length group.buffers) groups → ArePositions groups begun positions
    → AllZip (λ position m. position < m) positions (map members_of groups)
positions_fit groups begun positions laid filled are =
    zip_all (λ position m. position < m) positions (map members_of groups)
    (are.count ∙ sym (length-map groups members_of))
    (λ h position m at there.
    let group = mapped_at members_of groups h m there in
    let is : (position_in group.0 (begun h)).index ≡ position =
    same_Some _ position (sym (are.each h group.0 group.1) ∙ at) in
    let below = (laid h group.0 group.1).turn
    (holds_at (λ (one : Group). 1 ≤ length one.buffers) groups filled h group.0 group.1) in
    omega (arith, is, below, group.2))

-- FEEDS

-- what waits in a ring
waits : {A : Type 0} (size : ℕ) (feed : rings.Feed A) → feed.passed ≤ length feed.gained
    → length (ring size feed) ≡ min size (length feed.gained - feed.passed)
waits size feed within = grind (arith, common_steps)

-- what waits is of the list
waiting_of : (P : Token → Type 0) (kept : KeptFeed) (size : ℕ) (feed : Feed) → IsLeft kept size feed
    → All P feed.gained → AllByRecursion P kept.waiting
waiting_of P kept size feed is all =
    subst (AllByRecursion P) (sym is.waiting)
    (of_all P (ring size (as_ring feed))
    (All-drop P _ (drop feed.passed feed.gained) (All-drop P feed.passed feed.gained all)))

-- IDS

-- a claim of which something is left has a moment that there is
timed : (claim : Claim) → IsTimed claim → IsTimed (lasting claim)
timed claims.Unknown is = tt
timed (claims.Offered session since) is = tt
timed (claims.Storing session article stage) is = tt
timed (claims.Stored token moment) is = is
timed (claims.Refused moment) is = is

-- what is left of it as stored is stored
stored_is : (claim : Claim) (token : Token) (moment : ℕ)
    → claims.Stored token moment ≡ lasting claim → claim ≡ claims.Stored token moment
stored_is claims.Unknown token moment e = absurd (cc)
stored_is (claims.Offered session since) token moment e = absurd (cc)
stored_is (claims.Storing session article stage) token moment e = absurd (cc)
stored_is (claims.Stored other since) token moment e = sym e
stored_is (claims.Refused since) token moment e = absurd (cc)

-- of a claim that isn't being stored the same lasts after a Restart
pub lasts_again : (claim : Claim) → lasting (after_restart claim) ≡ lasting claim
lasts_again claims.Unknown = refl
lasts_again (claims.Offered session since) = refl
lasts_again (claims.Storing session article stage) = refl
lasts_again (claims.Stored token moment) = refl
lasts_again (claims.Refused moment) = refl

module _ (config : Config) (x : World) (well : IsWell (terms_of config) x) where
  abbrev w : Terms
  w = terms_of config

  abbrev many : ℕ
  many = length config.buffers.buffers.items

  -- the token of an id that is stored is below its front
  id_below : (one : KeptId) (token : Token) → one.token ≡ Some token
      → claim_of_kept one ≡ lasting (x.state.claim one.id) → IsBelow w x.state token
  id_below one token is same =
      stored_below w x one.id token one.moment well
      (stored_is (x.state.claim one.id) token one.moment
      (ap (λ (o : Option Token). claim_since o one.moment) (sym is) ∙ same))

  -- a message-id fits
  id_fits : (one : KeptId) → claim_of_kept one ≡ lasting (x.state.claim one.id)
      → IdHolds many one
  id_fits one same =
      record {
        token = by_token one.token refl;
        moment = by_claim one.token
            (subst IsTimed (sym same) (timed (x.state.claim one.id)
            (well.on_record.moments one.id)));
      }
    where
      by_token : (o : Option Token) → one.token ≡ o → IfSome o (IsThere many)
      by_token None is = tt
      by_token (Some token) is = is_there config x.state token (id_below one token is same)

      by_claim : (o : Option Token) → IsTimed (claim_since o one.moment) → one.moment ≤ last_moment
      by_claim None is = is
      by_claim (Some token) is = is

  -- a message-id isn't ahead
  id_behind : (one : KeptId) → claim_of_kept one ≡ lasting (x.state.claim one.id)
      → is_id_ahead (filled_of w x.state) one ≡ false
  id_behind one same = by_token one.token refl
    where
      by_token : (o : Option Token) → one.token ≡ o
          → has_unbegun (filled_of w x.state) o ≡ false
      by_token None is = refl
      by_token (Some token) is = was_begun config x.state token (id_below one token is same)

  -- the sizes of the rings
  abbrev sizes : List ℕ
  sizes = map ring_size config.relay.feeds.items

  module _ (kept : texts.Kept) (feeds : AreLeft kept.feeds sizes x.state.feed)
      (ids : AreLasting kept.ids x.state.claim) where
    -- what is left of a feed fits its ring
    feed_fits : (f : ℕ) (one : KeptFeed) (size : ℕ) → slice_get kept.feeds f ≡ Some one
        → slice_get sizes f ≡ Some size → FeedHolds many one size
    feed_fits f one size at there =
        let is : IsLeft one size (x.state.feed f) =
        subst (λ n. IsLeft one n (x.state.feed f)) (get_or_from_slice_get sizes f size 0 there)
        (feeds.each f one at) in
        record {
          counts = left_holds one size (x.state.feed f) is;
          gained = omega (arith, is.gained, gained_at_most w x f (are_sound config) well);
          tokens = weaker (IsBelow w x.state) (IsThere many) (is_there config x.state) one.waiting
              (waiting_of (IsBelow w x.state) one size (x.state.feed f) is
              (gained_below_fronts w x f well));
        }

    -- a history of this world can be one of a relay of this configuration
    pub record_holds : ArePositions w.groups x.state.begun kept.positions
        → Holds (setting_of config) kept
    record_holds positions =
        record {
          positions = positions_fit w.groups x.state.begun kept.positions well.sized.laid
              (are_sound config).places.filled positions;
          feeds = zip_all (FeedHolds many) kept.feeds sizes feeds.count feed_fits;
          ids = weaker (λ one. claim_of_kept one ≡ lasting (x.state.claim one.id)) (IdHolds many)
              id_fits kept.ids ids.each;
          rises = ids.rises;
        }

    -- as many articles are stored as the feed gained, or more
    enough : (f : ℕ) → length (x.state.feed f).gained ≤ all_stored (filled_of w x.state)
    enough f =
        omega (
          arith,
          gained_stored w x f well,
          sum_by-map (λ (one : Filled). one.stored) (filled_at w x.state) w.buffers,
        )

    -- a feed isn't ahead
    feed_behind : (f : ℕ) (one : KeptFeed) → slice_get kept.feeds f ≡ Some one
        → is_feed_ahead (filled_of w x.state) one ≡ false
    feed_behind f one at =
        let is = feeds.each f one at in
        let filled : List Filled = filled_of w x.state in
        let waits : list_any (is_unbegun filled) one.waiting ≡ false =
        none_pass (is_unbegun filled) one.waiting
        (weaker (IsBelow w x.state) (λ token. is_unbegun filled token ≡ false)
        (was_begun config x.state) one.waiting
        (waiting_of (IsBelow w x.state) one (slice_index sizes f) (x.state.feed f) is
        (gained_below_fronts w x f well))) in
        let few : nat_lt (all_stored filled) one.gained ≡ false =
        le-ltb _ _ (omega (arith, is.gained, enough f)) in
        ap (λ b. b || list_any (is_unbegun filled) one.waiting) few ∙ waits

    -- nothing of it is ahead of what is stored
    pub record_behind : is_ahead (filled_of w x.state) kept ≡ false
    record_behind =
        let filled : List Filled = filled_of w x.state in
        ap (λ b. b || list_any (is_feed_ahead filled) kept.feeds)
        (none_pass (is_id_ahead filled) kept.ids
        (weaker (λ one. claim_of_kept one ≡ lasting (x.state.claim one.id))
        (λ one. is_id_ahead filled one ≡ false) id_behind kept.ids ids.each))
        ∙ none_pass (is_feed_ahead filled) kept.feeds
        (all_at (λ one. is_feed_ahead filled one ≡ false) kept.feeds feed_behind)
