-- What posts and takes keep of a desk whose posts are counted.
use Rattle.std.proofs.Common.{◌≡◌, ℕ, ◌+◌, ◌≤◌, ◌<◌, ◌^◌, ◌==◌, Bool, true, false, sym, subst, ap}
use Rattle.std.proofs.Common.{List, [], ◌∷◌, ◌++◌, length, Option, None, Some, Result, Ok, Err}
use Rattle.std.proofs.Common.{if◌then◌else◌, refl, nat_eq, arith, max, suc, zero}
use Rattle.std.proofs.Math.Logic.{∥∥₁_map, ∥∥₁_elim}
use Rattle.std.proofs.Props.{props}
use Rattle.std.proofs.lemmas.List.{length-append}
use Rattle.std.proofs.lemmas.Option.{same_Some}
use Rattle.std.specs.Coded.{le_prop}
use Rattle.std.specs.List.{AllZip, list_any}
use Rattle.std.specs.Prelude.{IfOk, IfSome, OnErr, slice_get, slice_index}
use Rattle.feed_queue.specs.Feeds.{KeepsFeeds, HasRoomToCount, no_feed, ring_count}
use Rattle.feed_queue.specs.Left.{AreLeft, IsLeft}
use Rattle.feed_queue.specs.Taking.{IsTaken}
use Rattle.feed_queue.specs.declared.desk.FeedDesk.{FeedDesk}
use Rattle.feed_queue.specs.declared.desk.Taken.{Taken}
use Rattle.feed_queue.proofs.TakenItems.{few_items}
use Rattle.id_history.specs.History.{KeptFeed, RingHolds}
use Rattle.id_history.specs.Views.{feed_view}
use Rattle.id_history.specs.declared.kept.KeptFeed as left
use Rattle.news_terms.specs.Token.{Token}
use Rattle.relay_model.specs.Shares.{after_take_of}
use Rattle.relay_model.specs.State.{Feed, put_at}
use Rattle.relay_model.specs.Writers.{gaining}
use Rattle.live_jobs.specs.Posting.{KeepsAtMost, most_gained}

-- each feed has gained one more at most
few_gained : (feeds : ℕ → Feed) (permitted : List ℕ) (token : Token) (most : ℕ)
    → ((f : ℕ) → length (feeds f).gained ≤ most)
    → (f : ℕ) → length (gaining feeds permitted token f).gained ≤ most + 1
few_gained feeds permitted token most few f = by (list_any (nat_eq f) permitted)
  where
    by : (b : Bool)
        → length
        (if b then record (feeds f) { gained = (feeds f).gained ++ token ∷ [] }
        else feeds f).gained
        ≤ most + 1
    by true = omega (arith, length-append (feeds f).gained (token ∷ []), few f)
    by false = omega (arith, few f)

-- a take lets no feed gain
few_taken : (feeds : ℕ → Feed) (feed size n most : ℕ)
    → ((f : ℕ) → length (feeds f).gained ≤ most)
    → (f : ℕ) → length (put_at feeds feed (after_take_of size n (feeds feed)) f).gained ≤ most
few_taken feeds feed size n most few f = by (f == feed)
  where
    by : (b : Bool)
        → length (if b then after_take_of size n (feeds feed) else feeds f).gained ≤ most
    by true = few feed
    by false = few f

-- a desk with fewer than 2^62 posts has room to count, where the lists that it keeps say so
pub has_room : (desk : FeedDesk) (posts : ℕ) → ∥ KeepsAtMost desk posts ∥₁ → posts < 2 ^ 62
    → ((sizes : List ℕ) (feeds : ℕ → Feed) → KeepsFeeds desk sizes feeds
    → ((f : ℕ) → f < ring_count desk → length (feeds f).gained < 2 ^ 62) → HasRoomToCount desk)
    → HasRoomToCount desk
has_room desk posts kept below law k d within =
    ∥∥₁_elim kept (hlevel (props, le_prop))
    (λ one. law one.sizes one.feeds one.keeps (λ f here. omega (arith, below, one.few f)) k d
    within)

-- after a post
pub kept_posted : (old new : FeedDesk) (posts : ℕ) (permitted : List ℕ) (token : Token)
    → ((sizes : List ℕ) (feeds : ℕ → Feed) → KeepsFeeds old sizes feeds
    → KeepsFeeds new sizes (gaining feeds permitted token))
    → ∥ KeepsAtMost old posts ∥₁ → ∥ KeepsAtMost new (posts + 1) ∥₁
kept_posted old new posts permitted token keeps kept =
    ∥∥₁_map kept
    (λ one. record {
      sizes = one.sizes;
      feeds = gaining one.feeds permitted token;
      keeps = keeps one.sizes one.feeds one.keeps;
      few = few_gained one.feeds permitted token posts one.few;
    })

-- after a take, whatever it answers
pub kept_taken : {T E : Type 0} (old new : FeedDesk) (posts feed most : ℕ)
    (result : Result (Option T) E)
    → IfOk result (λ (answer : Option T). IfSome answer (λ (taken : T). (sizes : List ℕ)
    (feeds : ℕ → Feed) → KeepsFeeds old sizes feeds → KeepsFeeds new sizes
    (put_at feeds feed (after_take_of (slice_index sizes feed) most (feeds feed)))))
    → (result ≡ Ok None → new ≡ old) → OnErr result (new ≡ old)
    → ∥ KeepsAtMost old posts ∥₁ → ∥ KeepsAtMost new posts ∥₁
kept_taken old new posts feed most (Ok (Some taken)) keeps none error kept =
    ∥∥₁_map kept
    (λ one. record {
      sizes = one.sizes;
      feeds = put_at one.feeds feed
          (after_take_of (slice_index one.sizes feed) most (one.feeds feed));
      keeps = keeps one.sizes one.feeds one.keeps;
      few = few_taken one.feeds feed (slice_index one.sizes feed) most posts one.few;
    })
kept_taken old new posts feed most (Ok None) keeps none error kept =
    subst (λ (desk : FeedDesk). ∥ KeepsAtMost desk posts ∥₁) (sym (none refl)) kept
kept_taken old new posts feed most (Err e) keeps none error kept =
    subst (λ (desk : FeedDesk). ∥ KeepsAtMost desk posts ∥₁) (sym error) kept

-- so it is of every desk
pub few_of_any : {E : Type 0} (desk : FeedDesk) (posts feed most : ℕ)
    (result : Result (Option Taken) E)
    → IfOk result (λ (answer : Option Taken). IfSome answer (λ (taken : Taken). (sizes : List ℕ)
    (feeds : ℕ → Feed) → KeepsFeeds desk sizes feeds
    → IsTaken taken (slice_index sizes feed) most (feeds feed)))
    → ∥ KeepsAtMost desk posts ∥₁
    → IfOk result (λ (answer : Option Taken). IfSome answer (λ (taken : Taken).
    length taken.items.items ≤ most))
few_of_any desk posts feed most (Ok (Some taken)) is kept =
    ∥∥₁_elim kept (hlevel (props, le_prop))
    (λ one. few_items taken (slice_index one.sizes feed) most (one.feeds feed)
    (is one.sizes one.feeds one.keeps))
few_of_any desk posts feed most (Ok None) is kept = tt
few_of_any desk posts feed most (Err e) is kept = tt

-- a feed at the front of others
abbrev in_front : Feed → (ℕ → Feed) → ℕ → Feed
in_front one rest zero = one
in_front one rest (suc f) = rest f

-- feeds of which this was left, none of which gained more than the most of them
pub record SomeLeft (kept : List KeptFeed) (sizes : List ℕ) : Type 0 where
  pub feeds : ℕ → Feed
  pub count : length kept ≡ length sizes
  pub each : (f : ℕ) (one : KeptFeed) → slice_get kept f ≡ Some one
      → IsLeft one (slice_index sizes f) (feeds f)
  pub few : (f : ℕ) → length (feeds f).gained ≤ most_gained kept

-- each of them was left of some feed, so all of them were
pub some_left : ((kept : KeptFeed) (ring : ℕ) → RingHolds kept ring
    → (feed : Feed) × IsLeft kept ring feed)
    → (kept : List KeptFeed) (sizes : List ℕ) → AllZip RingHolds kept sizes
    → SomeLeft kept sizes
some_left law [] [] holds = record {
  feeds = λ f. no_feed;
  count = refl;
  each = λ f one is. absurd (none_left f one is);
  few = λ f. omega arith;
}
  where
    none_left : (f : ℕ) (one : KeptFeed) → slice_get [] f ≡ Some one → ⊥
    none_left f one is = cc
some_left law [] (s ∷ ss) holds = absurd holds
some_left law (k ∷ ks) [] holds = absurd holds
some_left law (k ∷ ks) (s ∷ ss) holds =
    let one = law k s holds.0 in
    let rest = some_left law ks ss holds.1 in
    record {
      feeds = in_front one.0 rest.feeds;
      count = ap suc rest.count;
      each = each_of one.0 rest one.1;
      few = few_of_all one.0 rest (omega (arith, one.1.gained));
    }
  where
    each_of : (feed : Feed) → (rest : SomeLeft ks ss) → IsLeft k s feed → (f : ℕ) (one : KeptFeed)
        → slice_get (k ∷ ks) f ≡ Some one
        → IsLeft one (slice_index (s ∷ ss) f) (in_front feed rest.feeds f)
    each_of feed rest left zero one is =
        subst (λ (x : KeptFeed). IsLeft x s feed) (same_Some k one is) left
    each_of feed rest left (suc f) one is = rest.each f one is

    few_of_all : (feed : Feed) → (rest : SomeLeft ks ss) → length feed.gained ≤ k.gained
        → (f : ℕ)
        → length (in_front feed rest.feeds f).gained ≤ max k.gained (most_gained ks)
    few_of_all feed rest little zero = omega (arith, little)
    few_of_all feed rest little (suc f) = omega (arith, rest.few f)

-- a desk that was resumed keeps feeds that gained no more than the most of them
pub kept_resumed : (desk : FeedDesk) (kept : List KeptFeed) (sizes : List ℕ)
    → ((kept : KeptFeed) (ring : ℕ) → RingHolds kept ring
    → (feed : Feed) × IsLeft kept ring feed)
    → AllZip RingHolds kept sizes
    → ((feed : ℕ → Feed) → AreLeft kept sizes feed → KeepsFeeds desk sizes feed)
    → ∥ KeepsAtMost desk (most_gained kept) ∥₁
kept_resumed desk kept sizes law holds keeps =
    let some = some_left law kept sizes holds in
    ∣ record {
      sizes = sizes;
      feeds = some.feeds;
      keeps = keeps some.feeds (record { count = some.count; each = some.each });
      few = some.few;
    } ∣₁

-- what is left of a feed gained no more than any
pub few_kept : {E : Type 0} (desk : FeedDesk) (most feed : ℕ)
    (result : Result (Option left.KeptFeed) E)
    → IfOk result (λ (answer : Option left.KeptFeed). IfSome answer (λ (one : left.KeptFeed).
    (sizes : List ℕ) (feeds : ℕ → Feed) → KeepsFeeds desk sizes feeds
    → IsLeft (feed_view one) (slice_index sizes feed) (feeds feed)))
    → ∥ KeepsAtMost desk most ∥₁
    → IfOk result (λ (answer : Option left.KeptFeed). IfSome answer (λ (one : left.KeptFeed).
    one.gained ≤ most))
few_kept desk most feed (Ok (Some kept)) is all =
    ∥∥₁_elim all (hlevel (props, le_prop))
    (λ one. omega (arith, (is one.sizes one.feeds one.keeps).gained, one.few feed))
few_kept desk most feed (Ok None) is all = tt
few_kept desk most feed (Err e) is all = tt
