-- What the feeds of a desk have gained of a history's posts, step by step.
use Rattle.std.proofs.Common.{◌≡◌, ◌∙◌, ℕ, ◌==◌, Bool, true, false, List, [], ◌∷◌, ◌++◌, ap, cond}
use Rattle.std.proofs.Common.{append_assoc, inl, inr, length, length-append, map, refl, subst, sym}
use Rattle.std.proofs.Math.Logic.{∥∥₁_map}
use Rattle.std.proofs.lemmas.Bool.{cases_Bool, eqb-true}
use Rattle.std.proofs.lemmas.List.{append-nil}
use Rattle.std.specs.List.{list_any}
use Rattle.std.specs.Prelude.{nat_eq, slice_index, Option, None, Some, Result, Ok, Err, IfOk}
use Rattle.std.specs.Prelude.{IfSome, OnErr}
use Rattle.cyc_token.specs.Token.{token_view}
use Rattle.feed_queue.specs.Feeds.{KeepsFeeds, no_feed}
use Rattle.feed_queue.specs.Left.{AreLeft}
use Rattle.feed_queue.specs.declared.desk.FeedDesk.{FeedDesk}
use Rattle.id_history.specs.History as texts
use Rattle.id_history.specs.History.{Fits, Kept, history_octets}
use Rattle.id_history.specs.Views.{feed_view}
use Rattle.id_history.specs.declared.kept.KeptFeed.{KeptFeed}
use Rattle.live_jobs.specs.declared.desk.both.Unsettled.{Unsettled}
use Rattle.news_terms.specs.Token.{Token}
use Rattle.post_history.specs.declared.post.Post.{Post}
use Rattle.relay_live.specs.Gains.{BeganWith, Gained, HaveGained, WithHistory, WithNothing}
use Rattle.relay_core.specs.Stopping.{AreKeptFeeds}
use Rattle.relay_live.specs.Gains.{TellGained, tokens_for}
use Rattle.relay_live.specs.Posting.{IsPostedBy}
use Rattle.relay_model.specs.Shares.{after_take_of}
use Rattle.relay_model.specs.State.{Feed, put_at}
use Rattle.relay_model.specs.Writers.{gaining}

-- a post more that a feed may gain, and one that it may not
for_yes : (f : ℕ) (post : Post) (posts : List Post)
    → list_any (nat_eq f) post.permitted.value.items ≡ true
    → tokens_for f (post ∷ posts) ≡ token_view post.token ∷ tokens_for f posts
for_yes f post posts may =
    ap (λ (b : Bool). cond b (token_view post.token ∷ tokens_for f posts) (tokens_for f posts)) may

for_no : (f : ℕ) (post : Post) (posts : List Post)
    → list_any (nat_eq f) post.permitted.value.items ≡ false
    → tokens_for f (post ∷ posts) ≡ tokens_for f posts
for_no f post posts bars =
    ap (λ (b : Bool). cond b (token_view post.token ∷ tokens_for f posts) (tokens_for f posts))
    bars

-- the tokens of a post behind others are behind theirs
for_behind : (f : ℕ) (posts more : List Post)
    → tokens_for f (posts ++ more) ≡ tokens_for f posts ++ tokens_for f more
for_behind f [] more = refl
for_behind f (post ∷ posts) more =
    elim (cases_Bool (list_any (nat_eq f) post.permitted.value.items)) [
      | inl may ↦
          for_yes f post (posts ++ more) may
          ∙ ap (λ (ts : List Token). token_view post.token ∷ ts) (for_behind f posts more)
          ∙ ap (λ (ts : List Token). ts ++ tokens_for f more) (sym (for_yes f post posts may))
      | inr bars ↦
          for_no f post (posts ++ more) bars
          ∙ for_behind f posts more
          ∙ ap (λ (ts : List Token). ts ++ tokens_for f more) (sym (for_no f post posts bars))
    ]

-- what a feed has gained once those permitted have gained a token
gained_yes : (feeds : ℕ → Feed) (permitted : List ℕ) (token : Token) (f : ℕ)
    → list_any (nat_eq f) permitted ≡ true
    → (gaining feeds permitted token f).gained ≡ (feeds f).gained ++ token ∷ []
gained_yes feeds permitted token f may =
    ap (λ (b : Bool). (cond b (record (feeds f) { gained = (feeds f).gained ++ token ∷ [] })
    (feeds f)).gained) may

gained_no : (feeds : ℕ → Feed) (permitted : List ℕ) (token : Token) (f : ℕ)
    → list_any (nat_eq f) permitted ≡ false
    → (gaining feeds permitted token f).gained ≡ (feeds f).gained
gained_no feeds permitted token f bars =
    ap (λ (b : Bool). (cond b (record (feeds f) { gained = (feeds f).gained ++ token ∷ [] })
    (feeds f)).gained) bars

-- each has gained the tokens of one post more
gained_one : (feeds began : ℕ → Feed) (posts : List Post) (post : Post) (f : ℕ)
    → (feeds f).gained ≡ (began f).gained ++ tokens_for f posts
    → (gaining feeds post.permitted.value.items (token_view post.token) f).gained
    ≡ (began f).gained ++ tokens_for f (posts ++ post ∷ [])
gained_one feeds began posts post f had =
    let permitted = post.permitted.value.items in
    let token = token_view post.token in
    let goal : (began f).gained ++ (tokens_for f posts ++ tokens_for f (post ∷ []))
    ≡ (began f).gained ++ tokens_for f (posts ++ post ∷ []) =
    ap (λ (ts : List Token). (began f).gained ++ ts) (sym (for_behind f posts (post ∷ []))) in
    elim (cases_Bool (list_any (nat_eq f) permitted)) [
      | inl may ↦
          gained_yes feeds permitted token f may
          ∙ ap (λ (ts : List Token). ts ++ token ∷ []) had
          ∙ append_assoc (began f).gained (tokens_for f posts) (token ∷ [])
          ∙ ap (λ (ts : List Token). (began f).gained ++ (tokens_for f posts ++ ts))
          (sym (for_yes f post [] may))
          ∙ goal
      | inr bars ↦
          gained_no feeds permitted token f bars
          ∙ had
          ∙ ap (λ (ts : List Token). (began f).gained ++ ts)
          (sym (append-nil (tokens_for f posts)))
          ∙ ap (λ (ts : List Token). (began f).gained ++ (tokens_for f posts ++ ts))
          (sym (for_no f post [] bars))
          ∙ goal
    ]

-- an article was settled, and its post put behind all others
pub gained_more : (old new : FeedDesk) (text rings : List ℕ) (before after : List Post)
    (article : Unsettled)
    → ((sizes : List ℕ) (feeds : ℕ → Feed) → KeepsFeeds old sizes feeds
    → KeepsFeeds new sizes
    (gaining feeds article.permitted.now.items (token_view article.token)))
    → IsPostedBy article before after
    → HaveGained old text rings before → HaveGained new text rings after
gained_more old new text rings before after article gains posted have began with =
    let post : Post = posted.post in
    let permitted = posted.of.permitted_is in
    let token = ap token_view posted.of.token_is in
    ∥∥₁_map (have began with) (λ had. record {
      feeds = gaining had.feeds post.permitted.value.items (token_view post.token);
      keeps = subst (λ (x : List ℕ × Token). KeepsFeeds new rings (gaining had.feeds x.0 x.1))
          (λ i. (sym permitted i, sym token i)) (gains rings had.feeds had.keeps);
      each = λ f. gained_one had.feeds began before post f (had.each f)
          ∙ ap (λ (ps : List Post). (began f).gained ++ tokens_for f ps) (sym posted.behind);
    })

-- what a feed has taken, it had gained
put_gained : (feeds : ℕ → Feed) (number : ℕ) (ring most f : ℕ)
    → (put_at feeds number (after_take_of ring most (feeds number)) f).gained
    ≡ (feeds f).gained
put_gained feeds number ring most f = elim (cases_Bool (f == number)) [
  | inl here ↦
      ap (λ (b : Bool). (cond b (after_take_of ring most (feeds number)) (feeds f)).gained) here
      ∙ ap (λ (k : ℕ). (feeds k).gained) (sym (eqb-true f number here))
  | inr other ↦
      ap (λ (b : Bool). (cond b (after_take_of ring most (feeds number)) (feeds f)).gained) other
]

pub gained_taken : (old new : FeedDesk) (text rings : List ℕ) (posts : List Post)
    (number most : ℕ)
    → ((sizes : List ℕ) (feeds : ℕ → Feed) → KeepsFeeds old sizes feeds
    → KeepsFeeds new sizes
    (put_at feeds number (after_take_of (slice_index sizes number) most (feeds number))))
    → HaveGained old text rings posts → HaveGained new text rings posts
gained_taken old new text rings posts number most takes have began with =
    ∥∥₁_map (have began with) (λ had. record {
      feeds = put_at had.feeds number
          (after_take_of (slice_index rings number) most (had.feeds number));
      keeps = takes rings had.feeds had.keeps;
      each = λ f. put_gained had.feeds number (slice_index rings number) most f ∙ had.each f;
    })

-- after a take, whatever it answers
pub gained_tried : {T E : Type 0} (old new : FeedDesk) (text rings : List ℕ) (posts : List Post)
    (number most : ℕ) (result : Result (Option T) E)
    → IfOk result (λ answer. IfSome answer (λ taken. (sizes : List ℕ) (feeds : ℕ → Feed)
    → KeepsFeeds old sizes feeds → KeepsFeeds new sizes
    (put_at feeds number (after_take_of (slice_index sizes number) most (feeds number)))))
    → (result ≡ Ok None → new ≡ old) → OnErr result (new ≡ old)
    → HaveGained old text rings posts → HaveGained new text rings posts
gained_tried old new text rings posts number most (Ok (Some taken)) takes none error have =
    gained_taken old new text rings posts number most takes have
gained_tried old new text rings posts number most (Ok None) takes none error have =
    subst (λ (desk : FeedDesk). HaveGained desk text rings posts) (sym (none refl)) have
gained_tried old new text rings posts number most (Err e) takes none error have =
    subst (λ (desk : FeedDesk). HaveGained desk text rings posts) (sym error) have

-- before the first post nothing was gained behind what was had
begins : (desk : FeedDesk) (rings : List ℕ) (began : ℕ → Feed) (posts : List Post)
    → posts ≡ [] → KeepsFeeds desk rings began → Gained desk rings began posts
begins desk rings began posts none keeps = record {
  feeds = began;
  keeps = keeps;
  each = λ f. sym (append-nil (began f).gained)
      ∙ ap (λ (ps : List Post). (began f).gained ++ tokens_for f ps) (sym none);
}

pub begins_new : (desk : FeedDesk) (text rings sizes : List ℕ) (posts : List Post)
    → text ≡ [] → rings ≡ sizes → posts ≡ [] → KeepsFeeds desk sizes (λ f. no_feed)
    → HaveGained desk text rings posts
begins_new desk text rings sizes posts none same unposted keeps began (WithNothing empty nothing) =
    ∣ begins desk rings began posts unposted
    (subst (λ (x : List ℕ × (ℕ → Feed)). KeepsFeeds desk x.0 x.1)
    (λ i. (sym same i, λ f. sym (nothing f) i)) keeps) ∣₁
begins_new desk text rings sizes posts none same unposted keeps began
    (WithHistory history fits is left) =
    let texts : [] ≡ history_octets history = sym none ∙ is in absurd cc

pub begins_left : (desk : FeedDesk) (text rings sizes : List ℕ) (posts : List Post) (kept : Kept)
    → text ≡ history_octets kept → Fits kept
    → ((one other : Kept) → Fits one → Fits other → history_octets one ≡ history_octets other
    → one ≡ other)
    → rings ≡ sizes → posts ≡ []
    → ((feeds : ℕ → Feed) → AreLeft kept.feeds sizes feeds → KeepsFeeds desk sizes feeds)
    → HaveGained desk text rings posts
begins_left desk text rings sizes posts kept is fits one_text same unposted keeps began
    (WithNothing empty nothing) =
    let texts : [] ≡ history_octets kept = sym empty ∙ is in absurd cc
begins_left desk text rings sizes posts kept is fits one_text same unposted keeps began
    (WithHistory history fits' is' left) =
    let one : history ≡ kept = one_text history kept fits' fits (sym is' ∙ is) in
    let had : AreLeft kept.feeds sizes began =
    subst (λ (x : Kept × List ℕ). AreLeft x.0.feeds x.1 began) (λ i. (one i, same i)) left in
    ∣ begins desk rings began posts unposted
    (subst (λ (rs : List ℕ). KeepsFeeds desk rs began) (sym same) (keeps began had)) ∣₁

-- what a stop tells of the feeds
pub told_gained : (desk : FeedDesk) (count : ℕ) (text rings : List ℕ) (posts : List Post)
    (later : List ℕ) (kept : Kept) (feeds : List KeptFeed)
    → Fits kept → later ≡ history_octets kept → kept.feeds ≡ map feed_view feeds
    → AreKeptFeeds desk count feeds → length rings ≡ count → HaveGained desk text rings posts
    → TellGained text rings posts later
told_gained desk count text rings posts later kept feeds fits written are left as_many have began
    with =
    ∥∥₁_map (have began with) (λ had. record {
      history = kept;
      fits = fits;
      text_is = written;
      each = λ f one there.
          let all : AreLeft kept.feeds rings had.feeds =
          subst (λ (fs : List texts.KeptFeed). AreLeft fs rings had.feeds) (sym are)
          (left rings had.feeds had.keeps as_many) in
          (all.each f one there).gained ∙ ap length (had.each f)
          ∙ length-append (began f).gained (tokens_for f posts);
    })
