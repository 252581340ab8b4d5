-- What is left of a feed is one value, and each that a ring holds is left of some feed.
use Rattle.std.proofs.Common.{◌≡◌, ◌∙◌, ap, sym, refl, ◌+◌, ◌-◌, ◌++◌, ℕ, List}
use Rattle.std.proofs.Common.{length, drop, min, max, replicate, arith}
use Rattle.std.proofs.Math.Seq.{drop-append_seam}
use Rattle.std.proofs.lemmas.List.{length-append, length-replicate}
use Rattle.id_history.specs.History.{KeptFeed, RingHolds}
use Rattle.news_terms.specs.Token.{Token}
use Rattle.relay_model.specs.Shares.{as_ring}
use Rattle.relay_model.specs.State.{Feed}
use Rattle.feed_queue.specs.Examples.{token_at}
use Rattle.feed_queue.specs.Left.{IsLeft}
use Rattle.feed_queue.proofs.RingLemmas.{ring-drop, length-ring}
use Rattle.feed_queue.proofs.SomeFeeds.{begins, few}

-- each part is that of the feed
pub one_left : (one other : KeptFeed) (size : ℕ) (feed : Feed) → IsLeft one size feed
    → IsLeft other size feed → one ≡ other
one_left one other size feed a b = λ i. record {
  gained = (a.gained ∙ sym b.gained) i;
  passed = (a.passed ∙ sym b.passed) i;
  taken = (a.taken ∙ sym b.taken) i;
  waiting = (a.waiting ∙ sym b.waiting) i;
}

-- a list that ends in what waits; which tokens stood before is not known any more
list_of : KeptFeed → List Token
list_of kept = replicate (kept.gained - length kept.waiting) (token_at 0) ++ kept.waiting

-- a feed of which this is left
feed_of : KeptFeed → Feed
feed_of kept = record { gained = list_of kept; passed = kept.passed; taken = kept.taken }

length-list_of : (kept : KeptFeed) (ring : ℕ) → RingHolds kept ring
    → length (list_of kept) ≡ kept.gained
unfolding list_of
length-list_of kept ring holds =
    let least = few ring kept.gained kept.passed (length kept.waiting) holds.passed
    holds.waiting in
    length-append (replicate (kept.gained - length kept.waiting) (token_at 0)) kept.waiting
    ∙ ap (λ n. n + length kept.waiting)
    (length-replicate (kept.gained - length kept.waiting) (token_at 0))
    ∙ omega (arith, least)

is_left : (kept : KeptFeed) (ring : ℕ) → RingHolds kept ring → IsLeft kept ring (feed_of kept)
unfolding feed_of list_of
is_left kept ring holds =
    let before = replicate (kept.gained - length kept.waiting) (token_at 0) in
    let long = length-list_of kept ring holds in
    record {
      gained = sym long;
      passed = refl;
      taken = refl;
      waiting = sym (ring-drop ring (as_ring (feed_of kept))
          ∙ ap (λ n. drop n (list_of kept)) (ap (λ n. max kept.passed (n - ring)) long
          ∙ begins ring kept.gained kept.passed (length kept.waiting) holds.passed holds.waiting
          ∙ sym (length-replicate (kept.gained - length kept.waiting) (token_at 0)))
          ∙ drop-append_seam before kept.waiting);
      within = omega (arith, long, holds.passed);
      had = holds.taken;
    }

-- each that a ring holds is left of some feed
pub some_left : (kept : KeptFeed) (ring : ℕ) → RingHolds kept ring
    → (feed : Feed) × IsLeft kept ring feed
some_left kept ring holds = (feed_of kept, is_left kept ring holds)

-- what is left of a feed fits its ring
pub left_holds : (kept : KeptFeed) (size : ℕ) (feed : Feed) → IsLeft kept size feed
    → RingHolds kept size
left_holds kept size feed is = record {
  taken = is.had;
  passed = omega (arith, is.passed, is.gained, is.within);
  waiting = ap length is.waiting ∙ length-ring size (as_ring feed) is.within
      ∙ ap (λ n. min size (n - feed.passed)) (sym is.gained)
      ∙ ap (λ n. min size (kept.gained - n)) (sym is.passed);
}
