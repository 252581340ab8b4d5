-- Every ring keeps some feed.
use Rattle.std.proofs.Common.{◌≡◌, ◌∙◌, ap, sym, refl, subst, ◌+◌, ◌-◌, ◌≤◌, ◌++◌, ℕ, List, length}
use Rattle.std.proofs.Common.{map, drop, min, max, replicate, arith}
use Rattle.std.proofs.Math.ListN.{get_or}
use Rattle.std.proofs.Math.Seq.{drop-append_seam}
use Rattle.std.proofs.lemmas.List.{length-append, length-map, length-replicate, get_or-map}
use Rattle.std.proofs.lemmas.Option.{slice_get-get_or}
use Rattle.std.specs.Prelude.{slice_get, Option, None, Some}
use Rattle.cyc_token.specs.Token.{token_view}
use Rattle.feed_queue.specs.declared.rings.Ring.{Ring}
use Rattle.feed_queue.specs.Examples.{token_at}
use Rattle.feed_queue.specs.Feeds.{KeepsFeed, KeepFeeds, no_feed}
use Rattle.feed_queue.proofs.RingLemmas.{ring-drop}
use Rattle.news_terms.specs.Token.{Token}
use Rattle.relay_model.specs.Shares.{as_ring}
use Rattle.relay_model.specs.State.{Feed}

-- a list that ends in what waits; which tokens stood before is not known any more
list_of : Ring → List Token
list_of one =
    replicate (one.gained - length one.tokens.items) (token_at 0) ++ map token_view one.tokens.items

-- a feed that the ring keeps
feed_of : Ring → Feed
feed_of one = record { gained = list_of one; passed = one.passed; taken = one.taken }

-- where the ring begins in a list
pub begins : (size gained passed waiting : ℕ) → passed ≤ gained
    → waiting ≡ min size (gained - passed)
    → max passed (gained - size) ≡ gained - waiting
begins size gained passed waiting within waits = omega (arith, waits)

-- how many wait, at most
pub few : (size gained passed waiting : ℕ) → passed ≤ gained → waiting ≡ min size (gained - passed)
    → waiting ≤ gained
few size gained passed waiting within waits = omega (arith, waits)

-- the list is as long as is counted
length-list_of : (one : Ring) → length (list_of one) ≡ one.gained
unfolding list_of
length-list_of one =
    let before = replicate (one.gained - length one.tokens.items) (token_at 0) in
    let least = few one.tokens.capacity one.gained one.passed (length one.tokens.items)
    one.within one.waits in
    length-append before (map token_view one.tokens.items)
    ∙ ap (λ n. n + length (map token_view one.tokens.items))
    (length-replicate (one.gained - length one.tokens.items) (token_at 0))
    ∙ ap (λ n. one.gained - length one.tokens.items + n) (length-map one.tokens.items token_view)
    ∙ omega (arith, least)

-- the ring keeps it
keeps-feed_of : (one : Ring) → KeepsFeed one one.tokens.capacity (feed_of one)
unfolding feed_of list_of
keeps-feed_of one =
    let before = replicate (one.gained - length one.tokens.items) (token_at 0) in
    let long = length-list_of one in
    record {
      room = refl;
      tokens = sym (ring-drop one.tokens.capacity (as_ring (feed_of one))
          ∙ ap (λ n. drop n (list_of one)) (ap (λ n. max one.passed (n - one.tokens.capacity)) long
          ∙ begins one.tokens.capacity one.gained one.passed (length one.tokens.items) one.within
          one.waits
          ∙ sym (length-replicate (one.gained - length one.tokens.items) (token_at 0)))
          ∙ drop-append_seam before (map token_view one.tokens.items));
      gained = sym long;
      passed = refl;
      taken = refl;
      within = omega (arith, long, one.within);
    }

-- the sizes of the rings
pub sizes_of : List Ring → List ℕ
sizes_of rings = map (λ (one : Ring). one.tokens.capacity) rings

-- the feed of a ring, where there is one
feed_by : Option Ring → Feed
feed_by None = no_feed
feed_by (Some one) = feed_of one

-- the feeds of the rings
pub feeds_of : List Ring → ℕ → Feed
feeds_of rings f = feed_by (slice_get rings f)

-- the rings keep them
pub keeps-some : (rings : List Ring) → KeepFeeds rings (sizes_of rings) (feeds_of rings)
unfolding sizes_of feeds_of feed_by
keeps-some rings =
    record {
      count = sym (length-map rings (λ (one : Ring). one.tokens.capacity));
      each = λ f none within.
          subst (λ n. KeepsFeed (get_or rings f none) n (feeds_of rings f))
          (sym (get_or-map (λ (one : Ring). one.tokens.capacity) rings f none 0 within))
          (subst (λ o. KeepsFeed (get_or rings f none) (get_or rings f none).tokens.capacity
          (feed_by o)) (sym (slice_get-get_or rings f none within))
          (keeps-feed_of (get_or rings f none)));
    }
