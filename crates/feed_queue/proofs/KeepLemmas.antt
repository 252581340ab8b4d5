-- What a ring's steps do to the feed that it keeps.
use Rattle.std.proofs.Common.{◌≡◌, ◌∙◌, ap, sym, refl, ◌+◌, ◌-◌, ◌≤◌, ◌++◌, ◌∷◌, [], ℕ, List}
use Rattle.std.proofs.Common.{length, map, take, drop, min, max, arith, append_assoc}
use Rattle.std.proofs.Common.{add-one, suc}
use Rattle.std.proofs.lemmas.List.{map-append, take-map, length-map, length-take, length-append}
use Rattle.std.proofs.lemmas.List.{take_min, drop_min}
use Rattle.std.proofs.lemmas.List.FromFn.{length-enumerate_from}
use Rattle.std.specs.List.{drop-map, enumerate_from}
use Rattle.std.specs.Prelude.{Result, Ok, Err, IfOk}
use Rattle.std.specs.declared.vec.Vec.{Vec}
use Rattle.cyc_token.specs.Token.{token_view}
use Rattle.cyc_token.specs.declared.Token as tokens
use Rattle.feed_queue.specs.declared.rings.Ring.{Ring}
use Rattle.feed_queue.specs.Feeds.{KeepsFeed, with_gained}
use Rattle.feed_queue.specs.Taking.{item_view}
use Rattle.feed_queue.proofs.RingLemmas.{ring-gained, ring-taken, items-ring, length-ring}
use Rattle.feed_queue.proofs.RingLemmas.{passed-ring}
use Rattle.news_terms.specs.Ring.{last_of, ring, passed_now, taken_items}
use Rattle.relay_model.specs.Shares.{as_ring, after_take_of}
use Rattle.relay_model.specs.State.{Feed}

-- the last of a list, seen as something else
last_of-map : {A B : Type 0} (f : A → B) (size : ℕ) (xs : List A)
    → map f (last_of size xs) ≡ last_of size (map f xs)
last_of-map f size xs =
    sym (drop-map f (length xs - size) xs)
    ∙ ap (λ n. drop (n - size) (map f xs)) (sym (length-map xs f))

-- numbered items, seen as something else
items-map : (n : ℕ) (xs : List tokens.Token)
    → map item_view (enumerate_from n xs) ≡ enumerate_from n (map token_view xs)
items-map n [] = refl
items-map n (x ∷ xs) = ap (λ rest. (n, token_view x) ∷ rest) (items-map (n + 1) xs)

-- what a ring that keeps a feed has waiting
waiting : (one : Ring) (size : ℕ) (feed : Feed) → KeepsFeed one size feed
    → length one.tokens.items ≡ length (ring size (as_ring feed))
waiting one size feed keeps = sym (length-map one.tokens.items token_view) ∙ ap length keeps.tokens

-- the feed gains a token
pub keeps-gained : (old new : Ring) (size : ℕ) (feed : Feed) (token : tokens.Token)
    → new.tokens.capacity ≡ old.tokens.capacity
    → new.tokens.items ≡ last_of old.tokens.capacity (old.tokens.items ++ token ∷ [])
    → new.gained ≡ old.gained + 1 → new.passed ≡ old.passed → new.taken ≡ old.taken
    → KeepsFeed old size feed → KeepsFeed new size (with_gained feed (token_view token))
keeps-gained old new size feed token capacity items gained passed taken keeps =
    record {
      room = capacity ∙ keeps.room;
      tokens = ap (map token_view) items
          ∙ last_of-map token_view old.tokens.capacity (old.tokens.items ++ token ∷ [])
          ∙ ap (λ xs. last_of old.tokens.capacity xs)
          (map-append token_view old.tokens.items (token ∷ []))
          ∙ ap (λ xs. last_of old.tokens.capacity (xs ++ token_view token ∷ [])) keeps.tokens
          ∙ ap (λ n. last_of n (ring size (as_ring feed) ++ token_view token ∷ [])) keeps.room
          ∙ sym (ring-gained size (as_ring feed) (token_view token) keeps.within);
      gained = gained ∙ ap (λ n. n + 1) keeps.gained
          ∙ sym (length-append feed.gained (token_view token ∷ []));
      passed = passed ∙ keeps.passed;
      taken = taken ∙ keeps.taken;
      within = omega (arith, keeps.within, length-append feed.gained (token_view token ∷ []));
    }

-- the counts after a take
taken-counts : (size most gained passed : ℕ) → passed ≤ gained
    → gained - min size (gained - passed) + min most (min size (gained - passed))
    ≡ min (max passed (gained - size) + most) gained
taken-counts size most gained passed within = omega arith

-- so many items are taken
taken-length : (size most : ℕ) (feed : Feed)
    → length (taken_items size most (as_ring feed)) ≡ min most (length (ring size (as_ring feed)))
taken-length size most feed =
    ap length (items-ring size most (as_ring feed))
    ∙ length-enumerate_from (passed_now size (as_ring feed) + 1)
    (take most (ring size (as_ring feed)))
    ∙ length-take most (ring size (as_ring feed))

-- tokens are taken
pub keeps-taken : (old new : Ring) (size most : ℕ) (feed : Feed)
    → new.tokens.capacity ≡ old.tokens.capacity
    → new.tokens.items ≡ drop (min most (length old.tokens.items)) old.tokens.items
    → new.gained ≡ old.gained
    → new.passed ≡ old.gained - length old.tokens.items + min most (length old.tokens.items)
    → new.taken ≡ old.taken + min most (length old.tokens.items)
    → KeepsFeed old size feed → KeepsFeed new size (after_take_of size most feed)
keeps-taken old new size most feed capacity items gained passed taken keeps =
    let waits = waiting old size feed keeps in
    let long = length-ring size (as_ring feed) keeps.within in
    let counted = taken-counts size most (length feed.gained) feed.passed keeps.within in
    record {
      room = capacity ∙ keeps.room;
      tokens = ap (map token_view) (items ∙ drop_min most old.tokens.items)
          ∙ sym (drop-map token_view most old.tokens.items)
          ∙ ap (drop most) keeps.tokens
          ∙ sym (ring-taken size most (as_ring feed) keeps.within);
      gained = gained ∙ keeps.gained;
      passed = passed
          ∙ ap (λ n. n - length old.tokens.items + min most (length old.tokens.items)) keeps.gained
          ∙ ap (λ n. length feed.gained - n + min most n) (waits ∙ long)
          ∙ counted;
      taken = taken ∙ ap (λ n. n + min most (length old.tokens.items)) keeps.taken
          ∙ ap (λ n. feed.taken + min most n) waits
          ∙ ap (λ n. feed.taken + n) (sym (taken-length size most feed));
      within = omega arith;
    }

-- where the ring begins in the list
pub passed-keeps : (old : Ring) (size : ℕ) (feed : Feed) → KeepsFeed old size feed
    → old.gained - length old.tokens.items ≡ passed_now size (as_ring feed)
passed-keeps old size feed keeps =
    ap (λ n. n - length old.tokens.items) keeps.gained
    ∙ ap (λ n. length feed.gained - n) (waiting old size feed keeps)
    ∙ sym (passed-ring size (as_ring feed) keeps.within)

-- what a take gives
pub items-keeps : (old : Ring) (size most : ℕ) (feed : Feed) → KeepsFeed old size feed
    → map item_view (enumerate_from (old.gained - length old.tokens.items + 1)
    (take (min most (length old.tokens.items)) old.tokens.items))
    ≡ taken_items size most (as_ring feed)
items-keeps old size most feed keeps =
    let first = old.gained - length old.tokens.items + 1 in
    items-map first (take (min most (length old.tokens.items)) old.tokens.items)
    ∙ ap (λ xs. enumerate_from first (map token_view xs)) (take_min most old.tokens.items)
    ∙ ap (λ xs. enumerate_from first xs) (sym (take-map token_view most old.tokens.items))
    ∙ ap (λ xs. enumerate_from first (take most xs)) keeps.tokens
    ∙ ap (λ n. enumerate_from (n + 1) (take most (ring size (as_ring feed))))
    (passed-keeps old size feed keeps)
    ∙ sym (items-ring size most (as_ring feed))

-- where a take gives nothing, nothing is asked or nothing waits
pub none_listed : (old : Ring) (size most : ℕ) (feed : Feed) → KeepsFeed old size feed
    → taken_items size most (as_ring feed) ≡ [] → min most (length old.tokens.items) ≡ 0
none_listed old size most feed keeps none =
    let count = min most (length old.tokens.items) in
    let first = old.gained - length old.tokens.items + 1 in
    let listed = take count old.tokens.items in
    omega (
      arith,
      ap length (items-keeps old size most feed keeps ∙ none),
      length-map (enumerate_from first listed) item_view,
      length-enumerate_from first listed,
      length-take count old.tokens.items,
    )

-- one more token is numbered
pub numbered-more : (items all : List (ℕ × tokens.Token)) (number : ℕ) (token : tokens.Token)
    (n left : ℕ) (waits rest : List tokens.Token) → waits ≡ token ∷ rest → left + 1 ≡ n
    → items ++ enumerate_from (number + 1) (take n waits) ≡ all
    → items ++ (number + 1, token) ∷ [] ++ enumerate_from (number + 1 + 1) (take left rest) ≡ all
numbered-more items all number token n left waits rest first more so_far =
    append_assoc items ((number + 1, token) ∷ [])
    (enumerate_from (number + 1 + 1) (take left rest))
    ∙ ap (λ xs. items ++ enumerate_from (number + 1) xs)
    (sym (ap (λ m. take m waits) (sym more ∙ add-one left) ∙ ap (take (suc left)) first))
    ∙ so_far

-- what was numbered is what a take gives
pub oldest-are : {Z E : Type 0} (r : Result (Vec (ℕ × tokens.Token) Z) E) (old : Ring)
    (most passed count : ℕ)
    → passed ≡ old.gained - length old.tokens.items → count ≡ min most (length old.tokens.items)
    → IfOk r (λ items. items.items ≡ enumerate_from (passed + 1) (take count old.tokens.items))
    → IfOk r (λ items. (size : ℕ) (feed : Feed) → KeepsFeed old size feed
    → map item_view items.items ≡ taken_items size most (as_ring feed))
oldest-are (Ok items) old most passed count first long are =
    λ size feed keeps. ap (map item_view) (are
    ∙ ap (λ n. enumerate_from (n + 1) (take count old.tokens.items)) first
    ∙ ap (λ n. enumerate_from (old.gained - length old.tokens.items + 1)
    (take n old.tokens.items)) long)
    ∙ items-keeps old size most feed keeps
oldest-are (Err e) old most passed count first long are = are
