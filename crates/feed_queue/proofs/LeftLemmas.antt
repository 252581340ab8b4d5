-- What is left of a ring makes a ring again.
use Rattle.std.proofs.Common.{◌≡◌, ◌∙◌, ap, sym, refl, subst, ◌+◌, ◌-◌, ◌≤◌, ◌<◌, ◌++◌, ◌∷◌, [], ℕ}
use Rattle.std.proofs.Common.{List, length, map, take, drop, arith, zero, suc}
use Rattle.std.proofs.Math.ListN.{get_or}
use Rattle.std.proofs.lemmas.List.{length-map, length-take, take_more, get_or-map}
use Rattle.std.proofs.lemmas.Grind.{common_steps}
use Rattle.std.proofs.lemmas.Option.{slice_get-get_or}
use Rattle.std.specs.List.{AllByRecursion, AllZip}
use Rattle.std.specs.Prelude.{slice_get, Some}
use Rattle.cyc_token.specs.Token.{token_view}
use Rattle.cyc_token.specs.declared.Token as tokens
use Rattle.id_history.specs.History.{KeptFeed, RingHolds}
use Rattle.id_history.specs.Views.{feed_view}
use Rattle.id_history.specs.declared.kept.KeptFeed as kept
use Rattle.feed_queue.specs.declared.rings.Ring.{Ring}
use Rattle.feed_queue.specs.Feeds.{KeepsFeed, KeepFeeds, ring_size}
use Rattle.feed_queue.specs.Left.{IsLeft, AreLeft}
use Rattle.news_terms.specs.Ring.{last_of}
use Rattle.news_terms.specs.Token.{IsToken}
use Rattle.relay_conf.specs.declared.relay.Feed as conf
use Rattle.relay_model.specs.State.{Feed}

-- a list that fits is its own end
last_of-room : {A : Type 0} (size : ℕ) (xs : List A) → length xs ≤ size → last_of size xs ≡ xs
last_of-room size xs room =
    let none : length xs - size ≡ 0 = omega (arith, room) in ap (λ n. drop n xs) none

-- one more token, where there is room
pub pushed : (capacity n : ℕ) (all items new : List tokens.Token) (token : tokens.Token)
    → new ≡ last_of capacity (items ++ token ∷ []) → items ≡ take n all → n < length all
    → length all ≤ capacity → token ≡ get_or all n token → new ≡ take (n + 1) all
pushed capacity n all items new token is so_far there room at =
    is ∙ ap (λ (xs : List tokens.Token). last_of capacity (xs ++ token ∷ [])) so_far
    ∙ ap (λ (x : tokens.Token). last_of capacity (take n all ++ x ∷ [])) at
    ∙ ap (last_of capacity) (sym (take_more all n token there))
    ∙ last_of-room capacity (take (n + 1) all) (omega (arith, room, length-take (n + 1) all))

-- one token more that fits
pub fits-push : (old new : List tokens.Token) (one : tokens.Token) → new ≡ old ++ one ∷ []
    → AllByRecursion IsToken (map token_view old) → IsToken (token_view one)
    → AllByRecursion IsToken (map token_view new)
fits-push old new one is fit more =
    subst (λ (xs : List tokens.Token). AllByRecursion IsToken (map token_view xs)) (sym is)
    (all_push old fit)
  where
    all_push : (xs : List tokens.Token) → AllByRecursion IsToken (map token_view xs)
        → AllByRecursion IsToken (map token_view (xs ++ one ∷ []))
    all_push [] fit = (more, tt)
    all_push (x ∷ xs) fit = (fit.0, all_push xs fit.1)

-- what a ring holds and counts is what is left of each feed that it keeps
pub IsLeft-kept : (one : Ring) (left : kept.KeptFeed) → left.gained ≡ one.gained
    → left.passed ≡ one.passed → left.taken ≡ one.taken
    → left.waiting.items ≡ one.tokens.items → (size : ℕ) (feed : Feed) → KeepsFeed one size feed
    → IsLeft (feed_view left) size feed
IsLeft-kept one left gained passed taken waiting size feed keeps = record {
  had = omega (arith, one.had, passed, taken);
  gained = gained ∙ keeps.gained;
  passed = passed ∙ keeps.passed;
  taken = taken ∙ keeps.taken;
  waiting = ap (map token_view) waiting ∙ keeps.tokens;
  within = keeps.within;
}

-- two lists that go together have one length
zip_long : {A B : Type 0} (R : A → B → Type 0) (xs : List A) (ys : List B) → AllZip R xs ys
    → length xs ≡ length ys
zip_long R [] [] all = refl
zip_long R [] (y ∷ ys) all = absurd all
zip_long R (x ∷ xs) [] all = absurd all
zip_long R (x ∷ xs) (y ∷ ys) all = ap (λ n. suc n) (zip_long R xs ys all.1)

-- what goes together at a place
zip_at : {A B : Type 0} (R : A → B → Type 0) (xs : List A) (ys : List B) (i : ℕ) (d : A) (e : B)
    → AllZip R xs ys → i < length xs → R (get_or xs i d) (get_or ys i e)
zip_at R [] [] i d e all below = absurd (omega (arith, below))
zip_at R [] (y ∷ ys) i d e all below = absurd all
zip_at R (x ∷ xs) [] i d e all below = absurd all
zip_at R (x ∷ xs) (y ∷ ys) zero d e all below = all.0
zip_at R (x ∷ xs) (y ∷ ys) (suc i) d e all below =
    zip_at R xs ys i d e all.1 (omega (arith, below))

-- there is as much left as there are feeds
pub as_many : (left : List kept.KeptFeed) (feeds : List conf.Feed)
    → AllZip RingHolds (map feed_view left) (map ring_size feeds) → length left ≡ length feeds
as_many left feeds hold =
    sym (length-map left feed_view)
    ∙ zip_long RingHolds (map feed_view left) (map ring_size feeds) hold
    ∙ length-map feeds ring_size

-- what is left of a feed fits its ring
pub holds-at : (left : List kept.KeptFeed) (feeds : List conf.Feed) (n : ℕ) (one : kept.KeptFeed)
    (feed : conf.Feed) → AllZip RingHolds (map feed_view left) (map ring_size feeds)
    → n < length feeds → one ≡ get_or left n one → feed ≡ get_or feeds n feed
    → RingHolds (feed_view one) feed.ring
holds-at left feeds n one feed hold there at here =
    let many = as_many left feeds hold in
    let within : n < length left = omega (arith, there, many) in
    subst (λ (f : KeptFeed). RingHolds f feed.ring)
    (get_or-map feed_view left n one (feed_view one) within ∙ ap feed_view (sym at))
    (subst (RingHolds (get_or (map feed_view left) n (feed_view one)))
    (get_or-map ring_size feeds n feed 0 there ∙ ap ring_size (sym here))
    (zip_at RingHolds (map feed_view left) (map ring_size feeds) n (feed_view one) 0 hold
    (omega (arith, within, length-map left feed_view))))

-- of a feed its own part is left
pub left-at : (left : List kept.KeptFeed) (feeds : List conf.Feed) (n : ℕ) (one : kept.KeptFeed)
    (feed : conf.Feed) (state : ℕ → Feed) → length left ≡ length feeds → n < length feeds
    → one ≡ get_or left n one → feed ≡ get_or feeds n feed
    → AreLeft (map feed_view left) (map ring_size feeds) state
    → IsLeft (feed_view one) feed.ring (state n)
left-at left feeds n one feed state many there at here are =
    let within : n < length left = omega (arith, there, many) in
    let found : slice_get (map feed_view left) n ≡ Some (feed_view one) =
    slice_get-get_or (map feed_view left) n (feed_view one)
    (omega (arith, within, length-map left feed_view))
    ∙ ap Some (get_or-map feed_view left n one (feed_view one) within ∙ ap feed_view (sym at)) in
    subst (λ size. IsLeft (feed_view one) size (state n))
    (get_or-map ring_size feeds n feed 0 there ∙ ap ring_size (sym here))
    (are.each n (feed_view one) found)

-- all feeds are kept
pub kept-all : (rings : List Ring) (feeds : List conf.Feed) (n : ℕ) (state : ℕ → Feed)
    → length feeds ≤ n → KeepFeeds rings (map ring_size (take n feeds)) state
    → KeepFeeds rings (map ring_size feeds) state
kept-all rings feeds n state past keeps =
    let whole : take n feeds ≡ feeds = grind (arith, common_steps) in
    subst (λ (fs : List conf.Feed). KeepFeeds rings (map ring_size fs) state) whole keeps
