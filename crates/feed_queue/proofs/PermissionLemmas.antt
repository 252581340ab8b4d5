-- The numbers of the feeds that may have an article, feed by feed.
use Rattle.std.proofs.Common.{◌≡◌, ◌∙◌, ap, sym, refl, ◌+◌, ◌<◌, ◌≤◌, ◌++◌, ◌∷◌, [], ℕ, Bool}
use Rattle.std.proofs.Common.{true, false, cond, List, length, map, take, filter, arith, zero-add}
use Rattle.std.proofs.Common.{append-nil, min}
use Rattle.std.specs.Borrow.{Bor}
use Rattle.std.specs.Option.{option_copied}
use Rattle.std.specs.Prelude.{Option, None, Some, unwrap_or}
use Rattle.std.proofs.Math.ListN.{get_or}
use Rattle.std.proofs.lemmas.Grind.{common_steps}
use Rattle.std.proofs.lemmas.List.{length-map, length-take, map-append, take_min}
use Rattle.std.proofs.lemmas.List.{take_more}
use Rattle.std.proofs.lemmas.List.Elements.{filter-append}
use Rattle.std.specs.List.{enumerate_from}
use Rattle.news_terms.specs.Article.{Article}
use Rattle.relay_conf.specs.declared.relay.Feed.{Feed}
use Rattle.relay_model.specs.Judging.{is_permitted, permitted}
use Rattle.relay_model.specs.Terms.{Terms, FeedTerms}
use Rattle.feed_queue.specs.Permission.{feed_view, permitted_of}

-- one more at the end of what is numbered
enumerate_from-more : {X : Type 0} (n : ℕ) (xs : List X) (x : X)
    → enumerate_from n (xs ++ x ∷ []) ≡ enumerate_from n xs ++ (n + length xs, x) ∷ []
enumerate_from-more n [] x = grind arith
enumerate_from-more n (y ∷ ys) x =
    ap (λ rest. (n, y) ∷ rest) (enumerate_from-more (n + 1) ys x
    ∙ ap (λ m. enumerate_from (n + 1) ys ++ (m, x) ∷ []) (omega arith))

-- the number of a feed, where it may have the article
number_if : Bool → ℕ → List ℕ
number_if may number = cond may (number ∷ []) []

-- one that is tried alone
filter-one : {X : Type 0} (test : X → Bool) (x : X) (may : Bool) → test x ≡ may
    → filter test (x ∷ []) ≡ cond may (x ∷ []) []
filter-one test x true is = grind (arith, common_steps)
filter-one test x false is = grind (arith, common_steps)

-- the number of one that is tried alone
number-one : (may : Bool) (number : ℕ) (feed : FeedTerms)
    → map (λ (one : ℕ × FeedTerms). one.0) (cond may ((number, feed) ∷ []) [])
    ≡ number_if may number
unfolding number_if
number-one true number feed = refl
number-one false number feed = refl

-- one feed more
permitted-last : (w : Terms) (from : ℕ) (a : Article) (feeds : List FeedTerms) (feed : FeedTerms)
    (may : Bool) → is_permitted w from a feed ≡ may
    → permitted_of w from a (feeds ++ feed ∷ [])
    ≡ permitted_of w from a feeds ++ number_if may (length feeds)
permitted-last w from a feeds feed may is =
    let test : ℕ × FeedTerms → Bool = λ one. is_permitted w from a one.1 in
    let number : ℕ × FeedTerms → ℕ = λ one. one.0 in
    ap (λ xs. map number (filter test xs)) (enumerate_from-more 0 feeds feed)
    ∙ ap (map number) (filter-append test (enumerate_from 0 feeds) ((0 + length feeds, feed) ∷ []))
    ∙ map-append number (filter test (enumerate_from 0 feeds))
    (filter test ((0 + length feeds, feed) ∷ []))
    ∙ ap (λ xs. permitted_of w from a feeds ++ map number xs)
    (filter-one test (0 + length feeds, feed) may is)
    ∙ ap (λ xs. permitted_of w from a feeds ++ xs) (number-one may (0 + length feeds) feed)
    ∙ ap (λ n. permitted_of w from a feeds ++ number_if may n) (zero-add (length feeds))

-- one feed more of a configuration
permitted-next : (w : Terms) (from : ℕ) (a : Article) (feeds : List Feed) (n : ℕ) (feed : Feed)
    (may : Bool) (numbers : List ℕ) → n < length feeds → feed ≡ get_or feeds n feed
    → may ≡ is_permitted w from a (feed_view feed)
    → numbers ≡ permitted_of w from a (map feed_view (take n feeds))
    → numbers ++ number_if may n ≡ permitted_of w from a (map feed_view (take (n + 1) feeds))
permitted-next w from a feeds n feed may numbers there at is so_far =
    let long : length (map feed_view (take n feeds)) ≡ n =
    length-map (take n feeds) feed_view ∙ length-take n feeds ∙ omega (arith, there) in
    ap (λ xs. xs ++ number_if may n) so_far
    ∙ ap (λ m. permitted_of w from a (map feed_view (take n feeds)) ++ number_if may m) (sym long)
    ∙ sym (permitted-last w from a (map feed_view (take n feeds)) (feed_view feed) may (sym is))
    ∙ ap (permitted_of w from a) (sym (map-append feed_view (take n feeds) (feed ∷ []))
    ∙ ap (λ x. map feed_view (take n feeds ++ x ∷ [])) at
    ∙ ap (map feed_view) (sym (take_more feeds n feed there)))

-- one feed more, which may have the article
pub permitted-with : (w : Terms) (from : ℕ) (a : Article) (feeds : List Feed) (n : ℕ) (feed : Feed)
    (numbers : List ℕ) → n < length feeds → feed ≡ get_or feeds n feed
    → true ≡ is_permitted w from a (feed_view feed)
    → numbers ≡ permitted_of w from a (map feed_view (take n feeds))
    → numbers ++ n ∷ [] ≡ permitted_of w from a (map feed_view (take (n + 1) feeds))
unfolding number_if
permitted-with w from a feeds n feed numbers there at is so_far =
    permitted-next w from a feeds n feed true numbers there at is so_far

-- one feed more, which may not
pub permitted-without : (w : Terms) (from : ℕ) (a : Article) (feeds : List Feed) (n : ℕ)
    (feed : Feed) (numbers : List ℕ) → n < length feeds → feed ≡ get_or feeds n feed
    → false ≡ is_permitted w from a (feed_view feed)
    → numbers ≡ permitted_of w from a (map feed_view (take n feeds))
    → numbers ≡ permitted_of w from a (map feed_view (take (n + 1) feeds))
unfolding number_if
permitted-without w from a feeds n feed numbers there at is so_far =
    sym (append-nil numbers)
    ∙ permitted-next w from a feeds n feed false numbers there at is so_far

-- after the last feed
pub permitted-all : (w : Terms) (from : ℕ) (a : Article) (feeds : List Feed) (n : ℕ)
    (numbers : List ℕ) → length feeds ≤ n → w.feeds ≡ map feed_view feeds
    → numbers ≡ permitted_of w from a (map feed_view (take n feeds))
    → numbers ≡ permitted w from a
permitted-all w from a feeds n numbers past are so_far =
    let whole : take n feeds ≡ feeds = grind (arith, common_steps) in
    so_far ∙ ap (λ xs. permitted_of w from a (map feed_view xs)) whole
    ∙ ap (permitted_of w from a) (sym are)

-- what stands there, or else nothing
pub now-or : (path : Option (Bor (List ℕ))) (none : Bor (List ℕ)) → none.now ≡ []
    → unwrap_or (option_copied path) [] ≡ (unwrap_or path none).now
now-or None none is = sym is
now-or (Some path) none is = refl

-- the feeds that have a number
pub take-least : {X : Type 0} (xs : List X) (most least : ℕ) → least ≡ min (length xs) most
    → take most xs ≡ take least xs
take-least xs most least is =
    sym (take_min most xs)
    ∙ ap (λ n. take n xs) (omega (arith, is))
