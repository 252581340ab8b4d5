-- What the rings have, token by token.
use Rattle.std.proofs.Common.{◌≡◌, ◌≢◌, ◌∙◌, ap, sym, refl, subst, arith}
use Rattle.std.proofs.Common.{inl, inr, Bool, true, false}
use Rattle.std.proofs.Common.{◌⊎◌, ◌||◌, ◌+◌, ◌<◌, ◌≤◌, ℕ, zero, suc, List}
use Rattle.std.proofs.Common.{[], ◌∷◌, ◌++◌, cond, length}
use Rattle.std.proofs.Common.{map, take, nat_eq, nat_lt, not, All}
use Rattle.std.specs.Prelude.{filter, reverse, slice_get}
use Rattle.std.specs.List.{AllByRecursion, IsDistinct, enumerate_from, list_any}
use Rattle.std.proofs.Math.ListN.{get_or, set}
use Rattle.std.proofs.lemmas.Bool.{false≢true}
use Rattle.std.proofs.lemmas.Bool.Decides.{eqb_tells}
use Rattle.std.proofs.lemmas.List.{length-map, length-reverse, length-set, map-set, set-get_or}
use Rattle.std.proofs.lemmas.List.{get_or-map, get_or-set_same, get_or-set_other}
use Rattle.std.proofs.lemmas.List.{reverse-append}
use Rattle.std.proofs.lemmas.List.Elements.{All-nil, All-push, All-set, filter-append}
use Rattle.std.proofs.lemmas.List.Folds.{list_any-append}
use Rattle.cyc_token.specs.Token.{token_view}
use Rattle.cyc_token.specs.declared.Token as code
use Rattle.news_terms.specs.Article.{Article, is_empty}
use Rattle.news_terms.specs.Token.{Token}
use Rattle.relay_model.specs.Crash.{Again, has_room, permitted_again, with_again}
use Rattle.relay_model.specs.Judging.{is_permitted}
use Rattle.relay_model.specs.Shares.{ring_of}
use Rattle.relay_model.specs.State.{tokens_for}
use Rattle.relay_model.specs.Terms.{Terms, FeedTerms}
use Rattle.found_again.specs.Filling.{FillEach, IsTokenThere, AreThere, size_of, tokens_of}
use Rattle.found_again.specs.Texts.{IsText, octets_of, ring_sizes}
use Rattle.found_again.specs.declared.filling.Filling.{Filling}
use Rattle.found_again.specs.declared.text.FoundText.{FoundText}

-- a number is itself
itself : (n : ℕ) → nat_eq n n ≡ true
itself n = elim (eqb_tells n n) [
  | inl same ↦ same.0
  | inr other ↦ absurd (other.1 refl)
]

-- the tokens that a feed has with one more accepted
tokens_with : (f : ℕ) (token : Token) (feeds : List ℕ) (later : List (Token × List ℕ)) (has : Bool)
    → list_any (nat_eq f) feeds ≡ has
    → tokens_for f ((token, feeds) ∷ later)
    ≡ cond has (token ∷ tokens_for f later) (tokens_for f later)
tokens_with f token feeds later has is =
    ap
    (λ (b : Bool). map (λ (one : Token × List ℕ). one.0)
    (cond b ((token, feeds) ∷ filter (λ (one : Token × List ℕ). list_any (nat_eq f) one.1) later)
    (filter (λ (one : Token × List ℕ). list_any (nat_eq f) one.1) later))) is
    ∙ by has
  where
    by : (b : Bool) → map (λ (one : Token × List ℕ). one.0)
        (cond b ((token, feeds)
        ∷ filter (λ (one : Token × List ℕ). list_any (nat_eq f) one.1) later)
        (filter (λ (one : Token × List ℕ). list_any (nat_eq f) one.1) later))
        ≡ cond b (token ∷ tokens_for f later) (tokens_for f later)
    by true = refl
    by false = refl

-- a number that isn't among all isn't among some
not_among : (p : ℕ → Bool) (f : ℕ) (xs : List ℕ) → list_any (nat_eq f) xs ≡ false
    → list_any (nat_eq f) (filter p xs) ≡ false
not_among p f [] none = refl
not_among p f (x ∷ xs) none =
    by (nat_eq f x) refl none (p x) (λ others. not_among p f xs others)
  where
    by : (same : Bool) → nat_eq f x ≡ same → (same || list_any (nat_eq f) xs) ≡ false
        → (passes : Bool)
        → (list_any (nat_eq f) xs ≡ false → list_any (nat_eq f) (filter p xs) ≡ false)
        → list_any (nat_eq f) (cond passes (x ∷ filter p xs) (filter p xs)) ≡ false
    by true at none passes others = absurd (false≢true (sym none))
    by false at none true others =
        ap (λ (b : Bool). b || list_any (nat_eq f) (filter p xs)) at ∙ others none
    by false at none false others = others none

-- one number that is tried alone
tried_alone : (p : ℕ → Bool) (f x : ℕ) (passes : Bool) → p x ≡ passes
    → list_any (nat_eq f) (filter p (x ∷ [])) ≡ cond passes (nat_eq f x || false) false
tried_alone p f x passes is =
    ap (λ (b : Bool). list_any (nat_eq f) (cond b (x ∷ []) [])) is ∙ by passes
  where
    by : (b : Bool) → list_any (nat_eq f) (cond b (x ∷ []) [])
        ≡ cond b (nat_eq f x || false) false
    by true = refl
    by false = refl

-- one number more that is tried
tried_more : (p : ℕ → Bool) (f x : ℕ) (before : List ℕ) (passes : Bool) → p x ≡ passes
    → list_any (nat_eq f) (filter p (before ++ x ∷ []))
    ≡ (list_any (nat_eq f) (filter p before) || cond passes (nat_eq f x || false) false)
tried_more p f x before passes is =
    ap (list_any (nat_eq f)) (filter-append p before (x ∷ []))
    ∙ list_any-append (nat_eq f) (filter p before) (filter p (x ∷ []))
    ∙ ap (λ (b : Bool). list_any (nat_eq f) (filter p before) || b) (tried_alone p f x passes is)

-- another number changes nothing for a feed
other_tried : (w : Terms) (f g : ℕ) (token : Token) (before : List ℕ)
    (later : List (Token × List ℕ)) → nat_eq f g ≡ false
    → tokens_for f ((token, filter (has_room w later) before) ∷ later)
    ≡ tokens_for f ((token, filter (has_room w later) (before ++ g ∷ [])) ∷ later)
other_tried w f g token before later apart =
    let p = has_room w later in
    let had = list_any (nat_eq f) (filter p before) in
    tokens_with f token (filter p before) later had refl
    ∙ sym (tokens_with f token (filter p (before ++ g ∷ [])) later had
    (tried_more p f g before (p g) refl
    ∙ ap (λ (b : Bool). had || cond (p g) (b || false) false) apart
    ∙ none (p g) had))
  where
    none : (b had : Bool) → (had || cond b false false) ≡ had
    none true true = refl
    none true false = refl
    none false true = refl
    none false false = refl

-- the feed of the number gains the token where its ring has room
own_tried : (w : Terms) (g : ℕ) (token : Token) (before : List ℕ) (later : List (Token × List ℕ))
    → list_any (nat_eq g) before ≡ false
    → (tokens_for g ((token, filter (has_room w later) before) ∷ later) ≡ tokens_for g later)
    × (tokens_for g ((token, filter (has_room w later) (before ++ g ∷ [])) ∷ later)
    ≡ cond (has_room w later g) (token ∷ tokens_for g later) (tokens_for g later))
own_tried w g token before later new =
    let p = has_room w later in
    let none = not_among p g before new in (
      tokens_with g token (filter p before) later false none,
      tokens_with g token (filter p (before ++ g ∷ [])) later (p g)
          (tried_more p g g before (p g) refl
          ∙ ap (λ (b : Bool). b || cond (p g) (nat_eq g g || false) false) none
          ∙ ap (λ (b : Bool). cond (p g) (b || false) false) (itself g)
          ∙ is (p g)),
    )
  where
    is : (b : Bool) → cond b true false ≡ b
    is true = refl
    is false = refl

-- how many tokens a ring of a relay has room for
size_at : (w : Terms) (fillings : List Filling) (g : ℕ) (one : Filling)
    → map size_of fillings ≡ ring_sizes w → g < length fillings → one ≡ get_or fillings g one
    → one.size ≡ ring_of (slice_get w.feeds g)
size_at w fillings g one sizes within at =
    let there : g < length w.feeds =
    omega (
      arith,
      within,
      ap length sizes,
      length-map fillings size_of,
      length-map w.feeds (λ (feed : FeedTerms). feed.ring),
    ) in
    ap size_of at
    ∙ sym (get_or-map size_of fillings g one 0 within)
    ∙ ap (λ (xs : List ℕ). get_or xs g 0) sizes
    ∙ ring_at w.feeds g there
  where
    ring_at : (feeds : List FeedTerms) (n : ℕ) → n < length feeds
        → get_or (map (λ (feed : FeedTerms). feed.ring) feeds) n 0 ≡ ring_of (slice_get feeds n)
    ring_at [] n below = absurd (omega (arith, below))
    ring_at (feed ∷ feeds) zero below = refl
    ring_at (feed ∷ feeds) (suc n) below = ring_at feeds n (omega (arith, below))

-- how many tokens a ring has
pub length-tokens_of : (one : Filling) → length (tokens_of one) ≡ length one.newest_first.items
length-tokens_of one =
    length-map (reverse one.newest_first.items) token_view
    ∙ length-reverse one.newest_first.items

-- the tokens of a ring that was offered one
gained_tokens : (before after : List code.Token) (token : code.Token) (room : Bool)
    → after ≡ cond room (before ++ token ∷ []) before
    → map token_view (reverse after)
    ≡ cond room (token_view token ∷ map token_view (reverse before))
    (map token_view (reverse before))
gained_tokens before after token true is =
    ap (λ (xs : List code.Token). map token_view (reverse xs)) is
    ∙ ap (map token_view) (reverse-append before (token ∷ []))
gained_tokens before after token false is =
    ap (λ (xs : List code.Token). map token_view (reverse xs)) is

-- a ring with another of its size in its place
pub sizes_set : (fillings : List Filling) (g : ℕ) (one later : Filling) → g < length fillings
    → one ≡ get_or fillings g one → later.size ≡ one.size
    → map size_of (set fillings g later) ≡ map size_of fillings
sizes_set fillings g one later within at size =
    map-set size_of fillings g later
    ∙ ap (set (map size_of fillings) g)
    (size ∙ ap size_of at ∙ sym (get_or-map size_of fillings g one 0 within))
    ∙ set-get_or (map size_of fillings) g 0

-- the feed gains a token, where its ring has room
pub fill_set : (w : Terms) (fillings : List Filling) (g : ℕ) (one new : Filling)
    (token : code.Token) (before : List ℕ) (later : List (Token × List ℕ)) → g < length fillings
    → one ≡ get_or fillings g one → new.size ≡ one.size
    → new.newest_first.items
    ≡ cond (nat_lt (length one.newest_first.items) one.size)
    (one.newest_first.items ++ token ∷ []) one.newest_first.items
    → list_any (nat_eq g) before ≡ false
    → FillEach w fillings ((token_view token, filter (has_room w later) before) ∷ later)
    → FillEach w (set fillings g new)
    ((token_view token, filter (has_room w later) (before ++ g ∷ [])) ∷ later)
fill_set w fillings g one new token before later within at size gains fresh fill =
    record {
      sizes = sizes_set fillings g one new within at size ∙ fill.sizes;
      tokens = λ f none there. elim (eqb_tells f g) [
        | inl same ↦
            subst (λ (n : ℕ). tokens_of (get_or (set fillings g new) n none)
            ≡ tokens_for n
            ((token_view token, filter (has_room w later) (before ++ g ∷ [])) ∷ later))
            (sym same.1)
            (ap tokens_of (get_or-set_same fillings g new none within) ∙ own)
        | inr other ↦
            ap tokens_of (get_or-set_other fillings g f new none other.1)
            ∙ fill.tokens f none (subst (λ (n : ℕ). f < n) (length-set fillings g new) there)
            ∙ other_tried w f g (token_view token) before later other.0
      ];
    }
  where
    had : tokens_of one ≡ tokens_for g later
    had =
        ap tokens_of at ∙ fill.tokens g one within
        ∙ (own_tried w g (token_view token) before later fresh).0

    room : nat_lt (length one.newest_first.items) one.size ≡ has_room w later g
    room =
        ap (λ (n : ℕ). nat_lt n one.size) (sym (length-tokens_of one) ∙ ap length had)
        ∙ ap (nat_lt (length (tokens_for g later)))
        (size_at w fillings g one fill.sizes within at)

    own : tokens_of new
        ≡ tokens_for g ((token_view token, filter (has_room w later) (before ++ g ∷ [])) ∷ later)
    own =
        gained_tokens one.newest_first.items new.newest_first.items token
        (nat_lt (length one.newest_first.items) one.size) gains
        ∙ ap (λ (tokens : List Token). cond (nat_lt (length one.newest_first.items) one.size)
        (token_view token ∷ tokens) tokens) had
        ∙ ap (λ (b : Bool). cond b (token_view token ∷ tokens_for g later) (tokens_for g later))
        room
        ∙ sym (own_tried w g (token_view token) before later fresh).1

-- a feed past the last ring gains nothing
pub fill_past : (w : Terms) (fillings : List Filling) (g : ℕ) (token : Token) (before : List ℕ)
    (later : List (Token × List ℕ)) → length fillings ≤ g
    → FillEach w fillings ((token, filter (has_room w later) before) ∷ later)
    → FillEach w fillings ((token, filter (has_room w later) (before ++ g ∷ [])) ∷ later)
fill_past w fillings g token before later past fill =
    record {
      sizes = fill.sizes;
      tokens = λ f none there. fill.tokens f none there
          ∙ other_tried w f g token before later (apart f there (eqb_tells f g));
    }
  where
    apart : (f : ℕ) → f < length fillings
        → ((nat_eq f g ≡ true) × (f ≡ g)) ⊎ ((nat_eq f g ≡ false) × (f ≢ g)) → nat_eq f g ≡ false
    apart f there (inl same) = absurd (omega (arith, there, past, same.1))
    apart f there (inr other) = other.0

-- no feed has gained a token that is given to none yet
pub fill_begun : (w : Terms) (fillings : List Filling) (token : Token)
    (later : List (Token × List ℕ)) → FillEach w fillings later
    → FillEach w fillings ((token, filter (has_room w later) []) ∷ later)
fill_begun w fillings token later fill =
    record { sizes = fill.sizes; tokens = λ f none there. fill.tokens f none there }

-- rings without a token
pub fill_none : (w : Terms) (fillings : List Filling) (sizes : List ℕ)
    → map size_of fillings ≡ sizes
    → All (λ (one : Filling). one.newest_first.items ≡ []) fillings → ring_sizes w ≡ sizes
    → FillEach w fillings []
fill_none w fillings sizes are empty rings =
    record {
      sizes = are ∙ sym rings;
      tokens = λ f none there.
          ap (λ (xs : List code.Token). map token_view (reverse xs)) (empty f none there);
    }

-- those are of any buffer
pub there_none : (buffers : ℕ) (fillings : List Filling)
    → All (λ (one : Filling). one.newest_first.items ≡ []) fillings → AreThere buffers fillings
there_none buffers fillings empty f none there =
    subst (All (IsTokenThere buffers)) (sym (empty f none there)) (All-nil (IsTokenThere buffers))

-- a ring that was offered a token that is of one of the buffers
pub there_set : (buffers : ℕ) (fillings : List Filling) (g : ℕ) (one new : Filling)
    (token : code.Token) (room : Bool) → g < length fillings → one ≡ get_or fillings g one
    → new.newest_first.items
    ≡ cond room (one.newest_first.items ++ token ∷ []) one.newest_first.items
    → IsTokenThere buffers token → AreThere buffers fillings → AreThere buffers (set fillings g new)
there_set buffers fillings g one new token room within at gains is all =
    All-set (λ (filling : Filling). All (IsTokenThere buffers) filling.newest_first.items)
    fillings g new (subst (All (IsTokenThere buffers)) (sym gains) (by room)) all
  where
    had : All (IsTokenThere buffers) one.newest_first.items
    had =
        subst (λ (filling : Filling). All (IsTokenThere buffers) filling.newest_first.items)
        (sym at)
        (all g one within)

    by : (b : Bool)
        → All (IsTokenThere buffers) (cond b (one.newest_first.items ++ token ∷ [])
        one.newest_first.items)
    by true = All-push (IsTokenThere buffers) one.newest_first.items token had is
    by false = had

-- a number of a list that has none twice isn't among those before it
pub new_number : (feeds : List ℕ) (n g : ℕ) → IsDistinct nat_eq feeds → n < length feeds
    → g ≡ get_or feeds n g → list_any (nat_eq g) (take n feeds) ≡ false
unfolding IsDistinct
new_number [] n g once below at = absurd (omega (arith, below))
new_number (x ∷ xs) zero g once below at = refl
new_number (x ∷ xs) (suc n) g once below at =
    ap (λ (b : Bool). b || list_any (nat_eq g) (take n xs))
    (apart xs n once.0 (omega (arith, below)) at)
    ∙ new_number xs n g once.1 (omega (arith, below)) at
  where
    flipped : (a b : ℕ) → nat_eq a b ≡ false → nat_eq b a ≡ false
    flipped a b is = elim (eqb_tells b a) [
      | inl same ↦ absurd (false≢true (sym is ∙ ap (nat_eq a) same.1 ∙ itself a))
      | inr other ↦ other.0
    ]

    apart : (ys : List ℕ) (k : ℕ) → AllByRecursion (λ y. nat_eq x y ≡ false) ys → k < length ys
        → g ≡ get_or ys k g → nat_eq g x ≡ false
    apart [] k all there is = absurd (omega (arith, there))
    apart (y ∷ ys) zero all there is =
        flipped x g (ap (nat_eq x) is ∙ all.0)
    apart (y ∷ ys) (suc k) all there is = apart ys k all.1 (omega (arith, there)) is

-- the numbers of those that pass are none below the first
none_below : (test : ℕ × FeedTerms → Bool) (n : ℕ) (feeds : List FeedTerms)
    → AllByRecursion (λ m. n ≤ m)
    (map (λ (one : ℕ × FeedTerms). one.0) (filter test (enumerate_from n feeds)))
none_below test n [] = tt
none_below test n (feed ∷ feeds) = by (test (n, feed)) (none_below test (n + 1) feeds)
  where
    numbers : List ℕ
    numbers = map (λ (one : ℕ × FeedTerms). one.0) (filter test (enumerate_from (n + 1) feeds))

    weaker : (xs : List ℕ) → AllByRecursion (λ m. n + 1 ≤ m) xs → AllByRecursion (λ m. n ≤ m) xs
    weaker [] all = tt
    weaker (x ∷ xs) all = (omega (arith, all.0), weaker xs all.1)

    by : (passes : Bool) → AllByRecursion (λ m. n + 1 ≤ m) numbers
        → AllByRecursion (λ m. n ≤ m) (map (λ (one : ℕ × FeedTerms). one.0)
        (cond passes ((n, feed) ∷ filter test (enumerate_from (n + 1) feeds))
        (filter test (enumerate_from (n + 1) feeds))))
    by true rest = (omega arith, weaker numbers rest)
    by false rest = weaker numbers rest

-- and each is there once
numbered_once : (test : ℕ × FeedTerms → Bool) (n : ℕ) (feeds : List FeedTerms)
    → IsDistinct nat_eq
    (map (λ (one : ℕ × FeedTerms). one.0) (filter test (enumerate_from n feeds)))
unfolding IsDistinct
numbered_once test n [] = tt
numbered_once test n (feed ∷ feeds) = by (test (n, feed)) (numbered_once test (n + 1) feeds)
  where
    numbers : List ℕ
    numbers = map (λ (one : ℕ × FeedTerms). one.0) (filter test (enumerate_from (n + 1) feeds))

    above : (xs : List ℕ) → AllByRecursion (λ m. n + 1 ≤ m) xs
        → AllByRecursion (λ m. nat_eq n m ≡ false) xs
    above [] all = tt
    above (x ∷ xs) all = (apart x all.0 (eqb_tells n x), above xs all.1)
      where
        apart : (m : ℕ) → n + 1 ≤ m
            → ((nat_eq n m ≡ true) × (n ≡ m)) ⊎ ((nat_eq n m ≡ false) × (n ≢ m))
            → nat_eq n m ≡ false
        apart m more (inl same) = absurd (omega (arith, more, same.1))
        apart m more (inr other) = other.0

    by : (passes : Bool) → IsDistinct nat_eq numbers
        → IsDistinct nat_eq (map (λ (one : ℕ × FeedTerms). one.0)
        (cond passes ((n, feed) ∷ filter test (enumerate_from (n + 1) feeds))
        (filter test (enumerate_from (n + 1) feeds))))
    by true rest = (above numbers (none_below test (n + 1) feeds), rest)
    by false rest = rest

-- no feed is permitted twice
pub permitted_once : (w : Terms) (a : Article) → IsDistinct nat_eq (permitted_again w a)
permitted_once w a =
    numbered_once (λ (one : ℕ × FeedTerms). is_permitted w (length w.peers) a one.1) 0 w.feeds

-- the feeds that may have a text are each named once
pub text_once : (w : Terms) (text : FoundText) (one : Again) (feeds : List ℕ)
    → feeds ≡ text.feeds.items → IsText w text one → IsDistinct nat_eq feeds
text_once w text one feeds are is =
    subst (IsDistinct nat_eq) (sym (are ∙ is.feeds)) (permitted_once w one.read)

-- where the text is some id's they gain it
pub text_gains : (w : Terms) (text : FoundText) (one : Again) (later : List (Token × List ℕ))
    (feeds : List ℕ) (new : List Filling) → feeds ≡ text.feeds.items
    → not (is_empty (octets_of text.id)) ≡ true → IsText w text one
    → FillEach w new ((token_view text.token, filter (has_room w later) feeds) ∷ later)
    → FillEach w new (with_again w one later)
text_gains w text one later feeds new are some is fill =
    subst (FillEach w new)
    (ap (λ (xs : List ℕ). (token_view text.token, filter (has_room w later) xs) ∷ later)
    (are ∙ is.feeds)
    ∙ ap (λ (token : Token). (token, filter (has_room w later) (permitted_again w one.read))
    ∷ later) is.token
    ∙ sym (ap (λ (b : Bool). cond b
    ((one.kept.token, filter (has_room w later) (permitted_again w one.read)) ∷ later) later)
    (ap (λ (x : List ℕ). not (is_empty x)) (sym is.id) ∙ some)))
    fill
