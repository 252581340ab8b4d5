-- What a step of one ring does to all feeds.
use Rattle.std.proofs.Common.{◌≡◌, ◌∙◌, ap, sym, subst, refl, ◌+◌, ◌<◌, ◌≤◌, ◌++◌, ◌∷◌, []}
use Rattle.std.proofs.Common.{ℕ, Bool, true, false, ◌||◌, not, nat_eq, eqb, cond, map, take, List}
use Rattle.std.proofs.Common.{length, arith}
use Rattle.std.proofs.Common.{inl, inr}
use Rattle.std.proofs.Math.ListN.{get_or, set, get_or-append}
use Rattle.std.proofs.Math.Seq.{get_or-append_seam}
use Rattle.std.proofs.lemmas.Bool.Decides.{eqb_tells}
use Rattle.std.proofs.lemmas.List.{get_or-set_same, get_or-set_other, length-set, length-append}
use Rattle.std.proofs.lemmas.List.{length-take, get_or-take, get_or_default}
use Rattle.std.proofs.lemmas.List.{take_more, map-append, length-map}
use Rattle.std.proofs.lemmas.List.Folds.{list_any-append, list_any_none}
use Rattle.std.specs.List.{All, list_any}
use Rattle.feed_queue.specs.declared.rings.Ring.{Ring}
use Rattle.feed_queue.specs.Feeds.{KeepsFeed, KeepFeeds, CountBelow, with_gained}
use Rattle.feed_queue.specs.Feeds.{ring_size}
use Rattle.relay_conf.specs.declared.relay.Feed as conf
use Rattle.cyc_token.specs.Token.{token_view}
use Rattle.cyc_token.specs.declared.Token as tokens
use Rattle.news_terms.specs.Token.{Token}
use Rattle.std.proofs.lemmas.Grind.{common_steps}
use Rattle.relay_model.specs.State.{Feed, put_at}
use Rattle.relay_model.specs.Writers.{gaining}

-- the same of an equal ring, size and feed
along : (one other : Ring) (size n : ℕ) (feed v : Feed) → one ≡ other → size ≡ n → feed ≡ v
    → KeepsFeed one size feed → KeepsFeed other n v
along one other size n feed v rings sizes feeds keeps =
    subst (KeepsFeed other n) feeds
    (subst (λ m. KeepsFeed other m feed) sizes (subst (λ r. KeepsFeed r size feed) rings keeps))

-- one more ring, which keeps the next feed
pub keeps-more : (rings : List Ring) (sizes : List ℕ) (one : Ring) (size : ℕ) (feeds : ℕ → Feed)
    → KeepsFeed one size (feeds (length rings)) → KeepFeeds rings sizes feeds
    → KeepFeeds (rings ++ one ∷ []) (sizes ++ size ∷ []) feeds
keeps-more rings sizes one size feeds keeps all =
    record {
      count = length-append rings (one ∷ []) ∙ ap (λ n. n + 1) all.count
          ∙ sym (length-append sizes (size ∷ []));
      each = λ f none within. elim (eqb_tells f (length rings)) [
        | inl same ↦ along one (get_or (rings ++ one ∷ []) f none) size
            (get_or (sizes ++ size ∷ []) f 0) (feeds (length rings)) (feeds f)
            (sym (ap (λ i. get_or (rings ++ one ∷ []) i none) same.1
            ∙ get_or-append_seam rings one [] none))
            (sym (ap (λ i. get_or (sizes ++ size ∷ []) i 0) (same.1 ∙ all.count)
            ∙ get_or-append_seam sizes size [] 0))
            (ap feeds (sym same.1)) keeps
        | inr other ↦
            let least : f < length rings =
            omega (arith, within, other.1, length-append rings (one ∷ [])) in
            along (get_or rings f none) (get_or (rings ++ one ∷ []) f none)
            (get_or sizes f 0) (get_or (sizes ++ size ∷ []) f 0) (feeds f) (feeds f)
            (sym (get_or-append rings (one ∷ []) none f least))
            (sym (get_or-append sizes (size ∷ []) 0 f (omega (arith, least, all.count))))
            refl (all.each f none least)
      ];
    }

-- so many rings keep so many feeds
count-so_far : (rings : List Ring) (feeds : List conf.Feed) (n : ℕ) (kept : ℕ → Feed)
    → n < length feeds → KeepFeeds rings (map ring_size (take n feeds)) kept → length rings ≡ n
count-so_far rings feeds n kept there all =
    all.count ∙ length-map (take n feeds) ring_size ∙ omega (arith, length-take n feeds, there)

-- the same, of the next of a configuration
pub keeps-next : (old new : List Ring) (one : Ring) (feeds : List conf.Feed) (n : ℕ)
    (feed : conf.Feed) (kept : ℕ → Feed) → new ≡ old ++ one ∷ [] → n < length feeds
    → feed ≡ get_or feeds n feed → KeepsFeed one feed.ring (kept n)
    → KeepFeeds old (map ring_size (take n feeds)) kept
    → KeepFeeds new (map ring_size (take (n + 1) feeds)) kept
keeps-next old new one feeds n feed kept added there at keeps all =
    let sizes : map ring_size (take (n + 1) feeds)
    ≡ map ring_size (take n feeds) ++ feed.ring ∷ [] =
    ap (map ring_size) (take_more feeds n feed there
    ∙ ap (λ x. take n feeds ++ x ∷ []) (sym at))
    ∙ map-append ring_size (take n feeds) (feed ∷ []) in
    subst (λ rings. KeepFeeds rings (map ring_size (take (n + 1) feeds)) kept) (sym added)
    (subst (λ xs. KeepFeeds (old ++ one ∷ []) xs kept) (sym sizes)
    (keeps-more old (map ring_size (take n feeds)) one feed.ring kept
    (subst (λ k. KeepsFeed one feed.ring (kept k)) (sym (count-so_far old feeds n kept there all))
    keeps) all))

-- the same feeds are kept
pub keeps-same : (rings : List Ring) (sizes : List ℕ) (feeds others : ℕ → Feed)
    → ((f : ℕ) → feeds f ≡ others f) → KeepFeeds rings sizes feeds → KeepFeeds rings sizes others
keeps-same rings sizes feeds others same keeps =
    record {
      count = keeps.count;
      each = λ f none within.
          subst (KeepsFeed (get_or rings f none) (get_or sizes f 0)) (same f)
          (keeps.each f none within);
    }

-- one ring takes a step
pub keeps-set : (rings : List Ring) (sizes : List ℕ) (feeds : ℕ → Feed) (k : ℕ) (one later : Ring)
    (feed : Feed) → k < length rings → one ≡ get_or rings k one
    → (KeepsFeed one (get_or sizes k 0) (feeds k) → KeepsFeed later (get_or sizes k 0) feed)
    → KeepFeeds rings sizes feeds → KeepFeeds (set rings k later) sizes (put_at feeds k feed)
keeps-set rings sizes feeds k one later feed there at step keeps =
    record {
      count = length-set rings k later ∙ keeps.count;
      each = λ f none within. elim (eqb_tells f k) [
        | inl same ↦ along later (get_or (set rings k later) f none) (get_or sizes k 0)
            (get_or sizes f 0) feed (put_at feeds k feed f)
            (sym (ap (λ i. get_or (set rings k later) i none) same.1
            ∙ get_or-set_same rings k later none there))
            (ap (λ i. get_or sizes i 0) (sym same.1))
            (sym (ap (λ b. cond b feed (feeds f)) same.0))
            (step (along (get_or rings k one) one (get_or sizes k 0) (get_or sizes k 0) (feeds k)
            (feeds k) (sym at) refl refl (keeps.each k one there)))
        | inr other ↦ along (get_or rings f none) (get_or (set rings k later) f none)
            (get_or sizes f 0) (get_or sizes f 0) (feeds f) (put_at feeds k feed f)
            (sym (get_or-set_other rings k f later none other.1)) refl
            (sym (ap (λ b. cond b feed (feeds f)) other.0))
            (keeps.each f none (subst (λ n. f < n) (length-set rings k later) within))
      ];
    }

-- the same, where the ring's place is the feed's number by an equation
pub keeps-at : (rings : List Ring) (sizes : List ℕ) (feeds : ℕ → Feed) (place k : ℕ)
    (one later : Ring) (feed : Feed) → place ≡ k → place < length rings
    → one ≡ get_or rings place one
    → (KeepsFeed one (get_or sizes k 0) (feeds k) → KeepsFeed later (get_or sizes k 0) feed)
    → KeepFeeds rings sizes feeds → KeepFeeds (set rings place later) sizes (put_at feeds k feed)
keeps-at rings sizes feeds place k one later feed same there at step keeps =
    subst (λ n. KeepFeeds (set rings n later) sizes (put_at feeds k feed)) (sym same)
    (keeps-set rings sizes feeds k one later feed (subst (λ n. n < length rings) same there)
    (subst (λ n. one ≡ get_or rings n one) same at) step keeps)

-- the ring of a feed keeps it
pub keeps-one : (rings : List Ring) (sizes : List ℕ) (feeds : ℕ → Feed) (place k : ℕ) (one : Ring)
    → place ≡ k → place < length rings → one ≡ get_or rings place one
    → KeepFeeds rings sizes feeds → KeepsFeed one (get_or sizes k 0) (feeds k)
keeps-one rings sizes feeds place k one same there at keeps =
    along (get_or rings place one) one (get_or sizes place 0) (get_or sizes k 0) (feeds place)
    (feeds k) (sym at) (ap (λ n. get_or sizes n 0) same) (ap feeds same)
    (keeps.each place one there)

-- the count of a ring is below what all are
pub below-at : (rings : List Ring) (place : ℕ) (one : Ring) (most : ℕ) → place < length rings
    → one ≡ get_or rings place one → CountBelow rings most → one.gained < most
below-at rings place one most there at below =
    subst (λ (r : Ring). r.gained < most) (sym at) (below place one there)

-- a feed past the last ring takes a step
pub keeps-missing : (rings : List Ring) (sizes : List ℕ) (feeds : ℕ → Feed) (k : ℕ) (feed : Feed)
    → length rings ≤ k → KeepFeeds rings sizes feeds → KeepFeeds rings sizes (put_at feeds k feed)
keeps-missing rings sizes feeds k feed past keeps =
    record {
      count = keeps.count;
      each = λ f none within. elim (eqb_tells f k) [
        | inl same ↦ absurd (omega (arith, same.1, past, within))
        | inr other ↦
            subst (KeepsFeed (get_or rings f none) (get_or sizes f 0))
            (sym (ap (λ b. cond b feed (feeds f)) other.0)) (keeps.each f none within)
      ];
    }

-- a bound on counts that is above one
pub counts-above : (rings : List Ring) (most more : ℕ) → most ≤ more → CountBelow rings most
    → CountBelow rings more
counts-above rings most more above below f none within =
    let least = below f none within in omega (arith, least, above)

-- among some and this one, where it is this one
named-last : (x y : Bool) → y ≡ true → (x || (y || false)) ≡ true
named-last true y is = refl
named-last false true is = refl
named-last false false is = is

-- among some and this one, where it isn't this one
named-before : (x y : Bool) → y ≡ false → (x || (y || false)) ≡ x
named-before true y is = refl
named-before false true is = is
named-before false false is = refl

-- whether a feed is among some and this one
is_named-more : (f : ℕ) (before : List ℕ) (k : ℕ)
    → list_any (nat_eq f) (before ++ k ∷ []) ≡ (list_any (nat_eq f) before || (eqb f k || false))
is_named-more f before k = list_any-append (nat_eq f) before (k ∷ [])

-- the feed by whether it is named
gains : Feed → Token → Bool → Feed
gains feed token named = cond named (with_gained feed token) feed

-- a feed that wasn't named gains the token
pub gaining-new : (feed : ℕ → Feed) (before : List ℕ) (k : ℕ) (token : Token)
    → list_any (nat_eq k) before ≡ false → (f : ℕ)
    → put_at (gaining feed before token) k (with_gained (gaining feed before token k) token) f
    ≡ gaining feed (before ++ k ∷ []) token f
unfolding gains
gaining-new feed before k token new f =
    let put = with_gained (gaining feed before token k) token in
    elim (eqb_tells f k) [
      | inl same ↦ ap (λ b. cond b put (gaining feed before token f)) same.0
          ∙ ap (λ b. with_gained (gains (feed k) token b) token) new
          ∙ ap (λ n. with_gained (feed n) token) (sym same.1)
          ∙ sym (ap (gains (feed f) token) (is_named-more f before k
          ∙ named-last (list_any (nat_eq f) before) (eqb f k) same.0))
      | inr other ↦ ap (λ b. cond b put (gaining feed before token f)) other.0
          ∙ sym (ap (gains (feed f) token) (is_named-more f before k
          ∙ named-before (list_any (nat_eq f) before) (eqb f k) other.0))
    ]

-- a feed that was named stays
pub gaining-again : (feed : ℕ → Feed) (before : List ℕ) (k : ℕ) (token : Token)
    → list_any (nat_eq k) before ≡ true → (f : ℕ)
    → gaining feed before token f ≡ gaining feed (before ++ k ∷ []) token f
unfolding gains
gaining-again feed before k token again f =
    elim (eqb_tells f k) [
      | inl same ↦ ap (gains (feed f) token)
          (ap (λ n. list_any (nat_eq n) before) same.1 ∙ again
          ∙ sym (is_named-more f before k
          ∙ named-last (list_any (nat_eq f) before) (eqb f k) same.0))
      | inr other ↦ sym (ap (gains (feed f) token) (is_named-more f before k
          ∙ named-before (list_any (nat_eq f) before) (eqb f k) other.0))
    ]

-- a feed above all is none of them
pub is_named-above : (before : List ℕ) (above feed : ℕ) → All (λ other. other < above) before
    → above ≤ feed → list_any (nat_eq feed) before ≡ false
is_named-above before above feed below at =
    list_any_none (nat_eq feed) before (λ k d within.
    let least = below k d within in
    elim (eqb_tells feed (get_or before k d)) [
      | inl same ↦ absurd (omega (arith, same.1, least, at))
      | inr other ↦ other.0
    ])

-- what isn't so where its contrary is
pub not-true : (b : Bool) → not b ≡ true → b ≡ false
not-true true is = sym is
not-true false is = refl

-- what is so where its contrary isn't
pub not-false : (b : Bool) → not b ≡ false → b ≡ true
not-false true is = refl
not-false false is = sym is

-- one feed more is below a bound that rose above it
pub below-more : (xs : List ℕ) (n above later : ℕ) → above ≤ later → get_or xs n 0 < later
    → n < length xs → All (λ other. other < above) (take n xs)
    → All (λ other. other < later) (take (n + 1) xs)
below-more xs n above later rises least there below k d within =
    let long = length-take (n + 1) xs in
    let here : k < n + 1 = omega (arith, long, within) in
    subst (λ x. x < later) (sym (get_or-take (n + 1) xs k d here))
    (elim (eqb_tells k n) [
      | inl same ↦ subst (λ i. get_or xs i d < later) (sym same.1)
          (subst (λ x. x < later) (get_or_default xs n 0 d there) least)
      | inr other ↦
          let less : k < n = omega (arith, here, other.1) in
          let shorter = length-take n xs in
          let one = below k d (omega (arith, shorter, less, there)) in
          let same = get_or-take n xs k d less in
          omega (arith, one, same, rises)
    ])

-- the next of the feeds named has gained the token
pub next-gained : (rings : List Ring) (sizes : List ℕ) (feed : ℕ → Feed) (xs : List ℕ) (n : ℕ)
    (token : Token) → n < length xs
    → KeepFeeds rings sizes (gaining feed (take n xs ++ get_or xs n 0 ∷ []) token)
    → KeepFeeds rings sizes (gaining feed (take (n + 1) xs) token)
next-gained rings sizes feed xs n token there keeps =
    subst (λ named. KeepFeeds rings sizes (gaining feed named token))
    (sym (take_more xs n 0 there)) keeps

-- all feeds named have gained the token
pub all-gained : (rings : List Ring) (sizes : List ℕ) (feed : ℕ → Feed) (xs : List ℕ) (n : ℕ)
    (token one : tokens.Token) → length xs ≤ n → token ≡ one
    → KeepFeeds rings sizes (gaining feed (take n xs) (token_view token))
    → KeepFeeds rings sizes (gaining feed xs (token_view one))
all-gained rings sizes feed xs n token one past same keeps =
    let whole : take n xs ≡ xs = grind (arith, common_steps) in
    subst (λ t. KeepFeeds rings sizes (gaining feed xs (token_view t))) same
    (subst (λ named. KeepFeeds rings sizes (gaining feed named (token_view token))) whole keeps)
