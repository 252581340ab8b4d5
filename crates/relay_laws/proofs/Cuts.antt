-- A list of sizes is cut into longest runs in one way alone, and each size lies behind the sizes
-- before it in its run.
use Rattle.std.proofs.Common.{◌≡◌, ◌∙◌, ℕ, ◌+◌, ◌≤◌, ◌<◌, List, [], ◌∷◌, ◌++◌, All, length}
use Rattle.std.proofs.Common.{fold, nat_le, ◌⊎◌, inl, inr, refl, sym, ap, subst, arith}
use Rattle.std.proofs.Common.{append_assoc}
use Rattle.std.proofs.Common.{append-nil, add-zero, zero-add}
use Rattle.std.specs.Prelude.{sum}
use Rattle.std.specs.List.{concat}
use Rattle.std.proofs.lemmas.Bool.{cases_lt, cond-true, cond-false, le-leb, lt-leb}
use Rattle.std.proofs.lemmas.List.{append_cancel_left}
use Rattle.std.proofs.lemmas.List.Elements.{All-head, All-tail}
use Rattle.std.proofs.lemmas.List.Sums.{fold-append, sum_by-append, sum_by-cons}
use Rattle.news_terms.specs.Places.{Head, after_size, head_after, place_in_runs}
use Rattle.relay_laws.specs.Cuts.{AreLongest, HasNoRoomFor, IsCutInto}

-- a head: a run with so many blocks used
abbrev At : ℕ → ℕ → Head
At r used = record { run = r; used = used }

-- the sum with one more size in front
sum_cons : (size : ℕ) (sizes : List ℕ) → sum (size ∷ sizes) ≡ size + sum sizes
sum_cons size sizes = sum_by-cons (λ n. n) size sizes

-- the sum of two lists
sum_append : (one other : List ℕ) → sum (one ++ other) ≡ sum one + sum other
sum_append one other = sum_by-append (λ n. n) one other

-- a size that fits the rest of a run goes there
placed_here : (room : ℕ → ℕ) (r used size : ℕ) → used + size ≤ room r
    → place_in_runs room (At r used) size ≡ At r used
placed_here room r used size fits =
    cond-true (nat_le (used + size) (room r)) (At r used) (At (r + 1) 0)
    (le-leb (used + size) (room r) fits)

-- one that doesn't goes to the front of the next
placed_next : (room : ℕ → ℕ) (r used size : ℕ) → room r < used + size
    → place_in_runs room (At r used) size ≡ At (r + 1) 0
placed_next room r used size past =
    cond-false (nat_le (used + size) (room r)) (At r used) (At (r + 1) 0)
    (lt-leb (used + size) (room r) past)

-- as it does where the next run is begun already
same_place : (room : ℕ → ℕ) (r used size : ℕ) → room r < used + size → size ≤ room (r + 1)
    → place_in_runs room (At r used) size ≡ place_in_runs room (At (r + 1) 0) size
same_place room r used size past fits =
    placed_next room r used size past
    ∙ sym (placed_here room (r + 1) 0 size (omega (arith, fits)))

-- the sizes of a run stay in it
stay_in_run : (room : ℕ → ℕ) (r used : ℕ) (run : List ℕ) → used + sum run ≤ room r
    → fold (after_size room) (At r used) run ≡ At r (used + sum run)
stay_in_run room r used [] fits = ap (At r) (sym (add-zero used))
stay_in_run room r used (size ∷ run) fits =
    let all = sum_cons size run in
    ap (λ (h : Head). fold (after_size room) (At h.run (h.used + size)) run)
    (placed_here room r used size (omega (arith, all, fits)))
    ∙ stay_in_run room r (used + size) run (omega (arith, all, fits))
    ∙ ap (At r) (omega (arith, all))

-- the first of some sizes, with one more behind them
abbrev First : List ℕ → ℕ → ℕ
First [] size = size
First (first ∷ sizes) size = first

-- where a size goes behind others that begin at this head
abbrev Goes : (ℕ → ℕ) → Head → List ℕ → ℕ → Head
Goes room head sizes size = place_in_runs room (fold (after_size room) head sizes) size

-- sizes of which the first doesn't fit a run go where they go from the next run on
goes_on : (room : ℕ → ℕ) (r used : ℕ) (sizes : List ℕ) (size : ℕ)
    → room r < used + First sizes size → First sizes size ≤ room (r + 1)
    → Goes room (At r used) sizes size ≡ Goes room (At (r + 1) 0) sizes size
goes_on room r used [] size past fits = same_place room r used size past fits
goes_on room r used (first ∷ sizes) size past fits =
    ap (λ (h : Head). Goes room (At h.run (h.used + first)) sizes size)
    (same_place room r used first past fits)

-- behind a whole run, others go where they go from the next run on
behind_run : (room : ℕ → ℕ) (r : ℕ) (run sizes : List ℕ) (size : ℕ) → sum run ≤ room r
    → room r < sum run + First sizes size → First sizes size ≤ room (r + 1)
    → Goes room (At r 0) (run ++ sizes) size ≡ Goes room (At (r + 1) 0) sizes size
behind_run room r run sizes size fits past first =
    ap (λ (h : Head). place_in_runs room h size)
    (fold-append (after_size room) (At r 0) run sizes)
    ∙ ap (λ (h : Head). Goes room h sizes size)
    (stay_in_run room r 0 run (omega (arith, fits)) ∙ ap (At r) (zero-add (sum run)))
    ∙ goes_on room r (sum run) sizes size past first

-- the first run has at most its room
first_fits : (room : ℕ → ℕ) (r : ℕ) (run : List ℕ) (more : List (List ℕ))
    → AreLongest room r (run ∷ more) → sum run ≤ room r
first_fits room r run [] longest = longest
first_fits room r run (next ∷ more) longest = longest.0

-- the first size of a run that begins with these sizes is one that the run before has no room for
first_past : (room : ℕ) (run before after : List ℕ) (size : ℕ)
    → HasNoRoomFor room run (before ++ (size ∷ after)) → room < sum run + First before size
first_past room run [] after size past = past
first_past room run (first ∷ before) after size past = past

-- and it is at most the sum of them all
first_within : (before after : List ℕ) (size : ℕ)
    → First before size ≤ sum (before ++ (size ∷ after))
first_within [] after size = omega (arith, sum_cons size after)
first_within (first ∷ before) after size =
    omega (arith, sum_cons first (before ++ (size ∷ after)))

-- a size lies in its run, behind the sizes before it there
placed : (room : ℕ → ℕ) (r : ℕ) (earlier later : List (List ℕ)) (before after : List ℕ) (size : ℕ)
    → AreLongest room r (earlier ++ ((before ++ (size ∷ after)) ∷ later))
    → Goes room (At r 0) (concat earlier ++ before) size ≡ At (r + length earlier) (sum before)
placed room r [] later before after size longest =
    let whole = sum_append before (size ∷ after) in
    let rest = sum_cons size after in
    let fits : sum (before ++ (size ∷ after)) ≤ room r =
    first_fits room r (before ++ (size ∷ after)) later longest in
    ap (λ (h : Head). place_in_runs room h size)
    (stay_in_run room r 0 before (omega (arith, whole, rest, fits))
    ∙ ap (At r) (zero-add (sum before)))
    ∙ placed_here room r (sum before) size (omega (arith, whole, rest, fits))
    ∙ ap (λ n. At n (sum before)) (sym (add-zero r))
placed room r (run ∷ []) later before after size longest =
    let index : r + 1 + 0 ≡ r + 1 = omega arith in
    ap (λ (sizes : List ℕ). Goes room (At r 0) (sizes ++ before) size) (append-nil run)
    ∙ behind_run room r run before size longest.0
    (first_past (room r) run before after size longest.1)
    (omega (
      arith,
      first_within before after size,
      first_fits room (r + 1) (before ++ (size ∷ after)) later longest.2,
    ))
    ∙ placed room (r + 1) [] later before after size longest.2
    ∙ ap (λ n. At n (sum before)) index
placed room r (run ∷ [] ∷ earlier) later before after size longest = absurd longest.1
placed room r (run ∷ (first ∷ next) ∷ earlier) later before after size longest =
    let index : r + 1 + length ((first ∷ next) ∷ earlier)
    ≡ r + length (run ∷ (first ∷ next) ∷ earlier) = omega arith in
    ap (λ (sizes : List ℕ). Goes room (At r 0) sizes size)
    (append_assoc run (concat ((first ∷ next) ∷ earlier)) before)
    ∙ behind_run room r run (concat ((first ∷ next) ∷ earlier) ++ before) size longest.0 longest.1
    (omega (
      arith,
      sum_cons first next,
      first_fits room (r + 1) (first ∷ next) (earlier ++ ((before ++ (size ∷ after)) ∷ later))
          longest.2,
    ))
    ∙ placed room (r + 1) ((first ∷ next) ∷ earlier) later before after size longest.2
    ∙ ap (λ n. At n (sum before)) index

-- the same of a list that is cut
pub cut_placed : (room : ℕ → ℕ) (sizes : List ℕ) (earlier later : List (List ℕ))
    (before after : List ℕ) (size : ℕ)
    → IsCutInto room sizes (earlier ++ ((before ++ (size ∷ after)) ∷ later))
    → place_in_runs room (head_after room (concat earlier ++ before)) size
    ≡ record { run = length earlier; used = sum before }
cut_placed room sizes earlier later before after size cut =
    placed room 0 earlier later before after size cut.longest
    ∙ ap (λ n. At n (sum before)) (zero-add (length earlier))

-- of two lists that begin one list, they are one, or one goes on behind the other
data Fronts (a b : List ℕ) : Type 0 where
  Same : a ≡ b → Fronts a b
  Longer : (first : ℕ) (rest : List ℕ) → b ≡ a ++ (first ∷ rest) → Fronts a b
  Shorter : (first : ℕ) (rest : List ℕ) → a ≡ b ++ (first ∷ rest) → Fronts a b

-- one more element in front of both
fronts_more : (n : ℕ) (a b : List ℕ) → Fronts a b → Fronts (n ∷ a) (n ∷ b)
fronts_more n a b (Same e) = Same (ap (λ (l : List ℕ). n ∷ l) e)
fronts_more n a b (Longer first rest e) = Longer first rest (ap (λ (l : List ℕ). n ∷ l) e)
fronts_more n a b (Shorter first rest e) = Shorter first rest (ap (λ (l : List ℕ). n ∷ l) e)

-- which it is
fronts_of : (a b x y : List ℕ) → a ++ x ≡ b ++ y → Fronts a b
fronts_of [] [] x y e = Same refl
fronts_of [] (n ∷ b) x y e = Longer n b refl
fronts_of (n ∷ a) [] x y e = Shorter n a refl
fronts_of (n ∷ a) (m ∷ b) x y e =
    let head : n ≡ m = cc in
    let tail : a ++ x ≡ b ++ y = cc in
    subst (λ k. Fronts (n ∷ a) (k ∷ b)) head (fronts_more n a b (fronts_of a b x y tail))

-- what follows a longest run doesn't fit it, so no run of the same sizes goes on behind it
not_longer : (room : ℕ → ℕ) (r : ℕ) (a b : List ℕ) (more others : List (List ℕ)) (first : ℕ)
    (rest : List ℕ) → AreLongest room r (a ∷ more) → sum b ≤ room r → b ≡ a ++ (first ∷ rest)
    → a ++ concat more ≡ b ++ concat others → ⊥
not_longer room r a b more others first rest longest fits is e =
    by more longest
    (append_cancel_left a (concat more) (first ∷ (rest ++ concat others))
    (e ∙ ap (λ (l : List ℕ). l ++ concat others) is
    ∙ append_assoc a (first ∷ rest) (concat others)))
  where
    sums : sum b ≡ sum a + (first + sum rest)
    sums = ap sum is ∙ sum_append a (first ∷ rest) ∙ ap (λ n. sum a + n) (sum_cons first rest)

    by : (list : List (List ℕ)) → AreLongest room r (a ∷ list)
        → concat list ≡ first ∷ (rest ++ concat others) → ⊥
    by [] whole same = absurd (cc)
    by ([] ∷ list) whole same = whole.1
    by ((next ∷ run) ∷ list) whole same =
        let one : next ≡ first = cc in omega (arith, one, sums, fits, whole.1)

-- so the first runs are one
first_same : (room : ℕ → ℕ) (r : ℕ) (a b : List ℕ) (more others : List (List ℕ))
    → AreLongest room r (a ∷ more) → AreLongest room r (b ∷ others)
    → a ++ concat more ≡ b ++ concat others → a ≡ b
first_same room r a b more others one other e =
    by (fronts_of a b (concat more) (concat others) e)
  where
    by : Fronts a b → a ≡ b
    by (Same same) = same
    by (Longer first rest is) =
        absurd (not_longer room r a b more others first rest one (first_fits room r b others other)
        is e)
    by (Shorter first rest is) =
        absurd (not_longer room r b a others more first rest other (first_fits room r a more one) is
        (sym e))

-- a run that comes next is not empty
next_some : (room : ℕ) (run next sizes : List ℕ) → HasNoRoomFor room run next
    → [] ≡ next ++ sizes → ⊥
next_some room run [] sizes past e = past
next_some room run (first ∷ next) sizes past e = absurd (cc)

-- what is left behind the first runs is the same
rest_same : (a b x y : List ℕ) → a ≡ b → a ++ x ≡ b ++ y → x ≡ y
rest_same a b x y same e =
    append_cancel_left a x y (e ∙ ap (λ (l : List ℕ). l ++ y) (sym same))

-- so are all runs
all_same : (room : ℕ → ℕ) (r : ℕ) (one other : List (List ℕ)) → AreLongest room r one
    → AreLongest room r other → concat one ≡ concat other → one ≡ other
all_same room r [] other la lb e = absurd la
all_same room r (a ∷ one) [] la lb e = absurd lb
all_same room r (a ∷ []) (b ∷ []) la lb e =
    ap (λ (run : List ℕ). run ∷ []) (first_same room r a b [] [] la lb e)
all_same room r (a ∷ []) (b ∷ m ∷ other) la lb e =
    absurd (next_some (room r) b m (concat other) lb.1
    (rest_same a b [] (concat (m ∷ other)) (first_same room r a b [] (m ∷ other) la lb e) e))
all_same room r (a ∷ n ∷ one) (b ∷ []) la lb e =
    absurd (next_some (room r) a n (concat one) la.1
    (sym (rest_same a b (concat (n ∷ one)) [] (first_same room r a b (n ∷ one) [] la lb e) e)))
all_same room r (a ∷ n ∷ one) (b ∷ m ∷ other) la lb e =
    let same : a ≡ b = first_same room r a b (n ∷ one) (m ∷ other) la lb e in
    ap (λ (run : List ℕ). run ∷ n ∷ one) same
    ∙ ap (λ (runs : List (List ℕ)). b ∷ runs)
    (all_same room (r + 1) (n ∷ one) (m ∷ other) la.2 lb.2
    (rest_same a b (concat (n ∷ one)) (concat (m ∷ other)) same e))

-- a list of sizes is cut in one way alone
pub one_cut : (room : ℕ → ℕ) (sizes : List ℕ) (one other : List (List ℕ)) → IsCutInto room sizes one
    → IsCutInto room sizes other → one ≡ other
one_cut room sizes one other a b =
    all_same room 0 one other a.longest b.longest (a.whole ∙ sym b.whole)

-- runs that begin with this run, which goes on with these sizes
record Cut (room : ℕ → ℕ) (r : ℕ) (run sizes : List ℕ) : Type 0 where
  first : List ℕ
  rest : List ℕ
  more : List (List ℕ)
  begins : first ≡ run ++ rest
  longest : AreLongest room r (first ∷ more)
  whole : concat (first ∷ more) ≡ run ++ sizes

-- the run ends where the next size doesn't fit it
ends_run : (room : ℕ → ℕ) (r : ℕ) (run : List ℕ) (size : ℕ) (sizes : List ℕ) → sum run ≤ room r
    → room r < sum run + size → Cut room (r + 1) (size ∷ []) sizes → Cut room r run (size ∷ sizes)
ends_run room r run size sizes fits past later = record {
  first = run;
  rest = [];
  more = later.first ∷ later.more;
  begins = sym (append-nil run);
  longest = (
    fits,
    subst (HasNoRoomFor (room r) run) (sym later.begins) past,
    later.longest,
  );
  whole = ap (λ (l : List ℕ). run ++ l) later.whole;
}

-- it goes on where it fits
goes_run : (room : ℕ → ℕ) (r : ℕ) (run : List ℕ) (size : ℕ) (sizes : List ℕ)
    → Cut room r (run ++ (size ∷ [])) sizes → Cut room r run (size ∷ sizes)
goes_run room r run size sizes later = record {
  first = later.first;
  rest = size ∷ later.rest;
  more = later.more;
  begins = later.begins ∙ append_assoc run (size ∷ []) later.rest;
  longest = later.longest;
  whole = later.whole ∙ append_assoc run (size ∷ []) sizes;
}

-- any sizes are cut
cut : (room : ℕ → ℕ) (sizes : List ℕ) → All (λ size. (r : ℕ) → size ≤ room r) sizes → (r : ℕ)
    (run : List ℕ) → sum run ≤ room r → Cut room r run sizes
cut room [] all r run fits = record {
  first = run;
  rest = [];
  more = [];
  begins = sym (append-nil run);
  longest = fits;
  whole = refl;
}
cut room (size ∷ sizes) all r run fits =
    by (cut room sizes (All-tail (λ n. (r : ℕ) → n ≤ room r) size sizes all))
    (cases_lt (room r) (sum run + size))
  where
    own : size ≤ room (r + 1)
    own = All-head (λ n. (r : ℕ) → n ≤ room r) size sizes all (r + 1)

    by : ((r : ℕ) (run : List ℕ) → sum run ≤ room r → Cut room r run sizes)
        → (room r < sum run + size) ⊎ (sum run + size ≤ room r) → Cut room r run (size ∷ sizes)
    by later (inl past) =
        ends_run room r run size sizes fits past
        (later (r + 1) (size ∷ []) (omega (arith, sum_cons size [], own)))
    by later (inr within) =
        goes_run room r run size sizes
        (later r (run ++ (size ∷ []))
        (omega (arith, sum_append run (size ∷ []), sum_cons size [], within)))

-- so is each list of them
pub some_cut : (room : ℕ → ℕ) (sizes : List ℕ) → All (λ size. (r : ℕ) → size ≤ room r) sizes
    → (runs : List (List ℕ)) × IsCutInto room sizes runs
some_cut room sizes all =
    let whole : Cut room 0 [] sizes = cut room sizes all 0 [] (omega arith) in
    (whole.first ∷ whole.more, record { whole = whole.whole; longest = whole.longest })
