-- How many items stand where others are still to come, and whether there is room for these.
use Rattle.std.proofs.Common.{◌≡◌, ◌+◌, ◌<◌, ◌≤◌, ℕ, arith, subst, sym}

-- a place among so many is among as many,
pub below_as : (place count all : ℕ) → place < count → count ≡ all → place < all
below_as place count all within same = subst (λ (n : ℕ). place < n) same within

-- and below what these are at most
pub below_most : (place all count most : ℕ) → place < all → count ≡ all → count ≤ most
    → place < most
below_most place all count most within same few = omega arith

-- before the first all are to come
pub none_yet : (made left all : ℕ) → made ≡ 0 → left ≡ all → made + left ≡ all
none_yet made left all none is = omega arith

-- then there is one more, and one less is to come
pub one_came : (old new left next all : ℕ) → new ≡ old + 1 → next + 1 ≡ left → old + left ≡ all
    → new + next ≡ all
one_came old new left next all more less count = omega arith

-- and once none is to come these are all
pub all_came : (made left all : ℕ) → made + left ≡ all → left ≡ 0 → made ≡ all
all_came made left all count none = omega arith

-- there is room for the next where there is room for all
pub next_fits : (len made left next all room : ℕ) → len ≡ made → next + 1 ≡ left
    → made + left ≡ all → all ≤ room → len < room
next_fits len made left next all room is less count fits = omega arith

-- what has room for so many has it for as many,
pub room_of : (count all room : ℕ) → count ≤ room → count ≡ all → all ≤ room
room_of count all room fits same = subst (λ (n : ℕ). n ≤ room) same fits

-- and so has what is as large
pub still_fits : (all room room' : ℕ) → all ≤ room → room' ≡ room → all ≤ room'
still_fits all room room' fits large = subst (λ (n : ℕ). all ≤ n) (sym large) fits

-- as many as these are no more
pub no_more : (n m most : ℕ) → n ≡ m → m ≤ most → n ≤ most
no_more n m most same few = subst (λ (k : ℕ). k ≤ most) (sym same) few

-- there is room for one at a place where there is room for all
pub index_fits : (len index all room : ℕ) → len ≡ index → index < all → all ≤ room → len < room
index_fits len index all room is within fits = omega arith

-- also where these are as many as all
pub index_fits_as : (len index count all room : ℕ) → len ≡ index → index < count → count ≡ all
    → all ≤ room → len < room
index_fits_as len index count all room is within same fits = omega arith

-- the next of so many that are gone through fits where all do,
pub place_fits : (len gone more all room : ℕ) → len ≡ gone → gone + 1 + more ≡ all → all ≤ room
    → len < room
place_fits len gone more all room is through fits = omega arith

-- also behind others,
pub behind_fits : (len before front gone made more all count room room' : ℕ) → len ≡ front + made
    → before ≡ front → made ≡ gone → gone + 1 + more ≡ all → count ≡ all → count + before ≤ room
    → room' ≡ room → len < room'
behind_fits len before front gone made more all count room room' is same long through whole fits
    large =
    omega arith

-- and all fit where nothing was before
pub whole_fits : (count all room left before : ℕ) → count ≤ room → count ≡ all → left ≡ all
    → before ≡ 0 → left + before ≤ room
whole_fits count all room left before fits is same none = omega arith

-- Where there is room for all of a row, and what is made of those that are gone through is put
-- there,
module _ (count all room gone more : ℕ) (fits : count ≤ room) (is : count ≡ all)
    (through : gone + 1 + more ≡ all)
  where
    -- there is room for it,
    pub front_fits : (made before : ℕ) → made ≡ gone → before ≡ 0 → made + before ≤ room
    front_fits made before same none = omega arith

    module _ (len before made room' : ℕ) (long : len ≡ before + made) (none : before ≡ 0)
        (same : made ≡ gone) (large : room' ≡ room)
      where
        -- for one more,
        pub more_fits : len < room'
        more_fits = omega arith

        -- and then for the rest
        pub rest_fits : (len' room'' : ℕ) → len' ≡ len + 1 → room'' ≡ room' → more + len' ≤ room''
        rest_fits len' room'' next still = omega arith

-- what is as much as what is below is so, too
pub same_below : (n place all : ℕ) → n ≡ place → place < all → n < all
same_below n place all same within = subst (λ (k : ℕ). k < all) (sym same) within
