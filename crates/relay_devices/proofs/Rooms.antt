-- How many stand where others are still to come, and whether there is room for these.
use Rattle.std.proofs.Common.{◌≡◌, ◌+◌, ◌<◌, ◌≤◌, ℕ, arith, subst, sym}

-- before the first all are to come,
pub none_yet : (made left all : ℕ) → made ≡ 0 → left ≡ all → made + left ≡ all
none_yet made left all none is = omega arith

-- then there is one more, and one less is to come
pub one_came : (old new left next all : ℕ) → new ≡ old + 1 → next + 1 ≡ left → old + left ≡ all
    → new + next ≡ all
one_came old new left next all more less count = omega arith

-- there is room for the next where there is room for all
pub next_fits : (len made left next all room : ℕ) → len ≡ made → next + 1 ≡ left
    → made + left ≡ all → all ≤ room → len < room
next_fits len made left next all room is less count fits = omega arith

-- what has room for so many has it for as many,
pub room_of : (count all room : ℕ) → count ≤ room → count ≡ all → all ≤ room
room_of count all room fits same = subst (λ (n : ℕ). n ≤ room) same fits

-- and so has what is as large
pub still_fits : (all room room' : ℕ) → all ≤ room → room' ≡ room → all ≤ room'
still_fits all room room' fits large = subst (λ (n : ℕ). all ≤ n) (sym large) fits

-- as many as these are no more
pub no_more : (n m most : ℕ) → n ≡ m → m ≤ most → n ≤ most
no_more n m most same few = subst (λ (k : ℕ). k ≤ most) (sym same) few

-- there is room for one at a place where there is room for as many as all
pub index_fits_as : (len index count all room : ℕ) → len ≡ index → index < count → count ≡ all
    → all ≤ room → len < room
index_fits_as len index count all room is within same fits = omega arith
