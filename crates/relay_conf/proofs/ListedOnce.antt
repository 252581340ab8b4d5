-- Groups that cycbuff.conf says have buffers, each of them once.
use Rattle.std.proofs.Common.{◌≡◌, ℕ, zero, suc, ◌<◌, ◌≤◌, Bool, true, false, cond, not, ◌⊎◌, inl}
use Rattle.std.proofs.Common.{inr, List, [], ◌∷◌, ◌++◌, length, map, All, None, Some, Result, Ok}
use Rattle.std.proofs.Common.{slice_get, get_or, refl, ap, ◌∙◌, sym, subst, append-nil, arith}
use Rattle.std.specs.Prelude.{◌==◌}
use Rattle.std.specs.List.{list_any, list_all}
use Rattle.std.specs.Option.{option_to_list}
use Rattle.std.proofs.lemmas.Bool.{ltb-true, eq-eqb, both_ways}
use Rattle.std.proofs.lemmas.List.Elements.{All-nil, All-map, All-push}
use Rattle.std.proofs.lemmas.List.Folds.{list_any-append}
use Rattle.std.proofs.lemmas.List.Sums.{AllPass-from_list_all}
use Rattle.std.proofs.lemmas.Option.{same_Some}
use Rattle.relay_conf.specs.declared.cycbuff.BufferConf.{BufferConf}
use Rattle.relay_conf.specs.declared.faults.Fault.{Fault}
use Rattle.relay_conf.specs.declared.faults.Fault.TheVariants.{UnknownName, Shared}
use Rattle.relay_conf.specs.Cycbuff.{CycbuffLine, Group, GroupLine, number_of, is_known, group_of}
use Rattle.relay_conf.specs.Cycbuff.{groups_of, is_listed, is_shared, listed_fault, late_fault}
use Rattle.relay_conf.specs.Faults.{first_fault}
use Rattle.relay_conf.proofs.FaultlessLines.{given_keeps}
use Rattle.news_terms.proofs.ListPlaces.{at_pushed, found_at}

-- number n is at place i of the list of group g
pub record Is_at (groups : List Group) (g i n : ℕ) : Type 0 where
  pub group : Group
  pub is_group : slice_get groups g ≡ Some group
  pub is_number : slice_get group.buffers i ≡ Some n

-- no number is twice in all lists
abbrev pub Once : List Group → Type 0
Once groups =
    (g h i j n : ℕ) → Is_at groups g i n → Is_at groups h j n → (g ≡ h) × (i ≡ j)

-- a list has a number, and each is one of so many
pub record Is_filled (count : ℕ) (group : Group) : Type 0 where
  pub some : 1 ≤ length group.buffers
  pub known : All (λ n. n < count) group.buffers

-- A number that stands in a list is listed.
listed_at : (groups : List Group) (g i n : ℕ) (group : Group) → slice_get groups g ≡ Some group
    → slice_get group.buffers i ≡ Some n → is_listed groups n ≡ true
listed_at groups g i n group there is =
    found_at (λ (one : Group). list_any (λ other. other == n) one.buffers) groups g group there
    (found_at (λ other. other == n) group.buffers i n is (eq-eqb n n refl))

-- Where numbers are not shared, the first of them is neither listed nor among those before, and
-- behind it they are not.
shared_parts : (groups : List Group) (before : List ℕ) (x : ℕ) (more : List ℕ)
    → is_shared groups before (x ∷ more) ≡ false
    → (is_listed groups x ≡ false) × (list_any (λ other. other == x) before ≡ false)
    × (is_shared groups (before ++ x ∷ []) more ≡ false)
shared_parts groups before x more e = grind arith

-- A number that isn't among those before is none of them, nor the last.
not_last : (before : List ℕ) (x n : ℕ) → list_any (λ other. other == n) (before ++ x ∷ []) ≡ false
    → (list_any (λ other. other == n) before ≡ false) × ((x == n) ≡ false)
not_last before x n e = grind (arith, list_any-append)

-- None of these that are not shared is listed, nor among those before.
not_listed : (groups : List Group) (before numbers : List ℕ)
    → is_shared groups before numbers ≡ false → (i n : ℕ) → slice_get numbers i ≡ Some n
    → (is_listed groups n ≡ false) × (list_any (λ other. other == n) before ≡ false)
not_listed groups before [] e i n at = cc
not_listed groups before (x ∷ more) e zero n at =
    let parts = shared_parts groups before x more e in
    subst (λ m. (is_listed groups m ≡ false) × (list_any (λ other. other == m) before ≡ false))
    (same_Some x n at) (parts.0, parts.1)
not_listed groups before (x ∷ more) e (suc i) n at =
    let later = not_listed groups (before ++ x ∷ []) more (shared_parts groups before x more e).2 i
    n at in
    (later.0, (not_last before x n later.1).0)

-- A number behind another of these isn't that.
not_before : (groups : List Group) (before : List ℕ) (x : ℕ) (more : List ℕ) (j n : ℕ)
    → is_shared groups before (x ∷ more) ≡ false → slice_get more j ≡ Some n → x ≡ n → ⊥
not_before groups before x more j n e at same =
    let later = not_listed groups (before ++ x ∷ []) more (shared_parts groups before x more e).2 j
    n at in
    both_ways (x == n) (not_last before x n later.1).1 (eq-eqb x n same)

-- Each of these stands once.
each_once : (groups : List Group) (before numbers : List ℕ)
    → is_shared groups before numbers ≡ false → (i j n : ℕ) → slice_get numbers i ≡ Some n
    → slice_get numbers j ≡ Some n → i ≡ j
each_once groups before [] e i j n at other = cc
each_once groups before (x ∷ more) e zero zero n at other = refl
each_once groups before (x ∷ more) e zero (suc j) n at other =
    absurd (not_before groups before x more j n e other (same_Some x n at))
each_once groups before (x ∷ more) e (suc i) zero n at other =
    absurd (not_before groups before x more i n e at (same_Some x n other))
each_once groups before (x ∷ more) e (suc i) (suc j) n at other =
    ap suc (each_once groups (before ++ x ∷ []) more (shared_parts groups before x more e).2 i j n
    at other)

-- No number is twice in all lists with one more whose numbers are not shared.
once_more : (groups : List Group) (one : Group) → is_shared groups [] one.buffers ≡ false
    → Once groups → Once (groups ++ one ∷ [])
once_more groups one e once g h i j n at other =
    by_places (at_pushed groups one g at.group at.is_group)
    (at_pushed groups one h other.group other.is_group)
  where
    in_one : (k : ℕ) (group : Group) → one ≡ group → slice_get group.buffers k ≡ Some n
        → slice_get one.buffers k ≡ Some n
    in_one k group same is = ap (λ (a : Group). slice_get a.buffers k) same ∙ is

    by_places : (slice_get groups g ≡ Some at.group) ⊎ ((g ≡ length groups) × (one ≡ at.group))
        → (slice_get groups h ≡ Some other.group)
        ⊎ ((h ≡ length groups) × (one ≡ other.group)) → (g ≡ h) × (i ≡ j)
    by_places (inl a) (inl b) =
        once g h i j n (record { group = at.group; is_group = a; is_number = at.is_number })
        (record { group = other.group; is_group = b; is_number = other.is_number })
    by_places (inl a) (inr b) =
        absurd (both_ways (is_listed groups n)
        (not_listed groups [] one.buffers e j n (in_one j other.group b.1 other.is_number)).0
        (listed_at groups g i n at.group a at.is_number))
    by_places (inr a) (inl b) =
        absurd (both_ways (is_listed groups n)
        (not_listed groups [] one.buffers e i n (in_one i at.group a.1 at.is_number)).0
        (listed_at groups h j n other.group b other.is_number))
    by_places (inr a) (inr b) = (
      a.0 ∙ sym b.0,
      each_once groups [] one.buffers e i j n (in_one i at.group a.1 at.is_number)
          (in_one j other.group b.1 other.is_number),
    )

-- lists are filled, and no number is twice in all
pub record Are_right (buffers : List BufferConf) (groups : List Group) : Type 0 where
  pub filled : All (Is_filled (length buffers)) groups
  pub once : Once groups

-- Where neither of two faults of a list is found, its names are known and not shared.
no_list_fault : (known shared : Bool)
    → cond (not known) (Some UnknownName) (cond shared (Some Shared) None) ≡ None
    → (known ≡ true) × (shared ≡ false)
no_list_fault known shared e = grind arith

-- Lists stay right behind a line without a fault.
right_more : (buffers : List BufferConf) (groups : List Group) (line : Result CycbuffLine Fault)
    → listed_fault buffers groups line ≡ None → Are_right buffers groups
    → Are_right buffers (groups ++ option_to_list (group_of buffers line))
right_more buffers groups (Ok (GroupLine name [] mode)) e right = cc
right_more buffers groups (Ok (GroupLine name (first ∷ rest) mode)) e right =
    let members = first ∷ rest in
    let numbers = map (number_of buffers) members in
    let one : Group = record { name = name; buffers = numbers; mode = mode } in
    let both = no_list_fault (list_all (is_known buffers) members) (is_shared groups [] numbers)
    e in
    record {
      filled = All-push (Is_filled (length buffers)) groups one right.filled
          (record {
            some = omega arith;
            known = All-map (λ n. n < length buffers) (number_of buffers) members
                (λ k d within. ltb-true (number_of buffers (get_or members k d)) (length buffers)
                (AllPass-from_list_all (is_known buffers) members both.0 k d within));
          });
      once = once_more groups one both.1 right.once;
    }
right_more buffers groups line e right =
    subst (Are_right buffers) (sym (append-nil groups)) right

-- The groups of lines without a fault are right.
pub right_said : (buffers : List BufferConf) (said : List (Result CycbuffLine Fault))
    → first_fault (late_fault buffers) [] said ≡ None
    → Are_right buffers (groups_of buffers said)
right_said buffers said none =
    given_keeps (late_fault buffers) (group_of buffers) (Are_right buffers)
    (record { filled = All-nil (Is_filled (length buffers)); once = λ g h i j n at other. cc })
    (λ before line. right_more buffers (groups_of buffers before) line) said none
