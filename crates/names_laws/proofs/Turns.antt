-- Where groups go on.
use Rattle.std.proofs.Common.{◌≡◌, ℕ, ◌<◌, zero, suc, List, [], ◌∷◌, ◌++◌, length, map, take, drop}
use Rattle.std.proofs.Common.{zip, Option, Some, None, Bool, true, false, cond, refl, ap, ◌∙◌}
use Rattle.std.proofs.Common.{arith, bytes_eq, option_map, slice_get, unwrap_or}
use Rattle.std.proofs.lemmas.Option.{none-some, same_Some}
use Rattle.std.specs.List.{AllByRecursion, AllZip}
use Rattle.std.proofs.Common.{nat_lt}
use Rattle.std.proofs.lemmas.Bool.{and_from, lt-ltb}
use Rattle.std.specs.Option.{option_or}
use Rattle.id_history.specs.Conditions.{are_positions}
use Rattle.named_history.specs.Naming.{buffer_count, in_turn, name_of, position_of, turn_by}
use Rattle.named_history.specs.Naming.{turn_from}
use Rattle.named_history.specs.Places.{first_place, place_of, under}
use Rattle.relay_names.specs.Names.{GroupNames}

-- The first of more places than one is one of them.
chosen_within : (here : Bool) (found : Option ℕ) (n k : ℕ)
    → ((j : ℕ) → found ≡ Some j → j < n) → cond here (Some 0) (option_map suc found) ≡ Some k
    → k < suc n
chosen_within true found n k each is = omega (arith, same_Some 0 k is)
chosen_within false None n k each is = absurd (none-some k is)
chosen_within false (Some j) n k each is = omega (arith, each j refl, same_Some (suc j) k is)

-- The place of a name is one of the list's.
pub place_within : (name : List ℕ) (names : List (List ℕ)) (k : ℕ)
    → place_of name names ≡ Some k → k < length names
place_within name [] k is = absurd (none-some k is)
place_within name (first ∷ names) k is =
    chosen_within (bytes_eq name first) (place_of name names) (length names) k
    (place_within name names) is

-- Either of two places is within, where both are.
either_within : (one other : Option ℕ) (n k : ℕ) → ((j : ℕ) → one ≡ Some j → j < n)
    → ((j : ℕ) → other ≡ Some j → j < n) → option_or one other ≡ Some k → k < n
either_within None other n k first second is = second k is
either_within (Some j) other n k first second is = first k is

-- So is the place of the first that is there.
pub first_within : (names list : List (List ℕ)) (k : ℕ) → first_place names list ≡ Some k
    → k < length list
first_within [] list k is = absurd (none-some k is)
first_within (name ∷ names) list k is =
    either_within (place_of name list) (first_place names list) (length list) k
    (place_within name list) (first_within names list) is

-- A place that is found is within, and so is the first, where there is one.
found_within : (found : Option ℕ) (n : ℕ) → 0 < n → ((j : ℕ) → found ≡ Some j → j < n)
    → unwrap_or found 0 < n
found_within None n some each = some
found_within (Some j) n some each = each j refl

-- A group that has buffers goes on with one of them,
turn_within : (own : List (List ℕ)) (known : Option (GroupNames × ℕ)) → 0 < length own
    → turn_from own known < length own
turn_within own None some = some
turn_within own (Some known) some =
    found_within (first_place (in_turn known.1 known.0.buffers) own) (length own) some
    (first_within (in_turn known.1 known.0.buffers) own)

-- and so each of them does.
pub positions_within : (known : List GroupNames) (kept : List ℕ) (own : List GroupNames)
    → AllByRecursion (λ group. 0 < buffer_count group) own
    → AllZip (λ position m. position < m) (map (position_of known kept) own)
    (map buffer_count own)
positions_within known kept [] some = tt
positions_within known kept (group ∷ own) some = (
  turn_within group.buffers (under group.name (map name_of known) (zip known kept)) some.0,
  positions_within known kept own some.1,
)

-- So their positions pass.
pub positions_pass : (known : List GroupNames) (kept : List ℕ) (own : List GroupNames)
    → AllByRecursion (λ group. 0 < buffer_count group) own
    → are_positions (map (position_of known kept) own) (map buffer_count own) ≡ true
positions_pass known kept [] some = refl
positions_pass known kept (group ∷ own) some =
    and_from (nat_lt (position_of known kept group) (buffer_count group))
    (are_positions (map (position_of known kept) own) (map buffer_count own))
    (lt-ltb (position_of known kept group) (buffer_count group)
    (turn_within group.buffers (under group.name (map name_of known) (zip known kept)) some.0))
    (positions_pass known kept own some.1)

-- What stands at a place is the first of what is left from there on.
pub drop_at : {X : Type 0} (xs : List X) (k : ℕ) (x : X) → slice_get xs k ≡ Some x
    → drop k xs ≡ x ∷ drop (suc k) xs
drop_at [] k x at = absurd (none-some x at)
drop_at {X} (first ∷ xs) zero x at =
    ap (λ (one : X). one ∷ xs) (same_Some first x at)
drop_at (first ∷ xs) (suc k) x at = drop_at xs k x at

-- A group goes on with the buffer at its turn, where it still has it.
pub turn_there : (known : List (List ℕ)) (position : ℕ) (own : List (List ℕ))
    (buffer : List ℕ) (place : ℕ) → slice_get known position ≡ Some buffer
    → place_of buffer own ≡ Some place → turn_by known position own ≡ place
turn_there known position own buffer place at is =
    ap (λ (buffers : List (List ℕ)). unwrap_or (first_place (buffers ++ take position known) own) 0)
    (drop_at known position buffer at)
    ∙ rw is refl
