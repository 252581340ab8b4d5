-- Lines without a fault: what each of them keeps, or gives, holds of all.
use Rattle.std.proofs.Common.{◌≡◌, ℕ, ◌+◌, ◌≤◌, List, [], ◌∷◌, ◌++◌, All, length, Option, Some}
use Rattle.std.proofs.Common.{None, Ok, refl, sym, subst, append-nil, append_assoc, arith}
use Rattle.std.specs.Prelude.{◌&&◌, nat_le, filter_map, flat_map}
use Rattle.std.specs.List.{cons_option}
use Rattle.std.specs.Option.{IfSome, option_to_list}
use Rattle.std.specs.Str.Parse.{digits_value}
use Rattle.std.proofs.lemmas.Bool.{and_parts, cond_both, leb-true}
use Rattle.std.proofs.lemmas.List.Elements.{All-append, All-cons, All-head, All-nil}
use Rattle.std.proofs.lemmas.List.Elements.{All-tail}
use Rattle.line_words.specs.Numbers.{is_numeral, number_within}
use Rattle.relay_conf.specs.declared.faults.Fault.{Fault}
use Rattle.relay_conf.specs.declared.faults.LineFault.{LineFault}
use Rattle.relay_conf.specs.Faults.{fault_or_later, first_fault, whole_fault, unless_fault}
use Rattle.relay_conf.specs.LineByLine.{SayEach}
use Rattle.relay_conf.specs.Relay.{once}
use Rattle.relay_conf.proofs.FirstFaults.{filter_one, flat_one}

-- NO FAULT

-- Where a line and those behind it have no fault, neither has.
pub no_fault_parts : (n : ℕ) (here : Option Fault) (later : Option LineFault)
    → fault_or_later n here later ≡ None → (here ≡ None) × (later ≡ None)
no_fault_parts n None later e = (refl, e)
no_fault_parts n (Some fault) later e = cc

-- Settings behind three trials are there where none finds a fault.
pub behind_trials : {S : Type 0} (early : Option LineFault) (whole : Option Fault)
    (late : Option LineFault) (made settings : S)
    → unless_fault early (unless_fault (whole_fault whole) (unless_fault late (Ok made)))
    ≡ Ok settings
    → (early ≡ None) × (whole ≡ None) × (late ≡ None) × (made ≡ settings)
behind_trials early whole late made settings h = grind arith

-- A key that may stand once doesn't stand yet.
pub none_yet : {X : Type 0} (xs : List X) → once xs ≡ None → xs ≡ []
none_yet xs e = grind arith

-- WHAT HOLDS OF ALL LINES

-- What each line without a fault keeps holds of all lines where none has one.
pub no_fault_keeps : {L : Type 0} (wrong : List L → L → Option Fault) (P : List L → Type 0)
    → ((before : List L) (line : L) → wrong before line ≡ None → P before
    → P (before ++ line ∷ []))
    → (before lines : List L) → first_fault wrong before lines ≡ None → P before
    → P (before ++ lines)
no_fault_keeps wrong P step before [] none holds = subst P (sym (append-nil before)) holds
no_fault_keeps wrong P step before (line ∷ more) none holds =
    let parts = no_fault_parts (length before + 1) (wrong before line)
    (first_fault wrong (before ++ line ∷ []) more) none in
    subst P (append_assoc before (line ∷ []) more)
    (no_fault_keeps wrong P step (before ++ line ∷ []) more parts.1
    (step before line parts.0 holds))

-- What each line without a fault keeps of what lines give holds of what all of them give.
pub given_keeps : {L Y : Type 0} (wrong : List L → L → Option Fault) (give : L → Option Y)
    (P : List Y → Type 0) → P []
    → ((before : List L) (line : L) → wrong before line ≡ None → P (filter_map give before)
    → P (filter_map give before ++ option_to_list (give line)))
    → (said : List L) → first_fault wrong [] said ≡ None → P (filter_map give said)
given_keeps wrong give P first step said none =
    no_fault_keeps wrong (λ before. P (filter_map give before))
    (λ before line e holds. rw (filter_one give before line) (step before line e holds))
    [] said none first

-- What holds of what is there holds of a list of it.
pub all_option : {Y : Type 0} (P : Y → Type 0) (o : Option Y) → IfSome o P
    → All P (option_to_list o)
all_option P None is = All-nil P
all_option P (Some y) is = All-cons P y [] is (All-nil P)

-- What holds of what a line says holds of what each of lines says.
pub all_said : {S : Type 0} (Says : List S → List ℕ → S → Type 0) (P : S → Type 0)
    → ((before : List S) (line : List ℕ) (one : S) → Says before line one → P one)
    → (before : List S) (lines : List (List ℕ)) (said : List S) → SayEach Says before lines said
    → All P said
all_said Says P holds before [] [] h = All-nil P
all_said Says P holds before (line ∷ lines) (one ∷ said) h =
    All-cons P one said (holds before line one h.0)
    (all_said Says P holds (before ++ one ∷ []) lines said h.1)
all_said Says P holds before lines said h = absurd h

-- What holds of what a line gives holds of what each of lines gives.
pub all_given : {L Y : Type 0} (R : L → Type 0) (P : Y → Type 0) (give : L → Option Y)
    → ((one : L) → R one → IfSome (give one) P) → (said : List L) → All R said
    → All P (filter_map give said)
all_given R P give holds [] all = All-nil P
all_given {L} {Y} R P give holds (one ∷ said) all =
    joined (give one) (holds one (All-head R one said all))
    (all_given R P give holds said (All-tail R one said all))
  where
    joined : (o : Option Y) → IfSome o P → All P (filter_map give said)
        → All P (cons_option o (filter_map give said))
    joined None is rest = rest
    joined (Some y) is rest = All-cons P y (filter_map give said) is rest

-- What holds of all that a line gives holds of all that lines give.
pub all_listed : {L Y : Type 0} (R : L → Type 0) (P : Y → Type 0) (give : L → List Y)
    → ((one : L) → R one → All P (give one)) → (said : List L) → All R said
    → All P (flat_map give said)
all_listed R P give holds [] all = All-nil P
all_listed R P give holds (one ∷ said) all =
    All-append P (give one) (flat_map give said) (holds one (All-head R one said all))
    (all_listed R P give holds said (All-tail R one said all))

-- What each line without a fault gives holds of what all of them give.
pub listed_without_fault : {L Y : Type 0} (wrong : List L → L → Option Fault) (P : Y → Type 0)
    (give : L → List Y)
    → ((before : List L) (line : L) → wrong before line ≡ None → All P (give line))
    → (said : List L) → first_fault wrong [] said ≡ None → All P (flat_map give said)
listed_without_fault wrong P give holds said none =
    no_fault_keeps wrong (λ before. All P (flat_map give before))
    (λ before line e all. rw (flat_one give before line)
    (All-append P (flat_map give before) (give line) all (holds before line e)))
    [] said none (All-nil P)

-- NUMBERS

-- What holds of no number, and of each within a range, holds of what is read within it.
pub within_range : {Y : Type 0} (P : Y → Type 0) (f : Option ℕ → Y) (least most : ℕ)
    (word : List ℕ) → P (f None) → ((n : ℕ) → least ≤ n → n ≤ most → P (f (Some n)))
    → P (f (number_within least most word))
within_range P f least most word none some =
    let n = digits_value 10 word in
    cond_both (is_numeral word && nat_le least n && nat_le n most) (Some n) None (λ o. P (f o))
    (λ e.
    let both = and_parts (is_numeral word && nat_le least n) (nat_le n most) e in
    let one = and_parts (is_numeral word) (nat_le least n) both.0 in
    some n (leb-true least n one.1) (leb-true n most both.1))
    (λ e. none)
