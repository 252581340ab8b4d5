-- What is noted is in order, so that it is read again as it is written.
use Rattle.std.proofs.Common.{◌≡◌, ◌∙◌, ℕ, ◌-◌, ◌<◌, ◌≤◌, Bool, true, false, List, [], ◌∷◌, ◌++◌}
use Rattle.std.proofs.Common.{◌==◌, ◌*◌, Option, Some, None, refl, ap, sym, subst, arith, drop}
use Rattle.std.proofs.Common.{length, suc, zero}
use Rattle.std.specs.Prelude.{◌||◌, All, cond, filter, nat_le, nat_lt}
use Rattle.std.proofs.lemmas.Bool.{and_from, and_parts, leb-true, le-leb, ltb-true, lt-ltb}
use Rattle.std.proofs.lemmas.List.Elements.{All-cons, All-head, All-nil, All-tail}
use Rattle.buffer_ages.specs.Laws.{each_follows}
use Rattle.buffer_ages.proofs.Few.{last_mark}
use Rattle.buffer_ages.specs.Marks.{behind, is_due, is_due_after, is_due_behind, marked, noted}
use Rattle.buffer_ages.specs.Text.{may_follow}
use Rattle.buffer_ages.specs.declared.marks.Mark.{Mark}

-- What may follow a mark may follow what that may follow.
over : (last : Option Mark) (middle mark : Mark) → may_follow last middle ≡ true
    → may_follow (Some middle) mark ≡ true → may_follow last mark ≡ true
over None middle mark one two = refl
over (Some last) middle mark one two =
    let a = and_parts (nat_lt last.front middle.front) (nat_le last.moment middle.moment) one in
    let b = and_parts (nat_lt middle.front mark.front) (nat_le middle.moment mark.moment) two in
    let c = ltb-true last.front middle.front a.0 in
    let d = ltb-true middle.front mark.front b.0 in
    let e = leb-true last.moment middle.moment a.1 in
    let f = leb-true middle.moment mark.moment b.1 in
    and_from (nat_lt last.front mark.front) (nat_le last.moment mark.moment)
    (lt-ltb last.front mark.front (omega (arith, c, d)))
    (le-leb last.moment mark.moment (omega (arith, e, f)))

-- Without the first they follow what that follows,
without_first : (last : Option Mark) (mark : Mark) (marks : List Mark)
    → each_follows last (mark ∷ marks) ≡ true → each_follows last marks ≡ true
without_first last mark [] are = refl
without_first last mark (next ∷ marks) are =
    let one = and_parts (may_follow last mark) (each_follows (Some mark) (next ∷ marks)) are in
    let two = and_parts (may_follow (Some mark) next) (each_follows (Some next) marks) one.1 in
    and_from (may_follow last next) (each_follows (Some next) marks)
    (over last mark next one.0 two.0) two.1

-- so some of them do.
pub some_follow : (p : Mark → Bool) (last : Option Mark) (marks : List Mark)
    → each_follows last marks ≡ true → each_follows last (filter p marks) ≡ true
some_follow p last [] are = refl
some_follow p last (mark ∷ marks) are =
    let one = and_parts (may_follow last mark) (each_follows (Some mark) marks) are in
    by (p mark) refl
    (and_from (may_follow last mark) (each_follows (Some mark) (filter p marks)) one.0
    (some_follow p (Some mark) marks one.1))
    (some_follow p last marks (without_first last mark marks are))
  where
    by : (b : Bool) → p mark ≡ b
        → each_follows last (mark ∷ filter p marks) ≡ true
        → each_follows last (filter p marks) ≡ true
        → each_follows last (filter p (mark ∷ marks)) ≡ true
    by true is kept left = rw is kept
    by false is kept left = rw is left

-- What follows something is in order by itself,
alone : (last : Option Mark) (marks : List Mark) → each_follows last marks ≡ true
    → each_follows None marks ≡ true
alone last [] are = refl
alone last (mark ∷ marks) are =
    (and_parts (may_follow last mark) (each_follows (Some mark) marks) are).1

-- and so is what is left of it behind a place.
left_follow : (k : ℕ) (marks : List Mark) → each_follows None marks ≡ true
    → each_follows None (drop k marks) ≡ true
left_follow zero marks are = are
left_follow (suc k) [] are = refl
left_follow (suc k) (mark ∷ marks) are = left_follow k marks (alone (Some mark) marks are)

-- A mark that may follow each of them may stand behind them.
one_behind : (last : Option Mark) (marks : List Mark) (mark : Mark)
    → each_follows last marks ≡ true → may_follow last mark ≡ true
    → All (λ other. may_follow (Some other) mark ≡ true) marks
    → each_follows last (marks ++ mark ∷ []) ≡ true
one_behind last [] mark are may each = and_from (may_follow last mark) true may refl
one_behind last (other ∷ marks) mark are may each =
    let P : Mark → Type 0 = λ one. may_follow (Some one) mark ≡ true in
    let parts = and_parts (may_follow last other) (each_follows (Some other) marks) are in
    and_from (may_follow last other) (each_follows (Some other) (marks ++ mark ∷ [])) parts.0
    (one_behind (Some other) marks mark parts.1 (All-head P other marks each)
    (All-tail P other marks each))

-- So it is of those behind a place,
left_all : (P : Mark → Type 0) (k : ℕ) (marks : List Mark) → All P marks → All P (drop k marks)
left_all P zero marks all = all
left_all P (suc k) [] all = All-nil P
left_all P (suc k) (mark ∷ marks) all = left_all P k marks (All-tail P mark marks all)

-- and of those that pass: of each that passes the one holds, of all the other.
passed_all : (P Q : Mark → Type 0) (p : Mark → Bool)
    → ((mark : Mark) → p mark ≡ true → P mark → Q mark)
    → (marks : List Mark) → All P marks → All Q (filter p marks)
passed_all P Q p each [] all = All-nil Q
passed_all P Q p each (mark ∷ marks) all =
    by (p mark) refl (passed_all P Q p each marks (All-tail P mark marks all))
  where
    by : (b : Bool) → p mark ≡ b → All Q (filter p marks) → All Q (filter p (mark ∷ marks))
    by true is rest =
        rw is (All-cons Q mark (filter p marks) (each mark is (All-head P mark marks all)) rest)
    by false is rest = rw is rest

-- One in front of others is less far than the last,
first_behind : (mark : Mark) (marks : List Mark) (newest : Mark)
    → each_follows (Some mark) (marks ++ newest ∷ []) ≡ true → mark.front ≤ newest.front
first_behind mark [] newest are =
    let one = and_parts (may_follow (Some mark) newest) true are in
    let two = and_parts (nat_lt mark.front newest.front) (nat_le mark.moment newest.moment) one.0 in
    let less = ltb-true mark.front newest.front two.0 in
    omega (arith, less)
first_behind mark (other ∷ marks) newest are =
    let one = and_parts (may_follow (Some mark) other)
    (each_follows (Some other) (marks ++ newest ∷ [])) are in
    let two = and_parts (nat_lt mark.front other.front) (nat_le mark.moment other.moment) one.0 in
    let less = ltb-true mark.front other.front two.0 in
    let rest = first_behind other marks newest one.1 in
    omega (arith, less, rest)

-- so none is farther.
none_farther : (last : Option Mark) (marks : List Mark) (newest : Mark)
    → each_follows last (marks ++ newest ∷ []) ≡ true
    → All (λ mark. mark.front ≤ newest.front) (marks ++ newest ∷ [])
none_farther last [] newest are =
    let P : Mark → Type 0 = λ one. one.front ≤ newest.front in
    let still : (n : ℕ) → n ≤ n = λ n. omega arith in
    All-cons P newest [] (still newest.front) (All-nil P)
none_farther last (mark ∷ marks) newest are =
    let P : Mark → Type 0 = λ one. one.front ≤ newest.front in
    let parts = and_parts (may_follow last mark) (each_follows (Some mark) (marks ++ newest ∷ []))
    are in
    All-cons P mark (marks ++ newest ∷ []) (first_behind mark marks newest parts.1)
    (none_farther (Some mark) marks newest parts.1)

-- Marks are none, or end with one.
data Ends (marks : List Mark) : Type 0 where
  ends_none : marks ≡ [] → Ends marks
  ends_with : (front : List Mark) (last : Mark) → marks ≡ front ++ last ∷ [] → Ends marks

-- So it is with one more in front.
more_end : (mark : Mark) (marks : List Mark) → Ends marks → Ends (mark ∷ marks)
more_end mark marks (ends_none is) = ends_with [] mark (ap (λ (o : List Mark). mark ∷ o) is)
more_end mark marks (ends_with front last is) =
    ends_with (mark ∷ front) last (ap (λ (o : List Mark). mark ∷ o) is)

ends_of : (marks : List Mark) → Ends marks
ends_of [] = ends_none refl
ends_of (mark ∷ marks) = more_end mark marks (ends_of marks)

-- A new mark stands in order behind marks that are less far.
marked_order : (marks : List Mark) (mark : Mark) → each_follows None marks ≡ true
    → All (λ other. other.front < mark.front) marks → each_follows None (marked marks mark) ≡ true
marked_order marks mark are less =
    let P : Mark → Type 0 = λ other. other.front < mark.front in
    let Q : Mark → Type 0 = λ other. may_follow (Some other) mark ≡ true in
    let until : Mark → Bool = λ other. nat_le other.moment mark.moment in
    let some = filter until marks in
    let place = length some - 64 in
    let each : (other : Mark) → until other ≡ true → P other → Q other =
    λ other early near. and_from (nat_lt other.front mark.front) (nat_le other.moment mark.moment)
    (lt-ltb other.front mark.front near) early in
    one_behind None (drop place some) mark
    (left_follow place some (some_follow until None marks are))
    refl (left_all Q place some (passed_all P Q until each marks less))

-- Where a mark is due marks are less far than the front.
due_less : (marks : List Mark) (front blocks : ℕ) → Ends marks → each_follows None marks ≡ true
    → is_due marks front blocks ≡ true → All (λ mark. mark.front < front) marks
due_less marks front blocks (ends_none is) are due =
    let P : Mark → Type 0 = λ mark. mark.front < front in
    subst (All P) (sym is) (All-nil P)
due_less marks front blocks (ends_with before last is) are due =
    let P : Mark → Type 0 = λ mark. mark.front ≤ last.front in
    let Q : Mark → Type 0 = λ mark. mark.front < front in
    let told : is_due_after last front blocks ≡ true =
    sym (ap (λ (o : Option Mark). is_due_behind o front blocks) (last_mark before last))
    ∙ sym (ap (λ (o : List Mark). is_due o front blocks) is) ∙ due in
    let parts = and_parts (nat_lt last.front front)
    (last.front == 0 || nat_le blocks ((front - last.front) * 64)) told in
    let less = ltb-true last.front front parts.0 in
    let each : (mark : Mark) → P mark → Q mark = λ mark near. omega (arith, near, less) in
    subst (All Q) (sym is) (all_so P Q each (before ++ last ∷ [])
    (none_farther None before last (subst (λ (o : List Mark). each_follows None o ≡ true) is are)))
  where
    all_so : (P Q : Mark → Type 0) → ((mark : Mark) → P mark → Q mark) → (some : List Mark)
        → All P some → All Q some
    all_so P Q each [] all = All-nil Q
    all_so P Q each (mark ∷ some) all =
        All-cons Q mark some (each mark (All-head P mark some all))
        (all_so P Q each some (All-tail P mark some all))

-- What is noted is in order.
pub noted_order : (marks : List Mark) (front blocks moment : ℕ) → each_follows None marks ≡ true
    → each_follows None (noted marks front blocks moment) ≡ true
noted_order marks front blocks moment are =
    let some = behind front marks in
    let ordered = some_follow (λ (mark : Mark). nat_le mark.front front) None marks are in
    by some ordered (is_due some front blocks) refl
  where
    by : (some : List Mark) → each_follows None some ≡ true → (b : Bool)
        → is_due some front blocks ≡ b
        → each_follows None (cond b (marked some (record { front = front; moment = moment })) some)
        ≡ true
    by some ordered true due =
        marked_order some (record { front = front; moment = moment }) ordered
        (due_less some front blocks (ends_of some) ordered due)
    by some ordered false due = ordered
