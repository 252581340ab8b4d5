-- Which text of an id has it.
use Rattle.std.proofs.Common.{◌≡◌, ◌∙◌, ap, sym, refl, arith, Bool, true, false, ◌||◌}
use Rattle.std.proofs.Common.{◌+◌, ◌≤◌, ◌++◌, ℕ, List, [], ◌∷◌, cond}
use Rattle.std.proofs.Common.{drop, length, not, Option, None}
use Rattle.std.proofs.Common.{Some}
use Rattle.std.specs.Prelude.{count_by, reverse}
use Rattle.std.proofs.lemmas.Bool.{false≢true}
use Rattle.std.proofs.lemmas.List.{reverse-append}
use Rattle.std.proofs.lemmas.List.Sums.{sum_by-cons}
use Rattle.std.proofs.lemmas.Slice.Eq.{bytes_eq-Decides}
use Rattle.std.specs.List.{AllZip, list_any}
use Rattle.std.specs.Str.{bytes_eq}
use Rattle.id_history.specs.Mark.{mark_of, no_article}
use Rattle.id_history.specs.Shards.{KeepsAll}
use Rattle.id_history.specs.declared.shards.Shards.{Shards}
use Rattle.news_terms.specs.Article.{is_empty}
use Rattle.relay_model.specs.Claims.{Claim, Unknown, Storing, Waiting, Mine, Held, Had}
use Rattle.relay_model.specs.Claims.{take_answer, after_take}
use Rattle.relay_model.specs.Crash.{Again, claimed, is_claimed}
use Rattle.relay_model.specs.State.{put_id}
use Rattle.relay_model.specs.Terms.{Terms}
use Rattle.found_again.specs.Claiming.{is_id, has_id, is_had, without_id, claimed_before}
use Rattle.found_again.specs.Claiming.{claimed_by_last}
use Rattle.found_again.specs.Taken.{taken}
use Rattle.found_again.specs.Texts.{IsText, octets_of}
use Rattle.found_again.specs.declared.text.FoundText.{FoundText}

-- shards that keep claims keep those that are equal to them
pub keeps_same : (shards : Shards) (claims others : List ℕ → Claim)
    → ((id : List ℕ) → claims id ≡ others id) → KeepsAll shards claims → KeepsAll shards others
keeps_same shards claims others same keeps =
    record { agrees = λ id none. keeps.agrees id none ∙ ap mark_of (same id) }

-- an id that is taken, or of which nothing is known
abbrev taken_if : Bool → Claim
taken_if is = cond is (Storing 0 no_article Waiting) Unknown

-- it is the session's where nothing is known of it
pub new_of : (is : Bool) → Mine ≡ take_answer 0 (taken_if is) → is ≡ false
new_of true says = absurd cc
new_of false says = refl

-- else it is taken
pub old_of : (is : Bool) → Held ≡ take_answer 0 (taken_if is) → is ≡ true
old_of true says = refl
old_of false says = absurd cc

pub had_of : (is : Bool) → Had ≡ take_answer 0 (taken_if is) → is ≡ true
had_of true says = absurd cc
had_of false says = absurd cc

-- a text of no id takes none
pub taken_without : (text : FoundText) (later : List FoundText) → text.id ≡ None
    → (other : List ℕ) → taken later other ≡ taken (text ∷ later) other
taken_without text later none other =
    ap (λ (id : Option (List ℕ)). taken_if (is_id other id || list_any (has_id other) later))
    (sym none)

-- a text of an id takes it, whoever had it
pub taken_with : (text : FoundText) (later : List FoundText) (id : List ℕ) → text.id ≡ Some id
    → (other : List ℕ)
    → put_id (taken later) id (after_take 0 no_article (taken later id)) other
    ≡ taken (text ∷ later) other
taken_with text later id is other =
    by (bytes_eq other id) refl
    ∙ ap (λ (own : Option (List ℕ)). taken_if (is_id other own || list_any (has_id other) later))
    (sym is)
  where
    had : (has : Bool) → after_take 0 no_article (taken_if has) ≡ Storing 0 no_article Waiting
    had true = refl
    had false = refl

    by : (same : Bool) → bytes_eq other id ≡ same
        → cond same (after_take 0 no_article (taken later id)) (taken later other)
        ≡ taken_if (same || list_any (has_id other) later)
    by true at = had (list_any (has_id id) later)
    by false at = refl

-- what has the id is of it
is_of : (id : List ℕ) (own : Option (List ℕ)) (later : List FoundText) → is_id id own ≡ true
    → is_had own later ≡ list_any (has_id id) later
is_of id None later has = absurd (false≢true has)
is_of id (Some own) later has =
    ap (λ (x : List ℕ). list_any (has_id x) later) (sym ((bytes_eq-Decides id own).0 has))

-- whether one of them has the id is as before
pub same_ids : (id : List ℕ) (texts : List FoundText)
    → list_any (has_id id) (claimed_by_last texts) ≡ list_any (has_id id) texts
same_ids id [] = refl
same_ids id (text ∷ later) =
    ap (λ (b : Bool). has_id id (claimed_before later text) || b) (same_ids id later)
    ∙ by (is_had text.id later) refl (has_id id text) refl
  where
    by : (had : Bool) → is_had text.id later ≡ had → (has : Bool) → has_id id text ≡ has
        → (has_id id (cond had (without_id text) text) || list_any (has_id id) later)
        ≡ (has_id id text || list_any (has_id id) later)
    by false at has is = refl
    by true at true is =
        sym (is_of id text.id later is) ∙ at ∙ ap (λ (b : Bool). b || list_any (has_id id) later)
        (sym is)
    by true at false is = ap (λ (b : Bool). b || list_any (has_id id) later) (sym is)

-- a count, by the first
count_first : {X : Type 0} (p : X → Bool) (one : X) (others : List X) (is : Bool) → p one ≡ is
    → count_by p (one ∷ others) ≡ cond is 1 0 + count_by p others
count_first p one others is at =
    sum_by-cons (λ other. cond (p other) 1 0) one others
    ∙ ap (λ (b : Bool). cond b 1 0 + count_by p others) at

-- where none has the id, none is counted
none_counted : (id : List ℕ) (texts : List FoundText) → list_any (has_id id) texts ≡ false
    → count_by (has_id id) texts ≡ 0
none_counted id [] none = refl
none_counted id (text ∷ texts) none =
    by (has_id id text) refl none (λ others. none_counted id texts others)
  where
    by : (has : Bool) → has_id id text ≡ has → (has || list_any (has_id id) texts) ≡ false
        → (list_any (has_id id) texts ≡ false → count_by (has_id id) texts ≡ 0)
        → count_by (has_id id) (text ∷ texts) ≡ 0
    by true at none others = absurd (false≢true (sym none))
    by false at none others =
        let rest : count_by (has_id id) texts ≡ 0 = others none in
        let first : count_by (has_id id) (text ∷ texts) ≡ 0 + count_by (has_id id) texts =
        count_first (has_id id) text texts false at in
        omega (arith, rest, first)

-- one of them has the id at most
pub one_has : (id : List ℕ) (texts : List FoundText)
    → count_by (has_id id) (claimed_by_last texts) ≤ 1
one_has id [] = omega arith
one_has id (text ∷ later) =
    by (is_had text.id later) refl (has_id id text) refl (one_has id later)
  where
    others : List FoundText
    others = claimed_by_last later

    by : (had : Bool) → is_had text.id later ≡ had → (has : Bool) → has_id id text ≡ has
        → count_by (has_id id) others ≤ 1
        → count_by (has_id id) (cond had (without_id text) text ∷ others) ≤ 1
    by true at has is few =
        let first : count_by (has_id id) (without_id text ∷ others)
        ≡ 0 + count_by (has_id id) others =
        count_first (has_id id) (without_id text) others false refl in
        omega (arith, first, few)
    by false at false is few =
        let first : count_by (has_id id) (text ∷ others) ≡ 0 + count_by (has_id id) others =
        count_first (has_id id) text others false is in
        omega (arith, first, few)
    by false at true is few =
        let none : count_by (has_id id) others ≡ 0 =
        none_counted id others (same_ids id later ∙ sym (is_of id text.id later is) ∙ at) in
        let first : count_by (has_id id) (text ∷ others) ≡ 1 + count_by (has_id id) others =
        count_first (has_id id) text others true is in
        omega (arith, first, none)

-- one text more has its id, or not
pub one_claimed : (before after : List FoundText) (text one : FoundText) (had : Bool)
    (later all : List FoundText) → after ≡ before ++ one ∷ []
    → one ≡ cond had (without_id text) text → had ≡ is_had text.id later
    → reverse before ≡ claimed_by_last later → all ≡ text ∷ later
    → reverse after ≡ claimed_by_last all
one_claimed before after text one had later all more is at claimed are =
    ap reverse more ∙ reverse-append before (one ∷ [])
    ∙ ap (λ (x : FoundText). x ∷ reverse before)
    (is ∙ ap (λ (b : Bool). cond b (without_id text) text) at)
    ∙ ap (λ (xs : List FoundText). claimed_before later text ∷ xs) claimed
    ∙ sym (ap claimed_by_last are)

-- all have, or not
pub all_claimed : (newest_first claimed left texts : List FoundText) → length left ≡ 0
    → claimed ≡ reverse newest_first
    → reverse newest_first ≡ claimed_by_last (drop (length left) texts)
    → claimed ≡ claimed_by_last texts
all_claimed newest_first claimed left texts none is so_far =
    is ∙ so_far ∙ ap (λ (n : ℕ). claimed_by_last (drop n texts)) none

-- what is some id's has the id of its text
own_id : (id : List ℕ) (own : Option (List ℕ)) (one : Again) → octets_of own ≡ one.kept.id
    → is_claimed one ≡ true → bytes_eq id one.kept.id ≡ is_id id own
own_id id None one at claims =
    absurd (false≢true (ap (λ (x : List ℕ). not (is_empty x)) at ∙ claims))
own_id id (Some own) one at claims = ap (bytes_eq id) (sym at)

-- of those that are some id's no more have the id than of their texts
pub no_more_have : (w : Terms) (id : List ℕ) (texts : List FoundText) (again : List Again)
    → AllZip (IsText w) texts again
    → count_by (λ (one : Again). bytes_eq id one.kept.id) (claimed again)
    ≤ count_by (has_id id) texts
no_more_have w id [] [] are = omega arith
no_more_have w id [] (one ∷ again) are = absurd are
no_more_have w id (text ∷ texts) [] are = absurd are
no_more_have w id (text ∷ texts) (one ∷ again) are =
    by (is_claimed one) refl (has_id id text) refl (no_more_have w id texts again are.1)
  where
    p : Again → Bool
    p other = bytes_eq id other.kept.id

    by : (own : Bool) → is_claimed one ≡ own → (has : Bool) → has_id id text ≡ has
        → count_by p (claimed again) ≤ count_by (has_id id) texts
        → count_by p (cond own (one ∷ claimed again) (claimed again))
        ≤ count_by (has_id id) (text ∷ texts)
    by false none has is few =
        let first : count_by (has_id id) (text ∷ texts)
        ≡ cond has 1 0 + count_by (has_id id) texts =
        count_first (has_id id) text texts has is in
        omega (arith, few, first)
    by true claims has is few =
        let first : count_by (has_id id) (text ∷ texts)
        ≡ cond has 1 0 + count_by (has_id id) texts =
        count_first (has_id id) text texts has is in
        let other : count_by p (one ∷ claimed again) ≡ cond has 1 0 + count_by p (claimed again) =
        count_first p one (claimed again) has (own_id id text.id one are.0.id claims ∙ is) in
        omega (arith, few, first, other)
