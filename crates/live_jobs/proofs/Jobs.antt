-- Kept jobs in a set.
use Rattle.std.proofs.Common.{◌≡◌, ◌∙◌, ◌<◌, ◌+◌, ◌&&◌, ◌||◌, ◌==◌, ℕ, Bool, true, false, cond, not}
use Rattle.std.proofs.Common.{List, [], ◌∷◌, length, map, take, drop, get_or, count_by, sym}
use Rattle.std.proofs.Common.{ap, refl, arith}
use Rattle.std.proofs.lemmas.Bool.Decides.{nat_tests}
use Rattle.std.proofs.lemmas.List.{at_drop_more, get_or-map, length-map}
use Rattle.std.proofs.lemmas.List.Sums.{count_by_more_no, count_by_more_yes, sum_by-cons}
use Rattle.std.specs.BTreeSet.{BTreeSet}
use Rattle.std.specs.List.{list_any}
use Rattle.std.specs.Ordering.{is_eq, nat_cmp, ordering_then}
use Rattle.std.specs.declared.cmp.Ordering.{Ordering}
use Rattle.std.specs.declared.cmp.Ordering.TheVariants.{Less, Equal, Greater}
use Rattle.live_jobs.specs.Mismatches.{is_kept_as, is_conflict, is_receipt_of, conflicts_in}
use Rattle.live_jobs.specs.FinishedLists.{told_of_job}
use Rattle.live_jobs.specs.Sets.{has_job}
use Rattle.live_jobs.specs.Mismatches.{mismatched_of, mismatched_from}
use Rattle.live_jobs.specs.Sets.{unlisted_of, unlisted_from}
use Rattle.live_jobs.specs.declared.desk.both.Posted.{Posted}
use Rattle.live_jobs.specs.declared.finished.ToldJob.{ToldJob}
use Rattle.live_store.specs.declared.record.StorePremises.{Ghosts}
use Rattle.live_jobs.specs.declared.outcome.FinishedJob.{FinishedJob}
use Rattle.live_jobs.specs.declared.store_result.StoreResult.{StoreResult}
use Rattle.live_jobs.specs.declared.store_result.StoreResult.TheVariants as store_results
use Rattle.live_jobs.specs.declared.store_result.KeptJob.{KeptJob}
use Rattle.live_store.specs.declared.stored.Receipt.{Receipt}
use denote.Ref.{Bor}

same_number : (a b : ℕ) → is_eq (nat_cmp a b) ≡ (a == b)
same_number a b = grind (arith, nat_tests)

both_equal : (x y : Ordering) → is_eq (ordering_then x y) ≡ (is_eq x && is_eq y)
both_equal Less y = refl
both_equal Equal y = refl
both_equal Greater y = refl

same_job : (a b c x y z : ℕ)
    → is_eq (ordering_then (ordering_then (nat_cmp a x) (nat_cmp b y)) (nat_cmp c z))
    ≡ ((a == x) && ((b == y) && (c == z)))
same_job a b c x y z =
    both_equal (ordering_then (nat_cmp a x) (nat_cmp b y)) (nat_cmp c z)
    ∙ ap (λ (e : Bool). e && is_eq (nat_cmp c z)) (both_equal (nat_cmp a x) (nat_cmp b y))
    ∙ and_assoc (is_eq (nat_cmp a x)) (is_eq (nat_cmp b y)) (is_eq (nat_cmp c z))
    ∙ ap (λ (e : Bool). e && (is_eq (nat_cmp b y) && is_eq (nat_cmp c z))) (same_number a x)
    ∙ ap (λ (e : Bool). (a == x) && (e && is_eq (nat_cmp c z))) (same_number b y)
    ∙ ap (λ (e : Bool). (a == x) && ((b == y) && e)) (same_number c z)
  where
    and_assoc : (p q r : Bool) → ((p && q) && r) ≡ (p && (q && r))
    and_assoc true q r = refl
    and_assoc false q r = refl

one_apart : (e old rest : Bool) → (cond e true old || rest) ≡ (old || (e || rest))
one_apart true true rest = refl
one_apart true false rest = refl
one_apart false true rest = refl
one_apart false false rest = refl

-- after one more kept job, of those that were left to add
pub one_more_job : {J : Type 0} {g : Ghosts J} (d : FinishedJob (StoreResult J g))
    (left rest : List (FinishedJob (StoreResult J g))) (receipt : Receipt J g)
    (posted : Posted) (told : ℕ)
    (old new all : Bool) (end number register : ℕ)
    → left ≡ d ∷ rest → d.outcome ≡ store_results.Kept receipt posted → told ≡ receipt.shown.index
    → new ≡ cond (is_eq (ordering_then (ordering_then (nat_cmp d.end end) (nat_cmp d.number number))
    (nat_cmp told register))) true old
    → (old || list_any (is_receipt_of end number register) left) ≡ all
    → (new || list_any (is_receipt_of end number register) rest) ≡ all
one_more_job {J} {g} d left rest receipt posted told old new all e n register from is read put was =
    let test : FinishedJob (StoreResult J g) → Bool = is_receipt_of e n register in
    let named : Bool → Bool = λ kept. (d.end == e) && ((d.number == n) && kept) in
    ap (λ (b : Bool). b || list_any test rest)
    (put
    ∙ ap (λ (b : Bool). cond b true old) (same_job d.end d.number told e n register)
    ∙ ap (λ (r : ℕ). cond (named (r == register)) true old) read
    ∙ ap (λ (f : StoreResult J g). cond (named (is_kept_as register f)) true old) (sym is))
    ∙ one_apart (test d) old (list_any test rest)
    ∙ ap (λ (ds : List (FinishedJob (StoreResult J g))). old || list_any test ds) (sym from)
    ∙ was

none_named : (p q : Bool) → (p && (q && false)) ≡ false
none_named true true = refl
none_named true false = refl
none_named false q = refl

-- a job that isn't kept is no job of the set
pub no_job : {J : Type 0} {g : Ghosts J} (d : FinishedJob (StoreResult J g))
    (left rest : List (FinishedJob (StoreResult J g)))
    (outcome : StoreResult J g) (old all : Bool) (end number register : ℕ) → left ≡ d ∷ rest
    → d.outcome ≡ outcome → is_kept_as register outcome ≡ false
    → (old || list_any (is_receipt_of end number register) left) ≡ all
    → (old || list_any (is_receipt_of end number register) rest) ≡ all
no_job {J} {g} d left rest outcome old all e n register from is none was =
    let test : FinishedJob (StoreResult J g) → Bool = is_receipt_of e n register in
    let named : Bool → Bool = λ kept. (d.end == e) && ((d.number == n) && kept) in
    let not_one : test d ≡ false =
    ap (λ (f : StoreResult J g). named (is_kept_as register f)) is ∙ ap named none
    ∙ none_named (d.end == e) (d.number == n)
    in
    ap (λ (b : Bool). old || (b || list_any test rest)) (sym not_one)
    ∙ ap (λ (ds : List (FinishedJob (StoreResult J g))). old || list_any test ds) (sym from)
    ∙ was

-- where one of those that are left is in conflict, or isn't
pub conflicts_next : {J : Type 0} {g : Ghosts J} (d : FinishedJob (StoreResult J g))
    (left rest : List (FinishedJob (StoreResult J g))) (outcome : StoreResult J g) → left ≡ d ∷ rest
    → d.outcome ≡ outcome → conflicts_in left ≡ cond (is_conflict outcome) 1 0 + conflicts_in rest
conflicts_next {J} {g} d left rest outcome from is =
    ap (λ (ds : List (FinishedJob (StoreResult J g))). conflicts_in ds) from
    ∙ sum_by-cons (λ (x : FinishedJob (StoreResult J g)). cond (is_conflict x.outcome) 1 0) d rest
    ∙ ap (λ (f : StoreResult J g). cond (is_conflict f) 1 0 + conflicts_in rest) is

-- the jobs from one on, of which this is kept
pub told_next : {O : Type 0} (items : List (FinishedJob O)) (told : List (ToldJob O)) (i : ℕ)
    (one : ToldJob O) → told ≡ map told_of_job items → i < length told → one ≡ get_or told i one
    → (id : List ℕ) × (drop i items
    ≡ record { end = one.end; number = one.number; id = id; outcome = one.outcome }
    ∷ drop (i + 1) items)
told_next {O} items told i one kept below at =
    let any : FinishedJob O =
    record { end = one.end; number = one.number; id = []; outcome = one.outcome } in
    let d : FinishedJob O = get_or items i any in
    let few : i < length items =
    omega (
      arith,
      below,
      ap (λ (l : List (ToldJob O)). length l) kept,
      length-map items (λ (x : FinishedJob O). told_of_job x),
    ) in
    let same : told_of_job d ≡ one =
    sym (at ∙ ap (λ (l : List (ToldJob O)). get_or l i one) kept
    ∙ get_or-map (λ (x : FinishedJob O). told_of_job x) items i any one few) in (
      d.id,
      at_drop_more (λ (l : List (FinishedJob O)). l) items i any few
          ∙ ap (λ (t : ToldJob O).
          record { end = t.end; number = t.number; id = d.id; outcome = t.outcome }
          ∷ drop (i + 1) items) same,
    )

-- an answer whose job is one of the set, or none of it
answer_next : {J : Type 0} {g : Ghosts J} (jobs : BTreeSet (ℕ × ℕ × ℕ)) (end : ℕ)
    (answers : List (KeptJob J g)) (i : ℕ) (a : KeptJob J g) (told : ℕ) (found : Bool)
    → a ≡ get_or answers i a → told ≡ a.register → found ≡ has_job jobs end a.number told
    → not (has_job jobs end (get_or answers i a).number (get_or answers i a).register)
    ≡ not found
answer_next {J} {g} jobs end answers i a told found at reads is =
    ap (λ (x : KeptJob J g). not (has_job jobs end x.number x.register)) (sym at)
    ∙ ap (λ (n : ℕ). not (has_job jobs end a.number n)) (sym reads)
    ∙ ap not (sym is)

pub answer_listed : {J : Type 0} {g : Ghosts J} (jobs : BTreeSet (ℕ × ℕ × ℕ)) (end : ℕ)
    (answers : List (KeptJob J g)) (i : ℕ) (a : KeptJob J g) (told : ℕ) (found : Bool)
    → i < length answers → a ≡ get_or answers i a → told ≡ a.register
    → found ≡ has_job jobs end a.number told → found ≡ true
    → unlisted_of jobs end (take (i + 1) answers) ≡ unlisted_of jobs end (take i answers)
answer_listed {J} {g} jobs end answers i a told found below at reads is listed =
    count_by_more_no (λ (x : KeptJob J g). not (has_job jobs end x.number x.register))
    answers i a below (answer_next jobs end answers i a told found at reads is ∙ ap not listed)

pub answer_unlisted : {J : Type 0} {g : Ghosts J} (jobs : BTreeSet (ℕ × ℕ × ℕ)) (end : ℕ)
    (answers : List (KeptJob J g)) (i : ℕ) (a : KeptJob J g) (told : ℕ) (found : Bool)
    → i < length answers → a ≡ get_or answers i a → told ≡ a.register
    → found ≡ has_job jobs end a.number told → found ≡ false
    → unlisted_of jobs end (take (i + 1) answers) ≡ unlisted_of jobs end (take i answers) + 1
answer_unlisted {J} {g} jobs end answers i a told found below at reads is missing =
    count_by_more_yes (λ (x : KeptJob J g). not (has_job jobs end x.number x.register))
    answers i a below (answer_next jobs end answers i a told found at reads is ∙ ap not missing)

-- where the set has just the kept jobs, an answer is for none of them where it has no receipt
pub as_receipts : {J : Type 0} {g : Ghosts J} (jobs : BTreeSet (ℕ × ℕ × ℕ))
    (finished : List (FinishedJob (StoreResult J g)))
    → ((end number register : ℕ) → has_job jobs end number register
    ≡ list_any (is_receipt_of end number register) finished)
    → (end : ℕ) (answers : List (List (KeptJob J g)))
    → unlisted_from jobs end answers ≡ mismatched_from finished end answers
as_receipts jobs finished same end [] = refl
as_receipts {J} {g} jobs finished same end (answers ∷ rest) =
    ap (λ (test : KeptJob J g → Bool). count_by test answers + unlisted_from jobs (end + 1) rest)
    (λ i a. not (same end a.number a.register i))
    ∙ ap (λ (n : ℕ). mismatched_of finished end answers + n)
    (as_receipts jobs finished same (end + 1) rest)

-- the answers of one end, and those of the ends after it
pub ends_next : {J : Type 0} {g : Ghosts J} (jobs : BTreeSet (ℕ × ℕ × ℕ))
    (answers : List (Bor (List (KeptJob J g)))) (end : ℕ) (a : Bor (List (KeptJob J g)))
    → end < length answers → a ≡ get_or answers end a
    → unlisted_from jobs end (drop end (map (λ x. x.now) answers))
    ≡ unlisted_of jobs end a.now
    + unlisted_from jobs (end + 1) (drop (end + 1) (map (λ x. x.now) answers))
ends_next {J} {g} jobs answers end a below at =
    let lists : List (List (KeptJob J g)) = map (λ (x : Bor (List (KeptJob J g))). x.now) answers in
    let long = length-map answers (λ (x : Bor (List (KeptJob J g))). x.now) in
    at_drop_more (unlisted_from jobs end) lists end a.now (omega (arith, long, below))
    ∙ ap (λ (x : List (KeptJob J g)). unlisted_of jobs end x
    + unlisted_from jobs (end + 1) (drop (end + 1) lists))
    (get_or-map (λ (x : Bor (List (KeptJob J g))). x.now) answers end a a.now below
    ∙ ap (λ (x : Bor (List (KeptJob J g))). x.now) (sym at))

-- no job is one of an empty set
pub none_yet : (jobs : BTreeSet (ℕ × ℕ × ℕ)) (end number register : ℕ) → jobs.keys ≡ []
    → has_job jobs end number register ≡ false
none_yet jobs end number register none =
    ap (λ (keys : List (ℕ × ℕ × ℕ)). has_job (record { keys = keys }) end number register) none
