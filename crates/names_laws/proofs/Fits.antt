-- What of a feed stays whatever its ring.
use Rattle.std.proofs.Common.{◌≡◌, ℕ, ◌-◌, ◌≤◌, zero, suc, List, [], ◌∷◌, length, drop, min, refl}
use Rattle.std.proofs.Common.{ap, sym, arith, Option, Some, None, length-drop}
use Rattle.std.proofs.lemmas.Bool.{cond_both, cond-true, eqb-true, eq-eqb}
use Rattle.std.specs.List.{AllByRecursion}
use Rattle.id_history.specs.History.{FeedHolds, IsThere, KeptFeed, RingHolds}
use Rattle.named_history.specs.Fitting.{feed_by, fitted, is_fit, newest, new_feed, waiting_alone}
use Rattle.news_terms.specs.Token.{Token}

-- A ring that holds what waits changes nothing.
pub fit_same : (ring : ℕ) (feed : KeptFeed) → RingHolds feed ring → fitted ring feed ≡ feed
fit_same ring feed holds =
    cond-true (is_fit ring feed) feed (waiting_alone (newest ring feed.waiting) feed)
    (eq-eqb (length feed.waiting) (min ring (feed.gained - feed.passed)) holds.waiting)

-- What was gained stays,
pub gained_stays : (ring : ℕ) (feed : KeptFeed) → (fitted ring feed).gained ≡ feed.gained
gained_stays ring feed =
    cond_both (is_fit ring feed) feed (waiting_alone (newest ring feed.waiting) feed)
    (λ (new : KeptFeed). new.gained ≡ feed.gained) (λ _. refl) (λ _. refl)

-- and so does what was taken.
pub taken_stays : (ring : ℕ) (feed : KeptFeed) → (fitted ring feed).taken ≡ feed.taken
taken_stays ring feed =
    cond_both (is_fit ring feed) feed (waiting_alone (newest ring feed.waiting) feed)
    (λ (new : KeptFeed). new.taken ≡ feed.taken) (λ _. refl) (λ _. refl)

-- A ring that has room for all of them keeps all.
pub newest_all : (ring : ℕ) (tokens : List Token) → length tokens ≤ ring
    → newest ring tokens ≡ tokens
newest_all ring tokens few =
    let none : length tokens - ring ≡ 0 = omega (arith, few) in
    ap (λ (n : ℕ). drop n tokens) none

-- The newest wait, as many as the ring has room for.
pub newest_wait : (ring : ℕ) (feed : KeptFeed)
    → (fitted ring feed).waiting ≡ newest ring feed.waiting
newest_wait ring feed =
    cond_both (is_fit ring feed) feed (waiting_alone (newest ring feed.waiting) feed)
    (λ (new : KeptFeed). new.waiting ≡ newest ring feed.waiting)
    (λ fit.
    let full : length feed.waiting ≡ min ring (feed.gained - feed.passed) =
    eqb-true (length feed.waiting) (min ring (feed.gained - feed.passed)) fit in
    sym (newest_all ring feed.waiting (omega (arith, full)))) (λ _. refl)

-- What holds of each holds of each that is left.
pub all_left : {X : Type 0} (P : X → Type 0) (n : ℕ) (xs : List X) → AllByRecursion P xs
    → AllByRecursion P (drop n xs)
all_left P zero xs each = each
all_left P (suc n) [] each = tt
all_left P (suc n) (x ∷ xs) each = all_left P n xs each.1

-- With the newest alone, all others are past taking.
newest_hold : (buffers ring old : ℕ) (feed : KeptFeed) → FeedHolds buffers feed old
    → FeedHolds buffers (waiting_alone (newest ring feed.waiting) feed) ring
newest_hold buffers ring old feed holds =
    let skip = length feed.waiting - ring in
    let count : length (drop skip feed.waiting) ≡ length feed.waiting - skip =
    length-drop skip feed.waiting in
    let taken = holds.counts.taken in
    let passed = holds.counts.passed in
    let waiting = holds.counts.waiting in
    record {
      counts = record {
        taken = omega (arith, count, taken, passed, waiting);
        passed = omega (arith, count);
        waiting = omega (arith, count, passed, waiting);
      };
      gained = holds.gained;
      tokens = all_left (IsThere buffers) skip feed.waiting holds.tokens;
    }

-- What a feed of some ring has come to, one of the new ring can have come to.
pub fitted_holds : (buffers ring old : ℕ) (feed : KeptFeed) → FeedHolds buffers feed old
    → FeedHolds buffers (fitted ring feed) ring
fitted_holds buffers ring old feed holds =
    cond_both (is_fit ring feed) feed (waiting_alone (newest ring feed.waiting) feed)
    (λ (new : KeptFeed). FeedHolds buffers new ring)
    (λ fit.
    record {
      counts = record {
        taken = holds.counts.taken;
        passed = holds.counts.passed;
        waiting =
            eqb-true (length feed.waiting) (min ring (feed.gained - feed.passed)) fit;
      };
      gained = holds.gained;
      tokens = holds.tokens;
    }) (λ _. newest_hold buffers ring old feed holds)

-- A feed that gained nothing holds with any ring.
pub new_holds : (buffers ring : ℕ) → FeedHolds buffers new_feed ring
new_holds buffers ring =
    record {
      counts = record {
        taken = omega arith;
        passed = omega arith;
        waiting = omega arith;
      };
      gained = omega arith;
      tokens = tt;
    }

-- So does a feed of which something is kept, where that held with some ring.
pub kept_holds : (buffers ring : ℕ) (kept : Option KeptFeed)
    → ((feed : KeptFeed) → kept ≡ Some feed → (old : ℕ) × FeedHolds buffers feed old)
    → FeedHolds buffers (feed_by ring kept) ring
kept_holds buffers ring None held = new_holds buffers ring
kept_holds buffers ring (Some feed) held =
    let one = held feed refl in
    fitted_holds buffers ring one.0 feed one.1
