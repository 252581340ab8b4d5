-- What an Expire forgets: exactly what is old enough and, where it was stored, gone by a front that
-- was read of its buffer.
use Rattle.std.proofs.Common.{◌≡◌, ◌∙◌, ℕ, zero, suc, ◌+◌, ◌*◌, ◌≤◌, ◌<◌, ◌==◌, ◌&&◌, nat_le}
use Rattle.std.proofs.Common.{nat_lt, Bool, true, false, List, [], ◌∷◌, ◌++◌, length, Option, None}
use Rattle.std.proofs.Common.{Some}
use Rattle.std.proofs.Common.{if◌then◌else◌, refl, sym, ap, subst, arith, eqb-true, eq-eqb}
use Rattle.std.proofs.Common.{ltb-true}
use Rattle.std.proofs.Common.{lt-ltb, leb-true, true≢false}
use Rattle.std.proofs.lemmas.Bool.{and_from, and_parts, cond-true, le-leb}
use Rattle.std.proofs.lemmas.Option.{none-some, same_Some, slice_get_past}
use Rattle.std.specs.Prelude.{slice_get}
use Rattle.news_terms.specs.Places.{Buffer}
use Rattle.news_terms.specs.Token.{Token}
use Rattle.relay_model.specs.Claims.{Claim, Unknown, Offered, Storing, Stored, Refused, Passed}
use Rattle.relay_model.specs.Claims.{is_passed, after_expire}
use Rattle.relay_model.specs.Fetches.{front_of}
use Rattle.relay_model.specs.Run.{Expire, Step, IsRefused, WantsMemory, IsDone, expired, forgetting}
use Rattle.relay_model.specs.Run.{reads_front, shard_of}
use Rattle.relay_model.specs.Terms.{Terms}
use Rattle.relay_model.specs.World.{World, Expirer, Forgetting, Quiet}
use Rattle.relay_model.specs.World as world
use Rattle.relay_facts.specs.Sound.{IsSound}
use Rattle.relay_laws.specs.Forgetting.{FrontsInOrder, IsForgettable, IsGoneByRead, IsInOrder}
use Rattle.relay_laws.specs.Forgetting.{IsPast}
use Rattle.relay_laws.specs.Forgetting.{IsReadInOrder, fronts_read}

-- no two of the fronts are of one buffer
abbrev Apart : List Passed → Type 0
Apart fronts =
    (i j : ℕ) (a b : Passed) → slice_get fronts i ≡ Some a → slice_get fronts j ≡ Some b
    → a.buffer ≡ b.buffer → i ≡ j

-- fronts that were read in order are apart
order_apart : (w : Terms) → IsSound w → (fronts : List Passed) → IsInOrder w fronts → Apart fronts
order_apart w sound fronts order i j a b at_i at_j same =
    let one = order.each i a at_i in
    let other = order.each j b at_j in
    sound.places.apart i j one.0 other.0 one.1 other.1 (sym one.2 ∙ same ∙ other.2)

-- so are those of an expirer
expirer_order : (w : Terms) (expirer : Expirer) → IsReadInOrder w expirer
    → IsInOrder w (fronts_read expirer)
expirer_order w (world.Reading fronts) order = order
expirer_order w (Forgetting fronts left) order = order.0

-- what a front that was read of its buffer has passed, the test says so
passes : (fronts : List Passed) (token : Token) → Apart fronts → (index : ℕ) (one : Passed)
    → slice_get fronts index ≡ Some one → one.buffer ≡ token.buffer
    → token.cycle * one.blocks + token.first + one.blocks < one.front
    → is_passed fronts token ≡ true
passes [] token apart index one read own gone = absurd (none-some one read)
passes (first ∷ others) token apart zero one read own gone =
    let same : first ≡ one = same_Some first one read in
    let found : (first.buffer == token.buffer) ≡ true =
    eq-eqb first.buffer token.buffer (ap (λ (p : Passed). p.buffer) same ∙ own) in
    cond-true (first.buffer == token.buffer)
    (nat_lt (token.cycle * first.blocks + token.first + first.blocks) first.front)
    (is_passed others token) found
    ∙ ap (λ (p : Passed). nat_lt (token.cycle * p.blocks + token.first + p.blocks) p.front) same
    ∙ lt-ltb (token.cycle * one.blocks + token.first + one.blocks) one.front gone
passes (first ∷ others) token apart (suc index) one read own gone =
    by (first.buffer == token.buffer) refl
    (passes others token
    (λ i j a b at_i at_j same.
    let next : suc i ≡ suc j = apart (suc i) (suc j) a b at_i at_j same in omega (arith, next))
    index one read own gone)
  where
    by : (test : Bool) → (first.buffer == token.buffer) ≡ test → is_passed others token ≡ true
        → (if test then nat_lt (token.cycle * first.blocks + token.first + first.blocks) first.front
        else is_passed others token) ≡ true
    by true same later =
        let twice : zero ≡ suc index =
        apart zero (suc index) first one refl read
        (eqb-true first.buffer token.buffer same ∙ sym own) in
        absurd (omega (arith, twice))
    by false other later = later

-- where the test says so, a front that was read of the buffer has passed it
passed_by : (fronts : List Passed) (token : Token) → is_passed fronts token ≡ true
    → IsGoneByRead fronts token
passed_by [] token passed = absurd (true≢false (sym passed))
passed_by (first ∷ others) token passed =
    by (first.buffer == token.buffer) refl passed (passed_by others token)
  where
    by : (test : Bool) → (first.buffer == token.buffer) ≡ test
        → (if test then nat_lt (token.cycle * first.blocks + token.first + first.blocks) first.front
        else is_passed others token) ≡ true
        → (is_passed others token ≡ true → IsGoneByRead others token)
        → IsGoneByRead (first ∷ others) token
    by true same is later = record {
      index = zero;
      one = first;
      read = refl;
      own = eqb-true first.buffer token.buffer same;
      gone = record {
        passed =
            ltb-true (token.cycle * first.blocks + token.first + first.blocks) first.front is;
      };
    }
    by false other is later =
        let found : IsGoneByRead others token = later is in
        record {
          index = suc found.index;
          one = found.one;
          read = found.read;
          own = found.own;
          gone = found.gone;
        }

-- what is past is forgotten
past_forgotten : (now remember : ℕ) (fronts : List Passed) → Apart fronts → (claim : Claim)
    → IsPast now remember fronts claim → after_expire now remember fronts claim ≡ Unknown
past_forgotten now remember fronts apart Unknown past = absurd past
past_forgotten now remember fronts apart (Offered session since) past = absurd past
past_forgotten now remember fronts apart (Storing session article stage) past = absurd past
past_forgotten now remember fronts apart (Stored token moment) past =
    cond-true (nat_le (moment + remember) now && is_passed fronts token) Unknown
    (Stored token moment)
    (and_from (nat_le (moment + remember) now) (is_passed fronts token)
    (le-leb (moment + remember) now past.0)
    (passes fronts token apart past.1.index past.1.one past.1.read past.1.own
    past.1.gone.passed))
past_forgotten now remember fronts apart (Refused moment) past =
    cond-true (nat_le (moment + remember) now) Unknown (Refused moment)
    (le-leb (moment + remember) now past)

-- what isn't stays
other_kept : (now remember : ℕ) (fronts : List Passed) (claim : Claim)
    → (IsPast now remember fronts claim → ⊥) → after_expire now remember fronts claim ≡ claim
other_kept now remember fronts Unknown other = refl
other_kept now remember fronts (Offered session since) other = refl
other_kept now remember fronts (Storing session article stage) other = refl
other_kept now remember fronts (Stored token moment) other =
    by (nat_le (moment + remember) now && is_passed fronts token) refl
  where
    by : (test : Bool) → (nat_le (moment + remember) now && is_passed fronts token) ≡ test
        → (if test then Unknown else Stored token moment) ≡ Stored token moment
    by true is =
        let parts = and_parts (nat_le (moment + remember) now) (is_passed fronts token) is in
        absurd (other
        (leb-true (moment + remember) now parts.0, passed_by fronts token parts.1))
    by false is = refl
other_kept now remember fronts (Refused moment) other = by (nat_le (moment + remember) now) refl
  where
    by : (test : Bool) → nat_le (moment + remember) now ≡ test
        → (if test then Unknown else Refused moment) ≡ Refused moment
    by true is = absurd (other (leb-true (moment + remember) now is))
    by false is = refl

-- an Expire that is done
expire_done : (w : Terms) (x y : World) (shard now : ℕ) → Step w x (Expire shard now) Quiet y
    → y ≡ expired w x shard now x.work.expirer
expire_done w x y shard now (IsRefused fault is said e) = absurd (cc)
expire_done w x y shard now (WantsMemory takes said e) = absurd (true≢false (sym takes))
expire_done w x y shard now (IsDone free does) = does.1

-- while a front is left, an Expire reads it as it stands
pub next_front : (w : Terms) (x y : World) (shard now : ℕ) (fronts : List Passed)
    (buffer : Buffer) → x.work.expirer ≡ world.Reading fronts
    → slice_get w.buffers (length fronts) ≡ Some buffer → Step w x (Expire shard now) Quiet y
    → y.work.expirer ≡ world.Reading (fronts ++ (record {
      buffer = buffer.number;
      blocks = buffer.blocks;
      front = front_of w x.state buffer;
    } ∷ []))
next_front w x y shard now fronts buffer reading there step =
    ap (λ (v : World). v.work.expirer) (expire_done w x y shard now step)
    ∙ ap (λ (e : Expirer). (expired w x shard now e).work.expirer) reading
    ∙ ap (λ (next : Option Buffer). (reads_front w x shard now fronts next).work.expirer) there

-- once all fronts are read, an Expire forgets in its shard
forgets_now : (w : Terms) (x : World) (shard now : ℕ) (id : List ℕ) (expirer : Expirer)
    → length w.buffers ≤ length (fronts_read expirer)
    → (expired w x shard now expirer).state.claim id
    ≡ forgetting x.state.claim shard now w.remember (fronts_read expirer) id
forgets_now w x shard now id (world.Reading fronts) all =
    ap (λ (next : Option Buffer). (reads_front w x shard now fronts next).state.claim id)
    (slice_get_past w.buffers (length fronts) all)
forgets_now w x shard now id (Forgetting fronts left) all = refl

-- by then what may be forgotten is
pub is_forgotten : (w : Terms) (x y : World) (shard now : ℕ) (id : List ℕ) → IsSound w
    → FrontsInOrder w x → length w.buffers ≤ length (fronts_read x.work.expirer)
    → Step w x (Expire shard now) Quiet y → IsForgettable w x shard now id
    → y.state.claim id ≡ Unknown
is_forgotten w x y shard now id sound order all step may =
    ap (λ (v : World). v.state.claim id) (expire_done w x y shard now step)
    ∙ forgets_now w x shard now id x.work.expirer all
    ∙ ap
    (λ (r : Option ℕ). forgetting x.state.claim shard now r (fronts_read x.work.expirer) id)
    may.asked
    ∙ cond-true (shard_of id == shard)
    (after_expire now may.remember (fronts_read x.work.expirer) (x.state.claim id))
    (x.state.claim id) (eq-eqb (shard_of id) shard may.own)
    ∙ past_forgotten now may.remember (fronts_read x.work.expirer)
    (order_apart w sound (fronts_read x.work.expirer) (expirer_order w x.work.expirer order))
    (x.state.claim id) may.past

-- forgetting leaves what may not be forgotten
forgetting_keeps : (w : Terms) (x : World) (shard now : ℕ) (id : List ℕ)
    → (IsForgettable w x shard now id → ⊥) → (remember : Option ℕ) → w.remember ≡ remember
    → forgetting x.state.claim shard now remember (fronts_read x.work.expirer) id
    ≡ x.state.claim id
forgetting_keeps w x shard now id never None asked = refl
forgetting_keeps w x shard now id never (Some remember) asked = by (shard_of id == shard) refl
  where
    by : (test : Bool) → (shard_of id == shard) ≡ test
        → (if test then after_expire now remember (fronts_read x.work.expirer) (x.state.claim id)
        else x.state.claim id) ≡ x.state.claim id
    by true own =
        other_kept now remember (fronts_read x.work.expirer) (x.state.claim id)
        (λ past.
        never (record {
          remember = remember;
          asked = asked;
          own = eqb-true (shard_of id) shard own;
          past = past;
        }))
    by false other = refl

-- an Expire, whatever it does, leaves what it is asked to leave
expired_keeps : (w : Terms) (x : World) (shard now : ℕ) (id : List ℕ) (expirer : Expirer)
    → forgetting x.state.claim shard now w.remember (fronts_read expirer) id ≡ x.state.claim id
    → (expired w x shard now expirer).state.claim id ≡ x.state.claim id
expired_keeps w x shard now id (world.Reading fronts) keeps =
    by (slice_get w.buffers (length fronts))
  where
    by : (next : Option Buffer)
        → (reads_front w x shard now fronts next).state.claim id ≡ x.state.claim id
    by (Some buffer) = refl
    by None = keeps
expired_keeps w x shard now id (Forgetting fronts left) keeps = keeps

-- what may not be forgotten isn't
pub is_kept : (w : Terms) (x y : World) (shard now : ℕ) (id : List ℕ)
    → Step w x (Expire shard now) Quiet y → (IsForgettable w x shard now id → ⊥)
    → y.state.claim id ≡ x.state.claim id
is_kept w x y shard now id step never =
    ap (λ (v : World). v.state.claim id) (expire_done w x y shard now step)
    ∙ expired_keeps w x shard now id x.work.expirer
    (forgetting_keeps w x shard now id never w.remember refl)

-- in the stage of forgetting all fronts are read
pub stage_forgotten : (w : Terms) → IsSound w → (x y : World) (shard now left : ℕ)
    (fronts : List Passed) (id : List ℕ) → FrontsInOrder w x
    → x.work.expirer ≡ Forgetting fronts left → Step w x (Expire shard now) Quiet y
    → IsForgettable w x shard now id → y.state.claim id ≡ Unknown
stage_forgotten w sound x y shard now left fronts id order stage step may =
    is_forgotten w x y shard now id sound order
    (subst (λ (e : Expirer). length w.buffers ≤ length (fronts_read e)) (sym stage)
    (subst (IsReadInOrder w) stage order).1)
    step may
