-- The numbers of a buffer: its cycle and front are those of its newest article, and no more is
-- stored in it than was begun.
use Rattle.std.proofs.Common.{◌≡◌, ◌∙◌, ℕ, zero, suc, ◌+◌, ◌≤◌, ◌<◌, ◌==◌, Bool, true, false, List}
use Rattle.std.proofs.Common.{[], ◌∷◌, ◌++◌, All, count_by, cond, fold, slice_get, Option, None}
use Rattle.std.proofs.Common.{Some}
use Rattle.std.proofs.Common.{◌⊎◌, inl, inr, refl, sym, ap, arith, le_refl, le_of_eq}
use Rattle.std.proofs.Common.{zero-add, zero-le, eq-eqb, length}
use Rattle.std.specs.Prelude.{◌≢◌, filter}
use Rattle.std.proofs.lemmas.Bool.{cases_eq, cond-true, cond-false, ne_eqb}
use Rattle.std.proofs.lemmas.List.Elements.{All-head, All-tail}
use Rattle.std.proofs.lemmas.List.Sums.{fold-append, length-filter, sum_by-append, sum_by_push}
use Rattle.std.proofs.lemmas.Option.{none-some}
use Rattle.news_terms.specs.Courses.{Course}
use Rattle.news_terms.specs.Places.{Buffer, Group, Extent, front_past, on_line}
use Rattle.news_terms.specs.Settings.{IsBufferAt}
use Rattle.news_terms.specs.Token.{Token}
use Rattle.relay_model.specs.Fetches.{extents_from}
use Rattle.relay_model.specs.Figures.{buffer_figures, cycle_past, is_begun_in, is_kept_in}
use Rattle.relay_model.specs.Invariants.{IsWell}
use Rattle.relay_model.specs.Run.{Event, Step}
use Rattle.relay_model.specs.State.{State, Job, Kept, put_at}
use Rattle.relay_model.specs.Terms.{Terms}
use Rattle.relay_model.specs.World.{World, Output, Writer, Popped, Writing, Finished, empty_world}
use Rattle.relay_model.specs.Writers.{Begins, Stores, begun_in, job_size}
use Rattle.relay_facts.specs.Sound.{IsSound}
use Rattle.relay_facts.proofs.LaidCourses.{begun_in_articles}
use Rattle.relay_facts.proofs.Puts.{put_at_here, put_at_there}
use Rattle.relay_laws.specs.Figures.{IsNewestIn, StoresBegun}
use Rattle.relay_laws.specs.Laws.{Always}
use Rattle.relay_laws.specs.Opens.{open_write}
use Rattle.relay_laws.proofs.OpenSteps.{Opens_go, Opens_none, Begins_one, Stores_one, Less_open}
use Rattle.relay_laws.proofs.OpenSteps.{step_opens}
use Rattle.relay_laws.proofs.OpenWrites.{OpenAt, OpensAlone, alone_begins, alone_kept}
use Rattle.relay_facts.proofs.RisingFronts.{BeginFacts, begin_facts}
use Rattle.relay_laws.proofs.Runs.{always_keeps}

-- articles of other buffers leave the cycle of this one
cycle_elsewhere : (buffer : Buffer) (later : List Extent) (cycle : ℕ)
    → All (λ (one : Extent). one.place.buffer.number ≢ buffer.number) later
    → fold (cycle_past buffer) cycle later ≡ cycle
cycle_elsewhere buffer [] cycle others = refl
cycle_elsewhere buffer (one ∷ later) cycle others =
    ap (λ n. fold (cycle_past buffer) n later)
    (cond-false (one.place.buffer.number == buffer.number) one.place.cycle cycle
    (ne_eqb one.place.buffer.number buffer.number
    (All-head (λ (e : Extent). e.place.buffer.number ≢ buffer.number) one later others)))
    ∙ cycle_elsewhere buffer later cycle
    (All-tail (λ (e : Extent). e.place.buffer.number ≢ buffer.number) one later others)

-- and its front
front_elsewhere : (buffer : Buffer) (later : List Extent) (front : ℕ)
    → All (λ (one : Extent). one.place.buffer.number ≢ buffer.number) later
    → fold (front_past buffer) front later ≡ front
front_elsewhere buffer [] front others = refl
front_elsewhere buffer (one ∷ later) front others =
    ap (λ n. fold (front_past buffer) n later)
    (cond-false (one.place.buffer.number == buffer.number)
    (on_line buffer.blocks one.place.cycle one.place.first + one.size) front
    (ne_eqb one.place.buffer.number buffer.number
    (All-head (λ (e : Extent). e.place.buffer.number ≢ buffer.number) one later others)))
    ∙ front_elsewhere buffer later front
    (All-tail (λ (e : Extent). e.place.buffer.number ≢ buffer.number) one later others)

-- the newest article of the buffer gives its cycle
pub newest_cycle : (w : Terms) (σ : State) (buffer : Buffer) (one : Extent)
    → IsNewestIn buffer (extents_from 0 w.groups σ.begun) one
    → (buffer_figures w σ buffer).cycle ≡ one.place.cycle
newest_cycle w σ buffer one is =
    ap (fold (cycle_past buffer) buffer.first_cycle) is.among
    ∙ fold-append (cycle_past buffer) buffer.first_cycle is.earlier (one ∷ is.later)
    ∙ ap (λ n. fold (cycle_past buffer) n is.later)
    (cond-true (one.place.buffer.number == buffer.number) one.place.cycle
    (fold (cycle_past buffer) buffer.first_cycle is.earlier)
    (eq-eqb one.place.buffer.number buffer.number is.here))
    ∙ cycle_elsewhere buffer is.later one.place.cycle is.others

-- and its front
pub newest_front : (w : Terms) (σ : State) (buffer : Buffer) (one : Extent)
    → IsNewestIn buffer (extents_from 0 w.groups σ.begun) one
    → (buffer_figures w σ buffer).front
    ≡ on_line buffer.blocks one.place.cycle one.place.first + one.size
newest_front w σ buffer one is =
    let first : ℕ = on_line buffer.blocks buffer.first_cycle 0 in
    let last : ℕ = on_line buffer.blocks one.place.cycle one.place.first + one.size in
    ap (fold (front_past buffer) first) is.among
    ∙ fold-append (front_past buffer) first is.earlier (one ∷ is.later)
    ∙ ap (λ n. fold (front_past buffer) n is.later)
    (cond-true (one.place.buffer.number == buffer.number) last
    (fold (front_past buffer) first is.earlier)
    (eq-eqb one.place.buffer.number buffer.number is.here))
    ∙ front_elsewhere buffer is.later last is.others

-- without one both are those of the first cycle
pub first_of_none : (w : Terms) (σ : State) (buffer : Buffer)
    → All (λ (one : Extent). one.place.buffer.number ≢ buffer.number)
    (extents_from 0 w.groups σ.begun)
    → ((buffer_figures w σ buffer).cycle ≡ buffer.first_cycle)
    × ((buffer_figures w σ buffer).front ≡ on_line buffer.blocks buffer.first_cycle 0)
first_of_none w σ buffer others = (
  cycle_elsewhere buffer (extents_from 0 w.groups σ.begun) buffer.first_cycle others,
  front_elsewhere buffer (extents_from 0 w.groups σ.begun)
      (on_line buffer.blocks buffer.first_cycle 0) others,
)

-- what is counted is the length of what passes
pub stored_length : (w : Terms) (σ : State) (buffer : Buffer)
    → (buffer_figures w σ buffer).stored
    ≡ length (filter (λ (one : Kept). one.token.buffer == buffer.number) σ.kept)
stored_length w σ buffer = sym (length-filter (is_kept_in buffer) σ.kept)

-- the same of what was begun
pub begun_length : (w : Terms) (σ : State) (buffer : Buffer)
    → (buffer_figures w σ buffer).begun
    ≡ length (filter (λ (one : Extent). one.place.buffer.number == buffer.number)
    (extents_from 0 w.groups σ.begun))
begun_length w σ buffer = sym (length-filter (is_begun_in buffer) (extents_from 0 w.groups σ.begun))

-- groups behind this one begin nothing by a begin in it
same_behind : (i : ℕ) (groups : List Group) (begun : ℕ → Course) (g : ℕ) (course : Course) → g < i
    → extents_from i groups (put_at begun g course) ≡ extents_from i groups begun
same_behind i [] begun g course past = refl
same_behind i (group ∷ groups) begun g course past =
    ap (λ (own : Course). own.articles ++ extents_from (i + 1) groups (put_at begun g course))
    (put_at_there begun g course i (λ e. absurd (omega (arith, e, past))))
    ∙ ap (λ (list : List Extent). (begun i).articles ++ list)
    (same_behind (i + 1) groups begun g course (omega (arith, past)))

-- how many pass a test, of two lists together
count_both : (p : Extent → Bool) (one other : List Extent)
    → count_by p (one ++ other) ≡ count_by p one + count_by p other
count_both p one other = sum_by-append (λ e. cond (p e) 1 0) one other

-- one more article is counted once, where it passes the test
one_more : (p : Extent → Bool) (i : ℕ) (groups : List Group) (begun : ℕ → Course) (g j : ℕ)
    (group : Group) (course : Course) (new : Extent) → slice_get groups j ≡ Some group → i + j ≡ g
    → course.articles ≡ (begun g).articles ++ new ∷ []
    → count_by p (extents_from i groups (put_at begun g course))
    ≡ count_by p (extents_from i groups begun) + cond (p new) 1 0
one_more p i [] begun g j group course new there index longer = absurd (none-some group there)
one_more p i (first ∷ groups) begun g zero group course new there index longer =
    let own : i ≡ g = omega (arith, index) in
    let behind = ap (count_by p)
    (same_behind (i + 1) groups begun g course (omega (arith, own))) in
    let here = ap (λ (one : Course). count_by p one.articles) (put_at_here begun g course i own) in
    let more = ap (count_by p) longer in
    let pushed = sum_by_push (λ e. cond (p e) 1 0) (begun g).articles new in
    let had = ap (λ n. count_by p (begun n).articles) own in
    omega (
      arith,
      behind,
      here,
      more,
      pushed,
      had,
      count_both p (put_at begun g course i).articles
          (extents_from (i + 1) groups (put_at begun g course)),
      count_both p (begun i).articles (extents_from (i + 1) groups begun),
    )
one_more p i (first ∷ groups) begun g (suc j) group course new there index longer =
    let later = one_more p (i + 1) groups begun g j group course new there
    (omega (arith, index)) longer in
    let here = ap (λ (one : Course). count_by p one.articles)
    (put_at_there begun g course i (λ e. absurd (omega (arith, e, index)))) in
    omega (
      arith,
      later,
      here,
      count_both p (put_at begun g course i).articles
          (extents_from (i + 1) groups (put_at begun g course)),
      count_both p (begun i).articles (extents_from (i + 1) groups begun),
    )

-- the same after a Begin
begun_more : (w : Terms) (σ τ : State) (job : Job) (token : Token)
    → (begins : Begins w σ job token τ) → (facts : BeginFacts w σ job begins.place)
    → (buffer : Buffer)
    → (buffer_figures w τ buffer).begun ≡ (buffer_figures w σ buffer).begun
    + cond (token.buffer == buffer.number) 1 0
begun_more w σ τ job token begins facts buffer =
    ap (λ (ρ : State). count_by (is_begun_in buffer) (extents_from 0 w.groups ρ.begun)) begins.after
    ∙ one_more (is_begun_in buffer) 0 w.groups σ.begun job.article.group job.article.group
    facts.sound.group
    (begun_in (slice_get w.groups job.article.group) (σ.begun job.article.group) (job_size job))
    (record { place = begins.place; size = job_size job }) facts.sound.there
    (zero-add job.article.group)
    (begun_in_articles w.groups job.article.group facts.sound.group (σ.begun job.article.group)
    (job_size job) begins.place facts.sound.there facts.next)
    ∙ ap
    (λ (t : Token). (buffer_figures w σ buffer).begun + cond (t.buffer == buffer.number) 1 0)
    (sym begins.named)

-- one where a write is open in the buffer, else none
abbrev open_in : Buffer → Option Token → ℕ
open_in buffer None = 0
open_in buffer (Some token) = cond (token.buffer == buffer.number) 1 0

-- what is stored, with what is being written, was begun
abbrev Stores_begun : Terms → World → Type 0
Stores_begun w x =
    (g i : ℕ) (buffer : Buffer) → IsBufferAt w.groups g i buffer
    → (buffer_figures w x.state buffer).stored + open_in buffer (open_write (x.work.writer g))
    ≤ (buffer_figures w x.state buffer).begun

-- no more is open where each that is was before
less_open : (buffer : Buffer) (before after : Option Token)
    → ((token : Token) → after ≡ Some token → before ≡ Some token)
    → open_in buffer after ≤ open_in buffer before
less_open buffer before None less = zero-le
less_open buffer before (Some token) less =
    le_of_eq (ap (open_in buffer) (sym (less token refl)))

-- at most one is open
open_most : (buffer : Buffer) (one : Option Token) → open_in buffer one ≤ 1
open_most buffer None = zero-le
open_most buffer (Some token) = by (token.buffer == buffer.number)
  where
    by : (test : Bool) → cond test 1 0 ≤ 1
    by true = le_refl 1
    by false = zero-le

-- a token of another group's write isn't in this buffer
not_here : (w : Terms) → IsSound w → (σ : State) (g h i : ℕ) (buffer : Buffer) (token : Token)
    → IsBufferAt w.groups h i buffer → (k : ℕ) (own : Buffer) → IsBufferAt w.groups g k own
    → token.buffer ≡ own.number → (h ≡ g → ⊥)
    → cond {A = ℕ} (token.buffer == buffer.number) 1 0 ≡ 0
not_here w sound σ g h i buffer token at k own at_own number differs =
    cond-false (token.buffer == buffer.number) 1 0
    (ne_eqb token.buffer buffer.number
    (λ same.
    differs (sym (sound.places.once g h k i own buffer at_own at (sym number ∙ same)).0)))

-- a Begin keeps the count
begin_counts : (w : Terms) → IsSound w → (x y : World) (g : ℕ) (job : Job) (token : Token)
    → x.work.writer g ≡ Popped job → (begins : Begins w x.state job token y.state)
    → y.work.writer ≡ put_at x.work.writer g (Writing job token 0) → IsWell w x
    → Stores_begun w x → Stores_begun w y
begin_counts w sound x y g job token has begins writer well counts h i buffer at =
    by (cases_eq h g)
  where
    facts : BeginFacts w x.state job begins.place
    facts = begin_facts w x.state y.state job token begins well.sized

    more : (buffer_figures w y.state buffer).begun ≡ (buffer_figures w x.state buffer).begun
        + cond (token.buffer == buffer.number) 1 0
    more = begun_more w x.state y.state job token begins facts buffer

    kept : (buffer_figures w y.state buffer).stored ≡ (buffer_figures w x.state buffer).stored
    kept = ap (λ (ρ : State). count_by (is_kept_in buffer) ρ.kept) begins.after

    had : (buffer_figures w x.state buffer).stored + open_in buffer (open_write (x.work.writer h))
        ≤ (buffer_figures w x.state buffer).begun
    had = counts h i buffer at

    by : (h ≡ g) ⊎ (h ≡ g → ⊥)
        → (buffer_figures w y.state buffer).stored + open_in buffer (open_write (y.work.writer h))
        ≤ (buffer_figures w y.state buffer).begun
    by (inl same) =
        let now : open_in buffer (open_write (y.work.writer h))
        ≡ cond (token.buffer == buffer.number) 1 0 =
        ap (λ (v : Writer). open_in buffer (open_write v))
        (ap (λ (f : ℕ → Writer). f h) writer
        ∙ put_at_here x.work.writer g (Writing job token 0) h same) in
        omega (arith, more, kept, had, now)
    by (inr other) =
        let now : open_in buffer (open_write (y.work.writer h))
        ≡ open_in buffer (open_write (x.work.writer h)) =
        ap (λ (v : Writer). open_in buffer (open_write v))
        (ap (λ (f : ℕ → Writer). f h) writer
        ∙ put_at_there x.work.writer g (Writing job token 0) h other) in
        omega (arith, more, kept, had, now)

-- so does a text that becomes whole
store_counts : (w : Terms) → IsSound w → (x y : World) (g : ℕ) (job : Job) (token : Token)
    (written : ℕ) → x.work.writer g ≡ Writing job token written
    → (stores : Stores x.state job token y.state)
    → y.work.writer ≡ put_at x.work.writer g (Finished job token) → OpenAt w x.state g token
    → Stores_begun w x → Stores_begun w y
store_counts w sound x y g job token written has stores writer was counts h i buffer at =
    by (cases_eq h g)
  where
    begun : (buffer_figures w y.state buffer).begun ≡ (buffer_figures w x.state buffer).begun
    begun =
        ap (λ (ρ : State). count_by (is_begun_in buffer) (extents_from 0 w.groups ρ.begun))
        stores.after

    new : Kept
    new = record { token = token; id = job.id; text = job.article.text }

    kept : (buffer_figures w y.state buffer).stored ≡ (buffer_figures w x.state buffer).stored
        + cond (token.buffer == buffer.number) 1 0
    kept =
        ap (λ (ρ : State). count_by (is_kept_in buffer) ρ.kept) stores.after
        ∙ sum_by_push (λ one. cond (is_kept_in buffer one) 1 0) x.state.kept new

    had : (buffer_figures w x.state buffer).stored + open_in buffer (open_write (x.work.writer h))
        ≤ (buffer_figures w x.state buffer).begun
    had = counts h i buffer at

    by : (h ≡ g) ⊎ (h ≡ g → ⊥)
        → (buffer_figures w y.state buffer).stored + open_in buffer (open_write (y.work.writer h))
        ≤ (buffer_figures w y.state buffer).begun
    by (inl same) =
        let before : open_in buffer (open_write (x.work.writer h))
        ≡ cond (token.buffer == buffer.number) 1 0 =
        ap (λ (v : Writer). open_in buffer (open_write v)) (ap x.work.writer same ∙ has) in
        let now : open_in buffer (open_write (y.work.writer h)) ≡ 0 =
        ap (λ (v : Writer). open_in buffer (open_write v))
        (ap (λ (f : ℕ → Writer). f h) writer
        ∙ put_at_here x.work.writer g (Finished job token) h same) in
        omega (arith, begun, kept, had, before, now)
    by (inr other) =
        let none : cond {A = ℕ} (token.buffer == buffer.number) 1 0 ≡ 0 =
        not_here w sound x.state g h i buffer token at was.index was.buffer was.at was.number
        other in
        let now : open_in buffer (open_write (y.work.writer h))
        ≡ open_in buffer (open_write (x.work.writer h)) =
        ap (λ (v : Writer). open_in buffer (open_write v))
        (ap (λ (f : ℕ → Writer). f h) writer
        ∙ put_at_there x.work.writer g (Finished job token) h other) in
        omega (arith, begun, kept, had, none, now)

-- open writes are alone, and what is stored was begun
record Both (w : Terms) (x : World) : Type 0 where
  alone : OpensAlone w x
  counts : Stores_begun w x

-- a step that begins nothing and stores nothing keeps the count
none_counts : (w : Terms) (x y : World) → Less_open x y
    → ((g : ℕ) → y.state.begun g ≡ x.state.begun g) → y.state.kept ≡ x.state.kept
    → Stores_begun w x → Stores_begun w y
none_counts w x y less same_begun same_kept counts h i buffer at =
    let all : y.state.begun ≡ x.state.begun = λ k g. same_begun g k in
    let begun : (buffer_figures w y.state buffer).begun ≡ (buffer_figures w x.state buffer).begun =
    ap (λ (courses : ℕ → Course). count_by (is_begun_in buffer) (extents_from 0 w.groups courses))
    all in
    let kept : (buffer_figures w y.state buffer).stored ≡ (buffer_figures w x.state buffer).stored =
    ap (count_by (is_kept_in buffer)) same_kept in
    omega (
      arith,
      begun,
      kept,
      counts h i buffer at,
      less_open buffer (open_write (x.work.writer h)) (open_write (y.work.writer h)) (less h),
    )

-- each step keeps both
both_kept : (w : Terms) → IsSound w → (x : World) (event : Event) (output : Output) (y : World)
    → IsWell w x → Step w x event output y → Both w x → Both w y
both_kept w sound x event output y well step both = record {
  alone = alone_kept w sound x event output y well step both.alone;
  counts = by (step_opens w x event output y step);
}
  where
    by : Opens_go w x y → Stores_begun w y
    by (Opens_none less begun kept) = none_counts w x y less begun kept both.counts
    by (Begins_one g job token has begins writer) =
        begin_counts w sound x y g job token has begins writer well both.counts
    by (Stores_one g job token written has stores writer) =
        store_counts w sound x y g job token written has stores writer
        (both.alone.opens g token (ap open_write has)) both.counts

-- nothing is stored at the beginning
both_begin : (w : Terms) (failures : ℕ → ℕ) → Both w (empty_world failures)
both_begin w failures = record {
  alone = alone_begins w failures;
  counts = λ g i buffer at. zero-le;
}

-- so after each run no more is stored than was begun
pub stores_begun : (w : Terms) → IsSound w → Always w (StoresBegun w)
stores_begun w sound failures events outputs x ran g i buffer at =
    let counts =
    (always_keeps w sound (Both w) (both_kept w sound) (both_begin w) failures events outputs x
    ran).counts g i buffer at in
    omega (arith, counts)
