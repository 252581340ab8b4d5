-- Stores whose blocks and heads are looked at, one after the other.
use Rattle.std.proofs.Common.{◌≡◌, ◌+◌, ◌<◌, ◌∙◌, [], ℕ, All, Err, List, Ok, Result, Some, ap}
use Rattle.std.proofs.Common.{arith, false, get_or, inl, inr, is_err, length, map, refl, slice_get}
use Rattle.std.proofs.Common.{slice_set, subst, sym, take}
use Rattle.std.specs.Prelude.{OnOk}
use Rattle.std.proofs.lemmas.Bool.{cases_lt}
use Rattle.std.proofs.lemmas.List.Elements.{All-more}
use Rattle.std.proofs.lemmas.Option.{same_Some, slice_get-get_or, slice_get_within}
use Rattle.block_shelf.specs.Each.{AreEach}
use Rattle.cyc_block.specs.Store.{block_at}
use Rattle.cyc_block.specs.declared.store.BlockStore.{Ghosts}
use Rattle.cyc_buffer.proofs.Refusals.{held_on}
use Rattle.cyc_buffer.specs.Reads.{StaysHeld}
use Rattle.news_terms.specs.HeadBlocks.{head_image}
use Rattle.first_start.specs.Completing.{CompletesHead, HasNoneOrFirst, IsBare, IsCutShort}
use Rattle.first_start.specs.Completing.{IsHeadMissing, IsUnmarked, IsZero, first_head}
use Rattle.first_start.proofs.Walked.{Walked, map_each, next_walked, there, walked_so_far}

module _ {S : Type 0} (g : Ghosts S) where
  -- a store that isn't called holds what it held
  pub itself : (b : ℕ) (store : S) → StaysHeld g store store
  itself b store = record { honest = λ h. h; blocks = λ h. refl; heads = λ h. refl; count = refl }

  -- what holds of each honest store before a place
  abbrev pub Before : (P : ℕ → S → Type 0) (all : List S) (k : ℕ) → Type 0
  Before P all k =
      (b : ℕ) (store : S) → b < k → slice_get all b ≡ Some store → g.honest store → P b store

  -- holds of one more
  pub one_more : (P : ℕ → S → Type 0) (all : List S) (k : ℕ) (next : S) → Before P all k
      → slice_get all k ≡ Some next → (g.honest next → P k next) → Before P all (k + 1)
  one_more P all k next had there belongs = λ b store before is honest.
      elim (cases_lt b k) [
        | inl earlier ↦ had b store earlier is honest
        | inr late ↦
            let same : b ≡ k = omega (arith, late, before) in
            let found : store ≡ next =
            same_Some store next (sym is ∙ ap (slice_get all) same ∙ there) in
            rw (same, found) (belongs (rw (← found) honest))
      ]

  -- Where the next store was called, and holds what it held, so do all of them, and each has as
  -- many blocks as it had.
  module _ (all now : List S) (k : ℕ) (had : Walked (λ (b : ℕ). StaysHeld g) all now k) where
    pub hold_so_far : AreEach (λ (b : ℕ). StaysHeld g) all now
    hold_so_far = walked_so_far (λ (b : ℕ). StaysHeld g) all now k had itself

    pub counted_so_far : map (λ store. length (g.blocks store)) now
        ≡ map (λ store. length (g.blocks store)) all
    counted_so_far =
        map_each (λ (b : ℕ). StaysHeld g) (λ store. length (g.blocks store)) all now hold_so_far
        (λ b old new held. held.count)

  module _ (all now : List S) (k : ℕ) (had : Walked (λ (b : ℕ). StaysHeld g) all now k) (d : S)
      (within : k < length all) (next : S) (held : StaysHeld g (get_or now k d) next) where
    pub walked_on : Walked (λ (b : ℕ). StaysHeld g) all (slice_set now k next) (k + 1)
    walked_on = next_walked (λ (b : ℕ). StaysHeld g) all now k had d within next held

    pub hold_on : AreEach (λ (b : ℕ). StaysHeld g) all (slice_set now k next)
    hold_on = hold_so_far all (slice_set now k next) (k + 1) walked_on

    pub counted_on : map (λ store. length (g.blocks store)) (slice_set now k next)
        ≡ map (λ store. length (g.blocks store)) all
    counted_on = counted_so_far all (slice_set now k next) (k + 1) walked_on

    pub stood : slice_get all k ≡ Some (get_or now k d)
    stood = there (λ (b : ℕ). StaysHeld g) all now k had d within

  -- all stores hold what they held, in two walks
  pub held_each : (old mid new : List S) → AreEach (λ (b : ℕ). StaysHeld g) old mid
      → AreEach (λ (b : ℕ). StaysHeld g) mid new → AreEach (λ (b : ℕ). StaysHeld g) old new
  held_each old mid new first second = record {
    count = second.count ∙ first.count;
    each = λ b store is.
        let then = first.each b store is in
        let last = second.each b then.item then.there in
        record {
          item = last.item;
          there = last.there;
          belongs = held_on g store then.item last.item then.belongs last.belongs;
        };
  }

  -- stores that aren't called hold what they held
  pub itself_each : (stores : List S) → AreEach (λ (b : ℕ). StaysHeld g) stores stores
  itself_each stores = record {
    count = refl;
    each = λ b store is. record { item = store; there = is; belongs = itself b store };
  }

  -- a head is there, or was written, of a store that was only looked at before
  completes_from : (b : ℕ) (old mid new : S) → StaysHeld g old mid → CompletesHead g b mid new
      → CompletesHead g b old new
  completes_from b old mid new held done = record {
    honest = λ honest. done.honest (held.honest honest);
    blocks = λ honest. done.blocks (held.honest honest) ∙ held.blocks honest;
    written = λ honest none.
        done.written (held.honest honest)
        (subst IsZero (ap (λ heads. block_at heads 0) (sym (held.heads honest))) none)
        ∙ ap (λ blocks. head_image (first_head b blocks)) held.count;
    left = λ honest some.
        done.left (held.honest honest)
        (λ none. some (subst IsZero (ap (λ heads. block_at heads 0) (held.heads honest)) none))
        ∙ held.heads honest;
    count = done.count ∙ held.count;
  }

  pub completed_from : (old mid new : List S) → AreEach (λ (b : ℕ). StaysHeld g) old mid
      → AreEach (CompletesHead g) mid new → AreEach (CompletesHead g) old new
  completed_from old mid new first second = record {
    count = second.count ∙ first.count;
    each = λ b store is.
        let then = first.each b store is in
        let last = second.each b then.item then.there in
        record {
          item = last.item;
          there = last.there;
          belongs = completes_from b store then.item last.item then.belongs last.belongs;
        };
  }

  -- no article is marked on a store on which none was, as it was looked at
  pub unmarked_before : (old new : S) → StaysHeld g old new → g.honest old → IsUnmarked g new
      → IsUnmarked g old
  unmarked_before old new held honest marks = λ k behind within.
      subst (λ (heads : List (List ℕ)). IsZero (block_at heads k)) (held.heads honest)
      (marks k behind
      (subst (λ (heads : List (List ℕ)). k < length heads) (sym (held.heads honest)) within))

  -- where no head is another than the first one, one is missing, and no block has more than zeros,
  -- a first start was cut short
  pub cut_by : (old mid : List S) → AreEach (λ (b : ℕ). StaysHeld g) old mid
      → ((b : ℕ) (store : S) → slice_get old b ≡ Some store → g.honest store
      → HasNoneOrFirst g b store)
      → IsHeadMissing g old
      → ((b : ℕ) (store : S) → slice_get mid b ≡ Some store → g.honest store
      → All IsZero (g.blocks store))
      → ((b : ℕ) (store : S) → slice_get mid b ≡ Some store → g.honest store
      → IsUnmarked g store)
      → IsCutShort g old
  cut_by old mid held heads missing zeros marks = record {
    bare = λ b store is honest.
        let later = held.each b store is in
        record {
          blocks = subst (All IsZero) (later.belongs.blocks honest)
              (zeros b later.item later.there (later.belongs.honest honest));
          marks = unmarked_before store later.item later.belongs honest
              (marks b later.item later.there (later.belongs.honest honest));
          head = heads b store is honest;
        };
    missing = missing;
  }

  -- nothing was ever kept in a buffer in which, as it was looked at, nothing was
  bare_before : (b : ℕ) (old new : S) → StaysHeld g old new → g.honest old → IsBare g b new
      → IsBare g b old
  bare_before b old new held honest bare = record {
    blocks = subst (All IsZero) (held.blocks honest) bare.blocks;
    marks = unmarked_before old new held honest bare.marks;
    head = elim bare.head [
      | inl none ↦ inl (subst IsZero (ap (λ heads. block_at heads 0) (held.heads honest)) none)
      | inr first ↦
          let says = first.1 in
          inr (
            first.0,
            record {
              numbers = says.numbers;
              image = ap (λ heads. block_at heads 0) (sym (held.heads honest)) ∙ says.image;
              number = says.number;
              blocks = says.blocks ∙ held.count;
              first_cycle = says.first_cycle;
            },
            first.2,
            first.3,
          )
    ];
  }

  -- a first start was cut short over stores of which that is seen after they were looked at
  pub cut_before : (old new : List S) → AreEach (λ (b : ℕ). StaysHeld g) old new
      → IsCutShort g new → IsCutShort g old
  cut_before old new held cut = record {
    bare = λ b store is honest.
        let later = held.each b store is in
        bare_before b store later.item later.belongs honest
        (cut.bare b later.item later.there (later.belongs.honest honest));
    missing =
        let b = cut.missing.0 in
        let seen = cut.missing.1 in
        let store = get_or old b seen in
        let is = slice_get-get_or old b seen
        (omega (arith, slice_get_within new b seen cut.missing.2, held.count)) in
        let later = held.each b store is in
        let same : seen ≡ later.item =
        same_Some seen later.item (sym cut.missing.2 ∙ later.there) in (
          b,
          store,
          is,
          λ honest. subst IsZero (ap (λ heads. block_at heads 0) (later.belongs.heads honest))
              (rw (← same) (cut.missing.3 (rw same (later.belongs.honest honest)))),
        );
  }

  -- the head blocks of a store before a place, but head block 0, have zeros alone
  abbrev pub UnmarkedBefore : (store : S) (k : ℕ) → Type 0
  UnmarkedBefore store k = (j : ℕ) → 0 < j → j < k → IsZero (block_at (g.heads store) j)

  -- one more head block of a store has zeros alone
  pub marks_more : (old mid : S) (k : ℕ) (octets : List ℕ) → StaysHeld g old mid → g.honest old
      → octets ≡ block_at (g.heads mid) k → IsZero octets → UnmarkedBefore old k
      → UnmarkedBefore old (k + 1)
  marks_more old mid k octets held honest is zero had = λ j behind before.
      elim (cases_lt j k) [
        | inl earlier ↦ had j behind earlier
        | inr late ↦
            let same : j ≡ k = omega (arith, late, before) in
            subst IsZero
            (is
            ∙ ap (λ (heads : List (List ℕ)). block_at heads k) (held.heads honest)
            ∙ ap (λ (n : ℕ). block_at (g.heads old) n) (sym same)) zero
      ]

  -- one more block of a store has zeros alone
  pub zeros_more : (old mid : S) (k : ℕ) (octets : List ℕ) → StaysHeld g old mid
      → g.honest old → k < length (g.blocks old) → octets ≡ block_at (g.blocks mid) k
      → IsZero octets → All IsZero (take k (g.blocks old))
      → All IsZero (take (k + 1) (g.blocks old))
  zeros_more old mid k octets held honest within is zero had =
      All-more IsZero (g.blocks old) k [] within had
      (subst IsZero (is ∙ ap (λ blocks. block_at blocks k) (held.blocks honest)) zero)

-- what holds after a call that went well
pub went_well : {A E : Type 0} (result : Result A E) (P : Type 0) → is_err result ≡ false
    → OnOk result P → P
went_well (Ok done) P well holds = holds
went_well (Err error) P well holds = absurd (cc well)
