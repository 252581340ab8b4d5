-- What came of the starts of buffers that were tried side by side.
use Rattle.std.proofs.Common.{◌≡◌, ◌∙◌, ℕ, ◌+◌, ◌<◌, ◌≤◌, arith, refl, sym, ap, subst, true, List}
use Rattle.std.proofs.Common.{[], ◌∷◌, ◌++◌, length, map, Option, None, Some, option_map, slice_get}
use Rattle.std.proofs.lemmas.List.{length-map}
use Rattle.std.proofs.lemmas.Option.{get_or_from_slice_get, slice_get-map, slice_get_within}
use Rattle.std.proofs.Common.{Err, Ok, Result, false}
use Rattle.std.specs.Prelude.{All, IfErr, IfOk, slice_index_or}
use Rattle.block_shelf.specs.Each.{AreEach}
use Rattle.block_shelf.specs.Starting.{CanStart, buffer_over}
use Rattle.cyc_block.specs.declared.store.BlockStore as blocks
use Rattle.cyc_buffer.specs.Agreement.{Agrees, store_of}
use Rattle.cyc_buffer.specs.Head.{has_open_head, inside, is_busy, said_of, stop_of}
use Rattle.cyc_buffer.specs.History.{History}
use Rattle.cyc_buffer.specs.Reads.{IsBlamed, StaysHeld}
use Rattle.cyc_buffer.specs.Stopped.{HoldsStopped, Says}
use Rattle.cyc_buffer.specs.declared.starting.Refused.{Refused}
use Rattle.live_store.specs.Started.{AreArticles, IsRefusedFor, IsStartable, IsUnentered}
use Rattle.live_store.specs.Started.{numbers_on, unopened_in}
use Rattle.live_store.specs.Tied.{AreNumbered}
use Rattle.live_store.specs.declared.unopened.UnopenedNumbered.{UnopenedNumbered}
use Rattle.news_terms.specs.HeadBlocks.{Closed}
use Rattle.live_store.specs.declared.record.StorePremises as store_premises
use Rattle.news_terms.proofs.ListPlaces.{holds_at, there_within}
use Rattle.relay_live.specs.Starting.{WereStopped}
use Rattle.relay_live.specs.Trials.{CanTryAt, CanTryIn, IsRefusedOver, IsStartedAt, IsTried}
use Rattle.relay_live.specs.Trials.{IsTriedIn, Tries, store_in, stores_in, untried}
use Rattle.relay_live.specs.declared.side_by_side.Trial.{Trial}
use Rattle.relay_live.specs.declared.side_by_side.Trial.TheVariants as trials

module _ {S J : Type 0} (s : blocks.Ghosts S) (j : store_premises.Ghosts J) (stores : List S)
    (honest : j.trusted ≡ true → All s.honest stores)
    (stopped : j.trusted ≡ true → WereStopped s stores) where
  -- each buffer may be tried where what is trusted is honest, and was stopped
  pub can_at : (b : ℕ) (store : S) → slice_get stores b ≡ Some store → CanTryAt s j b store
  can_at b store there = (
    (λ trusted. holds_at s.honest stores (honest trusted) b store there),
    (λ trusted. stopped trusted b store there),
  )

  pub can_each : (b : ℕ) (d : S) → b < length stores
      → CanTryAt s j b (slice_index_or stores b d)
  can_each b d within =
      let one = there_within stores b within in
      subst (CanTryAt s j b) (sym (get_or_from_slice_get stores b one.0 d one.1))
      (can_at b one.0 one.1)

module _ {S J : Type 0} {s : blocks.Ghosts S} {j : store_premises.Ghosts J} where
  -- what came of a buffer that may be tried is something
  pub can_in : (number : ℕ) (store : S) (slot : Option (Trial S J s j))
      → IsTriedIn number store slot → CanTryAt s j number store → CanTryIn number slot
  can_in number store None is can = is
  can_in number store (Some (trials.Untried back)) is can = subst (CanTryAt s j number) (sym is) can
  can_in number store (Some (trials.Started one found)) is can = tt
  can_in number store (Some (trials.Refused refused)) is can = tt

  -- an untried buffer is at its place
  untried_there : (stores : List S) (b : ℕ) (d : Option (Trial S J s j)) (store : S)
      → slice_get stores b ≡ Some store
      → slice_index_or (map (untried {J = J} {s = s} {j = j}) stores) b d ≡ untried store
  untried_there stores b d store there =
      get_or_from_slice_get (map (untried {J = J} {s = s} {j = j}) stores) b (untried store) d
      (slice_get-map (untried {J = J} {s = s} {j = j}) stores b
      ∙ ap (λ (o : Option S). option_map (untried {J = J} {s = s} {j = j}) o) there)

  -- each that isn't tried yet may be
  pub can_untried : (stores : List S)
      → ((b : ℕ) (d : S) → b < length stores → CanTryAt s j b (slice_index_or stores b d))
      → (b : ℕ) (d : Option (Trial S J s j)) → b < length (map (untried {J = J} {s = s} {j = j}) stores)
      → CanTryIn b (slice_index_or (map (untried {J = J} {s = s} {j = j}) stores) b d)
  can_untried stores can b d within =
      let one = there_within stores b
      (omega (arith, within, length-map stores (untried {J = J} {s = s} {j = j}))) in
      subst (CanTryIn b) (sym (untried_there stores b d one.0 one.1))
      (subst (CanTryAt s j b) (get_or_from_slice_get stores b one.0 one.0 one.1)
      (can b one.0 (omega (arith, within, length-map stores (untried {J = J} {s = s} {j = j})))))

  -- and something came of each
  pub tried_each : (stores : List S) (old new : List (Option (Trial S J s j)))
      → old ≡ map (untried {J = J} {s = s} {j = j}) stores → length new ≡ length old
      → ((b : ℕ) (d : Option (Trial S J s j)) → b < length old
      → Tries b (slice_index_or old b d) (slice_index_or new b d))
      → AreEach IsTriedIn stores new
  tried_each stores old new are count tries = record {
    count = count ∙ ap length are ∙ length-map stores (untried {J = J} {s = s} {j = j});
    each = λ b store there.
        let long = length-map stores (untried {J = J} {s = s} {j = j}) in
        let within = slice_get_within stores b store there in
        let one = there_within new b (omega (arith, within, count, long, ap length are)) in
        record {
          item = one.0;
          there = one.1;
          belongs = subst (IsTriedIn b store) (get_or_from_slice_get new b one.0 one.0 one.1)
              (tries b one.0 (omega (arith, within, long, ap length are)) store
              (subst (IsTriedIn b store)
              (sym (ap (λ slots. slice_index_or slots b one.0) are
              ∙ untried_there stores b one.0 store there))
              refl));
        };
  }

  -- the store of one more place
  pub stores_more : (slots : List (Option (Trial S J s j))) (slot : Option (Trial S J s j))
      → stores_in (slots ++ slot ∷ []) ≡ stores_in slots ++ stores_in (slot ∷ [])
  stores_more [] slot = refl
  stores_more (None ∷ slots) slot = stores_more slots slot
  stores_more (Some trial ∷ slots) slot =
      ap (λ stores. store_in trial ∷ stores) (stores_more slots slot)

  -- there are no more stores than places
  pub stores_fit : (slots : List (Option (Trial S J s j)))
      → length (stores_in slots) ≤ length slots
  stores_fit [] = omega arith
  stores_fit (None ∷ slots) = omega (arith, stores_fit slots)
  stores_fit (Some trial ∷ slots) = omega (arith, stores_fit slots)

-- WHAT A START GIVES

module _ {S J : Type 0} {s : blocks.Ghosts S} {j : store_premises.Ghosts J} where
  -- each that isn't tried yet may be
  pub can_all : (stores : List S) (slots : List (Option (Trial S J s j)))
      → slots ≡ map (untried {J = J} {s = s} {j = j}) stores
      → ((b : ℕ) (d : S) → b < length stores → CanTryAt s j b (slice_index_or stores b d))
      → (b : ℕ) (d : Option (Trial S J s j)) → b < length slots
      → CanTryIn b (slice_index_or slots b d)
  can_all stores slots are can =
      subst (λ (all : List (Option (Trial S J s j))). (b : ℕ) (d : Option (Trial S J s j))
      → b < length all → CanTryIn b (slice_index_or all b d)) (sym are) (can_untried stores can)

  -- the store of a buffer that wasn't tried
  pub untried_is : (number : ℕ) (store : S) (trial : Trial S J s j) (one : S)
      → trial ≡ trials.Untried one → IsTried number store trial → one ≡ store
  untried_is number store trial one same is = subst (IsTried number store) same is

  module _ {M : Type 0} (number : ℕ) (store : S) where
    -- a buffer is started
    pub start_gives : (result : Result M (Refused S)) (one : M → UnopenedNumbered S J s j)
        (found : M → ℕ)
        → (s.honest store → IfOk result (λ made. (stop : ℕ) (h : History)
        → HoldsStopped (s.heads store) (s.blocks store) stop h
        → h.buffer ≡ buffer_over s number store
        → Agrees true (inside (unopened_in (one made))) h))
        → (s.honest store → IfOk result (λ made. (stop : ℕ) (h : History)
        → HoldsStopped (s.heads store) (s.blocks store) stop h → found made ≡ stop))
        → (s.honest store → IfOk result (λ made. (stop : ℕ) (h : History)
        → HoldsStopped (s.heads store) (s.blocks store) stop h
        → h.buffer ≡ buffer_over s number store
        → AreNumbered true j.register h (numbers_on (one made))))
        → (s.honest store → IfOk result (λ made.
        IsStartable (s.heads store) (s.blocks store) (buffer_over s number store) (found made)))
        → (s.honest store → IfOk result (λ made. Says (s.heads store) (buffer_over s number store)
        (said_of Closed (found made) (inside (unopened_in (one made))))))
        → IfOk result (λ made. has_open_head (inside (unopened_in (one made))) ≡ false)
        → IfOk result (λ made. is_busy (inside (unopened_in (one made))) ≡ false)
        → IfOk result (λ made. stop_of (inside (unopened_in (one made))) ≡ found made)
        → IfOk result (λ made. StaysHeld s store (store_of (inside (unopened_in (one made)))))
        → IfOk result (λ made.
        s.failures (store_of (inside (unopened_in (one made)))) ≡ s.failures store)
        → IfOk result (λ made. IsStartedAt number store (one made) (found made))
    start_gives (Ok made) one found agrees stops numbered started said unopened idle under same
        no_failure = (
          record {
            agrees = agrees;
            numbered = numbered;
            stop = λ yes stop h held. under ∙ stops yes stop h held;
            starts = λ yes.
                let can = started yes in
                subst (CanStart s number store) (sym under) (can.tokens, can.starts);
            said = λ yes.
                subst (λ (at : ℕ). Says (s.heads store) (buffer_over s number store)
                (said_of Closed at (inside (unopened_in (one made))))) (sym under) (said yes);
            no_failure = no_failure;
            unopened_head = unopened;
            idle = idle;
            held = same;
          },
          under,
        )
    start_gives (Err refused) one found agrees stops numbered started said unopened idle under same
        no_failure = tt

-- or refused
pub start_refuses : {S M : Type 0} (s : blocks.Ghosts S) (number : ℕ) (store : S)
    (result : Result M (Refused S))
    → (s.honest store → (stop : ℕ) (h : History)
    → HoldsStopped (s.heads store) (s.blocks store) stop h
    → h.buffer ≡ buffer_over s number store
    → IfErr result (λ refused. IsUnentered (AreArticles h) refused.error))
    → (s.honest store → IfErr result (λ refused.
    IsRefusedFor (s.heads store) (s.blocks store) (buffer_over s number store) refused.error))
    → IfErr result (λ refused. StaysHeld s store refused.store)
    → IfErr result (λ refused. IsBlamed s store refused.store refused.error)
    → IfErr result (IsRefusedOver s number store)
start_refuses s number store (Ok made) outside reason held failed = tt
start_refuses s number store (Err refused) outside reason held failed = record {
  held = held;
  failed = failed;
  reason = reason;
  outside = outside;
}

-- there is room for the store of one more place where there is room for as many as there are places
pub store_fits : (len before front made gone more all room room' : ℕ) → len ≡ front + made
    → before ≡ front → made ≤ gone → gone + 1 + more ≡ all → all + before ≤ room
    → room' ≡ room → len < room'
store_fits len before front made gone more all room room' is same few through fits large =
    omega arith
