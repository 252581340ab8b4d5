-- The buffers of a relay are gone through, one after the other, once each was tried.
use Rattle.std.proofs.Common.{◌≡◌, ◌∙◌, ℕ, ◌+◌, arith, refl, sym, ap, subst}
use Rattle.std.proofs.Common.{List, [], ◌∷◌, ◌++◌, length, map, Option, None, Some, slice_get}
use Rattle.std.proofs.lemmas.List.{length-append}
use Rattle.std.proofs.lemmas.Option.{none-some}
use Rattle.block_shelf.proofs.EachLemmas.{none_each, none_left}
use Rattle.block_shelf.proofs.EachLemmas.{one_more_each}
use Rattle.block_shelf.proofs.EachLemmas.{count_through, here_through, one_through}
use Rattle.block_shelf.specs.Each.{AreEach}
use Rattle.block_shelf.specs.Starting.{IsFirstOther}
use Rattle.block_shelf.specs.Starting.{fault_of_start, number_told, other_after}
use Rattle.block_shelf.specs.declared.starting.StopFault.{StopFault}
use Rattle.cyc_block.specs.declared.store.BlockStore as blocks
use Rattle.cyc_buffer.specs.declared.starting.Refused.{Refused}
use Rattle.live_store.specs.Started.{unopened_in}
use Rattle.live_store.specs.declared.record.StorePremises as store_premises
use Rattle.live_store.specs.declared.unopened.UnopenedNumbered.{UnopenedNumbered}
use Rattle.relay_live.specs.Starting.{IsStartedOver}
use Rattle.relay_live.specs.Starting.{IsTriedRefusal, IsUnstartedBy}
use Rattle.relay_live.specs.Starting.{stores_of}
use Rattle.relay_live.specs.Trials.{IsRefusedOver, IsStartedAt, IsTriedIn}
use Rattle.relay_live.specs.Trials.{stores_in}
use Rattle.relay_live.specs.declared.side_by_side.Trial.{Trial}
use Rattle.relay_live.proofs.StartedBuffers.{other_joins, as_many_left, first_refused, next_of, rest_refused}
use Rattle.relay_live.proofs.StartedBuffers.{refused_start}

-- the buffers that were started so far, over the stores that were gone through, and what came of
-- those that are left
pub record StartedSoFar {S J : Type 0} {s : blocks.Ghosts S} {j : store_premises.Ghosts J}
    (stop : ℕ) (all : List S) (left : List (Option (Trial S J s j)))
    (buffers : List (UnopenedNumbered S J s j)) (mixed : Option ℕ)
    : Type 0 where
  pub gone : List S
  pub rest : List S
  pub all_is : gone ++ rest ≡ all
  pub slots : List (Option (Trial S J s j))
  pub tried : AreEach IsTriedIn all slots
  pub through : List (Option (Trial S J s j))
  pub slots_is : through ++ left ≡ slots
  pub along : length through ≡ length gone
  pub over : AreEach IsStartedOver gone buffers
  pub first : IsFirstOther stop (map unopened_in buffers) mixed

-- the next store, and what came of its buffer
pub record HasNext {S J : Type 0} {s : blocks.Ghosts S} {j : store_premises.Ghosts J}
    (all gone rest : List S) (slot : Option (Trial S J s j)) (more : ℕ)
    : Type 0 where
  pub store : S
  pub behind : List S
  pub next : rest ≡ store ∷ behind
  pub there : slice_get all (length gone) ≡ Some store
  pub tried : IsTriedIn (length gone) store slot
  pub count : length gone + 1 + more ≡ length all

module _ {S J : Type 0} {s : blocks.Ghosts S} {j : store_premises.Ghosts J} (stop : ℕ)
    (all : List S) where
  -- before the first store none is
  pub started_none : (slots : List (Option (Trial S J s j))) → AreEach IsTriedIn all slots
      → StartedSoFar stop all slots [] None
  started_none slots tried = record {
    gone = [];
    rest = all;
    all_is = refl;
    slots = slots;
    tried = tried;
    through = [];
    slots_is = refl;
    along = refl;
    over = none_each IsStartedOver;
    first = λ b one is. absurd (none-some one is);
  }

  -- all are, where nothing is left
  pub started_all : (left : List (Option (Trial S J s j)))
      (buffers : List (UnopenedNumbered S J s j)) (mixed : Option ℕ)
      → StartedSoFar stop all left buffers mixed → length left ≡ 0
      → AreEach IsStartedOver all buffers
  started_all left buffers mixed had none =
      subst (λ stores. AreEach IsStartedOver stores buffers)
      (none_left had.gone had.rest had.all_is
      (sym (as_many_left all had.slots had.tried had.gone had.rest had.through left had.all_is
      had.slots_is had.along)
      ∙ none))
      had.over

  -- what is left begins with what came of the next buffer
  next_in : (gone rest : List S) (slots through : List (Option (Trial S J s j)))
      (slot : Option (Trial S J s j)) (more : List (Option (Trial S J s j)))
      → AreEach IsTriedIn all slots → gone ++ rest ≡ all → through ++ slot ∷ more ≡ slots
      → length through ≡ length gone → HasNext all gone rest slot (length more)
  next_in gone [] slots through slot more tried all_is slots_is along =
      absurd (omega (
        arith,
        as_many_left all slots tried gone [] through (slot ∷ more) all_is slots_is along,
      ))
  next_in gone (store ∷ behind) slots through slot more tried all_is slots_is along = record {
    store = store;
    behind = behind;
    next = refl;
    there = here_through gone (store ∷ behind) all store behind all_is refl;
    tried = next_of all slots tried gone store behind through slot more all_is slots_is along;
    count = omega (
      arith,
      as_many_left all slots tried gone (store ∷ behind) through (slot ∷ more) all_is slots_is
          along,
      count_through gone (store ∷ behind) all store behind all_is refl,
    );
  }

  module _ (left : List (Option (Trial S J s j))) (buffers : List (UnopenedNumbered S J s j))
      (mixed : Option ℕ) (had : StartedSoFar stop all left buffers mixed)
      (slot : Option (Trial S J s j)) (more : List (Option (Trial S J s j)))
      (next : left ≡ slot ∷ more) where
    pub next_store : HasNext all had.gone had.rest slot (length more)
    next_store =
        next_in had.gone had.rest had.slots had.through slot more had.tried had.all_is
        (ap (λ items. had.through ++ items) (sym next) ∙ had.slots_is) had.along

    module _ (number : ℕ) (at : number ≡ length buffers) where
      -- the buffer of this number is the next one
      here_is : number ≡ length had.gone
      here_is = at ∙ had.over.count

      -- one more is started
      pub started_more : (one : UnopenedNumbered S J s j) (found : ℕ)
          → IsStartedAt number next_store.store one found
          → StartedSoFar stop all more (buffers ++ one ∷ []) (other_after mixed found stop number)
      started_more one found is = record {
        gone = had.gone ++ next_store.store ∷ [];
        rest = next_store.behind;
        all_is = one_through had.gone had.rest all next_store.store next_store.behind had.all_is
            next_store.next;
        slots = had.slots;
        tried = had.tried;
        through = had.through ++ slot ∷ [];
        slots_is = one_through had.through left had.slots slot more had.slots_is next;
        along = omega (
          arith,
          had.along,
          length-append had.gone (next_store.store ∷ []),
          length-append had.through (slot ∷ []),
        );
        over = one_more_each IsStartedOver had.gone buffers next_store.store one had.over
            (subst (λ n. IsStartedOver n next_store.store one) here_is is.0);
        first = other_joins stop buffers one mixed found number had.first is.1 at;
      }

      -- or it is refused, and the stores behind it come back unwritten
      pub refused_here : (refused : Refused S) (fault : StopFault) (told : Option ℕ)
          (back : List S) → IsRefusedOver s number next_store.store refused
          → fault ≡ fault_of_start refused.error → told ≡ number_told refused.error number
          → back ≡ (stores_of buffers ++ refused.store ∷ []) ++ stores_in more
          → IsUnstartedBy s all stop fault told back
      refused_here refused fault told back is fault_is says made =
          let why = first_refused s had.gone next_store.store buffers refused had.over
          (subst (λ n. IsRefusedOver s n next_store.store refused) here_is is) in
          refused_start s all stop fault told back
          (subst (IsTriedRefusal s all fault told) (sym made)
          (rest_refused all had.slots had.tried fault told next_store.behind
          (had.gone ++ next_store.store ∷ []) (stores_of buffers ++ refused.store ∷ [])
          (had.through ++ slot ∷ []) more
          (one_through had.gone had.rest all next_store.store next_store.behind had.all_is
          next_store.next)
          (one_through had.through left had.slots slot more had.slots_is next)
          (omega (
            arith,
            had.along,
            length-append had.gone (next_store.store ∷ []),
            length-append had.through (slot ∷ []),
          ))
          (refused.error, fault_is, (why, says ∙ ap (number_told refused.error) here_is))))
