-- Why a repair is refused, whatever came before it.
use Rattle.std.proofs.Common.{◌≡◌, ◌∙◌, ℕ, ◌<◌, List, None, Some, Option, ap, sym, arith}
use Rattle.std.proofs.Common.{refl, subst, slice_get}
use Rattle.std.proofs.lemmas.List.{length-map}
use Rattle.std.proofs.lemmas.Option.{none-some, slice_get_within}
use Rattle.std.specs.Prelude.{All}
use Rattle.block_shelf.proofs.EachLemmas.{ComesFrom, comes_from, each_so}
use Rattle.block_shelf.specs.Each.{AreEach}
use Rattle.block_shelf.specs.Starting.{IsFromOutside, IsUnwritten, buffer_over}
use Rattle.block_shelf.specs.declared.starting.StopFault.{StopFault}
use Rattle.block_shelf.specs.declared.starting.StopFault.TheVariants as faults
use Rattle.block_shelf.specs.declared.starting.Unstarted.{Unstarted}
use Rattle.buffer_repair.specs.Finding.{IsUnfoundAt, IsUnfoundBy, stores_in}
use Rattle.buffer_repair.specs.Parts.{store_in}
use Rattle.buffer_repair.specs.declared.found_set.FoundBufferSet.{FoundBufferSet}
use Rattle.cyc_block.specs.declared.store.BlockStore.{Ghosts}
use Rattle.cyc_buffer.specs.Stopped.{Says}
use Rattle.cyc_buffer.specs.declared.answers.StartError.{StartError}
use Rattle.cyc_buffer.specs.declared.starting.Started.{Started}
use Rattle.news_terms.proofs.ListPlaces.{holds_at}
use Rattle.news_terms.specs.HeadBlocks.{HeadBlock}
use Rattle.relay_remains.specs.Heads.{HasEnded, HaveEnded, IsFirstFault, IsHeadFault, MayHaveEnded}
use Rattle.relay_remains.specs.Heads.{failed_head}
use Rattle.relay_remains.specs.declared.heads.HeadFault.{HeadFault}
use Rattle.relay_remains.specs.declared.heads.Standing.{Standing}
use Rattle.relay_remains.specs.declared.heads.Standing.TheVariants.{Stopped, Unstopped}
use Rattle.relay_repair.proofs.EachStore.{each_made, each_over}
use Rattle.relay_repair.proofs.FoundOver.{honest_on}
use Rattle.relay_repair.proofs.Unshut.{blocks_on, held_blocks}
use Rattle.relay_repair.specs.Refusing.{AreUnfound, FailedFrom, FailsAfter, HasFailed, HasNoRoom}
use Rattle.relay_repair.specs.Refusing.{IsByHead, IsLeftAt, IsRefusedAfter, IsRefusedOver}
use Rattle.relay_repair.specs.Refusing.{IsUnshutFrom, IsUnshutOver, LacksRoom}
use Rattle.relay_repair.specs.Refusing.{NoRoomFrom}

-- unwritten through two calls, of which the first didn't fail
pub unwritten_on : {S : Type 0} {g : Ghosts S} (failed : Option ℕ) (b : ℕ) (old mid new : S)
    → IsUnwritten g None b old mid → IsUnwritten g failed b mid new
    → IsUnwritten g failed b old new
unwritten_on {g = g} failed b old mid new first second = record {
  held = record {
    honest = λ is. second.held.honest (first.held.honest is);
    blocks = λ is. second.held.blocks (first.held.honest is) ∙ first.held.blocks is;
    heads = λ is. second.held.heads (first.held.honest is) ∙ first.held.heads is;
    count = second.held.count ∙ first.held.count;
  };
  failed_here = λ here.
      subst (λ failures. failures < g.failures new) (first.no_failure (λ at. none-some b at))
      (second.failed_here here);
  no_failure = λ other.
      second.no_failure other ∙ first.no_failure (λ at. none-some b at);
}

-- left with a failed device after a call that only read
pub left_at_on : {S : Type 0} {g : Ghosts S} (place b : ℕ) (old mid new : S)
    → IsUnwritten g None b old mid → IsLeftAt g place b mid new → IsLeftAt g place b old new
left_at_on {g = g} place b old mid new first second = record {
  rest = blocks_on old mid new (held_blocks old mid first.held) second.rest;
  failed = λ here.
      subst (λ failures. failures < g.failures new) (first.no_failure (λ at. none-some b at))
      (second.failed here);
}

-- so is one whose device failed when it was only read
pub left_at_read : {S : Type 0} {g : Ghosts S} (place b : ℕ) (old new : S)
    → IsUnwritten g (Some place) b old new → IsLeftAt g place b old new
left_at_read place b old new is = record {
  rest = held_blocks old new is.held;
  failed = λ here. is.failed_here (ap Some (sym here));
}

-- buffers that were found again over stores aren't shut
pub unshut_over : {S : Type 0} {g : Ghosts S} (stores : List S) (found_set : FoundBufferSet S g)
    (refused : Unstarted S) → AreEach (IsUnwritten g None) stores (stores_in found_set)
    → IsUnshutFrom found_set refused → IsUnshutOver g stores refused
unshut_over {S} {g} stores found_set refused read (NoRoomFrom error buffer back) =
    LacksRoom error buffer
    (each_over {R = IsUnwritten g None} read
    (each_made {Q = IsUnwritten g None} (λ (one : Started S g). store_in one) back
    (λ b one store is. is))
    (λ b old mid new first second. unwritten_on None b old mid new first second))
unshut_over {S} {g} stores found_set refused read (FailedFrom place within error buffer back) =
    FailsAfter place
    (omega (
      arith,
      within,
      read.count,
      length-map found_set.found.items (λ (one : Started S g). store_in one),
    ))
    error buffer
    (each_over {R = IsLeftAt g place} read
    (each_made {Q = IsLeftAt g place} (λ (one : Started S g). store_in one) back
    (λ b one store is. is))
    (λ b old mid new first second. left_at_on place b old mid new first second))

-- what the head of a store that was only read said it says still
pub says_on : {S : Type 0} {g : Ghosts S} (place : ℕ) (old new : S) (b : HeadBlock)
    → IsUnwritten g None place old new → g.honest old
    → Says (g.heads old) (buffer_over g place old) b
    → Says (g.heads new) (buffer_over g place new) b
says_on {g = g} place old new b read honest says =
    subst (λ count. Says (g.heads new)
    (record { number = place; blocks = count; first_cycle = 0 }) b) (sym read.held.count)
    (subst (λ heads. Says heads (buffer_over g place old) b) (sym (read.held.heads honest)) says)

-- a head that a crash leaves is no fault of its buffer but of its device
pub head_outside : {S : Type 0} {g : Ghosts S} (stop place : ℕ) (store : S) (error : StopFault)
    (standing : Standing) → IsHeadFault g stop place store error
    → HasEnded g stop place store standing → IsFromOutside error
head_outside stop place store faults.Memory standing fault ended = tt
head_outside stop place store faults.Device standing fault ended = tt
head_outside stop place store faults.NoHead standing fault ended =
    absurd (fault ended.head ended.says)
head_outside stop place store faults.Unclosed standing fault ended = fault
head_outside stop place store faults.Damaged standing fault ended = fault
head_outside stop place store faults.BadHistory standing fault ended = fault
head_outside stop place store faults.Mixed standing fault ended =
    let none = fault.other ended.head ended.says in
    absurd (none-some standing (sym none ∙ ended.ended))
head_outside stop place store faults.Ahead standing fault ended = fault

-- a head that isn't read, or is none that a crash leaves, is refused so
pub by_head : {S : Type 0} {g : Ghosts S} (stop : ℕ) (stores : List S) (fault : HeadFault)
    (refused : Unstarted S) → IsFirstFault g stop stores fault → refused.error ≡ fault.error
    → refused.buffer ≡ Some fault.place
    → AreEach (IsUnwritten g (failed_head fault.error fault.place)) stores refused.stores.items
    → IsRefusedAfter g stop stores refused
by_head {g = g} stop stores fault refused first error buffer back = record {
  reason = IsByHead fault first error buffer back;
  cause = λ honest may.
      let own = holds_at g.honest stores honest fault.place first.store first.there in
      let ended = may fault.place first.store first.there own in
      subst IsFromOutside (sym error)
      (head_outside stop fault.place first.store fault.error ended.0 (first.reason own)
      ended.1);
}

module _ {S : Type 0} {g : Ghosts S} (stop : ℕ) (stores read : List S)
    (unwritten : AreEach (IsUnwritten g None) stores read) (may : MayHaveEnded g stop stores)
  where
    -- the store that was read at a place, as it was before
    before_at : (place : ℕ) (store : S) → slice_get read place ≡ Some store
        → ComesFrom (IsUnwritten g None) stores place store
    before_at place store there =
        comes_from (IsUnwritten g None) stores read unwritten place store there

    -- the buffer of one of the stores isn't found again, by its head
    first_fault : (error : StopFault) {start : StartError} {back : List S}
        (why : IsUnfoundAt g read start back)
        → ((old : S) → IsUnwritten g None why.place old why.store → g.honest old
        → IsHeadFault g stop why.place old error)
        → IsFirstFault g stop stores (record { place = why.place; error = error })
    first_fault error why reason =
        let from = before_at why.place why.store why.there in
        record {
          store = from.item;
          there = from.there;
          reason = reason from.item from.belongs;
          earlier = λ b one before there honest. may b one there honest;
        }

    -- stores that were read come back unwritten
    pub back_unwritten : (failed : Option ℕ) (back : List S)
        → AreEach (IsUnwritten g failed) read back
        → AreEach (IsUnwritten g failed) stores back
    back_unwritten failed back again =
        each_over {R = IsUnwritten g failed} unwritten again
        (λ b old mid new first second. unwritten_on failed b old mid new first second)

    -- stores that aren't found again are refused so
    unfound_over : (error : StopFault) (buffer : Option ℕ) (back : List S)
        → IsUnfoundBy g read error buffer back → (refused : Unstarted S) → refused.error ≡ error
        → refused.buffer ≡ buffer → refused.stores.items ≡ back
        → IsRefusedOver g stop stores refused
    unfound_over faults.Memory buffer back is refused error told same =
        HasNoRoom error (told ∙ is.0)
        (subst (λ items. AreEach (IsUnwritten g None) stores items) (sym same)
        (back_unwritten None back is.1))
    unfound_over faults.Device buffer back is refused error told same =
        let why = is.0 in
        HasFailed why.place
        (omega (arith, unwritten.count, slice_get_within read why.place why.store why.there)) error
        (told ∙ is.1)
        (subst (λ items. AreEach (IsLeftAt g why.place) stores items) (sym same)
        (each_so (back_unwritten (Some why.place) back why.back_each)
        (λ b old new at there left. left_at_read why.place b old new left)))
    unfound_over faults.NoHead buffer back is refused error told same =
        let why = is.0 in
        IsByHead (record { place = why.place; error = faults.NoHead })
        (first_fault faults.NoHead why
        (λ old from honest b says.
        why.reason (from.held.honest honest) b
        (says_on why.place old why.store b from honest says)))
        error (told ∙ is.1)
        (subst (λ items. AreEach (IsUnwritten g None) stores items) (sym same)
        (back_unwritten None back why.back_each))
    unfound_over faults.Unclosed buffer back is refused error told same =
        let why = is.0 in
        IsByHead (record { place = why.place; error = faults.Unclosed })
        (first_fault faults.Unclosed why
        (λ old from honest. why.reason (from.held.honest honest)))
        error (told ∙ is.1)
        (subst (λ items. AreEach (IsUnwritten g None) stores items) (sym same)
        (back_unwritten None back why.back_each))
    unfound_over faults.Damaged buffer back is refused error told same =
        let why = is.0 in
        IsByHead (record { place = why.place; error = faults.Damaged })
        (first_fault faults.Damaged why
        (λ old from honest. why.reason (from.held.honest honest)))
        error (told ∙ is.1)
        (subst (λ items. AreEach (IsUnwritten g None) stores items) (sym same)
        (back_unwritten None back why.back_each))
    unfound_over faults.BadHistory buffer back is refused error told same = absurd is
    unfound_over faults.Mixed buffer back is refused error told same = absurd is
    unfound_over faults.Ahead buffer back is refused error told same = absurd is

    -- over honest stores they are refused from outside
    unfound_outside : (error : StopFault) (buffer : Option ℕ) (back : List S) → All g.honest stores
        → IsUnfoundBy g read error buffer back → IsFromOutside error
    unfound_outside faults.Memory buffer back honest is = tt
    unfound_outside faults.Device buffer back honest is = tt
    unfound_outside faults.NoHead buffer back honest is =
        let why = is.0 in
        let from = before_at why.place why.store why.there in
        let own = holds_at g.honest stores honest why.place from.item from.there in
        let ended = may why.place from.item from.there own in
        absurd (why.reason (from.belongs.held.honest own) ended.1.head
        (says_on why.place from.item why.store ended.1.head from.belongs own ended.1.says))
    unfound_outside faults.Unclosed buffer back honest is =
        let why = is.0 in
        why.reason
        (holds_at g.honest read (honest_on unwritten honest) why.place why.store why.there)
    unfound_outside faults.Damaged buffer back honest is =
        let why = is.0 in
        why.reason
        (holds_at g.honest read (honest_on unwritten honest) why.place why.store why.there)
    unfound_outside faults.BadHistory buffer back honest is = is
    unfound_outside faults.Mixed buffer back honest is = is
    unfound_outside faults.Ahead buffer back honest is = is

    -- what is refused over stores that were read is refused over those before
    pub refused_over : (refused : Unstarted S) → IsUnshutOver g read refused
        → IsRefusedAfter g stop stores refused
    refused_over refused (LacksRoom error buffer back) = record {
      reason = HasNoRoom error buffer (back_unwritten None refused.stores.items back);
      cause = λ honest still. subst IsFromOutside (sym error) tt;
    }
    refused_over refused (AreUnfound is) = record {
      reason = unfound_over refused.error refused.buffer refused.stores.items is refused refl refl
          refl;
      cause = λ honest still.
          unfound_outside refused.error refused.buffer refused.stores.items honest is;
    }
    refused_over refused (FailsAfter place within error buffer back) = record {
      reason = HasFailed place (omega (arith, within, unwritten.count)) error buffer
          (each_over {R = IsLeftAt g place} unwritten back
          (λ b old mid new first second. left_at_on place b old mid new first second));
      cause = λ honest still. subst IsFromOutside (sym error) tt;
    }

-- each head is one that a crash may leave, whichever way they ended
pub may_have_ended : {S : Type 0} {g : Ghosts S} (stop : ℕ) (stores : List S) (standing : Standing)
    → HaveEnded g stop stores standing → MayHaveEnded g stop stores
may_have_ended stop stores Stopped ended = λ b store there honest.
    (Stopped, ended b store there honest)
may_have_ended stop stores Unstopped ended = ended.0
