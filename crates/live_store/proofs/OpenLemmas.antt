-- What is known of an open write, and of the faults that it and a begin come to, without the
-- history.
use Rattle.std.proofs.Common.{◌≡◌, ◌∙◌, ℕ, ◌+◌, ◌<◌, refl, sym, ap, subst, arith, Bool, true, false}
use Rattle.std.proofs.Common.{set, List, length, Option, None, Some}
use Rattle.std.proofs.Common.{Result, Ok, Err}
use Rattle.std.proofs.Math.Logic.{∥∥₁_map, ∥∥₁_elim}
use Rattle.std.proofs.Props.{props}
use Rattle.std.specs.Coded.{le_prop}
use Rattle.std.specs.Prelude.{IfSome}
use Rattle.boxcar.specs.Table.{Shelves, Where, Shows}
use Rattle.news_terms.specs.Places as places
use Rattle.cyc_token.specs.Token.{token_view}
use Rattle.cyc_token.specs.declared.Token as codes
use Rattle.cyc_block.specs.declared.store.BlockStore.{Ghosts}
use Rattle.cyc_buffer.specs.Agreement.{Owns, CanWrite, CanFinish, blocks_written, store_of}
use Rattle.cyc_buffer.specs.Agreement.{is_broken, token_of, Follows}
use Rattle.cyc_buffer.specs.Calls.{WritesNext, LeavesDevice}
use Rattle.cyc_buffer.specs.Answers.{IsDeviceFault, fault_of}
use Rattle.cyc_buffer.specs.Head.{is_busy}
use Rattle.cyc_buffer.specs.History.{with_finish}
use Rattle.cyc_buffer.specs.Progress.{IsTheOpen}
use Rattle.cyc_buffer.specs.Remembered.{AddsNoStart, AddsStart, IsUnbegun}
use Rattle.cyc_buffer.specs.declared.answers.BufError.{BufError}
use Rattle.cyc_buffer.specs.declared.answers.BufError.TheVariants as errors
use Rattle.cyc_buffer.specs.declared.answers.Fault.{Fault}
use Rattle.cyc_buffer.specs.declared.answers.FaultKind.{FaultKind}
use Rattle.cyc_buffer.specs.declared.buffer.Buffer.{Buffer}
use Rattle.cyc_buffer.specs.declared.buffer_state.Open.{Open}
use Rattle.cyc_buffer.specs.declared.buffer_state.Progress.{Progress}
use Rattle.cyc_buffer.proofs.Finished.{same_some}
use Rattle.live_store.specs.declared.open_write.OpenWrite.{OpenWrite}
use Rattle.live_store.specs.declared.writing.entering.Record.{Record}
use Rattle.live_store.specs.Tied.{Tied, HasNumber, IsNamed, token_in, text_in}
use Rattle.live_store.specs.Steps.{IsDevice, IsBeginFault, CanWriteFor, CanFinishFor}
use Rattle.live_store.specs.Steps.{WritesRecord, after_write}
use Rattle.live_store.specs.declared.numbered.NumberedBuffer.{NumberedBuffer}
use Rattle.live_store.specs.declared.record.StorePremises as store_premises
use Rattle.live_store.proofs.TiedLemmas.{place_of_write, open_write_of, named, named_again}
use Rattle.live_store.proofs.TiedLemmas.{tied_next}
use Rattle.live_store.proofs.TiedLemmas.{tied_failed, tied_finish, continues_as}

-- two values that one is found to be are the same
pub the_same : {X : Type 0} (o r : Option X) (x y : X) → o ≡ Some x → r ≡ o → r ≡ Some y → x ≡ y
the_same o r x y p q e = same_some (sym p ∙ sym q ∙ e)

-- a token is known by its parts
pub same_token : {t u : codes.Token} → token_view t ≡ token_view u → t ≡ u
same_token e = λ i. record {
  class = (e i).class;
  buffer = (e i).buffer;
  cycle = (e i).cycle;
  first = (e i).first;
  length = (e i).length;
}

owns_prop : (write : Open) (o : Option Progress) → IsProp (IsTheOpen write o)
owns_prop write None = λ x y. absurd x
owns_prop write (Some p) = hlevel props

pub no_prop : IsProp ⊥
no_prop x y = absurd x

token_by : (register : Shelves) (b : OpenWrite) (shown : Where Record)
    (o : Option (Where Record)) → HasNumber register b o
    → IsNamed b.write o shown → token_view (token_of b.write) ≡ token_in shown
token_by register b shown None number same = ap token_view (sym same)
token_by register b shown (Some own) number same =
    number.named ∙ ap (λ (r : Record). token_view r.token.value) same.1

module _ {S : Type 0} {g : Ghosts S} (register : Shelves) (trusted : Bool) (buffer : Buffer S g)
    (b : OpenWrite) (numbers : List (Option (Where Record)))
    (tied : ∥ Tied trusted register buffer (Some b) numbers ∥₁) where
  -- what stands beside a buffer is its open write
  pub owns_of : Owns buffer b.write
  owns_of = ∥∥₁_elim tied (owns_prop b.write buffer.buffer_state.progress) (λ t. t.own_write.owns)

  -- its first block has a place for a number
  pub place_of_first : (token_of b.write).first < length numbers
  place_of_first =
      let one : IsProp ((token_of b.write).first < length numbers) = hlevel (props, le_prop) in
      ∥∥₁_elim tied one (λ t. place_of_write register trusted buffer b numbers t)

  -- the number beside it is the register's
  pub shows_of : IfSome b.shown (λ w. Shows register w)
  shows_of = by_case b.shown refl
    where
      by_case : (o : Option (Where Record)) → b.shown ≡ o → IfSome o (λ w. Shows register w)
      by_case None is = tt
      by_case (Some w) is =
          let one : IsProp (Shows register w) = hlevel (props, le_prop) in
          ∥∥₁_elim tied one
          (λ t. subst (λ o. IfSome o (λ w. Shows register w)) is t.own_write.shown)

  -- where no write of a block failed, it is known how far it has come
  unbroken_of : b.broken ≡ false
      → (is_broken buffer ≡ false) × (b.written ≡ blocks_written buffer)
  unbroken_of unbroken =
      let both : IsProp ((is_broken buffer ≡ false) × (b.written ≡ blocks_written buffer)) =
      hlevel (props, le_prop) in
      ∥∥₁_elim tied both (λ t. let w = t.own_write.whole unbroken in (w.unbroken, w.written))

  -- the record that it is named by has its token
  pub named_token : (shown : Where Record) → b.broken ≡ false → IsNamed b.write b.shown shown
      → token_view (token_of b.write) ≡ token_in shown
  named_token shown unbroken same =
      let one : IsProp (token_view (token_of b.write) ≡ token_in shown) = hlevel props in
      ∥∥₁_elim tied one
      (λ t. token_by register b shown b.shown (t.own_write.whole unbroken).number same)

  -- what can be written for a record can be written
  pub can_write : (shown : Where Record) → CanWriteFor b shown
      → CanWrite buffer b.write (text_in shown)
  can_write shown can =
      let known = unbroken_of can.unbroken in
      record {
        owned = owns_of;
        whole = known.0;
        left = omega (arith, can.left, known.1);
        octets = can.octets;
      }

  -- what can be finished for a record can be finished
  pub can_finish : (shown : Where Record) → CanFinishFor b shown → CanFinish buffer b.write
  can_finish shown can =
      let known = unbroken_of can.unbroken in
      record {
        owned = owns_of;
        whole = known.0;
        written = sym known.1 ∙ can.written;
      }

  module _ (new : Buffer S g) (shown : Where Record) where
    -- after one more block
    pub tied_written : (last : Bool) → CanWriteFor b shown → Shows register shown
        → WritesNext buffer b.write (text_in shown) (Ok last) new
        → LeavesDevice buffer (Ok last) new → AddsNoStart buffer new
        → ∥ Tied trusted register new (Some (open_write_of b.write shown (b.written + 1) false))
        numbers ∥₁
    tied_written last can shows w device adds = ∥∥₁_map tied (λ t.
        let whole = t.own_write.whole can.unbroken in
        tied_next register trusted buffer new numbers b shown (b.written + 1) t
        (named register buffer b shown whole can.named shows can.octets)
        (continues_as register buffer b shown numbers can.unbroken whole can.named)
        w.written w.owned w.whole (omega (arith, whole.written, w.count)) adds device.blocks)

    -- after the device failed
    pub tied_broken : (e : BufError) → Shows register shown
        → WritesNext buffer b.write (text_in shown) (Err e) new
        → LeavesDevice {X = Bool} buffer (Err e) new → AddsNoStart buffer new
        → ∥ Tied trusted register new (Some (open_write_of b.write shown b.written true)) numbers ∥₁
    tied_broken e shows w device adds = ∥∥₁_map tied (λ t.
        tied_failed register trusted buffer new numbers b shown shows t w.broken w.owned adds
        device.blocks)

    -- after a finish
    pub tied_finished : CanFinishFor b shown → Shows register shown → Follows with_finish buffer new
        → is_busy new ≡ false → AddsStart (token_of b.write).first buffer new
        → store_of new ≡ store_of buffer
        → ∥ Tied trusted register new None
        (set numbers (token_of b.write).first (Some shown)) ∥₁
    tied_finished can shows follows idle adds store = ∥∥₁_map tied (λ t.
        let whole = t.own_write.whole can.unbroken in
        tied_finish register trusted buffer new b numbers shown t
        (named_again register b shown b.shown can.begun whole.number can.named shows)
        (continues_as register buffer b shown numbers can.unbroken whole can.named)
        (sym whole.written ∙ can.written) follows idle adds store)

module _ {S : Type 0} {s : Ghosts S} {J : Type 0} {j : store_premises.Ghosts J}
    (old new : NumberedBuffer S J s j) (b : OpenWrite) (stood : old.open_write ≡ Some b)
    (shown : Where Record) (text : List ℕ) (same : text ≡ text_in shown)
    (own : CanWriteFor b shown) where
  -- what is written of an open write is written for the record
  pub writes_record : (r : Result Bool BufError)
      → WritesNext old.buffer b.write text r new.buffer
      → LeavesDevice old.buffer r new.buffer → new.open_write ≡ Some (after_write shown r b)
      → new.numbers.items ≡ old.numbers.items → WritesRecord old shown text r new
  writes_record r writes device stands numbers =
      let tied = subst (λ o. ∥ Tied j.trusted j.register old.buffer o old.numbers.items ∥₁) stood
      old.tied in
      let can = subst (λ x. CanWrite old.buffer b.write x) (sym same)
      (can_write j.register j.trusted old.buffer b old.numbers.items tied shown own) in
      record {
        open_write = b;
        stood = stood;
        own = own;
        named = named_token j.register j.trusted old.buffer b old.numbers.items tied shown
            own.unbroken own.named;
        can = can;
        writes = writes;
        device = device;
        stands = stands;
        numbers = numbers;
      }

  -- or the device fails at it
  pub writes_failed : (e : BufError) (f : Fault) → e ≡ errors.Device f
      → WritesNext old.buffer b.write text (Err e) new.buffer
      → LeavesDevice {X = Bool} old.buffer (Err e) new.buffer
      → new.open_write ≡ Some (open_write_of b.write shown b.written true)
      → new.numbers.items ≡ old.numbers.items
      → WritesRecord old shown text (Err (errors.Device f)) new
  writes_failed e f is writes device stands numbers =
      subst (λ (x : BufError). WritesRecord old shown text (Err x) new) is
      (writes_record (Err e) writes device stands numbers)

pub same_device : {f h : Fault} → errors.Device f ≡ errors.Device h → f ≡ h
same_device e = cc

-- what fails by the device fails so
pub device_fails : (buffer : places.Buffer) (kind : FaultKind) (octets : ℕ) (e : BufError)
    → IsDeviceFault buffer kind octets e → IsDevice e
device_fails buffer kind octets e fault = subst IsDevice (sym fault) tt

-- and its fault is the one that is told
pub device_fault_is : (buffer : places.Buffer) (kind : FaultKind) (octets : ℕ) (e : BufError)
    (f : Fault) → IsDeviceFault buffer kind octets e → e ≡ errors.Device f
    → f ≡ fault_of buffer kind octets
device_fault_is buffer kind octets e f fault is = same_device (sym is ∙ fault)

-- the fault of a begin that is refused is a worn buffer's
pub begin_fault : (buffer : places.Buffer) (busy : Bool) (octets : ℕ) (e : BufError)
    → IsUnbegun buffer busy octets e → IsBeginFault octets e
begin_fault buffer busy octets errors.TooBig refused = tt
begin_fault buffer busy octets errors.Busy refused = tt
begin_fault buffer busy octets (errors.Worn f) refused =
    (ap (λ (x : Fault). x.kind) refused, ap (λ (x : Fault). x.length) refused)
begin_fault buffer busy octets (errors.Device f) refused = refused
