-- Events are refused in the order of the reasons, and nothing changes by it.
use Rattle.std.proofs.Common.{◌≡◌, ◌<◌, ◌≤◌, ℕ, Bool, true, false, List, Option, None, Some, refl}
use Rattle.std.proofs.Common.{sym, ap, subst, ◌∙◌, true≢false}
use Rattle.std.proofs.lemmas.Bool.{le-leb, le-ltb, lt-leb, lt-ltb}
use Rattle.std.specs.Prelude.{length, nat_le, nat_lt, if◌then◌else◌}
use Rattle.article_verdict.specs.Config.{terms_of}
use Rattle.cyc_block.specs.declared.store.BlockStore.{Ghosts}
use Rattle.relay_model.specs.Run as run
use Rattle.relay_model.specs.Run.{Event, first_of_two, is_reading, is_running, is_taken, is_there}
use Rattle.relay_model.specs.Run.{refusal, takes_memory}
use Rattle.relay_model.specs.Terms.{Reason, last_moment}
use Rattle.relay_model.specs.World as world
use Rattle.relay_model.specs.World.{Fault, World}
use Rattle.relay_core.specs.Refusals.{IsInOrder, HasGroupWriters, RefusesRightly, seen}
use Rattle.relay_core.specs.Peers.{session_at}
use Rattle.relay_core.specs.Turns.{IsMemoryAlone}
use Rattle.relay_core.specs.Views.{fault_view, output_view}
use Rattle.relay_core.specs.declared.event.CoreError.{CoreError}
use Rattle.relay_core.specs.declared.event.CoreError.TheVariants as faults
use Rattle.relay_core.specs.declared.event.Output.{Output}
use Rattle.relay_core.specs.declared.event.Output.TheVariants as outputs
use Rattle.relay_core.specs.declared.system.System.{System}
use Rattle.relay_core.specs.Agreement.{AgreesAs}
use Rattle.block_shelf.specs.Leaving.{Trust}

memory_is : (output : Output) (fault : Fault) → output ≡ outputs.Refused faults.Memory
    → output_view output ≡ world.Refuses fault → fault ≡ world.Memory
memory_is output fault memory is =
    let e : world.Refuses fault ≡ world.Refuses world.Memory =
    sym is ∙ ap output_view memory in
    cc

none_some : {fault : Fault} → None ≡ Some fault → ⊥
none_some e = cc

-- whether the world refuses something
abbrev pub is_refusal : world.Output → Bool
is_refusal world.Quiet = false
is_refusal (world.Sent session octets) = false
is_refusal (world.Rejects session octets reason) = false
is_refusal (world.Ended session octets) = false
is_refusal (world.Refuses fault) = true

-- what isn't refused never is
pub never_refuses : (output : world.Output) (fault : Fault) → output ≡ world.Refuses fault
    → is_refusal output ≡ false → ⊥
never_refuses output fault is other = true≢false (sym (ap is_refusal is) ∙ other)

-- what is said refuses no event
pub spoken_is_said : (s : ℕ) (octets : List ℕ) (why : Option Reason)
    → is_refusal (world.spoken s octets why) ≡ false
spoken_is_said s octets None = refl
spoken_is_said s octets (Some reason) = refl

module _ {S : Type 0} {g : Ghosts S} (s : System S g) where
  -- the first reason to refuse the event by what is seen
  abbrev pub reason : Event → Option Fault
  reason event = refusal (terms_of s.config) (seen s) event

  -- an event is refused for the first reason
  pub refused_first : (event : Event) (error : CoreError)
      → (HasGroupWriters s → reason event ≡ Some (fault_view error))
      → RefusesRightly event s (outputs.Refused error) s
  refused_first event error why =
      record {
        order = λ laned.
            let P : Option Fault → Type 0 = λ f. IsInOrder event f (outputs.Refused error) in
            subst P (sym (why laned)) refl;
        same = λ laned fault first. refl;
        kept = λ fault is trusted x agrees. agrees;
      }

  -- an event isn't refused, or for want of memory alone, and that only where it takes memory
  pub refused_last : (event : Event) (output : Output) (new : System S g)
      → (HasGroupWriters s → reason event ≡ None) → IsMemoryAlone output
      → (output ≡ outputs.Refused faults.Memory → takes_memory event ≡ true)
      → (output ≡ outputs.Refused faults.Memory → (trusted : Trust) (x : World)
      → AgreesAs trusted s x → AgreesAs trusted new x)
      → RefusesRightly event s output new
  refused_last event output new none alone takes same =
      record {
        order = λ laned.
            let P : Option Fault → Type 0 = λ f. IsInOrder event f output in
            subst P (sym (none laned)) (λ fault is.
            let memory = alone fault is in
            (memory_is output fault memory is, takes memory));
        same = λ laned fault first. absurd (none_some (sym (none laned) ∙ first));
        kept = λ fault is. same (alone fault is);
      }

  -- an event that is done
  pub not_refused : (event : Event) (output : Output) (new : System S g)
      → (HasGroupWriters s → reason event ≡ None)
      → ((fault : Fault) → output_view output ≡ world.Refuses fault → ⊥)
      → RefusesRightly event s output new
  not_refused event output new none done =
      record {
        order = λ laned.
            let P : Option Fault → Type 0 = λ f. IsInOrder event f output in
            subst P (sym (none laned)) (λ fault is. absurd (done fault is));
        same = λ laned fault first. absurd (none_some (sym (none laned) ∙ first));
        kept = λ fault is. absurd (done fault is);
      }

  -- memory was wanted
  pub memory_wanted : (event : Event) (new : System S g) → (HasGroupWriters s → reason event ≡ None)
      → takes_memory event ≡ true
      → ((trusted : Trust) (x : World) → AgreesAs trusted s x → AgreesAs trusted new x)
      → RefusesRightly event s (outputs.Refused faults.Memory) new
  memory_wanted event new none takes same =
      refused_last event (outputs.Refused faults.Memory) new none (λ fault is. refl)
      (λ memory. takes) (λ memory. same)

  -- the first reasons of a Turn
  pub none_runs : (n now : ℕ) (answer : Bool)
      → answer ≡ is_there is_running (session_at s.peers n) → answer ≡ false
      → reason (run.Turn n now) ≡ Some world.NoSession
  none_runs n now answer is wrong =
      ap (λ b. first_of_two b world.NoSession (nat_le now last_moment) world.BadMoment)
      (sym is ∙ wrong)

  pub late_turn : (n now : ℕ) (answer : Bool)
      → answer ≡ is_there is_running (session_at s.peers n) → answer ≡ true
      → last_moment < now → reason (run.Turn n now) ≡ Some world.BadMoment
  late_turn n now answer is right late =
      let e = sym is ∙ right in
      let f : nat_le now last_moment ≡ false = lt-leb now last_moment late in
      λ i. first_of_two (e i) world.NoSession (f i) world.BadMoment

  pub turn_open : (n now : ℕ) (answer : Bool)
      → answer ≡ is_there is_running (session_at s.peers n) → answer ≡ true
      → now ≤ last_moment → reason (run.Turn n now) ≡ None
  turn_open n now answer is right early =
      let e = sym is ∙ right in
      let f : nat_le now last_moment ≡ true = le-leb now last_moment early in
      λ i. first_of_two (e i) world.NoSession (f i) world.BadMoment

  -- those of a Write
  pub no_group : (h now : ℕ) → length s.group_writers.items ≤ h → HasGroupWriters s
      → reason (run.Write h now) ≡ Some world.NoGroup
  no_group h now past laned =
      let f : nat_lt h (length (terms_of s.config).groups) ≡ false =
      le-ltb h _ (subst (λ (k : ℕ). k ≤ h) laned past) in
      ap (λ b. first_of_two b world.NoGroup (nat_le now last_moment) world.BadMoment) f

  pub late_write : (h now : ℕ) → h < length s.group_writers.items → last_moment < now
      → HasGroupWriters s
      → reason (run.Write h now) ≡ Some world.BadMoment
  late_write h now within late laned =
      let e : nat_lt h (length (terms_of s.config).groups) ≡ true =
      lt-ltb h _ (subst (λ (k : ℕ). h < k) laned within) in
      let f : nat_le now last_moment ≡ false = lt-leb now last_moment late in
      λ i. first_of_two (e i) world.NoGroup (f i) world.BadMoment

  pub write_open : (h now : ℕ) → h < length s.group_writers.items → now ≤ last_moment
      → HasGroupWriters s
      → reason (run.Write h now) ≡ None
  write_open h now within early laned =
      let e : nat_lt h (length (terms_of s.config).groups) ≡ true =
      lt-ltb h _ (subst (λ (k : ℕ). h < k) laned within) in
      let f : nat_le now last_moment ≡ true = le-leb now last_moment early in
      λ i. first_of_two (e i) world.NoGroup (f i) world.BadMoment

  -- those of Bytes and Break
  abbrev pub none_if : Bool → Option Fault
  none_if b = if b then None else Some world.NoSession

  pub bytes_reason : (n : ℕ) (piece : List ℕ) (answer b : Bool)
      → answer ≡ is_there is_reading (session_at s.peers n) → answer ≡ b
      → reason (run.Bytes n piece) ≡ none_if b
  bytes_reason n piece answer b is e = ap none_if (sym is ∙ e)

  pub break_reason : (n : ℕ) (answer b : Bool)
      → answer ≡ is_there is_reading (session_at s.peers n) → answer ≡ b
      → reason (run.Break n) ≡ none_if b
  break_reason n answer b is e = ap none_if (sym is ∙ e)

  -- those of Open
  abbrev pub open_if : Bool → Bool → Option Fault
  open_if taken known =
      if taken then Some world.SessionTaken else (if known then None else Some world.NoPeer)

  pub was_taken : (n peer : ℕ) (answer : Bool) → answer ≡ is_taken s.newest n → answer ≡ true
      → reason (run.Open n peer) ≡ Some world.SessionTaken
  was_taken n peer answer is right =
      ap (λ b. open_if b (nat_lt peer (length (terms_of s.config).peers))) (sym is ∙ right)

  pub no_peer : (n peer : ℕ) (answer : Bool) → answer ≡ is_taken s.newest n → answer ≡ false
      → length (terms_of s.config).peers ≤ peer
      → reason (run.Open n peer) ≡ Some world.NoPeer
  no_peer n peer answer is wrong past =
      let e = sym is ∙ wrong in
      let f : nat_lt peer (length (terms_of s.config).peers) ≡ false = le-ltb peer _ past in
      λ i. open_if (e i) (f i)

  pub may_open : (n peer : ℕ) (answer : Bool) → answer ≡ is_taken s.newest n → answer ≡ false
      → peer < length (terms_of s.config).peers → reason (run.Open n peer) ≡ None
  may_open n peer answer is wrong within =
      let e = sym is ∙ wrong in
      let f : nat_lt peer (length (terms_of s.config).peers) ≡ true = lt-ltb peer _ within in
      λ i. open_if (e i) (f i)
