-- A relay that is killed, repaired and started.
use Rattle.std.proofs.Common.{◌≡◌, ◌+◌, ◌<◌, ◌==◌, ◌∙◌, ℕ, Bool, true, false, List, [], ◌∷◌, ◌++◌}
use Rattle.std.proofs.Common.{Option, None, Some, All, ap₂, get_or, length, map, refl}
use Rattle.std.proofs.Common.{Result, Ok, Err, IfErr, IfOk, subst, sym, take}
use Rattle.std.proofs.lemmas.Bool.{eqb-true}
use Rattle.std.proofs.lemmas.List.{map_push, take_more}
use Rattle.std.proofs.lemmas.List.Sums.{AllPass-from_list_all}
use Rattle.std.specs.IoError.{error_kind}
use Rattle.std.specs.Prelude.{⊤}
use Rattle.std.specs.declared.io.ErrorKind.{ErrorKind}
use Rattle.std.specs.declared.io.ErrorKind.TheVariants.{OutOfMemory}
use Rattle.article_verdict.specs.Config.{terms_of}
use Rattle.block_shelf.specs.Killing.{NoneFailed}
use Rattle.block_shelf.specs.Leaving.{AreLeftOf, is_whole, saved_in}
use Rattle.block_shelf.specs.Openings.{Opening}
use Rattle.cyc_buffer.specs.Crash.{IsLeftOf}
use Rattle.news_terms.specs.Courses.{Course}
use Rattle.news_terms.specs.Token.{Token}
use Rattle.relay_core.specs.Openings.{openings}
use Rattle.relay_model.specs.State.{Kept}
use Rattle.std.proofs.Common.{zero, suc, drop, slice_get, ap}
use Rattle.std.proofs.lemmas.Option.{none-some}
use Rattle.block_shelf.specs.declared.starting.StopFault.{StopFault}
use Rattle.block_shelf.specs.declared.starting.StopFault.TheVariants as stops
use Rattle.relay_drill.specs.declared.powered.Powered.{Powered}
use Rattle.cyc_block.specs.declared.store.BlockStore.{Ghosts}
use Rattle.news_terms.specs.Places.{Buffer}
use Rattle.news_terms.proofs.ListPlaces.{holds_at}
use Rattle.relay_conf.specs.declared.cycbuff.BufferConf.{BufferConf}
use Rattle.relay_conf.specs.declared.settings.Config.{Config}
use Rattle.relay_core.specs.Killing.{IsLeftBy, LeavesKilled}
use Rattle.relay_core.specs.Starting.{StartsOver}
use Rattle.relay_core.specs.Stopping.{next_stop}
use Rattle.relay_core.specs.declared.stopped.NotStarted.{NotStarted}
use Rattle.relay_core.specs.declared.stopped.NotStarted.TheVariants as nots
use Rattle.relay_core.specs.declared.system.System.{System}
use Rattle.relay_drill.specs.declared.fault.DrillError.{DrillError}
use Rattle.relay_facts.specs.Started.{HasSameStore, started}
use Rattle.relay_model.specs.Terms.{Terms}
use Rattle.relay_model.specs.World.{World}
use Rattle.relay_repair.specs.Repairing.{RepairsLeft}
use Rattle.relay_repair.specs.Telling.{last_stop}
use Rattle.relay_drill.specs.Crashing.{AreSized, HoldSame, RevivesTo, StartsOf}
use Rattle.relay_drill.specs.Fault.{FailGives, PlayGives, unrepaired_as, unseeded_as}
use Rattle.relay_drill.specs.Fault.{unstarted_as}
use Rattle.relay_drill.proofs.Stores.{seen}
use Rattle.relay_drill.specs.Progress.{Breaks, Follows, Goes, Halts, Kills, Leads, Under}
use Rattle.relay_drill.specs.Todo.{Todo}
use Rattle.relay_drill.specs.declared.fault.DrillError.TheVariants as faults
use Rattle.relay_drill.specs.declared.life.Life.{Life}
use Rattle.relay_drill.proofs.Courses.{goes_none, halts_there, leads_on}
use Rattle.relay_drill.specs.Reviving.{Revives, IsFound, IsUnsaid, none_failed}

-- where the test says so no device has failed
none_of_them : (w : Terms) (x : World) → none_failed w x ≡ true → NoneFailed w x.work.failures
none_of_them w x none b buffer there =
    let test : Buffer → Bool = λ one. x.work.failures one.number == 0 in
    eqb-true (x.work.failures buffer.number) 0
    (holds_at (λ (one : Buffer). test one ≡ true) w.buffers
    (AllPass-from_list_all test w.buffers none) b buffer there)

-- the same settings have the same store
pub same_store : (w : Terms) → HasSameStore w w
same_store w = record { buffers = refl; groups = refl; feeds = refl }

module _ {S : Type 0} {g : Ghosts S} where
  -- What is started of a repair agrees with what a start makes of a crash.
  pub starts_of : (config : Config) (stores back : List S) (text : Option (List ℕ)) (now : ℕ)
      (history : List ℕ) (new : System S g) → All g.honest stores
      → RepairsLeft g config stores text now back history → StartsOver config back history new
      → StartsOf g config stores now new
  starts_of config stores back text now history new honest repairs starts x left =
      let w = terms_of config in
      let made = repairs.2 honest w (is_whole w x.state) x (same_store w) left in
      let after = made.repair.after in (
        Some (started after after.work.failures),
        IsFound after made.repair.crash made.repair.moment,
        record {
          configured = sym starts.config_is;
          agrees = starts.leaves w (next_stop (last_stop repairs.0)) after (same_store w)
              made.repair.shut made.left;
        },
      )

  -- so it agrees behind a world that the relay agreed with, by whether a device had failed
  by_failures : (config : Config) (moment : ℕ) (old new : System S g) (stores : List S)
      → LeavesKilled old stores → StartsOf g config stores moment new → (x : World)
      → Under config old x → (b : Bool) → none_failed (terms_of config) x ≡ b
      → (y : Option World) × Revives (terms_of config) moment x y × Follows config new y
  by_failures config moment old new stores leaves starts x under false some =
      (None, IsUnsaid some, tt)
  by_failures config moment old new stores leaves starts x under true none =
      let none_of = subst (λ (it : Config). NoneFailed (terms_of it) x.work.failures)
      under.configured
      (none_of_them (terms_of config) x none) in
      starts x (subst (λ (it : Config). IsLeftBy g stores (terms_of it)
      (is_whole (terms_of it) x.state) x)
      (sym under.configured) (leaves x under.agrees none_of))

  -- So it agrees behind each.
  pub revives_to : (config : Config) (moment : ℕ) (old new : System S g) (stores : List S)
      → config ≡ old.config → LeavesKilled old stores → StartsOf g config stores moment new
      → RevivesTo moment old new
  revives_to config moment old new stores same leaves starts other x under =
      let is : config ≡ other = same ∙ sym under.configured in
      by_failures other moment old new stores leaves
      (subst (λ (it : Config). StartsOf g it stores moment new) is starts) x under
      (none_failed (terms_of other) x) refl

-- what is there, or else this
abbrev from_some : {A : Type 0} → A → Option A → A
from_some other None = other
from_some other (Some one) = one

-- what stands at a place of a list stands at that of one that a function can't tell from it
same_at : {A B : Type 0} (f : A → B) (old new : List A) → map f new ≡ map f old → (b : ℕ)
    (one : A) → slice_get old b ≡ Some one
    → (other : A) × (slice_get new b ≡ Some other) × (f other ≡ f one)
same_at f [] new same b one there = absurd (none-some one there)
same_at f (o ∷ old) [] same b one there = absurd (cc same)
same_at f (o ∷ old) (n ∷ new) same zero one there =
    (n, refl, ap (λ (them : List _). get_or them 0 (f n)) same ∙ ap f (ap (from_some o) there))
same_at f (o ∷ old) (n ∷ new) same (suc b) one there =
    same_at f old new (ap (λ (them : List _). drop 1 them) same) b one there

module _ {S : Type 0} {g : Ghosts S} where
  -- What a crash may have left it may have left with other head blocks.
  left_same : (w : Terms) (begun : ℕ → Course) (kept : List Kept) (openings : ℕ → Option Opening)
      (saved : Token → Bool) (stores back : List S) → HoldSame g stores back
      → AreLeftOf g stores w begun kept openings saved
      → AreLeftOf g back w begun kept openings saved
  left_same w begun kept openings saved stores back same left =
      record {
        fit = left.fit;
        laid = left.laid;
        buffers = λ b buffer there.
            let one = left.buffers b buffer there in
            let found = same_at (λ (store : S). g.blocks store) stores back same b one.store
            one.there in
            record {
              store = found.0;
              there = found.1;
              history = one.history;
              is_of_buffer = one.is_of_buffer;
              is_said = one.is_said;
              left = subst (λ (blocks : List (List ℕ)).
                  IsLeftOf one.history (saved_in saved buffer) blocks) (sym found.2) one.left;
            };
      }

  -- So a kill leaves it.
  pub leaves_same : (old : System S g) (stores back : List S) → HoldSame g stores back
      → LeavesKilled old stores → LeavesKilled old back
  leaves_same old stores back same leaves x agrees none =
      let one = leaves x agrees none in
      record {
        well = one.well;
        left = left_same (terms_of old.config) x.state.begun x.state.kept
            (openings x.work.writer) (is_whole (terms_of old.config) x.state) stores back same
            one.left;
      }

-- One more store is of the size of one more buffer.
pub one_more_sized : {S : Type 0} (g : Ghosts S) (buffers : List BufferConf) (stores : List S)
    (at : ℕ) (buffer : BufferConf) (store : S) → at < length buffers → at < length stores
    → buffer ≡ get_or buffers at buffer → store ≡ get_or stores at store
    → AreSized g (take at stores) (take at buffers) → length (g.blocks store) ≡ buffer.blocks
    → AreSized g (take (at + 1) stores) (take (at + 1) buffers)
one_more_sized {S} g buffers stores at buffer store within there is it sized blocks =
    let sizes : map (λ (s : S). length (g.blocks s)) (take at stores ++ store ∷ [])
    ≡ map (λ (b : BufferConf). b.blocks) (take at buffers ++ buffer ∷ []) =
    map_push (λ (s : S). length (g.blocks s)) (take at stores) store
    ∙ ap₂ (λ (them : List ℕ) (one : ℕ). them ++ one ∷ []) sized blocks
    ∙ sym (map_push (λ (b : BufferConf). b.blocks) (take at buffers) buffer) in
    rw (take_more buffers at buffer within, ← is, take_more stores at store there, ← it) sizes

-- the host couldn't seed a relay, and had no memory, or something else was wrong
unseeded_fails : (kind : ErrorKind) → FailGives (unseeded_as kind) ⊤ ⊥ ⊤
unseeded_fails OutOfMemory = tt
unseeded_fails kind = tt

-- so it is of a start that is refused
unstarted_fails : (fault : StopFault) → FailGives (unstarted_as fault) ⊤ ⊥ ⊤
unstarted_fails stops.Memory = tt
unstarted_fails fault = tt

-- What isn't repaired and started ends the drill for want of memory, or as not repaired.
pub unrepaired_fails : {S : Type 0} (why : NotStarted S) (error : DrillError)
    → error ≡ unrepaired_as why → FailGives error ⊤ ⊥ ⊤
unrepaired_fails (nots.Host why stores) error is =
    let P : DrillError → Type 0 = λ it. FailGives it ⊤ ⊥ ⊤ in
    subst P (sym is) (unseeded_fails (error_kind why))
unrepaired_fails (nots.Refused refused) error is =
    let P : DrillError → Type 0 = λ it. FailGives it ⊤ ⊥ ⊤ in
    subst P (sym is) (unstarted_fails refused.error)

-- Want of memory ends the drill so.
pub memory_fails : (error : DrillError) → error ≡ faults.Memory → FailGives error ⊤ ⊥ ⊤
memory_fails error is =
    let P : DrillError → Type 0 = λ it. FailGives it ⊤ ⊥ ⊤ in
    subst P (sym is) tt

-- What was done of a life was done of it with its history noted, unless memory ran out.
pub noted_leads : {reasons : Bool} (result : Result Life DrillError) (a b : Todo) (old mid : Life)
    (before after : Option (List ℕ)) → IfOk result (λ noted. noted.relay ≡ mid.relay)
    → IfErr result (λ error. error ≡ faults.Memory)
    → Goes reasons a b old.relay mid.relay before after → Leads reasons result a b old before after
noted_leads (Ok noted) a b old mid before after same memory goes =
    rw same goes
noted_leads {reasons = reasons} (Err error) a b old mid before after same memory goes =
    let P : DrillError → Type 0 = λ it. FailGives it (Halts reasons a old.relay before after)
    (Breaks reasons a old.relay before after) (Kills reasons a old.relay before after) in
    subst P (sym memory) (halts_there a b old.relay mid.relay before after goes)

-- What was done of a life whose history was noted was done of it.
pub noted_again : (reasons : Bool) (result : Result Life DrillError) (a b : Todo) (old mid : Life)
    (before after : Option (List ℕ)) → mid.relay ≡ old.relay
    → Leads reasons result a b mid before after → Leads reasons result a b old before after
noted_again reasons result a b old mid before after same leads =
    leads_on reasons result a a b old mid before before after (rw same (goes_none a old.relay
    before)) leads

-- What is started of the stores that a life left is that life, revived.
pub revived : (config : Config) (moment : ℕ) (old : Life) (stores : List Powered)
    (result : Result Life DrillError) → config ≡ old.relay.config → LeavesKilled old.relay stores
    → PlayGives result (λ new. StartsOf seen config stores moment new.relay) ⊤ ⊥ ⊤
    → PlayGives result (λ new. RevivesTo moment old.relay new.relay) ⊤ ⊥ ⊤
revived config moment old stores (Ok new) same leaves starts =
    revives_to config moment old.relay new.relay stores same leaves starts
revived config moment old stores (Err error) same leaves fails = fails
