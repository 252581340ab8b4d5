-- How far the code has come: one part after the other, and where it was broken off.
use Rattle.std.proofs.Common.{◌≡◌, ℕ, Bool, List, [], ◌∷◌, ◌++◌, Option, None, Some, Result}
use Rattle.std.proofs.Common.{Ok, Err, refl}
use Rattle.std.specs.Prelude.{⊤}
use Rattle.std.proofs.Common.{sym, subst, append_assoc, ◌∙◌}
use Rattle.std.proofs.lemmas.Grind.{flat_map-append}
use Rattle.std.specs.Io.KnownBytes.{Appends}
use Rattle.std.specs.Result.{IsErr, IsErrAnd}
use Rattle.cyc_block.specs.declared.store.BlockStore.{Ghosts}
use Rattle.relay_core.specs.Arming.{StaysLeft}
use Rattle.relay_core.specs.Sharing.{KeepsFrame}
use Rattle.relay_core.specs.declared.system.System.{System}
use Rattle.relay_model.specs.World.{World}
use Rattle.relay_conf.specs.declared.settings.Config.{Config}
use Rattle.relay_drill.specs.Fault.{DoGives, EndGives, FailGives, PlayGives}
use Rattle.relay_drill.specs.Play.{Plays, IsOpen, Rests}
use Rattle.relay_drill.specs.Print.{Told, printed_all, told_text}
use Rattle.relay_drill.specs.Progress.{Breaks, Goes, Halts, Kills, Leads, Loses, Performs, Under}
use Rattle.relay_drill.specs.Todo.{Todo, Crashing, behind_cut}
use Rattle.relay_drill.specs.declared.fault.DrillError.{DrillError}
use Rattle.relay_drill.specs.declared.fault.DrillError.TheVariants as faults
use Rattle.relay_drill.specs.declared.fault.Ended.{Ended}
use Rattle.relay_drill.specs.declared.fault.Ended.TheVariants as ends
use Rattle.relay_drill.specs.declared.life.Life.{Life}
use Rattle.relay_drill.proofs.Plays.{plays_on}
use Rattle.relay_report.proofs.Writes.{appends_both, appends_none}

-- the text of told and of those that follow is written in two steps
both_gained : (reasons : Bool) (first second : List Told) (before mid after : Option (List ℕ))
    → Appends before mid (printed_all reasons first)
    → Appends mid after (printed_all reasons second)
    → Appends before after (printed_all reasons (first ++ second))
both_gained reasons first second before mid after one two =
    subst (λ (text : List ℕ). Appends before after text)
    (sym (flat_map-append (told_text reasons) first second))
    (appends_both before mid after (printed_all reasons first) (printed_all reasons second) one two)

-- what an error says holds where what it says of each case does
pub fail_map : (error : DrillError) {halted broken killed halted' broken' killed' : Type 0}
    → (halted → halted') → (broken → broken') → (killed → killed')
    → FailGives error halted broken killed → FailGives error halted' broken' killed'
fail_map faults.Memory halts breaks kills gives = halts gives
fail_map faults.Unwritten halts breaks kills gives = breaks gives
fail_map (faults.Line number) halts breaks kills gives = gives
fail_map faults.Unreadable halts breaks kills gives = gives
fail_map faults.Unseeded halts breaks kills gives = gives
fail_map faults.Device halts breaks kills gives = gives
fail_map faults.Unrepaired halts breaks kills gives = kills gives

-- What an answer says holds where what it says of each case does.
pub gives_map : {A : Type 0} (result : Result A DrillError) {done done' : A → Type 0}
    {halted broken killed halted' broken' killed' : Type 0} →
    ((value : A) → done value → done' value)
    → (halted → halted') → (broken → broken') → (killed → killed')
    → PlayGives result done halted broken killed
    → PlayGives result done' halted' broken' killed'
gives_map (Ok value) goes halts breaks kills gives = goes value gives
gives_map (Err error) goes halts breaks kills gives = fail_map error halts breaks kills gives

-- how a line ended says what it does of each case
pub end_map : (ended : Ended) {halted broken killed lost halted' broken' killed' lost' : Type 0}
    → (halted → halted') → (broken → broken') → (killed → killed') → (lost → lost')
    → EndGives ended halted broken killed lost → EndGives ended halted' broken' killed' lost'
end_map (ends.Faulty error) halts breaks kills loses gives =
    fail_map error halts breaks kills gives
end_map ends.Cut halts breaks kills loses gives = loses gives

-- What an answer says of a line holds where what it says of each case does.
pub do_map : {A : Type 0} (result : Result A Ended) {done done' : A → Type 0}
    {halted broken killed lost halted' broken' killed' lost' : Type 0} →
    ((value : A) → done value → done' value)
    → (halted → halted') → (broken → broken') → (killed → killed') → (lost → lost')
    → DoGives result done halted broken killed lost
    → DoGives result done' halted' broken' killed' lost'
do_map (Ok value) goes halts breaks kills loses gives = goes value gives
do_map (Err ended) goes halts breaks kills loses gives =
    end_map ended halts breaks kills loses gives

-- what is said of a line in which the power went
pub cut_loses : (halted broken killed lost : Type 0) (ended : Ended) → ended ≡ ends.Cut
    → EndGives ended halted broken killed lost → lost
cut_loses halted broken killed lost ended is gives =
    let P : Ended → Type 0 = λ it. EndGives it halted broken killed lost in
    subst P is gives

-- what is said of one that ended by an error
pub faulty_fails : (halted broken killed lost : Type 0) (ended : Ended) (error : DrillError)
    → ended ≡ ends.Faulty error → EndGives ended halted broken killed lost
    → FailGives error halted broken killed
faulty_fails halted broken killed lost ended error is gives =
    let P : Ended → Type 0 = λ it. EndGives it halted broken killed lost in
    subst P is gives

-- what an answer says of a line where another call's end is passed on
pub ended_gives : {A : Type 0} (ended : Ended) (result : Result A Ended)
    (done : A → Type 0) (halted broken killed lost : Type 0) → IsErr result
    → IsErrAnd result (λ e. e ≡ ended) → EndGives ended halted broken killed lost
    → DoGives result done halted broken killed lost
ended_gives ended (Ok value) done halted broken killed lost is e gives = absurd (cc is)
ended_gives ended (Err passed) done halted broken killed lost is e gives =
    let P : Ended → Type 0 = λ it. EndGives it halted broken killed lost in
    subst P (sym e) gives

-- what an answer says where another call's error is passed on
pub error_gives : {A : Type 0} (error : DrillError) (result : Result A DrillError)
    (done : A → Type 0) (halted broken killed : Type 0) → IsErr result
    → IsErrAnd result (λ e. e ≡ error) → FailGives error halted broken killed
    → PlayGives result done halted broken killed
error_gives error (Ok value) done halted broken killed is e gives = absurd (cc is)
error_gives error (Err passed) done halted broken killed is e gives =
    let P : DrillError → Type 0 = λ it. FailGives it halted broken killed in
    subst P (sym e) gives

module _ {S : Type 0} {g : Ghosts S} {reasons : Bool} where
  -- Something was passed over without an event, by a relay that agrees with the same worlds.
  pub goes_past : (a b : Todo) (old new : System S g) (held : Option (List ℕ))
      → ((config : Config) (x : World) → Under config old x → Under config new x
      × Plays config a (Some x) [] [] (Some x) b)
      → Goes reasons a b old new held held
  goes_past a b old new held past config None follows =
      record {
        events = [];
        told = [];
        world = None;
        plays = IsOpen a [] [] b;
        follows = tt;
        gained = appends_none held;
      }
  goes_past a b old new held past config (Some x) under =
      let same = past config x under in
      record {
        events = [];
        told = [];
        world = Some x;
        plays = same.1;
        follows = same.0;
        gained = appends_none held;
      }

  -- Nothing was done.
  pub goes_none : (todo : Todo) (relay : System S g) (held : Option (List ℕ))
      → Goes reasons todo todo relay relay held held
  goes_none todo relay held =
      goes_past todo todo relay relay held (λ config x under. (under, Rests todo (Some x)))

  -- Nothing was done, and no world can tell that the relay is another.
  pub goes_still : (todo : Todo) (old new : System S g) (held : Option (List ℕ))
      → StaysLeft old new → KeepsFrame old new → Goes reasons todo todo old new held held
  goes_still todo old new held still frame =
      goes_past todo todo old new held (λ config x under. (
        record {
          configured = under.configured ∙ sym frame.config;
          agrees = still x under.agrees;
        },
        Rests todo (Some x),
      ))

  -- One part was done, and then another.
  pub goes_on : (a b c : Todo) (old mid new : System S g) (before held after : Option (List ℕ))
      → Goes reasons a b old mid before held → Goes reasons b c mid new held after
      → Goes reasons a c old new before after
  goes_on a b c old mid new before held after first second config x follows =
      let one = first config x follows in
      let two = second config one.world one.follows in
      record {
        events = one.events ++ two.events;
        told = one.told ++ two.told;
        world = two.world;
        plays = plays_on one.plays two.plays;
        follows = two.follows;
        gained = both_gained reasons one.told two.told before held after one.gained two.gained;
      }

  -- What was done may have been halted there.
  pub halts_there : (a b : Todo) (old new : System S g) (before after : Option (List ℕ))
      → Goes reasons a b old new before after → Halts reasons a old before after
  halts_there a b old new before after goes config x follows =
      let one = goes config x follows in
      record {
        events = one.events;
        told = one.told;
        world = one.world;
        left = b;
        plays = one.plays;
        gained = one.gained;
      }

  -- What was done may have been halted there, before a crash.
  pub kills_there : (a : Todo) (moment : ℕ) (more : Todo) (old new : System S g)
      (before after : Option (List ℕ)) → Goes reasons a (Crashing moment more) old new before after
      → Kills reasons a old before after
  kills_there a moment more old new before after goes config x follows =
      let one = goes config x follows in
      record {
        events = one.events;
        told = one.told;
        world = one.world;
        moment = moment;
        more = more;
        plays = one.plays;
        gained = one.gained;
      }

  -- One part was done, and then it was halted.
  pub halts_later : (a b : Todo) (old mid : System S g) (before held after : Option (List ℕ))
      → Goes reasons a b old mid before held → Halts reasons b mid held after
      → Halts reasons a old before after
  halts_later a b old mid before held after first second config x follows =
      let one = first config x follows in
      let two = second config one.world one.follows in
      record {
        events = one.events ++ two.events;
        told = one.told ++ two.told;
        world = two.world;
        left = two.left;
        plays = plays_on one.plays two.plays;
        gained = both_gained reasons one.told two.told before held after one.gained two.gained;
      }

  -- One part was done, and then it was halted before a crash.
  pub kills_later : (a b : Todo) (old mid : System S g) (before held after : Option (List ℕ))
      → Goes reasons a b old mid before held → Kills reasons b mid held after
      → Kills reasons a old before after
  kills_later a b old mid before held after first second config x follows =
      let one = first config x follows in
      let two = second config one.world one.follows in
      record {
        events = one.events ++ two.events;
        told = one.told ++ two.told;
        world = two.world;
        moment = two.moment;
        more = two.more;
        plays = plays_on one.plays two.plays;
        gained = both_gained reasons one.told two.told before held after one.gained two.gained;
      }

  -- One part was done, and then it was broken off.
  pub breaks_later : (a b : Todo) (old mid : System S g) (before held after : Option (List ℕ))
      → Goes reasons a b old mid before held → Breaks reasons b mid held after
      → Breaks reasons a old before after
  breaks_later a b old mid before held after first second config x follows =
      let one = first config x follows in
      let two = second config one.world one.follows in
      let P : List Told → Type 0 = λ told.
      Plays config a x (one.events ++ two.events) told two.world two.left in
      record {
        events = one.events ++ two.events;
        told = one.told ++ two.told;
        last = two.last;
        world = two.world;
        left = two.left;
        plays = subst P (sym (append_assoc one.told two.told (two.last ∷ [])))
            (plays_on one.plays two.plays);
        mid = two.mid;
        gained = both_gained reasons one.told two.told before held two.mid one.gained two.gained;
        written = two.written;
      }

  -- One part was done, and then the power went, behind which a cut leads to the same.
  pub loses_later : (armed : Bool) (a b c d : Todo) (old mid new : System S g)
      (before held after : Option (List ℕ)) → behind_cut c ≡ behind_cut d
      → Goes reasons a b old mid before held → Loses reasons armed b c mid new held after
      → Loses reasons armed a d old new before after
  loses_later armed a b c d old mid new before held after same first loses = (
    loses.0,
    λ cut ahead. goes_on a b cut old mid new before held after first
        (loses.1 cut (same ∙ ahead)),
  )

  -- One part was done, and then a call did what its answer says.
  pub performs_on : (armed : Bool) (result : Result (Unit {0}) Ended) (a b c : Todo)
      (old mid new : System S g) (before held after : Option (List ℕ))
      → Goes reasons a b old mid before held
      → Performs reasons armed result b c mid new held after
      → Performs reasons armed result a c old new before after
  performs_on armed result a b c old mid new before held after first =
      do_map result (λ fine. goes_on a b c old mid new before held after first)
      (halts_later a b old mid before held after first)
      (breaks_later a b old mid before held after first)
      (kills_later a b old mid before held after first)
      (loses_later armed a b c c old mid new before held after refl first)

  -- One part was done up to what is another name of what follows.
  pub goes_to : (a b b' : Todo) (old new : System S g) (before after : Option (List ℕ)) → b ≡ b'
      → Goes reasons a b old new before after → Goes reasons a b' old new before after
  goes_to a b b' old new before after same =
      subst (λ (it : Todo). Goes reasons a it old new before after) same

  -- One part was done up to what stands before another, and then that was done.
  pub goes_next : (a b b' c : Todo) (old mid new : System S g) (before held after : Option (List ℕ))
      → b ≡ b' → Goes reasons a b old mid before held → Goes reasons b' c mid new held after
      → Goes reasons a c old new before after
  goes_next a b b' c old mid new before held after same first =
      goes_on a b' c old mid new before held after (goes_to a b b' old mid before held same first)

  -- One part was done up to what stands before another, and then a call's error was passed on.
  pub fails_as : {A : Type 0} (error : DrillError) (result : Result A DrillError)
      (done : A → Type 0) (a b b' : Todo) (old mid : System S g)
      (before held after : Option (List ℕ)) → IsErr result → IsErrAnd result (λ e. e ≡ error)
      → b ≡ b' → Goes reasons a b old mid before held
      → FailGives error (Halts reasons b' mid held after) (Breaks reasons b' mid held after)
      (Kills reasons b' mid held after)
      → PlayGives result done (Halts reasons a old before after) (Breaks reasons a old before after)
      (Kills reasons a old before after)
  fails_as error result done a b b' old mid before held after is e same first then =
      let reached = goes_to a b b' old mid before held same first in
      error_gives error result done _ _ _ is e
      (fail_map error (halts_later a b' old mid before held after reached)
      (breaks_later a b' old mid before held after reached)
      (kills_later a b' old mid before held after reached) then)

  -- One part of a line was done, and then how a call of it ended was passed on, behind which a cut
  -- leads to the same.
  pub fails_next : (armed : Bool) (ended : Ended) (result : Result (Unit {0}) Ended)
      (a b b' c d : Todo) (old mid new : System S g) (before held after : Option (List ℕ))
      → IsErr result → IsErrAnd result (λ e. e ≡ ended) → b ≡ b' → behind_cut c ≡ behind_cut d
      → Goes reasons a b old mid before held
      → EndGives ended (Halts reasons b' mid held after) (Breaks reasons b' mid held after)
      (Kills reasons b' mid held after) (Loses reasons armed b' c mid new held after)
      → Performs reasons armed result a d old new before after
  fails_next armed ended result a b b' c d old mid new before held after is e same cuts first then =
      let reached = goes_to a b b' old mid before held same first in
      ended_gives ended result (λ fine. Goes reasons a d old new before after) _ _ _ _ is e
      (end_map ended (halts_later a b' old mid before held after reached)
      (breaks_later a b' old mid before held after reached)
      (kills_later a b' old mid before held after reached)
      (loses_later armed a b' c d old mid new before held after cuts reached) then)

  -- One part was done, and then memory ran out.
  pub wants_memory : (armed : Bool) (result : Result (Unit {0}) Ended) (a b d : Todo)
      (old mid last : System S g) (before after : Option (List ℕ)) → IsErr result
      → IsErrAnd result (λ e. e ≡ ends.Faulty faults.Memory)
      → Goes reasons a b old mid before after
      → Performs reasons armed result a d old last before after
  wants_memory armed result a b d old mid last before after is e first =
      ended_gives (ends.Faulty faults.Memory) result
      (λ fine. Goes reasons a d old last before after) _
      (Breaks reasons a old before after) (Kills reasons a old before after)
      (Loses reasons armed a d old last before after) is e
      (halts_there a b old mid before after first)

  -- Writing failed.
  pub fails_unwritten : (armed : Bool) (result : Result (Unit {0}) Ended) (a b : Todo)
      (old new : System S g) (before after : Option (List ℕ)) → IsErr result
      → IsErrAnd result (λ e. e ≡ ends.Faulty faults.Unwritten)
      → Breaks reasons a old before after
      → Performs reasons armed result a b old new before after
  fails_unwritten armed result a b old new before after is e breaks =
      ended_gives (ends.Faulty faults.Unwritten) result
      (λ fine. Goes reasons a b old new before after)
      (Halts reasons a old before after) _ (Kills reasons a old before after)
      (Loses reasons armed a b old new before after) is e breaks

module _ {S : Type 0} {g : Ghosts S} (reasons : Bool) where
  -- Nothing was done before a crash, and then a call failed so.
  pub fails_at_crash : {A : Type 0} (error : DrillError) (result : Result A DrillError)
      (done : A → Type 0) (moment : ℕ) (more : Todo) (old : System S g) (held : Option (List ℕ))
      → IsErr result → IsErrAnd result (λ e. e ≡ error) → FailGives error ⊤ ⊥ ⊤
      → PlayGives result done (Halts reasons (Crashing moment more) old held held)
      (Breaks reasons (Crashing moment more) old held held)
      (Kills reasons (Crashing moment more) old held held)
  fails_at_crash error result done moment more old held is e fails =
      let todo = Crashing moment more in
      let none : Goes reasons todo todo old old held held = goes_none todo old held in
      error_gives error result done _ _ _ is e
      (fail_map error {halted = ⊤} {broken = ⊥} {killed = ⊤}
      (λ t. halts_there todo todo old old held held none) (λ b. absurd b)
      (λ t. kills_there todo moment more old old held held none) fails)

-- One part was done, and then a life was led on as its answer says.
pub leads_on : (reasons : Bool) (result : Result Life DrillError) (a b c : Todo) (old mid : Life)
    (before held after : Option (List ℕ)) → Goes reasons a b old.relay mid.relay before held
    → Leads reasons result b c mid held after → Leads reasons result a c old before after
leads_on reasons result a b c old mid before held after first =
    gives_map result
    (λ new. goes_on a b c old.relay mid.relay new.relay before held after first)
    (halts_later a b old.relay mid.relay before held after first)
    (breaks_later a b old.relay mid.relay before held after first)
    (kills_later a b old.relay mid.relay before held after first)
