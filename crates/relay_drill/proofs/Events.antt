-- How far the code has come with one thing that is told: an event was done, or the relay reported,
-- and that was written, or writing it failed.
use Rattle.std.proofs.Common.{◌≡◌, ℕ, Bool, true, false, List, [], ◌∷◌, Option, None, Some}
use Rattle.std.proofs.Common.{if◌then◌else◌}
use Rattle.std.proofs.Common.{sym, subst, append-nil, ◌∙◌}
use Rattle.std.specs.Io.KnownBytes.{Appends}
use Rattle.article_verdict.specs.Config.{terms_of}
use Rattle.cyc_block.specs.declared.store.BlockStore.{Ghosts}
use Rattle.relay_conf.specs.declared.settings.Config.{Config}
use Rattle.relay_core.specs.Sharing.{KeepsFrame}
use Rattle.relay_core.proofs.Left.{left_agrees}
use Rattle.relay_core.specs.Steps.{StepsLeft}
use Rattle.relay_core.specs.Views.{output_view}
use Rattle.relay_core.specs.declared.event.Output as code
use Rattle.relay_core.specs.declared.system.System.{System}
use Rattle.relay_model.specs.Run as run
use Rattle.relay_model.specs.Run.{Step, is_running, is_there}
use Rattle.relay_model.specs.World.{World, Output}
use Rattle.relay_report.specs.Report.{ReportsOn}
use Rattle.relay_drill.specs.Reporting.{Reports}
use Rattle.relay_drill.specs.Play.{Plays, Rests, HasDone, HasTurned, IsClosed, HasOpened}
use Rattle.relay_drill.specs.Play.{HasCrashed, HasNotOpened, HasRestarted, HasReported, IsOpen}
use Rattle.relay_drill.specs.Play.{HasCrashedAgain, IsArmed, IsCut, IsCutRestarting}
use Rattle.relay_drill.specs.Play.{is_refused}
use Rattle.relay_drill.specs.Crashing.{RevivesTo}
use Rattle.relay_drill.specs.Print.{Told, Answered, Restarted, Lost, Repaired, Reported}
use Rattle.relay_drill.specs.Print.{printed_all, told_text}
use Rattle.relay_drill.specs.Progress.{Breaks, Follows, Goes, Leads, Loses, Under}
use Rattle.relay_drill.specs.Todo.{Todo, Next, TurnOf, Restarting, Crashing, Arming, Report}
use Rattle.relay_drill.specs.Todo.{Opening, Stand, behind_cut, behind_line, deserted}
use Rattle.relay_report.specs.Written.{GainsFront}
use Rattle.relay_drill.proofs.Courses.{goes_past, leads_on}
use Rattle.relay_drill.specs.declared.fault.DrillError.{DrillError}
use Rattle.relay_drill.specs.declared.life.Life.{Life}
use Rattle.std.proofs.Common.{Result, refl}
use Rattle.std.proofs.lemmas.Bool.{false≢true, true≢false}
use Rattle.relay_report.proofs.Writes.{appends_none}

-- the text of one thing
one_gained : (reasons : Bool) (one : Told) (before after : Option (List ℕ))
    → Appends before after (told_text reasons one)
    → Appends before after (printed_all reasons (one ∷ []))
one_gained reasons one before after gained =
    subst (λ (text : List ℕ). Appends before after text)
    (sym (append-nil (told_text reasons one))) gained

-- the event, where it is answered so, is what stands between this and that, and one thing is told
-- of it
abbrev pub Does : run.Event → Output → Told → (a b : Todo) → Type 0
Does event output one a b =
    (config : Config) (x mid : World) → Step (terms_of config) x event output mid
    → Plays config a (Some x) (event ∷ []) (one ∷ []) (Some mid) b

-- The next event is done.
pub does_next : (event : run.Event) (more : Todo) (output : Output)
    → Does event output (Answered output) (Next event more) more
does_next event more output config x mid step =
    HasDone event more x mid output [] [] (Some mid) more step (Rests more (Some mid))

-- A session is opened, or refused to open.
pub does_open : (session peer : ℕ) (opened refused : Todo) (output : Output) (b : Bool)
    → is_refused output ≡ b → Does (run.Open session peer) output (Answered output)
    (Opening session peer opened refused) (if b then refused else opened)
does_open session peer opened refused output false told config x mid step =
    HasOpened session peer opened refused x _ output [] _ _ told
    (does_next (run.Open session peer) opened output config x mid step)
does_open session peer opened refused output true told config x mid step =
    HasNotOpened session peer opened refused x _ output [] _ _ told
    (does_next (run.Open session peer) refused output config x mid step)

-- The relay is closed and started again, or that is refused.
pub does_restart : (more : Todo) (output : Output)
    → Does run.Restart output (Restarted output) (Restarting more) more
does_restart more output config x mid step =
    HasRestarted more x mid output [] [] (Some mid) more step (Rests more (Some mid))

-- the event is what stands between this and where a cut before that leads, and nothing is told
abbrev pub Cuts : run.Event → Output → (a more : Todo) → Type 0
Cuts event output a more =
    (cut : Todo) → behind_cut more ≡ Some cut → Does event output (Lost output) a cut

-- The power goes in the next event.
pub cuts_next : (event : run.Event) (more : Todo) (output : Output)
    → Cuts event output (Next event more) more
cuts_next event more output cut ahead config x mid step =
    IsCut event more cut x mid output [] [] (Some mid) cut ahead step (Rests cut (Some mid))

-- It goes while the relay is closed and started again.
pub cuts_restart : (more : Todo) (output : Output)
    → Cuts run.Restart output (Restarting more) more
cuts_restart more output cut ahead config x mid step =
    IsCutRestarting more cut x mid output [] [] (Some mid) cut ahead step (Rests cut (Some mid))

module _ {S : Type 0} {g : Ghosts S} where
  -- From this world what stands between this and that was done, and one thing is told of it.
  pub record Tells (config : Config) (a b : Todo) (x : Option World) (one : Told)
      (new : System S g)
      : Type 0 where
    pub events : List run.Event
    pub after : Option World
    pub follows : Follows config new after
    pub plays : Plays config a x events (one ∷ []) after b

  -- From whatever world the relay agreed with.
  abbrev pub Telling : (a b : Todo) → (old : System S g) → (one : Told) → (new : System S g)
      → Type 0
  Telling a b old one new =
      (config : Config) (x : Option World) → Follows config old x → Tells config a b x one new

  -- It is enough to say it of a world: nothing is said where there is none.
  tells_of : (a b : Todo) (old : System S g) (one : Told) (new : System S g)
      → ((config : Config) (x : World) → Under config old x → Tells config a b (Some x) one new)
      → Telling a b old one new
  tells_of a b old one new telling config None follows =
      record {
        events = [];
        after = None;
        follows = tt;
        plays = IsOpen a [] (one ∷ []) b;
      }
  tells_of a b old one new telling config (Some x) under = telling config x under

  -- An event was done.
  pub tells_event : (event : run.Event) (a b : Todo) (old : System S g) (output : code.Output)
      (one : Told) (new : System S g) → Does event (output_view output) one a b
      → StepsLeft event old output new → KeepsFrame old new → Telling a b old one new
  tells_event event a b old output one new does steps frame =
      tells_of a b old one new (λ config x under.
      let from = steps x under.agrees in
      let P : Config → Type 0 = λ it. Step (terms_of it) x event (output_view output) from.after in
      record {
        events = event ∷ [];
        after = Some from.after;
        follows = record {
          configured = under.configured ∙ sym frame.config;
          agrees = from.agrees;
        };
        plays = does config x from.after (subst P (sym under.configured) from.is_step);
      })

  -- The relay reported.
  pub tells_report : (more : Todo) (relay : System S g) (text : List ℕ) → Reports relay text
      → Telling (Report more) more relay (Reported text) relay
  tells_report more relay text reports =
      tells_of (Report more) more relay (Reported text) relay (λ config x under.
      let P : Config → Type 0 = λ it. ReportsOn it x.state text in
      record {
        events = [];
        after = Some x;
        follows = under;
        plays = HasReported more x text [] [] (Some x) more
            (subst P (sym under.configured) (reports true x (left_agrees relay x under.agrees)))
            (Rests more (Some x));
      })

  -- The relay was killed, repaired and started.
  pub tells_repaired : (moment : ℕ) (more : Todo) (old new : System S g)
      → RevivesTo moment old new → Telling (Crashing moment more) more old Repaired new
  tells_repaired moment more old new revives =
      tells_of (Crashing moment more) more old Repaired new (λ config x under.
      let found = revives config x under in
      record {
        events = [];
        after = found.0;
        follows = found.2;
        plays = HasCrashed moment more x found.0 [] [] found.0 more found.1 (Rests more found.0);
      })

module _ {S : Type 0} {g : Ghosts S} {reasons : Bool} where
  -- What is told was written.
  pub goes_told : (a b : Todo) (old : System S g) (one : Told) (new : System S g)
      (before after : Option (List ℕ)) → Telling a b old one new
      → Appends before after (told_text reasons one) → Goes reasons a b old new before after
  goes_told a b old one new before after telling gained config x follows =
      let tells = telling config x follows in
      record {
        events = tells.events;
        told = one ∷ [];
        world = tells.after;
        plays = tells.plays;
        follows = tells.follows;
        gained = one_gained reasons one before after gained;
      }

  -- The power went in an event, and nothing of that is told.
  pub loses_told : (armed : Bool) (event : run.Event) (a more : Todo) (old : System S g)
      (output : code.Output) (new : System S g) (held : Option (List ℕ)) → armed ≡ true
      → Cuts event (output_view output) a more → StepsLeft event old output new
      → KeepsFrame old new → Loses reasons armed a more old new held held
  loses_told armed event a more old output new held is cuts steps frame = (
    is,
    λ cut ahead. goes_told a cut old (Lost (output_view output)) new held held
        (tells_event event a cut old output (Lost (output_view output)) new (cuts cut ahead) steps
        frame) (appends_none held),
  )

  -- A repair, or the start behind it, was cut: nothing is told.
  pub goes_again : (moment : ℕ) (more cut : Todo) (old new : System S g)
      (held : Option (List ℕ)) → behind_cut more ≡ Some cut → RevivesTo moment old new
      → Goes reasons (Crashing moment more) cut old new held held
  goes_again moment more cut old new held ahead revives config None follows =
      record {
        events = [];
        told = [];
        world = None;
        plays = IsOpen (Crashing moment more) [] [] cut;
        follows = tt;
        gained = appends_none held;
      }
  goes_again moment more cut old new held ahead revives config (Some x) under =
      let found = revives config x under in
      record {
        events = [];
        told = [];
        world = found.0;
        plays = HasCrashedAgain moment more cut x found.0 [] [] found.0 cut ahead found.1
            (Rests cut found.0);
        follows = found.2;
        gained = appends_none held;
      }

  -- A crash is ahead from here on.
  pub goes_armed : (more : Todo) (relay : System S g) (held : Option (List ℕ))
      → Goes reasons (Arming more) more relay relay held held
  goes_armed more relay held =
      goes_past (Arming more) more relay relay held
      (λ config x under. (under, IsArmed more x [] [] (Some x) more (Rests more (Some x))))

  -- Writing what is told failed.
  pub breaks_told : (a b : Todo) (old : System S g) (one : Told) (new : System S g)
      (before after : Option (List ℕ)) → Telling a b old one new
      → GainsFront (told_text reasons one) before after → Breaks reasons a old before after
  breaks_told a b old one new before after telling written config x follows =
      let tells = telling config x follows in
      record {
        events = tells.events;
        told = [];
        last = one;
        world = tells.after;
        left = b;
        plays = tells.plays;
        mid = before;
        gained = appends_none before;
        written = written;
      }

  -- A session has its Turn before it, where it isn't closed, else nothing.
  pub goes_turning : (session moment : ℕ) (more : Todo) (relay : System S g)
      (held : Option (List ℕ)) (b : Bool) → ((config : Config) (x : World) → Under config relay x
      → is_there is_running (x.state.session session) ≡ b)
      → Goes reasons (TurnOf session moment more)
      (if b then Next (run.Turn session moment) more else more) relay relay held held
  goes_turning session moment more relay held true runs =
      goes_past (TurnOf session moment more) (Next (run.Turn session moment) more) relay relay held
      (λ config x under. (
        under,
        HasTurned session moment more x [] [] (Some x) _ (runs config x under)
            (Rests _ (Some x)),
      ))
  goes_turning session moment more relay held false closed =
      goes_past (TurnOf session moment more) more relay relay held
      (λ config x under. (
        under,
        IsClosed session moment more x [] [] (Some x) _ (closed config x under)
            (Rests more (Some x)),
      ))

  -- An event that opens a session was done, and what it is answered was written.
  pub goes_open : (session peer : ℕ) (opened refused : Todo) (old new : System S g)
      (output : code.Output) (b : Bool) (before after : Option (List ℕ))
      → is_refused (output_view output) ≡ b → StepsLeft (run.Open session peer) old output new
      → KeepsFrame old new
      → Appends before after (told_text reasons (Answered (output_view output)))
      → Goes reasons (Opening session peer opened refused) (if b then refused else opened) old new
      before after
  goes_open session peer opened refused old new output b before after said steps frame gained =
      goes_told (Opening session peer opened refused) (if b then refused else opened) old
      (Answered (output_view output)) new before after
      (tells_event (run.Open session peer) (Opening session peer opened refused)
      (if b then refused else opened) old output (Answered (output_view output)) new
      (does_open session peer opened refused (output_view output) b said) steps frame)
      gained

-- A crash where one was ahead, that came in the repair.
pub crashes_again : (reasons : Bool) (result : Result Life DrillError) (armed later : Bool)
    (next : Bool → Stand → Todo) (stand there : Stand) (old mid : Life)
    (before after : Option (List ℕ)) → armed ≡ true → later ≡ false
    → RevivesTo stand.moment old.relay mid.relay
    → Leads reasons result (Crashing stand.moment (next false (deserted stand)))
    (next false there) mid before after
    → Leads reasons result
    (Crashing stand.moment (behind_line armed next (deserted stand))) (next later there) old
    before after
crashes_again reasons result false later next stand there old mid before after is ends revives
    leads = absurd (false≢true is)
crashes_again reasons result true true next stand there old mid before after is ends revives
    leads = absurd (true≢false ends)
crashes_again reasons result true false next stand there old mid before after is ends revives
    leads =
    let cut = Crashing stand.moment (next false (deserted stand)) in
    let more = behind_line true next (deserted stand) in
    leads_on reasons result (Crashing stand.moment more) cut (next false there) old mid before
    before after
    (goes_again stand.moment more cut old.relay mid.relay before refl revives) leads
