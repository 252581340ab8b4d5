-- What was done of a script, one part after the other; and that it is a run of the relay.
use Rattle.std.proofs.Common.{◌≡◌, true, List, ◌++◌, Option, None, Some, refl, subst, sym}
use Rattle.std.proofs.lemmas.Bool.{and_parts, false≢true}
use Rattle.std.proofs.lemmas.Option.{none-some}
use Rattle.relay_model.specs.Run as run
use Rattle.relay_model.specs.World.{World}
use Rattle.article_verdict.specs.Config.{terms_of}
use Rattle.relay_conf.specs.declared.settings.Config.{Config}
use Rattle.relay_drill.specs.Laws.{RunsOn, is_one_life}
use Rattle.relay_drill.specs.Print.{Told, answers_of}
use Rattle.relay_drill.specs.Play.{Plays, Rests, HasDone, HasTurned, IsClosed, HasOpened}
use Rattle.relay_drill.specs.Play.{HasCrashed, HasNotOpened, HasRestarted, HasReported, IsOpen}
use Rattle.relay_drill.specs.Play.{HasCrashedAgain, IsArmed, HasSurvived, IsCut, IsCutRestarting}
use Rattle.relay_drill.specs.Todo.{Todo, Done, Next, TurnOf, Restarting, Crashing, Arming}
use Rattle.relay_drill.specs.Todo.{Survived, Report, Opening, behind_cut}

-- Where nothing is said, nothing is said later.
pub stays_open : {config : Config} {a b : Todo} {x y : Option World} {events : List run.Event}
    {told : List Told} → Plays config a x events told y b → x ≡ None → y ≡ None
stays_open (Rests todo x) none = none
stays_open (IsOpen todo events told left) none = refl
stays_open (HasDone event more x mid output events told x' left step rest) none =
    absurd (none-some x (sym none))
stays_open (HasTurned s m more x events told x' left runs rest) none =
    absurd (none-some x (sym none))
stays_open (IsClosed s m more x events told x' left closed rest) none =
    absurd (none-some x (sym none))
stays_open (HasRestarted more x mid output events told x' left step rest) none =
    absurd (none-some x (sym none))
stays_open (HasCrashed moment more x mid events told x' left revives rest) none =
    absurd (none-some x (sym none))
stays_open (HasCrashedAgain moment more cut x mid events told x' left ahead revives rest) none =
    absurd (none-some x (sym none))
stays_open (IsArmed more x events told x' left rest) none = absurd (none-some x (sym none))
stays_open (HasSurvived moment cut more x events told x' left rest) none =
    absurd (none-some x (sym none))
stays_open (IsCut event more cut x mid output events told x' left ahead step rest) none =
    absurd (none-some x (sym none))
stays_open (IsCutRestarting more cut x mid output events told x' left ahead step rest) none =
    absurd (none-some x (sym none))
stays_open (HasReported more x text events told x' left reports rest) none =
    absurd (none-some x (sym none))
stays_open (HasOpened s p opened refused x events output told x' left said rest) none =
    absurd (none-some x (sym none))
stays_open (HasNotOpened s p opened refused x events output told x' left said rest) none =
    absurd (none-some x (sym none))

-- Where one part was done, and then another of what it left, both were.
pub plays_on : {config : Config} {a b c : Todo} {x y z : Option World}
    {events events' : List run.Event} {told told' : List Told} → Plays config a x events told y b
    → Plays config b y events' told' z c → Plays config a x (events ++ events') (told ++ told') z c
plays_on (Rests todo x) next = next
plays_on {config = config} {c = c} {events' = events'} {told' = told'}
    (IsOpen todo events told left) next =
    subst (λ (z : Option World). Plays config todo None (events ++ events') (told ++ told') z c)
    (sym (stays_open next refl)) (IsOpen todo (events ++ events') (told ++ told') c)
plays_on {c = c} {z = z} {events' = events'} {told' = told'}
    (HasDone event more x mid output events told x' left step rest) next =
    HasDone event more x mid output (events ++ events') (told ++ told') z c step
    (plays_on rest next)
plays_on {c = c} {z = z} {events' = events'} {told' = told'}
    (HasTurned s m more x events told x' left runs rest) next =
    HasTurned s m more x (events ++ events') (told ++ told') z c runs (plays_on rest next)
plays_on {c = c} {z = z} {events' = events'} {told' = told'}
    (IsClosed s m more x events told x' left closed rest) next =
    IsClosed s m more x (events ++ events') (told ++ told') z c closed (plays_on rest next)
plays_on {c = c} {z = z} {events' = events'} {told' = told'}
    (HasRestarted more x mid output events told x' left step rest) next =
    HasRestarted more x mid output (events ++ events') (told ++ told') z c step
    (plays_on rest next)
plays_on {c = c} {z = z} {events' = events'} {told' = told'}
    (HasCrashed moment more x mid events told x' left revives rest) next =
    HasCrashed moment more x mid (events ++ events') (told ++ told') z c revives
    (plays_on rest next)
plays_on {c = c} {z = z} {events' = events'} {told' = told'}
    (HasCrashedAgain moment more cut x mid events told x' left ahead revives rest) next =
    HasCrashedAgain moment more cut x mid (events ++ events') (told ++ told') z c ahead revives
    (plays_on rest next)
plays_on {c = c} {z = z} {events' = events'} {told' = told'}
    (IsArmed more x events told x' left rest) next =
    IsArmed more x (events ++ events') (told ++ told') z c (plays_on rest next)
plays_on {c = c} {z = z} {events' = events'} {told' = told'}
    (HasSurvived moment cut more x events told x' left rest) next =
    HasSurvived moment cut more x (events ++ events') (told ++ told') z c (plays_on rest next)
plays_on {c = c} {z = z} {events' = events'} {told' = told'}
    (IsCut event more cut x mid output events told x' left ahead step rest) next =
    IsCut event more cut x mid output (events ++ events') (told ++ told') z c ahead step
    (plays_on rest next)
plays_on {c = c} {z = z} {events' = events'} {told' = told'}
    (IsCutRestarting more cut x mid output events told x' left ahead step rest) next =
    IsCutRestarting more cut x mid output (events ++ events') (told ++ told') z c ahead step
    (plays_on rest next)
plays_on {c = c} {z = z} {events' = events'} {told' = told'}
    (HasReported more x text events told x' left reports rest) next =
    HasReported more x text (events ++ events') (told ++ told') z c reports (plays_on rest next)
plays_on {c = c} {z = z} {events' = events'} {told' = told'}
    (HasOpened s p opened refused x events output told x' left said rest) next =
    HasOpened s p opened refused x (events ++ events') output (told ++ told') z c said
    (plays_on rest next)
plays_on {c = c} {z = z} {events' = events'} {told' = told'}
    (HasNotOpened s p opened refused x events output told x' left said rest) next =
    HasNotOpened s p opened refused x (events ++ events') output (told ++ told') z c said
    (plays_on rest next)

-- Where nothing is a crash, and none is ahead, none cuts an event.
pub none_ahead : (todo cut : Todo) → is_one_life todo ≡ true → behind_cut todo ≡ Some cut → ⊥
none_ahead Done cut one ahead = none-some cut ahead
none_ahead (Next event more) cut one ahead = none_ahead more cut one ahead
none_ahead (TurnOf session moment more) cut one ahead = none_ahead more cut one ahead
none_ahead (Restarting more) cut one ahead = none_ahead more cut one ahead
none_ahead (Crashing moment more) cut one ahead = absurd (false≢true one)
none_ahead (Arming more) cut one ahead = absurd (false≢true one)
none_ahead (Survived moment other more) cut one ahead = absurd (false≢true one)
none_ahead (Report more) cut one ahead = none_ahead more cut one ahead
none_ahead (Opening session peer opened refused) cut one ahead = none-some cut ahead

-- What was done of what has no crash is a run of the relay.
pub plays_run : {config : Config} {todo : Todo} {x : Option World} {events : List run.Event}
    {told : List Told} {y : Option World} {left : Todo} → Plays config todo x events told y left
    → is_one_life todo ≡ true → RunsOn (terms_of config) x events (answers_of told) y
plays_run (Rests todo None) one = tt
plays_run (Rests todo (Some x)) one = (x, refl, refl)
plays_run (IsOpen todo events told left) one = tt
plays_run (HasDone event more x mid output events told x' left step rest) one =
    let on = plays_run rest one in
    (on.0, on.1, (mid, step, on.2))
plays_run (HasTurned s m more x events told x' left runs rest) one = plays_run rest one
plays_run (IsClosed s m more x events told x' left closed rest) one = plays_run rest one
plays_run (HasRestarted more x mid output events told x' left step rest) one =
    let on = plays_run rest one in
    (on.0, on.1, (mid, step, on.2))
plays_run (HasCrashed moment more x mid events told x' left revives rest) one =
    absurd (false≢true one)
plays_run (HasCrashedAgain moment more cut x mid events told x' left ahead revives rest) one =
    absurd (false≢true one)
plays_run (IsArmed more x events told x' left rest) one = absurd (false≢true one)
plays_run (HasSurvived moment cut more x events told x' left rest) one = absurd (false≢true one)
plays_run (IsCut event more cut x mid output events told x' left ahead step rest) one =
    absurd (none_ahead more cut one ahead)
plays_run (IsCutRestarting more cut x mid output events told x' left ahead step rest) one =
    absurd (none_ahead more cut one ahead)
plays_run (HasReported more x text events told x' left reports rest) one = plays_run rest one
plays_run (HasOpened s p opened refused x events output told x' left said rest) one =
    plays_run rest (and_parts (is_one_life opened) (is_one_life refused) one).0
plays_run (HasNotOpened s p opened refused x events output told x' left said rest) one =
    plays_run rest (and_parts (is_one_life opened) (is_one_life refused) one).1
