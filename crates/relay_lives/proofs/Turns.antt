-- Turns that a relay takes from one life to the next, and what the lives give.
use Rattle.std.proofs.Common.{◌≡◌, ℕ, Bool, true, false, List, Option, None, Some, Result, Ok, Err}
use Rattle.std.proofs.Common.{subst, sym}
use Rattle.relay_conf.specs.declared.settings.Config.{Config}
use Rattle.relay_command.specs.Check.{HasError, IsIn}
use Rattle.relay_command.specs.Serving.{LivesGive, last, again, kept as goes_kept, back}
use Rattle.relay_command.specs.declared.failure.Failure.TheVariants as failures
use Rattle.relay_command.specs.declared.load.CheckError.{CheckError}
use Rattle.relay_report.specs.Serve.{ServeGives}
use Rattle.relay_report.specs.declared.fault.ServeError.{ServeError}
use Rattle.relay_lives.specs.Lives.{Life, Lived, Point, Serves, Served, Server, TurnGives}
use Rattle.relay_lives.specs.Lives.{failed, served, ended, changed, lost, refused, kept}

-- What was served is a life.
pub life : (server : Server) (folder : List ℕ) (sessions : Option ℕ) (config : Config)
    (fresh : Bool) (result : Result (Unit {0}) ServeError) (before after : Option (List ℕ))
    → server.serves config folder sessions fresh result before after
    → ServeGives config result before after
    → Life server folder sessions config fresh result before after
life server folder sessions config fresh result before after comes gives =
    record { comes = comes; gives = gives }

-- what lives give from a point on: where one has ended well, behind what that gave
abbrev GiveFrom : (folder : List ℕ) → Point → Result (Unit {0}) ServeError
    → (between after : Option (List ℕ)) → Type 0
GiveFrom folder (Serves config fresh) result before after =
    LivesGive (IsIn folder) config result before after
GiveFrom folder (Served config) result between after =
    (before : Option (List ℕ)) → ServeGives config (Ok tt) before between
    → LivesGive (IsIn folder) config result before after

-- Lives that follow each other give what lives of a relay give, from any point on,
lives_give_from : (server : Server) (folder : List ℕ) (sessions : Option ℕ) (point : Point)
    (result : Result (Unit {0}) ServeError) (before after : Option (List ℕ))
    → Lived server folder sessions point result before after
    → GiveFrom folder point result before after
lives_give_from server folder sessions _ _ _ _
    (failed config fresh error before after one) =
    last config (Err error) before after one.gives
lives_give_from server folder sessions _ _ _ _
    (served config fresh result before between after one lived) =
    lives_give_from server folder sessions (Served config) result between after lived before
    one.gives
lives_give_from server folder sessions _ _ _ _ (ended config held asked) =
    λ first gave. last config (Ok tt) first held gave
lives_give_from server folder sessions _ _ _ _
    (changed config next result before between after asked is one lived) =
    λ first gave. again config next result first before after gave is
    (lives_give_from server folder sessions (Served next) result between after lived before
    one.gives)
lives_give_from server folder sessions _ _ _ _
    (lost config next error before after asked is one told) =
    λ first gave. again config next (Err error) first before after gave is
    (last next (Err error) before after one.gives)
lives_give_from server folder sessions _ _ _ _
    (refused config next error result before between after asked is one told lived) =
    λ first gave. back config next error result first before between after gave is one.gives
    (lives_give_from server folder sessions (Serves config false) result between after lived)
lives_give_from server folder sessions _ _ _ _
    (kept config error answer result before after asked has told lived) =
    λ first gave. goes_kept config result first before after gave
    (lives_give_from server folder sessions (Serves config false) result before after lived)

-- and so from where the first begins.
pub lives_give : (server : Server) (folder : List ℕ) (sessions : Option ℕ) (config : Config)
    (fresh : Bool) (result : Result (Unit {0}) ServeError) (before after : Option (List ℕ))
    → Lived server folder sessions (Serves config fresh) result before after
    → LivesGive (IsIn folder) config result before after
lives_give server folder sessions config fresh result before after lived =
    lives_give_from server folder sessions (Serves config fresh) result before after lived

-- Behind a life that was refused the relay goes on as it was,
pub turn_refused : (server : Server) (folder : List ℕ) (sessions : Option ℕ)
    (config next : Config) (error : ServeError) (result : Result (Option Config) ServeError)
    (before between after : Option (List ℕ)) → server.asked true → IsIn folder next
    → Life server folder sessions next false (Err error) before between
    → server.told (failures.Serve error) true
    → TurnGives server folder sessions (Serves config false) config result between after
    → TurnGives server folder sessions (Served config) config result before after
turn_refused server folder sessions config next error (Ok other) before between after asked is one
    told turn =
    λ result end lived. refused config next error result before between end asked is one told
    (turn result end lived)
turn_refused server folder sessions config next error (Err fault) before between after asked is one
    told turn =
    refused config next error (Err fault) before between after asked is one told turn

-- or it fails with it,
pub turn_lost : (server : Server) (folder : List ℕ) (sessions : Option ℕ) (config next : Config)
    (error told : ServeError) (before after : Option (List ℕ)) → server.asked true
    → IsIn folder next → Life server folder sessions next false (Err error) before after
    → (told ≡ error) × server.told (failures.Serve error) false
    → Lived server folder sessions (Served config) (Err told) before after
turn_lost server folder sessions config next error told before after asked is one refuses =
    subst (λ e. Lived server folder sessions (Served config) (Err e) before after) (sym refuses.0)
    (lost config next error before after asked is one refuses.1)

-- and where no configuration could be had it goes on as it was.
pub turn_kept : (server : Server) (folder : List ℕ) (sessions : Option ℕ) (config : Config)
    (error : CheckError) (answer : Bool) (result : Result (Option Config) ServeError)
    (before after : Option (List ℕ)) → server.asked true → HasError folder error
    → server.told (failures.Check error) answer
    → TurnGives server folder sessions (Serves config false) config result before after
    → TurnGives server folder sessions (Served config) config result before after
turn_kept server folder sessions config error answer (Ok other) before after asked has told turn =
    λ result end lived. kept config error answer result before end asked has told
    (turn result end lived)
turn_kept server folder sessions config error answer (Err fault) before after asked has told turn =
    kept config error answer (Err fault) before after asked has told turn
