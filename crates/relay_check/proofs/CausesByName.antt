-- The cause that is told by name is that of what is kept.
use Rattle.std.proofs.Common.{◌≡◌, ◌∙◌, ap, inl, inr, refl, subst, sym, ℕ, List, [], ◌∷◌, Option}
use Rattle.std.proofs.Common.{None, Some, Bool, true, false}
use Rattle.std.proofs.lemmas.Bool.{false≢true}
use Rattle.history_names.specs.Named.{As, BadNames, IsNamedFault, NamedBy, TellsNames, named_by}
use Rattle.id_history.specs.Reading.{all_of}
use Rattle.relay_conf.specs.declared.settings.Config.{Config}
use Rattle.relay_folder.specs.Origin.{Beginning, Starts, begins_from}
use Rattle.relay_names.specs.Names.{Names}
use Rattle.relay_report.specs.declared.fault.ServeError.{ServeError}
use Rattle.relay_report.specs.declared.fault.ServeError.TheVariants as faults
use Rattle.relay_report.specs.declared.keeping.HistoryFault.TheVariants as causes
use Rattle.relay_report.specs.declared.keeping.StartFault.TheVariants as starts
use Rattle.relay_startup.proofs.ToldCauses.{is_start, text_in}
use Rattle.relay_startup.specs.Causes.{TellsCause, cause_of}
use Rattle.relay_startup.specs.Naming.{TellsNamedCause, cause_named}

-- an error of what a text is by name tells the cause that this has
pub taken_tells : (config : Config) (names : Option (List ℕ)) (text taken : List ℕ)
    (known : Option Names) (error : ServeError) → named_by config names text ≡ As taken known
    → TellsCause config (Some taken) error → TellsNamedCause config names (Some text) error
taken_tells config names text taken known (faults.Start (starts.BadHistory cause)) named told =
    ap (λ (by : NamedBy). cause_named config by) named ∙ told
taken_tells config names text taken known error named told = tt

-- and one of bad names tells these
pub names_tell : (config : Config) (names : Option (List ℕ)) (text : List ℕ) (error : ServeError)
    → TellsNames config names text error → TellsNamedCause config names (Some text) error
names_tell config names text (faults.Start (starts.BadHistory cause)) told =
    ap (λ (by : NamedBy). cause_named config by) told.1 ∙ ap Some (sym told.0)
names_tell config names text error told = tt

-- an empty text is as it is
nothing_named : (config : Config) (names : Option (List ℕ)) → named_by config names [] ≡ As [] None
unfolding all_of
nothing_named config names = refl

-- an error that tells the cause of the text that is read of what is kept tells that of what is kept
pub same_named_cause : (config : Config) (names : Option (List ℕ)) (blank : Bool)
    (kept : Option (List ℕ)) (text : List ℕ) (error : ServeError)
    → begins_from false blank kept ≡ Starts text → TellsNamedCause config names (Some text) error
    → TellsNamedCause config names kept error
same_named_cause config names blank (Some kept) text error begins told =
    subst (λ (t : List ℕ). TellsNamedCause config names (Some t) error) (sym (ap text_in begins))
    told
same_named_cause config names true None text error begins told =
    absurd (false≢true (ap is_start begins))
same_named_cause config names false None text error begins told =
    none_tells config names error
    (subst (λ (t : List ℕ). TellsNamedCause config names (Some t) error) (sym (ap text_in begins))
    told)
  where
    none_tells : (config : Config) (names : Option (List ℕ)) (error : ServeError)
        → TellsNamedCause config names (Some []) error → TellsNamedCause config names None error
    none_tells config names (faults.Start (starts.BadHistory cause)) told =
        sym (ap (λ (by : NamedBy). cause_named config by) (nothing_named config names)) ∙ told
    none_tells config names error told = tt
