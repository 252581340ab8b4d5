-- The cause that is told is that of what is kept.
use Rattle.std.proofs.Common.{◌≡◌, ◌∙◌, inl, inr, ap, refl, subst, sym, Bool, true, false}
use Rattle.std.proofs.Common.{ℕ, List, [], ◌∷◌, Option, None, Some}
use Rattle.std.proofs.lemmas.Bool.{false≢true}
use Rattle.std.proofs.lemmas.Option.{get_or_from_slice_get, slice_get_within}
use Rattle.std.specs.List.{All}
use Rattle.std.specs.Prelude.{slice_get}
use Rattle.block_shelf.specs.declared.starting.StopFault.{StopFault}
use Rattle.block_shelf.specs.declared.starting.StopFault.TheVariants as reasons
use Rattle.cyc_block.specs.declared.store.BlockStore.{Ghosts}
use Rattle.relay_conf.specs.declared.cycbuff.BufferConf.{BufferConf}
use Rattle.relay_conf.specs.declared.settings.Config.{Config}
use Rattle.relay_folder.specs.Origin.{Beginning, Formats, Starts, begins_from}
use Rattle.relay_remains.specs.Heads.{IsFirstFault, IsHeadFault}
use Rattle.relay_remains.specs.declared.heads.HeadFault.{HeadFault}
use Rattle.relay_report.specs.declared.fault.ServeError.{ServeError}
use Rattle.relay_report.specs.declared.fault.ServeError.TheVariants as faults
use Rattle.relay_report.specs.declared.keeping.BufferFault.{BufferFault}
use Rattle.relay_report.specs.declared.keeping.BufferFault.TheVariants.{Device, NoHead, Mixed}
use Rattle.relay_report.specs.declared.keeping.StartFault.TheVariants as starts
use Rattle.relay_startup.specs.Causes.{TellsCause, cause_of}
use Rattle.buffer_files.specs.History.{IsOriginFault}
use Rattle.relay_startup.specs.Starting.{IsFaultOfBuffer, IsRefusal}
use Rattle.relay_startup.specs.Unstopped.{kept_text}

-- want of memory tells none
memory_tells : (config : Config) (kept : Option (List ℕ)) (error : ServeError)
    → error ≡ faults.Memory → TellsCause config kept error
memory_tells config kept error memory = subst (TellsCause config kept) (sym memory) tt

-- nor does a history that can't be had
pub origin_tells : (config : Config) (kept : Option (List ℕ)) (error : ServeError)
    → IsOriginFault error → TellsCause config kept error
origin_tells config kept error (inl memory) = memory_tells config kept error memory
origin_tells config kept error (inr history) = subst (TellsCause config kept) (sym history) tt

-- memory was refused
abbrev is_memory : ServeError → Bool
is_memory faults.Memory = true
is_memory error = false

-- the fault of a buffer is none of the history
buffer_tells : (config : Config) (kept : Option (List ℕ)) (there : Option BufferConf)
    (fault : BufferFault) (error : ServeError) → IsFaultOfBuffer there fault error
    → TellsCause config kept error
buffer_tells config kept None fault error memory = memory_tells config kept error memory
buffer_tells config kept (Some buffer) fault (faults.Start (starts.BadHistory cause)) memory =
    absurd (false≢true (ap is_memory memory))
buffer_tells config kept (Some buffer) fault error told = tt

-- nor is that of a head
head_tells : {S : Type 0} (g : Ghosts S) (config : Config) (kept : Option (List ℕ))
    (history place number : ℕ) (store : S) (reason : StopFault) (error : ServeError)
    → IsHeadFault g history place store reason
    → IsRefusal config.buffers (Some number) reason error → TellsCause config kept error
head_tells g config kept history place number store reasons.Memory error none told = absurd none
head_tells g config kept history place number store reasons.Device error is told =
    buffer_tells config kept (slice_get config.buffers.buffers.items number) Device error told
head_tells g config kept history place number store reasons.NoHead error is told =
    buffer_tells config kept (slice_get config.buffers.buffers.items number) NoHead error told
head_tells g config kept history place number store reasons.Unclosed error none told = absurd none
head_tells g config kept history place number store reasons.Damaged error none told = absurd none
head_tells g config kept history place number store reasons.BadHistory error none told =
    absurd none
head_tells g config kept history place number store reasons.Mixed error is told =
    buffer_tells config kept (slice_get config.buffers.buffers.items number) Mixed error told
head_tells g config kept history place number store reasons.Ahead error none told = absurd none

-- so it is with the first head that is at fault
pub first_tells : {S : Type 0} (g : Ghosts S) (config : Config) (kept : Option (List ℕ))
    (history number : ℕ) (stores : List S) (fault : HeadFault) (error : ServeError)
    → All g.honest stores → IsFirstFault g history stores fault
    → IsRefusal config.buffers (Some number) fault.error error → TellsCause config kept error
first_tells g config kept history number stores fault error honest first told =
    head_tells g config kept history fault.place number first.store fault.error error
    (first.reason (honest_at g.honest stores fault.place first.store honest first.there)) told
  where
    honest_at : {S : Type 0} (P : S → Type 0) (xs : List S) (k : ℕ) (x : S) → All P xs
        → slice_get xs k ≡ Some x → P x
    honest_at P xs k x all there =
        subst P (get_or_from_slice_get xs k x x there) (all k x (slice_get_within xs k x there))

-- an error tells the cause of two texts that have the same
tells_both : (config : Config) (one other : Option (List ℕ)) (error : ServeError)
    → cause_of config one ≡ cause_of config other → TellsCause config one error
    → TellsCause config other error
tells_both config one other (faults.Start (starts.BadHistory cause)) same told = sym same ∙ told
tells_both config one other error same told = tt

-- a text that is empty has the cause of none
kept_as : (config : Config) (text : List ℕ)
    → cause_of config (kept_text text) ≡ cause_of config (Some text)
kept_as config [] = refl
kept_as config (octet ∷ octets) = refl

-- so an error tells the cause of a text that is kept
pub text_tells : (config : Config) (text : List ℕ) (error : ServeError)
    → TellsCause config (kept_text text) error → TellsCause config (Some text) error
text_tells config text error told =
    tells_both config (kept_text text) (Some text) error (kept_as config text) told

-- the text that a relay starts from
abbrev pub text_in : Beginning → List ℕ
text_in Formats = []
text_in (Starts text) = text

-- whether it starts from one
abbrev pub is_start : Beginning → Bool
is_start Formats = false
is_start (Starts text) = true

-- the text of what is kept
abbrev text_of : Option (List ℕ) → List ℕ
text_of None = []
text_of (Some text) = text

-- which is that of the start
its_text : (blank : Bool) (kept : Option (List ℕ)) (text : List ℕ)
    → begins_from false blank kept ≡ Starts text → text_of kept ≡ text
its_text blank (Some kept) text begins = ap text_in begins
its_text true None text begins = absurd (false≢true (ap is_start begins))
its_text false None text begins = ap text_in begins

-- it has the cause of what is kept
its_cause : (config : Config) (kept : Option (List ℕ))
    → cause_of config (kept_text (text_of kept)) ≡ cause_of config kept
its_cause config None = refl
its_cause config (Some []) = refl
its_cause config (Some (octet ∷ octets)) = refl

-- what is kept has the cause of the text that is read of it
pub same_cause : (config : Config) (blank : Bool) (kept : Option (List ℕ)) (text : List ℕ)
    (error : ServeError) → begins_from false blank kept ≡ Starts text
    → TellsCause config (kept_text text) error → TellsCause config kept error
same_cause config blank kept text error begins told =
    tells_both config (kept_text text) kept error
    (ap (λ (t : List ℕ). cause_of config (kept_text t)) (sym (its_text blank kept text begins))
    ∙ its_cause config kept) told
