-- Why buffers aren't added, from why their parts aren't had.
use Rattle.std.proofs.Common.{inl, inr, refl, subst, sym}
use Rattle.relay_adding.specs.Telling.{IsAddFault}
use Rattle.relay_conf.specs.declared.settings.Buffers.{Buffers}
use Rattle.relay_conf.specs.declared.settings.Config.{Config}
use Rattle.relay_report.specs.declared.fault.ServeError.{ServeError}
use Rattle.relay_report.specs.declared.fault.ServeError.TheVariants as faults
use Rattle.relay_report.specs.declared.keeping.StartFault.TheVariants as starts
use Rattle.relay_check.specs.Adding.{IsFileOrHead}
use Rattle.relay_startup.specs.StopNumbers.{IsHistoryFault}
use Rattle.buffer_files.specs.Files.{IsFileFault}
use Rattle.relay_startup.specs.Naming.{IsNamedHistoryFault}

-- a file that can't be had is told so
pub file_or_head : (settings : Buffers) (error : ServeError) → IsFileFault settings error
    → IsFileOrHead settings error
file_or_head settings (faults.File lost) named = named
file_or_head settings error memory = subst (IsFileOrHead settings) (sym memory) refl

-- and is why nothing is added,
pub head_adds : (config : Config) (error : ServeError) → IsFileOrHead config.buffers error
    → IsAddFault config error
head_adds config (faults.File lost) named = named
head_adds config (faults.Start (starts.Buffer name fault)) named = named.1
head_adds config error memory = subst (IsAddFault config) (sym memory) tt

pub file_adds : (config : Config) (error : ServeError) → IsFileFault config.buffers error
    → IsAddFault config error
file_adds config error fault = head_adds config error (file_or_head config.buffers error fault)

-- as is a history that can't be had
pub history_adds : (config : Config) (error : ServeError) → IsHistoryFault error
    → IsAddFault config error
history_adds config error (inl memory) = subst (IsAddFault config) (sym memory) tt
history_adds config error (inr (inl unread)) = subst (IsAddFault config) (sym unread) tt
history_adds config (faults.Start (starts.BadHistory cause)) (inr (inr none)) = tt
history_adds config (faults.File lost) (inr (inr none)) = absurd none
history_adds config (faults.Port lost) (inr (inr none)) = absurd none
history_adds config faults.Control (inr (inr none)) = absurd none
history_adds config (faults.Start starts.History) (inr (inr none)) = absurd none
history_adds config (faults.Start (starts.Buffer name fault)) (inr (inr none)) = absurd none
history_adds config (faults.Start starts.Ahead) (inr (inr none)) = absurd none
history_adds config (faults.Start starts.Names) (inr (inr none)) = absurd none
history_adds config faults.Unseeded (inr (inr none)) = absurd none
history_adds config faults.Memory (inr (inr none)) = absurd none
history_adds config faults.NoThread (inr (inr none)) = absurd none
history_adds config (faults.Stop fault) (inr (inr none)) = absurd none
history_adds config faults.Unwritten (inr (inr none)) = absurd none

-- or by the names that are kept beside it
pub named_adds : (config : Config) (error : ServeError) → IsNamedHistoryFault error
    → IsAddFault config error
named_adds config error (inl fault) = history_adds config error fault
named_adds config error (inr names) = subst (IsAddFault config) (sym names) tt
