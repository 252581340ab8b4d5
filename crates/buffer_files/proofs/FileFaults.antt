-- Why the files of buffers can't be had, from why that of one can't.
use Rattle.std.proofs.Common.{◌≡◌, ◌<◌, ℕ, List, get_or, length, subst, sym}
use Rattle.std.proofs.lemmas.Option.{get_or_from_slice_get, slice_get_within}
use Rattle.std.specs.Prelude.{Any, Some, slice_get, string_bytes}
use Rattle.std.specs.Str.Lossy.{utf8_lossy}
use Rattle.relay_conf.specs.declared.cycbuff.BufferConf.{BufferConf}
use Rattle.relay_conf.specs.declared.settings.Buffers.{Buffers}
use Rattle.relay_conf.specs.declared.settings.Config.{Config}
use Rattle.relay_report.specs.declared.fault.ServeError.{ServeError}
use Rattle.relay_report.specs.declared.fault.ServeError.TheVariants as faults
use Rattle.buffer_files.specs.Faults.{IsServeFault}
use Rattle.buffer_files.specs.Files.{IsFaultAt, IsFaultOf, IsFileFault}

-- the fault of the file of the buffer at a place is one of the files of all of them
pub fault_at : (settings : Buffers) (all : List BufferConf) (place : ℕ) (buffer : BufferConf)
    (error : ServeError) → all ≡ settings.buffers.items → place < length all
    → buffer ≡ get_or all place buffer → IsFaultOf buffer error → IsFileFault settings error
fault_at settings all place buffer (faults.File lost) same within is named =
    subst (Any (λ (one : BufferConf). string_bytes lost.name ≡ utf8_lossy one.file)) same
    (place, buffer, within, sym is, named)
fault_at settings all place buffer error same within is memory = memory

-- the fault of the file of a buffer is that of the buffer of its number
pub fault_of_number : (settings : Buffers) (number : ℕ) (buffer : BufferConf) (error : ServeError)
    → slice_get settings.buffers.items number ≡ Some buffer → IsFaultOf buffer error
    → IsFaultAt settings number error
fault_of_number settings number buffer (faults.File lost) there named = (buffer, there, named)
fault_of_number settings number buffer error there memory = memory

-- the fault of the buffer of a number is why a relay isn't served
pub file_at_is_served : (config : Config) (number : ℕ) (error : ServeError)
    → IsFaultAt config.buffers number error → IsServeFault config error
file_at_is_served config number (faults.File lost) at =
    let all = config.buffers.buffers.items in (
      number,
      at.0,
      slice_get_within all number at.0 at.1,
      get_or_from_slice_get all number at.0 at.0 at.1,
      at.2,
    )
file_at_is_served config number error memory = subst (IsServeFault config) (sym memory) tt
