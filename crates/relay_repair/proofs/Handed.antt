-- What the history that is handed in tells a repair.
use Rattle.std.proofs.Common.{◌≡◌, ℕ, ◌≤◌, List, None, Some, Option, refl, subst, sym}
use Rattle.std.specs.Option.{option_copied}
use Rattle.std.specs.Borrow.{Bor}
use Rattle.std.proofs.lemmas.List.Elements.{All-map, All-from_recursion, All-nil, All-weaker}
use Rattle.block_shelf.specs.Starting.{IsFromOutside}
use Rattle.block_shelf.specs.declared.starting.Unstarted.{Unstarted}
use Rattle.cyc_block.specs.declared.store.BlockStore.{Ghosts}
use Rattle.id_history.specs.History as texts
use Rattle.id_history.specs.declared.fault.HistoryError.{HistoryError}
use Rattle.id_history.specs.declared.fault.HistoryError.TheVariants as errors
use Rattle.id_history.specs.declared.kept.History.{History}
use Rattle.relay_conf.specs.declared.settings.Config.{Config}
use Rattle.relay_core.specs.Desks.{setting_of}
use Rattle.relay_core.specs.Starting.{unread_as}
use Rattle.relay_model.specs.Crash.{Listed}
use Rattle.relay_model.specs.Terms.{last_moment}
use Rattle.relay_remains.specs.Heads.{MayHaveEnded}
use Rattle.relay_repair.specs.Refusing.{HasNoMemory, IsRefused, IsRefusedAfter, IsRefusedFor}
use Rattle.relay_repair.specs.Refusing.{IsUnread}
use Rattle.relay_repair.specs.Repairing.{AreInTime}
use Rattle.relay_repair.specs.Telling.{IsLast, IsNoHistory, IsUntold, last_lent, last_listed}
use Rattle.relay_repair.specs.Telling.{last_stop, last_view, listed_of}

-- what is lent is what it was
pub lent_is : (lent : Option (Bor History)) → last_lent lent ≡ last_view (option_copied lent)
lent_is None = refl
lent_is (Some old) = refl

-- each moment that the last history lists is one that there is
pub in_time : (config : Config) (text : Option (List ℕ)) (last : Option texts.Kept)
    → IsLast config text last → AreInTime (last_listed last)
in_time config None last is = subst (λ one. AreInTime (last_listed one)) (sym is) (All-nil _)
in_time config (Some text) last is =
    subst (λ one. AreInTime (last_listed one)) (sym is.1)
    (All-map (λ (one : Listed). one.moment ≤ last_moment) listed_of is.0.ids
    (All-weaker (texts.IdHolds (setting_of config).buffers)
    (λ (one : texts.KeptId). (listed_of one).moment ≤ last_moment) (λ one holds. holds.moment)
    is.0.ids (All-from_recursion (texts.IdHolds (setting_of config).buffers) is.0.ids
    is.2.holds.ids)))

-- a text that is none of a history is no last one
never : (config : Config) (text : Option (List ℕ)) (last : Option texts.Kept)
    → IsLast config text last → IsNoHistory config text → ⊥
never config None last is none = none
never config (Some text) last is none = none is.0 is.2

-- a history that isn't read refuses a repair
pub unread_for : {S : Type 0} {g : Ghosts S} (config : Config) (stores : List S)
    (text : Option (List ℕ)) (error : HistoryError) (refused : Unstarted S)
    → IsUntold config text error → refused.error ≡ unread_as error → refused.buffer ≡ None
    → refused.stores.items ≡ stores → IsRefusedFor g config stores text refused
unread_for config stores text errors.Memory refused untold error buffer back = record {
  reason = HasNoMemory error buffer back;
  cause = λ honest last is may. subst IsFromOutside (sym error) tt;
}
unread_for config stores text errors.BadHistory refused untold error buffer back = record {
  reason = IsUnread error buffer back untold;
  cause = λ honest last is may. absurd (never config text last is untold);
}

-- stores that are refused after the history was read refuse a repair
pub refused_for : {S : Type 0} {g : Ghosts S} (config : Config) (stores : List S)
    (text : Option (List ℕ)) (last : Option texts.Kept) (refused : Unstarted S)
    → IsLast config text last
    → ((other : Option texts.Kept) → IsLast config text other → last ≡ other)
    → IsRefusedAfter g (last_stop last) stores refused → IsRefusedFor g config stores text refused
refused_for {g = g} config stores text last refused is only after = record {
  reason = IsRefused last is after;
  cause = λ honest other is_other may.
      after.cause honest
      (subst (λ kept. MayHaveEnded g (last_stop kept) stores) (sym (only other is_other)) may);
}
