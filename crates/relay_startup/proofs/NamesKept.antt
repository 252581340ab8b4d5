-- What is left of the names where a relay isn't gone on with.
use Rattle.std.proofs.Common.{◌≡◌, ◌∙◌, ◌∷◌, inl, inr, ℕ, List, Option, Some, ap, subst, sym}
use Rattle.history_names.specs.Named.{IsNamesFault, told_in}
use Rattle.relay_conf.specs.declared.settings.Config.{Config}
use Rattle.relay_folder.specs.Keeping.{IsAsBefore, IsNotKept}
use Rattle.relay_folder.specs.declared.history_place.HistoryPlace.{Ghosts}
use Rattle.relay_names.specs.Names.{Names}
use Rattle.relay_names.specs.Text.{told_octets}
use Rattle.relay_report.specs.declared.fault.ServeError.{ServeError}
use Rattle.relay_report.specs.declared.fault.ServeError.TheVariants as faults
use Rattle.relay_report.specs.declared.keeping.StartFault.TheVariants as starts
use Rattle.relay_startup.specs.Naming.{LeavesNames, MayBeUntold}

-- where all is as before that is so for any error
pub as_before_leaves : {N : Type 0} (n : Ghosts N) (config : Config) (old new : N)
    (error : ServeError) → IsAsBefore n old new → LeavesNames n config old new error
as_before_leaves n config old new faults.Memory same = inl same
as_before_leaves n config old new (faults.Start starts.Names) same = inl same
as_before_leaves n config old new error same = same

-- a text that isn't kept behind a place that is as before isn't kept behind that
not_kept_from : {N : Type 0} (n : Ghosts N) (text : List ℕ) (old mid new : N)
    → IsAsBefore n old mid → IsNotKept n text mid new → IsNotKept n text old new
not_kept_from n text old mid new before (inl same) =
    inl (record {
      kept = same.kept ∙ before.kept;
      lasting = same.lasting ∙ before.lasting;
    })
not_kept_from n text old mid new before (inr unflushed) =
    inr (record {
      kept = unflushed.kept;
      lasting =
          unflushed.lasting ∙ ap (λ (lasting : List (Option (List ℕ))). Some text ∷ lasting)
          before.lasting;
    })

-- names that can't be kept are told so
pub untold_leaves : {N : Type 0} (n : Ghosts N) (config : Config) (stop : ℕ)
    (known : Option Names) (old mid new : N) (error : ServeError) → IsNamesFault error
    → IsAsBefore n old mid → IsNotKept n (told_octets (told_in config stop known)) mid new
    → LeavesNames n config old new error
untold_leaves n config stop known old mid new error (inl memory) before not_kept =
    subst (LeavesNames n config old new) (sym memory)
    (inr (stop, known, not_kept_from n _ old mid new before not_kept))
untold_leaves n config stop known old mid new error (inr names) before not_kept =
    subst (LeavesNames n config old new) (sym names)
    (inr (stop, known, not_kept_from n _ old mid new before not_kept))
