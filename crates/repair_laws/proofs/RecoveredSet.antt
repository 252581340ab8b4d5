-- What a recovery says of the buffers that it finds is what is asked of buffers that are found.
use Rattle.std.proofs.Common.{◌≡◌, ℕ, Bool, List, Option}
use Rattle.block_shelf.specs.Filling.{failures_in}
use Rattle.block_shelf.specs.Openings.{Opening}
use Rattle.buffer_repair.specs.Finding.{remains_in}
use Rattle.block_shelf.specs.Leaving.{AreLeftOf}
use Rattle.buffer_repair.specs.Keeping.{AreLeftOfGroups, KeepsFound, KeepsLeft}
use Rattle.buffer_repair.specs.Keeping.{LeavesRecord, TellsBefore}
use Rattle.buffer_repair.specs.Remains.{AreOfGroups, AreTurns, all_texts_left, courses_left}
use Rattle.buffer_repair.specs.declared.found_set.FoundBufferSet.{FoundBufferSet}
use Rattle.cyc_block.specs.declared.store.BlockStore.{Ghosts}
use Rattle.news_terms.specs.Token.{Token}
use Rattle.relay_conf.specs.Settings.{places_of_buffers, places_of_groups}
use Rattle.relay_conf.specs.declared.settings.Buffers.{Buffers}
use Rattle.relay_model.specs.Invariants.{IsWell}
use Rattle.relay_model.specs.Terms.{Terms}
use Rattle.relay_model.specs.World.{World}
use Rattle.repair_laws.proofs.BeforePlaces.{left_at_places}
use Rattle.repair_laws.specs.FoundAll.{AreBuffersFound}

-- of a relay that was well and that a crash has left so
pub recovered_are_found : {S : Type 0} {g : Ghosts S} (settings : Buffers) (stores : List S)
    (found_set : FoundBufferSet S g) (w v : Terms) (saved : Token → Bool) (x : World)
    (openings : ℕ → Option Opening) (ids : Token → List ℕ) (turns : ℕ → ℕ)
    → KeepsLeft g settings stores found_set → LeavesRecord settings found_set
    → AreLeftOfGroups g settings stores found_set → TellsBefore g settings stores found_set
    → v.buffers ≡ places_of_buffers settings → v.groups ≡ places_of_groups settings
    → v.buffers ≡ w.buffers → v.groups ≡ w.groups → AreTurns v.groups turns → IsWell w x
    → AreLeftOf g stores v x.state.begun x.state.kept openings saved
    → AreBuffersFound found_set w v saved x
    (courses_left v.groups turns (remains_in found_set))
    (all_texts_left ids (remains_in found_set))
recovered_are_found {S} {g} settings stores found_set w v saved x openings ids turns keeps records
    of_groups tells buffers groups same_buffers same_groups are_turns well left =
    let are : AreOfGroups v.groups (remains_in found_set) =
    of_groups v x.state.begun x.state.kept openings saved buffers groups left in
    let kept : KeepsFound found_set v (courses_left v.groups turns (remains_in found_set))
    (all_texts_left ids (remains_in found_set)) (failures_in g stores) =
    keeps v ids turns buffers groups are_turns are in
    record {
      buffers = same_buffers;
      groups = same_groups;
      well = well;
      before = left_at_places same_buffers same_groups kept.texts.numbered well left;
      failures = failures_in g stores;
      keeps = kept;
      on_record = records v ids turns buffers groups are_turns are;
      agrees = tells v x.state.begun x.state.kept openings saved ids turns buffers groups are_turns
          left;
    }
