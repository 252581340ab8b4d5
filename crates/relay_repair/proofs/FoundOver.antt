-- What a crash left on stores is found again, over those that were only read since.
use Rattle.std.proofs.Common.{◌≡◌, ◌∙◌, ℕ, Bool, List, Option, ap, slice_get, subst}
use Rattle.std.proofs.Common.{get_or, refl, sym}
use Rattle.std.proofs.lemmas.Option.{slice_get-get_or}
use Rattle.std.specs.Prelude.{All}
use Rattle.news_terms.proofs.ListPlaces.{holds_at}
use Rattle.block_shelf.proofs.EachLemmas.{comes_from}
use Rattle.article_verdict.specs.Config.{terms_of}
use Rattle.block_shelf.specs.Each.{AreEach}
use Rattle.block_shelf.specs.Openings.{Opening}
use Rattle.block_shelf.specs.Starting.{IsUnwritten}
use Rattle.block_shelf.specs.Leaving.{AreLeftOf, HasLeft, saved_in}
use Rattle.buffer_repair.specs.Keeping.{AreLeftOfGroups, KeepsLeft, LeavesRecord, TellsBefore}
use Rattle.buffer_repair.specs.declared.found_set.FoundBufferSet.{FoundBufferSet}
use Rattle.cyc_block.specs.declared.store.BlockStore.{Ghosts}
use Rattle.cyc_buffer.specs.Crash.{IsLeftOf}
use Rattle.id_history.specs.History as texts
use Rattle.news_terms.specs.Courses.{Course}
use Rattle.news_terms.specs.Token.{Token}
use Rattle.relay_conf.specs.declared.settings.Config.{Config}
use Rattle.relay_core.specs.Openings.{openings}
use Rattle.relay_facts.specs.Started.{HasSameStore}
use Rattle.relay_model.specs.State.{Kept}
use Rattle.relay_model.specs.Terms.{Terms}
use Rattle.relay_model.specs.World.{World}
use Rattle.repair_laws.proofs.RecoveredSet.{recovered_are_found}
use Rattle.relay_repair.proofs.Repaired.{nameless}
use Rattle.relay_core.specs.Killing.{IsLeftBy}
use Rattle.relay_repair.specs.Repairing.{IsFoundOf, RepairsFrom, RepairsLeftFrom}

-- what is left of a relay is left of one with other settings that have its buffers and groups
pub left_of : {S : Type 0} {g : Ghosts S} {stores : List S} {w v : Terms} {begun : ℕ → Course}
    {kept : List Kept} {open_ones : ℕ → Option Opening} {saved : Token → Bool}
    → v.buffers ≡ w.buffers → v.groups ≡ w.groups
    → AreLeftOf g stores w begun kept open_ones saved
    → AreLeftOf g stores v begun kept open_ones saved
left_of {g = g} {stores} {begun = begun} {kept} {open_ones} {saved} buffers groups left = record {
  fit = λ h group there.
      left.fit h group (ap (λ gs. slice_get gs h) (sym groups) ∙ there);
  laid = λ h group there.
      left.laid h group (ap (λ gs. slice_get gs h) (sym groups) ∙ there);
  buffers = λ b buffer there.
      subst (λ gs. HasLeft g stores gs begun kept open_ones saved b buffer) (sym groups)
      (left.buffers b buffer (ap (λ bs. slice_get bs b) (sym buffers) ∙ there));
}

-- what is found over stores that a crash left
pub found_over : {S : Type 0} {g : Ghosts S} (config : Config) (stores : List S)
    (found_set : FoundBufferSet S g) → KeepsLeft g config.buffers stores found_set
    → LeavesRecord config.buffers found_set
    → AreLeftOfGroups g config.buffers stores found_set
    → TellsBefore g config.buffers stores found_set → (w : Terms) (saved : Token → Bool)
    (x : World) → HasSameStore w (terms_of config) → IsLeftBy g stores w saved x
    → IsFoundOf found_set w (terms_of config) saved x
found_over config stores found_set keeps on_record of_groups before w saved x same left turns at =
    recovered_are_found config.buffers stores found_set w (terms_of config) saved x
    (openings x.work.writer) nameless turns keeps on_record of_groups before refl refl
    same.buffers same.groups at left.well
    (left_of same.buffers same.groups left.left)

-- stores that are unwritten are honest still
pub honest_on : {S : Type 0} {g : Ghosts S} {failed : Option ℕ} {old new : List S}
    → AreEach (IsUnwritten g failed) old new → All g.honest old → All g.honest new
honest_on {g = g} {failed} {old} {new} are honest = λ k store within.
    let from =
    comes_from (IsUnwritten g failed) old new are k (get_or new k store)
    (slice_get-get_or new k store within) in
    from.belongs.held.honest (holds_at g.honest old honest k from.item from.there)

-- what a crash left on stores is on them still
pub left_on : {S : Type 0} {g : Ghosts S} {failed : Option ℕ} {old new : List S} {w : Terms}
    {begun : ℕ → Course} {kept : List Kept} {open_ones : ℕ → Option Opening}
    {saved : Token → Bool} → AreEach (IsUnwritten g failed) old new → All g.honest old
    → AreLeftOf g old w begun kept open_ones saved
    → AreLeftOf g new w begun kept open_ones saved
left_on {g = g} {old = old} {saved = saved} are honest left = record {
  fit = left.fit;
  laid = left.laid;
  buffers = λ b buffer there.
      let was = left.buffers b buffer there in
      let now = are.each b was.store was.there in
      record {
        store = now.item;
        there = now.there;
        history = was.history;
        is_of_buffer = was.is_of_buffer;
        is_said = was.is_said;
        left = subst (λ blocks. IsLeftOf was.history (saved_in saved buffer) blocks)
            (sym (now.belongs.held.blocks (holds_at g.honest old honest b was.store was.there)))
            was.left;
      };
}

-- what is repaired over stores that were only read is repaired over those before
pub repairs_on : {S : Type 0} {g : Ghosts S} {failed : Option ℕ} {old new : List S}
    (config : Config) (last : Option texts.Kept) (now : ℕ) (back : List S) (history : List ℕ)
    → AreEach (IsUnwritten g failed) old new
    → RepairsFrom g config new last now back history
    → RepairsFrom g config old last now back history
repairs_on config last now back history are repairs honest w saved x same left =
    repairs (honest_on are honest) w saved x same
    (record { well = left.well; left = left_on are honest left.left })

-- and a crash may leave it where it might
pub left_repairs_on : {S : Type 0} {g : Ghosts S} {failed : Option ℕ} {old new : List S}
    (config : Config) (last : Option texts.Kept) (now : ℕ) (back : List S) (history : List ℕ)
    → AreEach (IsUnwritten g failed) old new
    → RepairsLeftFrom g config new last now back history
    → RepairsLeftFrom g config old last now back history
left_repairs_on config last now back history are repairs honest w saved x same left =
    repairs (honest_on are honest) w saved x same
    (record { well = left.well; left = left_on are honest left.left })
