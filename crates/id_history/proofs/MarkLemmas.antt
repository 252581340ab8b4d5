-- What a change of the map does to all that the shard has.
use Rattle.std.proofs.Common.{◌≡◌, ◌∙◌, ap, Bool, true, false, cond, List, ℕ, Option, refl}
use Rattle.std.specs.Cmp.Lexicographic.{nat_list_eq_equiv}
use Rattle.std.specs.HashMap.{get_by_text, UpdatesBy}
use Rattle.std.specs.Str.{bytes_eq}
use Rattle.std.specs.String.{string_bytes, string_eq}
use Rattle.std.proofs.lemmas.Map.Text.{hash_map_updates_text}
use Rattle.id_history.specs.declared.claims.Entry.{Entry}
use Rattle.id_history.specs.declared.claims.Shard.{Shard}
use Rattle.id_history.specs.Mark.{entry_mark}
use Rattle.id_history.specs.Marks.{SetsMark, SameMarks}
use Rattle.id_history.specs.Shard.{mark_at}

-- the mark of a choice is the choice of the marks
entry_mark-cond : (b : Bool) (m n : Option Entry)
    → entry_mark (cond b m n) ≡ cond b (entry_mark m) (entry_mark n)
entry_mark-cond true m n = refl
entry_mark-cond false m n = refl

-- where the map has this entry at the id, the shard has its mark
pub mark_at-entry : (shard : Shard) (id : List ℕ) (entry : Option Entry)
    → get_by_text shard.entries id ≡ entry → mark_at shard id ≡ entry_mark entry
unfolding mark_at
mark_at-entry shard id entry has = ap entry_mark has

-- an update of the map at the id sets the mark of the id
pub SetsMark-from_update : (old new : Shard) (id : List ℕ) (entry : Option Entry)
    → UpdatesBy string_eq (λ k. bytes_eq id (string_bytes k)) old.entries new.entries entry
    → SetsMark old new id (entry_mark entry)
unfolding mark_at
SetsMark-from_update old new id entry update = record {
  marks = λ other.
      let had = get_by_text old.entries other in
      ap entry_mark (hash_map_updates_text id old.entries new.entries entry update other)
      ∙ entry_mark-cond (bytes_eq id other) entry had
      ∙ ap (λ b. cond b (entry_mark entry) (entry_mark had)) (nat_list_eq_equiv.symm id other);
}

-- where the entries stay, the marks do
pub SameMarks-from_entries : (old new : Shard)
    → new.entries.entries ≡ old.entries.entries → SameMarks old new
unfolding mark_at
SameMarks-from_entries old new same = record { marks = λ other. rw same refl }
