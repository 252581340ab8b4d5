-- The map of a shard stays keyed by message-ids alone.
use Rattle.std.proofs.Common.{◌≡◌, ◌∙◌, ap, sym, refl, cond, List, ℕ, [], Option, None, Some}
use Rattle.std.proofs.Common.{String, Global, inl, inr}
use Rattle.std.proofs.lemmas.Bool.{cases_Bool}
use Rattle.std.proofs.lemmas.Map.Text.{hash_map_updates_text}
use Rattle.std.proofs.lemmas.Slice.Eq.{bytes_eq-Decides}
use Rattle.std.specs.HashMap.{HashMap, get_by_text, UpdatesBy}
use Rattle.std.specs.Map.{lookup}
use Rattle.std.specs.Str.{bytes_eq}
use Rattle.std.specs.String.{string_bytes, string_eq}
use Rattle.news_terms.specs.MessageId.{IdFault, id_fault}
use Rattle.id_history.specs.OnlyIds.{OnlyIds}

-- what isn't a fault
is_none : (f : Option IdFault) → ((f ≡ None → ⊥) → ⊥) → f ≡ None
is_none None h = refl
is_none (Some f) h = absurd (h (λ e. cc))

some_none : {E : Type 0} (e : E) (o : Option E) → o ≡ Some e → o ≡ None → ⊥
some_none e o some none = cc

module _ {E S : Type 0} where
  -- a map without entries has nothing of any text
  pub OnlyIds-empty : (m : HashMap (String Global) E S) → m.entries ≡ [] → OnlyIds m
  OnlyIds-empty m none = record {
    none = λ text fault. ap (lookup (λ k. bytes_eq text (string_bytes k))) none;
  }

  -- a change at a message-id is none at a text that isn't one
  pub OnlyIds-update : (old new : HashMap (String Global) E S) (id : List ℕ) (w : Option E)
      → id_fault id ≡ None
      → UpdatesBy string_eq (λ k. bytes_eq id (string_bytes k)) old new w
      → OnlyIds old → OnlyIds new
  OnlyIds-update old new id w is update only = record {
    none = λ text fault.
        hash_map_updates_text id old new w update text
        ∙ elim (cases_Bool (bytes_eq id text)) [
          | inl same ↦ absurd (fault (ap id_fault (sym ((bytes_eq-Decides id text).0 same)) ∙ is))
          | inr other ↦ ap (λ b. cond b w (get_by_text old text)) other ∙ only.none text fault
        ];
  }

  -- a map with the same entries
  pub OnlyIds-same : (old new : HashMap (String Global) E S) → new.entries ≡ old.entries
      → OnlyIds old → OnlyIds new
  OnlyIds-same old new same only = record {
    none = λ text fault. ap (lookup (λ k. bytes_eq text (string_bytes k))) same
        ∙ only.none text fault;
  }

  -- what has an entry is a message-id
  pub OnlyIds-entry : (m : HashMap (String Global) E S) (text : List ℕ) (e : E) → OnlyIds m
      → get_by_text m text ≡ Some e → id_fault text ≡ None
  OnlyIds-entry m text e only found =
      is_none (id_fault text) (λ fault. some_none e (get_by_text m text) found
      (only.none text fault))
