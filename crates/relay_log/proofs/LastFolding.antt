-- The worked example of what is folded in.
use Rattle.std.proofs.Common.{◌≡◌, ◌≢◌, ◌∙◌, ◌&&◌, ap, sym, refl, Bool, true, false, cond}
use Rattle.std.proofs.Common.{List, ℕ, [], ◌∷◌, ◌++◌, inl, inr}
use Rattle.std.proofs.lemmas.Bool.{cases_Bool, true≢false}
use Rattle.std.proofs.lemmas.Slice.Eq.{bytes_eq-Decides}
use Rattle.std.specs.List.Sorted.{IsStrictlySortedBy}
use Rattle.std.specs.Set.{is_member}
use Rattle.std.specs.Str.{bytes_eq}
use Rattle.id_history.specs.History.{KeptId}
use Rattle.id_history.specs.Lasting.{claim_of_kept, ids_of, lasting, put_all}
use Rattle.relay_model.specs.Claims.{Claim, Unknown}
use Rattle.relay_model.specs.State.{put_id}
use Rattle.relay_log.specs.Examples.{last_folded, last_history, last_journal, one_buffer}
use Rattle.relay_log.specs.Folding.{IsFolded, all_told, nothing}

-- each id of which something is said is in the list
all_among : List (List ℕ) → List KeptId → Bool
all_among ids [] = true
all_among ids (one ∷ said) = is_member bytes_eq ids one.id && all_among ids said

both : (a b : Bool) → (a && b) ≡ true → (a ≡ true) × (b ≡ true)
both true b holds = (refl, holds)
both false b holds = absurd (true≢false (sym holds))

-- an id of which something is said is among them, or nothing was said of it before
among : (ids : List (List ℕ)) (said : List KeptId) (base : List ℕ → Claim) (id : List ℕ)
    → all_among ids said ≡ true → is_member bytes_eq ids id ≡ false
    → put_all base said id ≡ base id
unfolding all_among
among ids [] base id all none = refl
among ids (one ∷ said) base id all none =
    let parts = both (is_member bytes_eq ids one.id) (all_among ids said) all in
    among ids said (put_id base one.id (claim_of_kept one)) id parts.1 none
    ∙ by (bytes_eq id one.id) refl parts.0
  where
    by : (b : Bool) → bytes_eq id one.id ≡ b → is_member bytes_eq ids one.id ≡ true
        → cond b (claim_of_kept one) (base id) ≡ base id
    by true at own =
        absurd (true≢false (sym own ∙ ap (is_member bytes_eq ids)
        (sym ((bytes_eq-Decides id one.id).0 at)) ∙ none))
    by false at own = refl

-- so the ids of which something is said are those of the list
whole_by : (ids : List (List ℕ)) (said : List KeptId) → all_among ids said ≡ true
    → (id : List ℕ) → lasting (put_all nothing said id) ≢ Unknown
    → is_member bytes_eq ids id ≡ true
whole_by ids said all id left =
    elim (cases_Bool (is_member bytes_eq ids id)) [
      | inl is ↦ is
      | inr none ↦ absurd (left (ap lasting (among ids said nothing id all none)))
    ]

pub last_is_folded : IsFolded last_history last_journal one_buffer last_folded
unfolding IsStrictlySortedBy all_among
last_is_folded =
    record {
      ids = record {
        rises = ((refl, (refl, tt)), ((refl, tt), (tt, tt)));
        each = (refl, (refl, (refl, tt)));
        whole = whole_by (ids_of last_folded.ids)
            (last_history.ids ++ all_told 1 last_journal.entries) refl;
      };
      others = refl;
    }
