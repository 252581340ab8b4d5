-- An article that is accepted is sound.
use Rattle.std.proofs.Common.{◌≡◌, ◌∙◌, ◌≤◌, ◌<◌, ◌+◌, ◌++◌, ◌^◌, ◌/◌, ℕ, nat_le, Bool, true, false}
use Rattle.std.proofs.Common.{List, [], ◌∷◌, length, Option, None, Some, Result, Ok, Err, All}
use Rattle.std.proofs.Common.{bytes_eq, refl, sym, subst, arith, if◌then◌else◌, slice_get, flat_map}
use Rattle.std.proofs.lemmas.Bool.{leb-true}
use Rattle.std.proofs.lemmas.List.{length-append}
use Rattle.std.proofs.lemmas.List.Elements.{All-head, All-tail}
use Rattle.std.proofs.lemmas.List.Sums.{AllPass-from_list_all}
use Rattle.std.proofs.lemmas.Option.{none-some, same_Some, slice_get_within, get_or_from_slice_get}
use Rattle.std.proofs.lemmas.Option.{unwrap_or-slice_get}
use Rattle.std.specs.List.{list_all}
use Rattle.std.specs.Prelude.{find, IsTrue, is_some, not}
use Rattle.std.specs.Char.{is_ascii_graphic}
use Rattle.news_terms.specs.Article.{Article, IsArticleText, article_text, field_text}
use Rattle.news_terms.specs.Lines.{crlf}
use Rattle.news_terms.specs.Article.{message_id, newsgroups}
use Rattle.news_terms.specs.Dates.{date_fault}
use Rattle.news_terms.specs.Fronts.{FitsGroup}
use Rattle.news_terms.specs.Path.{has_identity, is_agent, path_octets, updated_article}
use Rattle.news_terms.specs.Places.{Buffer, Group, size_of}
use Rattle.news_terms.specs.StorageClass.{Entry, chosen_entry, takes}
use Rattle.news_terms.proofs.UpdatedArticles.{updated_is_article}
use Rattle.relay_model.specs.Claims.{Accepted}
use Rattle.relay_model.specs.Invariants.{IsSoundArticle}
use Rattle.relay_model.specs.Judging.{Judges, IsOversize, IsNone, IsRead, judged, classed, fits}
use Rattle.relay_model.specs.Judging.{stored_text, permitted, identity_of, path_of, second_of}
use Rattle.relay_model.specs.Terms.{Terms, Reason, IdMismatch, BadPath, Loop, Date, TooLarge}
use Rattle.relay_facts.specs.Sound.{IsSound}

-- what holds of all holds of one that is got
pub all_at : {X : Type 0} (P : X → Type 0) (xs : List X) (i : ℕ) (x : X) → All P xs
    → slice_get xs i ≡ Some x → P x
all_at P xs i x all e =
    subst P (get_or_from_slice_get xs i x x e) (all i x (slice_get_within xs i x e))

-- and of one that is found
found_one : {X : Type 0} (P : X → Type 0) (p : X → Bool) (xs : List X) (x : X) → All P xs
    → find p xs ≡ Some x → P x
found_one P p [] x all e = absurd (none-some x e)
found_one P p (y ∷ xs) x all e = by (p y) e (found_one P p xs x (All-tail P y xs all))
  where
    by : (b : Bool) → (if b then Some y else find p xs) ≡ Some x → (find p xs ≡ Some x → P x) → P x
    by true e later = subst P (same_Some y x e) (All-head P y xs all)
    by false e later = later e

-- an article's text has an octet at least
some_octets : (a : Article) → 1 ≤ size_of (length (article_text a))
some_octets a =
    let whole = length-append (flat_map field_text a.fields ++ crlf) a.body in
    let front = length-append (flat_map field_text a.fields) crlf in
    by (length (article_text a)) (omega (arith, whole, front))
  where
    by : (n : ℕ) → 1 ≤ n → 1 ≤ (n + 479) / 480
    by n some = omega (arith, some)

-- where each buffer of a group that is there has room
fits_one : (o : Option Group) (size : ℕ) → fits o size ≡ true
    → (group : Group) × (o ≡ Some group) × FitsGroup group size
fits_one None size e = absurd (cc (e))
fits_one (Some group) size e = (
  group,
  refl,
  record {
    room = λ i buffer there.
        leb-true size buffer.blocks
        (all_at (λ (one : Buffer). nat_le size one.blocks ≡ true) group.buffers i buffer
        (AllPass-from_list_all (λ (one : Buffer). nat_le size one.blocks) group.buffers e) there);
  },
)

-- the article that a class gives
class_sound : (w : Terms) → IsSound w → (from : ℕ) → from < length w.peers
    → (octets : List ℕ) (a : Article)
    → IsArticleText octets a → (o : Option Entry)
    → ((entry : Entry) → o ≡ Some entry → entry.class < 2 ^ 8)
    → (accepted : Accepted) → classed w from a o ≡ Ok accepted → IsSoundArticle w accepted
class_sound w sound from inside octets a is None small accepted e = absurd (cc)
class_sound w sound from inside octets a is (Some entry) small accepted e =
    by (fits (slice_get w.groups entry.group) size) refl e
  where
    size : ℕ
    size = size_of (length (stored_text w from a))

    given : Accepted
    given = record {
      class = entry.class;
      group = entry.group;
      permitted = permitted w from a;
      text = stored_text w from a;
    }

    by : (b : Bool) → fits (slice_get w.groups entry.group) size ≡ b
        → (if b then Ok given else Err TooLarge) ≡ Ok accepted → IsSoundArticle w accepted
    by true room same =
        let found = fits_one (slice_get w.groups entry.group) size room in
        let given_is : given ≡ accepted = cc in
        subst (IsSoundArticle w) given_is
        (record {
          group = found.0;
          there = found.1;
          some = some_octets (updated_article w.own (identity_of w from) a);
          fits = found.2;
          class = small entry refl;
          read = updated_article w.own (identity_of w from) a;
          is_read = updated_is_article w.own (identity_of w from) octets a sound.own
              (subst (λ one. IsTrue (is_agent one)) (sym (unwrap_or-slice_get w.peers from []))
              (sound.peers from [] inside)) is;
        })
    by false room same = absurd (cc)

-- a reason that doesn't apply
passed : (b : Bool) (reason : Reason) (rest : Result Accepted Reason) (accepted : Accepted)
    → (if b then Err reason else rest) ≡ Ok accepted → rest ≡ Ok accepted
passed true reason rest accepted e = absurd (cc)
passed false reason rest accepted e = e

-- an article that was read and accepted is sound
judged_one : (w : Terms) → IsSound w → (from : ℕ) → from < length w.peers → (id : List ℕ) (now : ℕ)
    (octets : List ℕ) (a : Article) → IsArticleText octets a → (accepted : Accepted)
    → judged w from id now a ≡ Ok accepted → IsSoundArticle w accepted
judged_one w sound from inside id now octets a is accepted e =
    let chosen = chosen_entry w.entries (newsgroups a.fields) (length (stored_text w from a)) in
    let last = classed w from a chosen in
    let dated = if is_some (date_fault now w.cutoff (second_of w a)) then Err Date else last in
    let looped = if has_identity w.own (path_of a) then Err Loop else dated in
    let pathed = if not (list_all is_ascii_graphic (path_octets (path_of a))) then Err BadPath
    else looped in
    class_sound w sound from inside octets a is chosen
    (λ entry found. found_one (λ (one : Entry). one.class < 2 ^ 8)
    (λ one. takes one (newsgroups a.fields) (length (stored_text w from a)))
    w.entries entry sound.classes found)
    accepted
    (passed (is_some (date_fault now w.cutoff (second_of w a))) Date last accepted
    (passed (has_identity w.own (path_of a)) Loop dated accepted
    (passed (not (list_all is_ascii_graphic (path_octets (path_of a)))) BadPath looped accepted
    (passed (not (bytes_eq (message_id a.fields) id)) IdMismatch pathed accepted e))))

-- what is accepted is sound
pub judged_sound : (w : Terms) → IsSound w → (from : ℕ) → from < length w.peers
    → (id : List ℕ) (now : ℕ)
    (text : Option (List ℕ)) (accepted : Accepted) → Judges w from id now text (Ok accepted)
    → IsSoundArticle w accepted
judged_sound w sound from inside id now text accepted judges = by (Ok accepted) refl judges
  where
    by : (verdict : Result Accepted Reason) → verdict ≡ Ok accepted
        → Judges w from id now text verdict
        → IsSoundArticle w accepted
    by verdict is (IsOversize large e) = absurd (cc (is, e))
    by verdict is (IsNone octets some none e) = absurd (cc (is, e))
    by verdict is (IsRead octets a some read e) =
        judged_one w sound from inside id now octets a read accepted (sym e ∙ is)
