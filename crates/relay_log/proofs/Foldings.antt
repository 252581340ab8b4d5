-- What follows from how a journal is folded in.
use Rattle.std.proofs.Common.{◌≡◌, ◌≢◌, ◌∙◌, ◌==◌, ap, sym, refl, subst, Bool, true, false, List, ℕ}
use Rattle.std.proofs.Common.{[], ◌∷◌, ◌++◌, ◌<◌, ◌||◌, ◌≤◌, append_assoc, append-nil, cond}
use Rattle.std.proofs.Common.{Some, inl, inr}
use Rattle.std.proofs.lemmas.Bool.{cases_Bool, le-ltb, lt-ltb, true≢false}
use Rattle.std.proofs.lemmas.Bool.Decides.{eqb_tells}
use Rattle.std.proofs.lemmas.Grind.{flat_map-append}
use Rattle.std.proofs.lemmas.Slice.Eq.{bytes_eq-Decides}
use Rattle.std.specs.Prelude.{MatchBool}
use Rattle.std.specs.List.{AllByRecursion}
use Rattle.std.specs.Set.{is_member}
use Rattle.std.specs.Str.{bytes_eq}
use Rattle.id_history.specs.History.{Kept, KeptId, Setting, Rises}
use Rattle.id_history.specs.Lasting.{AreLasting, claim_of_kept, ids_of, lasting, put_all}
use Rattle.id_history.proofs.LastingLaws.{one_left, some_left}
use Rattle.news_terms.specs.Token.{Token}
use Rattle.relay_model.specs.Claims.{Claim, Unknown, Offered, Storing, Stored, Refused}
use Rattle.relay_model.specs.State.{put_id}
use Rattle.relay_log.specs.Folding.{IsFolded, IsFoldedWith, all_told, last_said, nothing, told}
use Rattle.relay_log.specs.Journal.{Entry, Journal}
use Rattle.relay_log.specs.Journal as entry
use Rattle.relay_log.proofs.Said.{all_last, or_else, or_else-twice, put_both, said_after}

-- what is left of two claims where all that is left of one is left of the other
both_left : (a c : List ℕ → Claim) (id : List ℕ) (ids : List KeptId)
    → AllByRecursion (λ (one : KeptId). claim_of_kept one ≡ lasting (a one.id)) ids
    → AllByRecursion (λ (one : KeptId). claim_of_kept one ≡ lasting (c one.id)) ids
    → is_member bytes_eq (ids_of ids) id ≡ true → lasting (a id) ≡ lasting (c id)
both_left a c id [] one other among = absurd (true≢false (sym among))
both_left a c id (first ∷ ids) one other among =
    by (bytes_eq id first.id) refl (both_left a c id ids one.1 other.1)
  where
    by : (b : Bool) → bytes_eq id first.id ≡ b
        → (is_member bytes_eq (ids_of ids) id ≡ true → lasting (a id) ≡ lasting (c id))
        → lasting (a id) ≡ lasting (c id)
    by true at others =
        let is : id ≡ first.id = (bytes_eq-Decides id first.id).0 at in
        ap (λ (x : List ℕ). lasting (a x)) is ∙ sym one.0 ∙ other.0
        ∙ ap (λ (x : List ℕ). lasting (c x)) (sym is)
    by false at others =
        others (sym (ap (λ (x : Bool). x || is_member bytes_eq (ids_of ids) id) at) ∙ among)

-- nothing is left where the id isn't among them
none_left : (claim : Claim) → (claim ≢ Unknown → true ≡ false) → claim ≡ Unknown
none_left Unknown none = refl
none_left (Offered session since) none = absurd (true≢false (none (λ e. cc)))
none_left (Storing session article stage) none = absurd (true≢false (none (λ e. cc)))
none_left (Stored token moment) none = absurd (true≢false (none (λ e. cc)))
none_left (Refused moment) none = absurd (true≢false (none (λ e. cc)))

-- one list is left of claims alone of which the same is left
same_left : (a c : List ℕ → Claim) (ids : List KeptId) → AreLasting ids a → AreLasting ids c
    → (id : List ℕ) → lasting (a id) ≡ lasting (c id)
same_left a c ids one other id =
    elim (cases_Bool (is_member bytes_eq (ids_of ids) id)) [
      | inl among ↦ both_left a c id ids one.each other.each among
      | inr none ↦
          none_left (lasting (a id)) (λ some. sym (one.whole id some) ∙ none)
          ∙ sym (none_left (lasting (c id)) (λ some. sym (other.whole id some) ∙ none))
    ]

-- what is said behind a list that was left is said last, or else what it was left of
after_left : (before : List KeptId) (ids later : List KeptId)
    → AreLasting ids (put_all nothing before) → (id : List ℕ)
    → put_all nothing (ids ++ later) id ≡ put_all nothing (before ++ later) id
after_left before ids later are id =
    ap (λ (f : List ℕ → Claim). f id) (put_both nothing ids later)
    ∙ said_after (put_all nothing ids) later id
    ∙ ap (or_else (put_all nothing later id))
    (sym (all_last ids id)
    ∙ same_left (put_all nothing ids) (put_all nothing before) ids (some_left ids are.rises) are id
    ∙ all_last before id)
    ∙ sym (said_after (put_all nothing before) later id)
    ∙ ap (λ (f : List ℕ → Claim). f id) (sym (put_both nothing before later))

-- what is said twice is said once
said_twice : (before later : List KeptId) (id : List ℕ)
    → put_all nothing ((before ++ later) ++ later) id ≡ put_all nothing (before ++ later) id
said_twice before later id =
    ap (λ (f : List ℕ → Claim). f id) (put_both nothing (before ++ later) later)
    ∙ said_after (put_all nothing (before ++ later)) later id
    ∙ ap (or_else (put_all nothing later id)) (parts id)
    ∙ or_else-twice (put_all nothing later id) (put_all nothing before id)
    ∙ sym (parts id)
  where
    parts : (id : List ℕ) → put_all nothing (before ++ later) id
        ≡ or_else (put_all nothing later id) (put_all nothing before id)
    parts id =
        ap (λ (f : List ℕ → Claim). f id) (put_both nothing before later)
        ∙ said_after (put_all nothing before) later id

-- the claims of a list may be told otherwise
left_same : (a c : List ℕ → Claim) (ids : List KeptId) → ((id : List ℕ) → a id ≡ c id)
    → AreLasting ids a → AreLasting ids c
left_same a c ids same are = subst (AreLasting ids) (λ i id. same id i) are

-- what is folded in is determined
pub one_with : (old : Kept) (entries : List Entry) (setting : Setting) (one other : Kept)
    → IsFoldedWith old entries setting one → IsFoldedWith old entries setting other → one ≡ other
one_with old entries setting one other x y =
    let same : one.ids ≡ other.ids =
    one_left (last_said setting.buffers old.ids entries) one.ids other.ids x.ids y.ids in
    x.others ∙ ap (λ (list : List KeptId). record old { ids = list }) same ∙ sym y.others

pub one_folded : (old : Kept) (journal : Journal) (setting : Setting) (one other : Kept)
    → IsFolded old journal setting one → IsFolded old journal setting other → one ≡ other
one_folded old journal setting one other = by (journal.stop == old.stop)
  where
    by : (b : Bool)
        → MatchBool b (IsFoldedWith old journal.entries setting one) (one ≡ old)
        → MatchBool b (IsFoldedWith old journal.entries setting other) (other ≡ old)
        → one ≡ other
    by true x y = one_with old journal.entries setting one other x y
    by false x y = x ∙ sym y

-- no entries
pub none_with : (old : Kept) (setting : Setting) → Rises old.ids → IsFoldedWith old [] setting old
none_with old setting rises =
    record {
      ids = subst (λ (said : List KeptId). AreLasting old.ids (put_all nothing said))
          (sym (append-nil old.ids)) (some_left old.ids rises);
      others = refl;
    }

-- the same entries again
pub twice_with : (old : Kept) (entries : List Entry) (setting : Setting) (new : Kept)
    → IsFoldedWith old entries setting new → IsFoldedWith new entries setting new
twice_with old entries setting new is =
    let later : List KeptId = all_told setting.buffers entries in
    record {
      ids = left_same (put_all nothing (old.ids ++ later)) (put_all nothing (new.ids ++ later))
          new.ids
          (λ id. sym (after_left (old.ids ++ later) new.ids later is.ids id
          ∙ said_twice old.ids later id))
          is.ids;
      others = refl;
    }

-- the entries in two parts
in_parts : (old mid : Kept) (first rest : List Entry) (setting : Setting)
    → IsFoldedWith old first setting mid → (id : List ℕ)
    → last_said setting.buffers mid.ids rest id
    ≡ last_said setting.buffers old.ids (first ++ rest) id
in_parts old mid first rest setting is id =
    let one : List KeptId = all_told setting.buffers first in
    let other : List KeptId = all_told setting.buffers rest in
    after_left (old.ids ++ one) mid.ids other is.ids id
    ∙ ap (λ (said : List KeptId). put_all nothing said id)
    (append_assoc old.ids one other
    ∙ ap (λ (said : List KeptId). old.ids ++ said)
    (sym (flat_map-append (told setting.buffers) first rest)))

-- the history that is kept but for its ids
others_same : (old mid new : Kept) → mid ≡ record old { ids = mid.ids }
    → record mid { ids = new.ids } ≡ record old { ids = new.ids }
others_same old mid new is = ap (λ (kept : Kept). record kept { ids = new.ids }) is

pub whole_from_parts : (old mid new : Kept) (first rest : List Entry) (setting : Setting)
    → IsFoldedWith old first setting mid → IsFoldedWith mid rest setting new
    → IsFoldedWith old (first ++ rest) setting new
whole_from_parts old mid new first rest setting one other =
    record {
      ids = left_same (last_said setting.buffers mid.ids rest)
          (last_said setting.buffers old.ids (first ++ rest)) new.ids
          (in_parts old mid first rest setting one) other.ids;
      others = other.others ∙ others_same old mid new one.others;
    }

pub parts_from_whole : (old mid new : Kept) (first rest : List Entry) (setting : Setting)
    → IsFoldedWith old first setting mid → IsFoldedWith old (first ++ rest) setting new
    → IsFoldedWith mid rest setting new
parts_from_whole old mid new first rest setting one whole =
    record {
      ids = left_same (last_said setting.buffers old.ids (first ++ rest))
          (last_said setting.buffers mid.ids rest) new.ids
          (λ id. sym (in_parts old mid first rest setting one id)) whole.ids;
      others = whole.others ∙ sym (others_same old mid new one.others);
    }

-- a journal of this stop, and one of another
pub same_stop : (old : Kept) (journal : Journal) (setting : Setting) (new : Kept)
    → journal.stop ≡ old.stop → IsFoldedWith old journal.entries setting new
    → IsFolded old journal setting new
same_stop old journal setting new same is =
    elim (eqb_tells journal.stop old.stop) [
      | inl equal ↦ subst (λ (b : Bool).
          MatchBool b (IsFoldedWith old journal.entries setting new) (new ≡ old)) (sym equal.0) is
      | inr other ↦ absurd (other.1 same)
    ]

pub other_stop : (old : Kept) (journal : Journal) (setting : Setting) (new : Kept)
    → journal.stop ≢ old.stop → new ≡ old → IsFolded old journal setting new
other_stop old journal setting new apart same =
    elim (eqb_tells journal.stop old.stop) [
      | inl equal ↦ absurd (apart equal.1)
      | inr other ↦ subst (λ (b : Bool).
          MatchBool b (IsFoldedWith old journal.entries setting new) (new ≡ old)) (sym other.0)
          same
    ]

pub as_it_is : (old : Kept) (journal : Journal) (setting : Setting) (new : Kept)
    → journal.stop ≢ old.stop → IsFolded old journal setting new → new ≡ old
as_it_is old journal setting new apart is =
    elim (eqb_tells journal.stop old.stop) [
      | inl equal ↦ absurd (apart equal.1)
      | inr other ↦ subst (λ (b : Bool).
          MatchBool b (IsFoldedWith old journal.entries setting new) (new ≡ old)) other.0 is
    ]

-- what is folded in asks of a setting only how many buffers there are
pub with_buffers : (old : Kept) (entries : List Entry) (setting : Setting) (new : Kept)
    (buffers : ℕ) → setting.buffers ≡ buffers
    → AreLasting new.ids (last_said buffers old.ids entries)
    → new ≡ record old { ids = new.ids } → IsFoldedWith old entries setting new
with_buffers old entries setting new buffers same ids others =
    record {
      ids = subst (λ (n : ℕ). AreLasting new.ids (last_said n old.ids entries)) (sym same) ids;
      others = others;
    }

-- a journal again
pub twice_folded : (old : Kept) (journal : Journal) (setting : Setting) (new : Kept)
    → IsFolded old journal setting new → IsFolded new journal setting new
twice_folded old journal setting new is = by (journal.stop == old.stop) refl is
  where
    stops : new ≡ old → new.stop ≡ old.stop
    stops same = ap (λ (kept : Kept). kept.stop) same

    with_same : (b : Bool) → (journal.stop == old.stop) ≡ b → new.stop ≡ old.stop
        → MatchBool b (IsFoldedWith new journal.entries setting new) (new ≡ new)
        → IsFolded new journal setting new
    with_same b at same is =
        subst (λ (x : Bool). MatchBool x (IsFoldedWith new journal.entries setting new) (new ≡ new))
        (sym at ∙ ap (λ (stop : ℕ). journal.stop == stop) (sym same)) is

    by : (b : Bool) → (journal.stop == old.stop) ≡ b
        → MatchBool b (IsFoldedWith old journal.entries setting new) (new ≡ old)
        → IsFolded new journal setting new
    by true at is =
        with_same true at (ap (λ (kept : Kept). kept.stop) is.others)
        (twice_with old journal.entries setting new is)
    by false at same = with_same false at (stops same) refl

-- one entry more
last_push : (buffers : ℕ) (ids : List KeptId) (entries : List Entry) (one : Entry)
    → last_said buffers ids (entries ++ one ∷ [])
    ≡ put_all (last_said buffers ids entries) (told buffers one ++ [])
last_push buffers ids entries one =
    ap (λ (said : List KeptId). put_all nothing (ids ++ said))
    (flat_map-append (told buffers) entries (one ∷ []))
    ∙ ap (put_all nothing)
    (sym (append_assoc ids (all_told buffers entries) (told buffers one ++ [])))
    ∙ put_both nothing (ids ++ all_told buffers entries) (told buffers one ++ [])

-- a refused one
pub push_refused : (buffers : ℕ) (ids : List KeptId) (entries : List Entry) (id : List ℕ)
    (moment : ℕ) → last_said buffers ids (entries ++ entry.Refused id moment ∷ [])
    ≡ put_id (last_said buffers ids entries) id (Refused moment)
push_refused buffers ids entries id moment =
    last_push buffers ids entries (entry.Refused id moment)

-- what a stored one says, where its buffer is or isn't there
abbrev said_if : Bool → List ℕ → ℕ → Token → List KeptId
said_if there id moment token =
    cond there (record { id = id; token = Some token; moment = moment } ∷ []) []

pub push_stored : (buffers : ℕ) (ids : List KeptId) (entries : List Entry) (id : List ℕ)
    (moment : ℕ) (token : Token) → token.buffer < buffers
    → last_said buffers ids (entries ++ entry.Stored id moment token ∷ [])
    ≡ put_id (last_said buffers ids entries) id (Stored token moment)
push_stored buffers ids entries id moment token there =
    last_push buffers ids entries (entry.Stored id moment token)
    ∙ ap (λ (b : Bool). put_all (last_said buffers ids entries) (said_if b id moment token ++ []))
    (lt-ltb token.buffer buffers there)

pub push_elsewhere : (buffers : ℕ) (ids : List KeptId) (entries : List Entry) (id : List ℕ)
    (moment : ℕ) (token : Token) → buffers ≤ token.buffer
    → last_said buffers ids (entries ++ entry.Stored id moment token ∷ [])
    ≡ last_said buffers ids entries
push_elsewhere buffers ids entries id moment token away =
    last_push buffers ids entries (entry.Stored id moment token)
    ∙ ap (λ (b : Bool). put_all (last_said buffers ids entries) (said_if b id moment token ++ []))
    (le-ltb token.buffer buffers away)

pub push_taken : (buffers : ℕ) (ids : List KeptId) (entries : List Entry)
    (feed gained passed taken : ℕ)
    → last_said buffers ids (entries ++ entry.Taken feed gained passed taken ∷ [])
    ≡ last_said buffers ids entries
push_taken buffers ids entries feed gained passed taken =
    last_push buffers ids entries (entry.Taken feed gained passed taken)
