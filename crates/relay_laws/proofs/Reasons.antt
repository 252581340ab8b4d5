-- Which reason is said of an article: the first that applies.
use Rattle.std.proofs.Common.{◌≡◌, ◌∙◌, ℕ, Bool, true, false, not, List, length, Option, None}
use Rattle.std.proofs.Common.{Some, Result, Ok, Err, bytes_eq, if◌then◌else◌, refl, sym, ap, subst}
use Rattle.std.proofs.Common.{true≢false}
use Rattle.std.proofs.lemmas.Option.{none-some}
use Rattle.std.specs.Char.{is_ascii_graphic}
use Rattle.std.specs.List.{list_all}
use Rattle.std.specs.Prelude.{IfErr, IfOk, IsSomeAnd, is_some, slice_get}
use Rattle.news_terms.specs.Article.{Article, message_id, newsgroups}
use Rattle.news_terms.specs.Dates.{date_fault}
use Rattle.news_terms.specs.Path.{has_identity, path_octets}
use Rattle.news_terms.specs.Places.{size_of}
use Rattle.news_terms.specs.StorageClass.{Entry, chosen_entry}
use Rattle.relay_model.specs.Claims.{Accepted}
use Rattle.relay_model.specs.Judging.{classed, fits, judged, path_of, permitted, second_of}
use Rattle.relay_model.specs.Judging.{stored_text}
use Rattle.relay_model.specs.Terms.{Terms, Reason, Size, Grammar, IdMismatch, BadPath, Loop, Date}
use Rattle.relay_model.specs.Terms.{NoClass, TooLarge}
use Rattle.relay_facts.proofs.Puts.{id_passes, same_id}
use Rattle.relay_laws.specs.Reasons.{Applies}

-- the first of four reasons, or else what the class says
abbrev first_of : (same printable here late : Bool) → Result Accepted Reason
    → Result Accepted Reason
first_of same printable here late rest =
    if not same then Err IdMismatch
    else (if not printable then Err BadPath
    else (if here then Err Loop
    else (if late then Err Date else rest)))

-- what a verdict says of the four
data Said (same printable here late : Bool) (rest verdict : Result Accepted Reason) : Type 0 where
  IsOther : same ≡ false → verdict ≡ Err IdMismatch → Said same printable here late rest verdict
  IsBad : same ≡ true → printable ≡ false → verdict ≡ Err BadPath
      → Said same printable here late rest verdict
  IsLoop : same ≡ true → printable ≡ true → here ≡ true → verdict ≡ Err Loop
      → Said same printable here late rest verdict
  IsLate : same ≡ true → printable ≡ true → here ≡ false → late ≡ true → verdict ≡ Err Date
      → Said same printable here late rest verdict
  IsFree : same ≡ true → printable ≡ true → here ≡ false → late ≡ false → verdict ≡ rest
      → Said same printable here late rest verdict

-- each verdict says that
said : (same printable here late : Bool) (rest : Result Accepted Reason)
    → Said same printable here late rest (first_of same printable here late rest)
said false printable here late rest = IsOther refl refl
said true false here late rest = IsBad refl refl refl
said true true true late rest = IsLoop refl refl refl refl
said true true false true rest = IsLate refl refl refl refl refl
said true true false false rest = IsFree refl refl refl refl refl

-- the entry that an article falls to
abbrev entry_of : Terms → ℕ → Article → Option Entry
entry_of w from a =
    chosen_entry w.entries (newsgroups a.fields) (length (stored_text w from a))

-- what a judgement says
abbrev Says : (w : Terms) (from : ℕ) (id : List ℕ) (now : ℕ) (a : Article) → Type 0
Says w from id now a =
    Said (bytes_eq (message_id a.fields) id) (list_all is_ascii_graphic (path_octets (path_of a)))
    (has_identity w.own (path_of a)) (is_some (date_fault now w.cutoff (second_of w a)))
    (classed w from a (entry_of w from a)) (judged w from id now a)

-- each judgement says that
says : (w : Terms) (from : ℕ) (id : List ℕ) (now : ℕ) (a : Article) → Says w from id now a
says w from id now a =
    said (bytes_eq (message_id a.fields) id) (list_all is_ascii_graphic (path_octets (path_of a)))
    (has_identity w.own (path_of a)) (is_some (date_fault now w.cutoff (second_of w a)))
    (classed w from a (entry_of w from a))

-- what an article that falls to a class has
record IsClassed (w : Terms) (from : ℕ) (a : Article) (found : Option Entry) (accepted : Accepted)
    : Type 0 where
  entry : Entry
  chosen : found ≡ Some entry
  class : accepted.class ≡ entry.class
  group : accepted.group ≡ entry.group
  text : accepted.text ≡ stored_text w from a
  permitted : accepted.permitted ≡ permitted w from a
  room : fits (slice_get w.groups entry.group) (size_of (length (stored_text w from a))) ≡ true

-- one that falls to this class
abbrev accepted_as : Terms → ℕ → Article → Entry → Accepted
accepted_as w from a entry = record {
  class = entry.class;
  group = entry.group;
  permitted = permitted w from a;
  text = stored_text w from a;
}

-- by its class
is_classed : (w : Terms) (from : ℕ) (a : Article) (found : Option Entry)
    → IfOk (classed w from a found) (IsClassed w from a found)
is_classed w from a None = tt
is_classed w from a (Some entry) =
    by (fits (slice_get w.groups entry.group) (size_of (length (stored_text w from a)))) refl
  where
    by : (room : Bool)
        → fits (slice_get w.groups entry.group) (size_of (length (stored_text w from a))) ≡ room
        → IfOk (if room then Ok (accepted_as w from a entry) else Err TooLarge)
        (IsClassed w from a (Some entry))
    by true has = record {
      entry = entry;
      chosen = refl;
      class = refl;
      group = refl;
      text = refl;
      permitted = refl;
      room = has;
    }
    by false has = tt

-- a class that gives a reason: there is none, or no room
gives_reason : (w : Terms) (from : ℕ) (id : List ℕ) (now : ℕ) (a : Article)
    (found : Option Entry) → entry_of w from a ≡ found
    → IfErr (classed w from a found) (Applies w from id now a)
gives_reason w from id now a None is = is
gives_reason w from id now a (Some entry) is =
    by (fits (slice_get w.groups entry.group) (size_of (length (stored_text w from a)))) refl
  where
    by : (room : Bool)
        → fits (slice_get w.groups entry.group) (size_of (length (stored_text w from a))) ≡ room
        → IfErr (if room then Ok (accepted_as w from a entry) else Err TooLarge)
        (Applies w from id now a)
    by true has = tt
    by false has =
        subst (λ o. IsSomeAnd o (λ each. fits (slice_get w.groups each.group)
        (size_of (length (stored_text w from a))) ≡ false)) (sym is) has

-- an article for which there is no class
classed_none : (w : Terms) (from : ℕ) (id : List ℕ) (now : ℕ) (a : Article)
    → Applies w from id now a NoClass → classed w from a (entry_of w from a) ≡ Err NoClass
classed_none w from id now a none = ap (classed w from a) none

-- an article for which there is no room
classed_large : (w : Terms) (from : ℕ) (a : Article) (found : Option Entry)
    → IsSomeAnd found (λ entry. fits (slice_get w.groups entry.group)
    (size_of (length (stored_text w from a))) ≡ false)
    → classed w from a found ≡ Err TooLarge
classed_large w from a None large = absurd large
classed_large w from a (Some entry) large = rw large refl

-- what is accepted has none of the four reasons, and a class
record IsRight (w : Terms) (from : ℕ) (id : List ℕ) (now : ℕ) (a : Article) (accepted : Accepted)
    : Type 0 where
  same : bytes_eq (message_id a.fields) id ≡ true
  printable : list_all is_ascii_graphic (path_octets (path_of a)) ≡ true
  here : has_identity w.own (path_of a) ≡ false
  late : is_some (date_fault now w.cutoff (second_of w a)) ≡ false
  class : IsClassed w from a (entry_of w from a) accepted

-- an article that is accepted
is_right : (w : Terms) (from : ℕ) (id : List ℕ) (now : ℕ) (a : Article) (accepted : Accepted)
    → judged w from id now a ≡ Ok accepted → IsRight w from id now a accepted
is_right w from id now a accepted e = by (says w from id now a)
  where
    by : Says w from id now a → IsRight w from id now a accepted
    by (IsOther same is) = absurd (cc (is, e))
    by (IsBad same printable is) = absurd (cc (is, e))
    by (IsLoop same printable here is) = absurd (cc (is, e))
    by (IsLate same printable here late is) = absurd (cc (is, e))
    by (IsFree same printable here late is) = record {
      same = same;
      printable = printable;
      here = here;
      late = late;
      class = subst (λ r. IfOk r (IsClassed w from a (entry_of w from a))) (sym is ∙ e)
          (is_classed w from a (entry_of w from a));
    }

-- it has the offered message-id
pub offered : (w : Terms) (from now : ℕ) (id : List ℕ) (a : Article) (accepted : Accepted)
    → judged w from id now a ≡ Ok accepted → message_id a.fields ≡ id
offered w from now id a accepted e =
    same_id (message_id a.fields) id (is_right w from id now a accepted e).same

-- it is in time
pub in_time : (w : Terms) (from now : ℕ) (id : List ℕ) (a : Article) (accepted : Accepted)
    → judged w from id now a ≡ Ok accepted → date_fault now w.cutoff (second_of w a) ≡ None
in_time w from now id a accepted e =
    by (date_fault now w.cutoff (second_of w a)) (is_right w from id now a accepted e).late
  where
    by : {X : Type 0} (o : Option X) → is_some o ≡ false → o ≡ None
    by None fails = refl
    by (Some x) fails = absurd (true≢false fails)

-- its class decides its group
pub has_class : (w : Terms) (from now : ℕ) (id : List ℕ) (a : Article) (accepted : Accepted)
    → judged w from id now a ≡ Ok accepted → (entry : Entry)
    × (chosen_entry w.entries (newsgroups a.fields) (length (stored_text w from a))
    ≡ Some entry) × (accepted.class ≡ entry.class) × (accepted.group ≡ entry.group)
has_class w from now id a accepted e =
    let class = (is_right w from id now a accepted e).class in
    (class.entry, class.chosen, class.class, class.group)

-- its text is updated
pub is_updated : (w : Terms) (from now : ℕ) (id : List ℕ) (a : Article) (accepted : Accepted)
    → judged w from id now a ≡ Ok accepted
    → (accepted.text ≡ stored_text w from a) × (accepted.permitted ≡ permitted w from a)
is_updated w from now id a accepted e =
    let class = (is_right w from id now a accepted e).class in (class.text, class.permitted)

-- no reason applies to it
pub none_applies : (w : Terms) (from now : ℕ) (id : List ℕ) (a : Article) (accepted : Accepted)
    (reason : Reason) → judged w from id now a ≡ Ok accepted → Applies w from id now a reason → ⊥
none_applies w from now id a accepted Size e applies = applies
none_applies w from now id a accepted Grammar e applies = applies
none_applies w from now id a accepted IdMismatch e applies =
    applies (offered w from now id a accepted e)
none_applies w from now id a accepted BadPath e applies =
    true≢false (sym (is_right w from id now a accepted e).printable ∙ applies)
none_applies w from now id a accepted Loop e applies =
    true≢false (sym applies ∙ (is_right w from id now a accepted e).here)
none_applies w from now id a accepted Date e applies =
    true≢false (sym applies ∙ (is_right w from id now a accepted e).late)
none_applies w from now id a accepted NoClass e applies =
    let class = (is_right w from id now a accepted e).class in
    none-some class.entry (sym applies ∙ class.chosen)
none_applies w from now id a accepted TooLarge e applies =
    let class = (is_right w from id now a accepted e).class in
    true≢false
    (sym class.room
    ∙ subst (λ o. IsSomeAnd o (λ each. fits (slice_get w.groups each.group)
    (size_of (length (stored_text w from a))) ≡ false)) class.chosen applies)

-- a reason that is said applies
pub said_applies : (w : Terms) (from now : ℕ) (id : List ℕ) (a : Article) (reason : Reason)
    → judged w from id now a ≡ Err reason → Applies w from id now a reason
said_applies w from now id a reason e = by (says w from id now a)
  where
    is_said : (other : Reason) → judged w from id now a ≡ Err other
        → Applies w from id now a other → Applies w from id now a reason
    is_said other is applies =
        let same : other ≡ reason = cc (is, e) in subst (Applies w from id now a) same applies

    by : Says w from id now a → Applies w from id now a reason
    by (IsOther same is) =
        is_said IdMismatch is
        (λ is_id. true≢false (sym (id_passes (message_id a.fields) id is_id) ∙ same))
    by (IsBad same printable is) = is_said BadPath is printable
    by (IsLoop same printable here is) = is_said Loop is here
    by (IsLate same printable here late is) = is_said Date is late
    by (IsFree same printable here late is) =
        subst (λ r. IfErr r (Applies w from id now a)) (sym is ∙ e)
        (gives_reason w from id now a (entry_of w from a) refl)

-- another message-id
pub other_id_said : (w : Terms) (from now : ℕ) (id : List ℕ) (a : Article)
    → Applies w from id now a IdMismatch → judged w from id now a ≡ Err IdMismatch
other_id_said w from now id a other = by (says w from id now a)
  where
    never : bytes_eq (message_id a.fields) id ≡ true → judged w from id now a ≡ Err IdMismatch
    never same = absurd (other (same_id (message_id a.fields) id same))

    by : Says w from id now a → judged w from id now a ≡ Err IdMismatch
    by (IsOther same is) = is
    by (IsBad same printable is) = never same
    by (IsLoop same printable here is) = never same
    by (IsLate same printable here late is) = never same
    by (IsFree same printable here late is) = never same

-- no reason but that of the message-id is tried before
same_one : (w : Terms) (from now : ℕ) (id : List ℕ) (a : Article)
    → (Applies w from id now a IdMismatch → ⊥) → bytes_eq (message_id a.fields) id ≡ false → ⊥
same_one w from now id a same fails =
    same (λ is_id. true≢false (sym (id_passes (message_id a.fields) id is_id) ∙ fails))

-- a bad Path
pub bad_path_said : (w : Terms) (from now : ℕ) (id : List ℕ) (a : Article)
    → (Applies w from id now a IdMismatch → ⊥) → Applies w from id now a BadPath
    → judged w from id now a ≡ Err BadPath
bad_path_said w from now id a same bad = by (says w from id now a)
  where
    by : Says w from id now a → judged w from id now a ≡ Err BadPath
    by (IsOther other is) = absurd (same_one w from now id a same other)
    by (IsBad one printable is) = is
    by (IsLoop one printable here is) = absurd (true≢false (sym printable ∙ bad))
    by (IsLate one printable here late is) = absurd (true≢false (sym printable ∙ bad))
    by (IsFree one printable here late is) = absurd (true≢false (sym printable ∙ bad))

-- the own identity in the Path
pub been_here_said : (w : Terms) (from now : ℕ) (id : List ℕ) (a : Article)
    → (Applies w from id now a IdMismatch → ⊥) → (Applies w from id now a BadPath → ⊥)
    → Applies w from id now a Loop → judged w from id now a ≡ Err Loop
been_here_said w from now id a same good here = by (says w from id now a)
  where
    by : Says w from id now a → judged w from id now a ≡ Err Loop
    by (IsOther other is) = absurd (same_one w from now id a same other)
    by (IsBad one bad is) = absurd (good bad)
    by (IsLoop one printable there is) = is
    by (IsLate one printable not_here late is) = absurd (true≢false (sym here ∙ not_here))
    by (IsFree one printable not_here late is) = absurd (true≢false (sym here ∙ not_here))

-- the date
pub date_said : (w : Terms) (from now : ℕ) (id : List ℕ) (a : Article)
    → (Applies w from id now a IdMismatch → ⊥) → (Applies w from id now a BadPath → ⊥)
    → (Applies w from id now a Loop → ⊥) → Applies w from id now a Date
    → judged w from id now a ≡ Err Date
date_said w from now id a same good fresh late = by (says w from id now a)
  where
    by : Says w from id now a → judged w from id now a ≡ Err Date
    by (IsOther other is) = absurd (same_one w from now id a same other)
    by (IsBad one bad is) = absurd (good bad)
    by (IsLoop one printable here is) = absurd (fresh here)
    by (IsLate one printable here is_late is) = is
    by (IsFree one printable here in_time is) = absurd (true≢false (sym late ∙ in_time))

-- none of the four: the class decides
pub class_said : (w : Terms) (from now : ℕ) (id : List ℕ) (a : Article)
    → (Applies w from id now a IdMismatch → ⊥) → (Applies w from id now a BadPath → ⊥)
    → (Applies w from id now a Loop → ⊥) → (Applies w from id now a Date → ⊥)
    → judged w from id now a ≡ classed w from a (entry_of w from a)
class_said w from now id a same good fresh punctual = by (says w from id now a)
  where
    by : Says w from id now a → judged w from id now a ≡ classed w from a (entry_of w from a)
    by (IsOther other is) = absurd (same_one w from now id a same other)
    by (IsBad one bad is) = absurd (good bad)
    by (IsLoop one printable here is) = absurd (fresh here)
    by (IsLate one printable here late is) = absurd (punctual late)
    by (IsFree one printable here late is) = is

-- no class
pub no_class_said : (w : Terms) (from now : ℕ) (id : List ℕ) (a : Article)
    → (Applies w from id now a IdMismatch → ⊥) → (Applies w from id now a BadPath → ⊥)
    → (Applies w from id now a Loop → ⊥) → (Applies w from id now a Date → ⊥)
    → Applies w from id now a NoClass → judged w from id now a ≡ Err NoClass
no_class_said w from now id a same good fresh punctual none =
    class_said w from now id a same good fresh punctual ∙ classed_none w from id now a none

-- no room
pub too_large_said : (w : Terms) (from now : ℕ) (id : List ℕ) (a : Article)
    → (Applies w from id now a IdMismatch → ⊥) → (Applies w from id now a BadPath → ⊥)
    → (Applies w from id now a Loop → ⊥) → (Applies w from id now a Date → ⊥)
    → Applies w from id now a TooLarge → judged w from id now a ≡ Err TooLarge
too_large_said w from now id a same good fresh punctual large =
    class_said w from now id a same good fresh punctual
    ∙ classed_large w from a (entry_of w from a) large
