-- A text has one longest beginning that is a journal.
use Rattle.std.proofs.Common.{◌≡◌, ℕ, zero, suc, ◌^◌, ◌<◌}
use Rattle.std.proofs.Common.{List, [], ◌∷◌, ◌++◌, length, take, drop, get_or}
use Rattle.std.proofs.Common.{Some, None, refl, sym, ap, subst, ◌∙◌, append_assoc, arith}
use Rattle.std.specs.Prelude.{◌↔◌}
use Rattle.std.proofs.lemmas.List.{drop_at, length-append, take-append-drop}
use Rattle.std.proofs.lemmas.List.{length-take}
use Rattle.std.specs.Int.{w64}
use Rattle.std.specs.List.{AllByRecursion, flat_map}
use Rattle.relay_log.specs.Beginning.{IsLongest, written, zeros}
use Rattle.relay_log.specs.Journal.{Entry, Refused, Stored, Taken, Journal, IsEntry}
use Rattle.relay_log.specs.Journal.{BeginsWithEntry, entry_octets, front_octets}
use Rattle.relay_log.specs.Journal.{journal_octets}
use Rattle.relay_log.specs.Reading.{entry_at, front_at}
use Rattle.relay_log.proofs.Checked.{entry_again}
use Rattle.id_history.proofs.Fields.{some_is, wide64, number_again}

-- no value is a value
pub none_is_some : {A : Type 0} (x : A) → None ≡ Some x → ⊥
none_is_some x e = absurd cc

-- where no entry is read none begins
pub none_begins : (octets : List ℕ) → entry_at octets ≡ None → ¬ BeginsWithEntry octets
none_begins octets none = λ begins.
    none_is_some (begins.entry, begins.rest)
    (sym none ∙ ap entry_at begins.parts ∙ entry_again begins.entry begins.rest begins.is)

-- octets begin with one entry
pub one_entry : (one other : Entry) (rest more : List ℕ) → IsEntry one → IsEntry other
    → entry_octets one ++ rest ≡ entry_octets other ++ more → (one ≡ other) × (rest ≡ more)
one_entry one other rest more is was same =
    let pair = some_is (one, rest) (other, more)
    (sym (entry_again one rest is) ∙ ap entry_at same ∙ entry_again other more was) in
    (ap (λ (x : Entry × List ℕ). x.0) pair, ap (λ (x : Entry × List ℕ). x.1) pair)

-- the front is read again
pub front_again : (stop : ℕ) (rest : List ℕ) → stop < 2 ^ 64
    → front_at (front_octets stop ++ rest) ≡ Some (stop, rest)
unfolding front_at
front_again stop rest small = number_again w64 (2 ^ 64) wide64 stop rest small

-- a text has one front
one_front : (one other : ℕ) (rest more : List ℕ) → one < 2 ^ 64 → other < 2 ^ 64
    → front_octets one ++ rest ≡ front_octets other ++ more → (one ≡ other) × (rest ≡ more)
one_front one other rest more small low same =
    let pair = some_is (one, rest) (other, more)
    (sym (front_again one rest small) ∙ ap front_at same ∙ front_again other more low) in
    (ap (λ (x : ℕ × List ℕ). x.0) pair, ap (λ (x : ℕ × List ℕ). x.1) pair)

-- octets begin with one list of entries, where none begins behind it
one_list : (ones others : List Entry) (rest more : List ℕ) → AllByRecursion IsEntry ones
    → AllByRecursion IsEntry others → ¬ BeginsWithEntry rest → ¬ BeginsWithEntry more
    → flat_map entry_octets ones ++ rest ≡ flat_map entry_octets others ++ more → ones ≡ others
one_list [] [] rest more is was ends stops same = refl
one_list [] (other ∷ others) rest more is was ends stops same =
    absurd (ends (record {
      entry = other;
      rest = flat_map entry_octets others ++ more;
      is = was.0;
      parts = same ∙ append_assoc (entry_octets other) (flat_map entry_octets others) more;
    }))
one_list (one ∷ ones) [] rest more is was ends stops same =
    absurd (stops (record {
      entry = one;
      rest = flat_map entry_octets ones ++ rest;
      is = is.0;
      parts = sym same ∙ append_assoc (entry_octets one) (flat_map entry_octets ones) rest;
    }))
one_list (one ∷ ones) (other ∷ others) rest more is was ends stops same =
    let first = one_entry one other (flat_map entry_octets ones ++ rest)
    (flat_map entry_octets others ++ more) is.0 was.0
    (sym (append_assoc (entry_octets one) (flat_map entry_octets ones) rest) ∙ same
    ∙ append_assoc (entry_octets other) (flat_map entry_octets others) more) in
    let rest_same = one_list ones others rest more is.1 was.1 ends stops first.1 in
    ap (λ (e : Entry). e ∷ ones) first.0 ∙ ap (λ (es : List Entry). other ∷ es) rest_same

-- a journal of these parts
abbrev of_parts : ℕ → List Entry → ℕ → Journal
of_parts stop entries octets = record { stop = stop; entries = entries; octets = octets }

-- journals of the same parts are the same
same_parts : (one other : Journal) → one.stop ≡ other.stop → one.entries ≡ other.entries
    → one.octets ≡ other.octets → one ≡ other
same_parts one other stop entries octets =
    ap (λ (s : ℕ). of_parts s one.entries one.octets) stop
    ∙ ap (λ (es : List Entry). of_parts other.stop es one.octets) entries
    ∙ ap (λ (n : ℕ). of_parts other.stop other.entries n) octets

-- a text has one longest beginning
pub one_longest : (text : List ℕ) (one other : Journal) → IsLongest text one
    → IsLongest text other → one ≡ other
one_longest text one other is was =
    let ones = flat_map entry_octets one.entries in
    let others = flat_map entry_octets other.entries in
    let rest = drop one.octets text in
    let more = drop other.octets text in
    let both : front_octets one.stop ++ (ones ++ rest)
    ≡ front_octets other.stop ++ (others ++ more) =
    sym (append_assoc (front_octets one.stop) ones rest) ∙ sym is.whole ∙ was.whole
    ∙ append_assoc (front_octets other.stop) others more in
    let front = one_front one.stop other.stop (ones ++ rest) (others ++ more) is.stop was.stop
    both in
    let entries = one_list one.entries other.entries rest more is.entries was.entries is.ends
    was.ends front.1 in
    same_parts one other front.0 entries
    (is.octets ∙ ap (λ (s : ℕ). length (journal_octets s one.entries)) front.0
    ∙ ap (λ (es : List Entry). length (journal_octets other.stop es)) entries
    ∙ sym was.octets)

-- what was written is the longest beginning, where no entry begins behind it
pub written_is : (stop : ℕ) (entries : List Entry) (tail : List ℕ) → stop < 2 ^ 64
    → AllByRecursion IsEntry entries → ¬ BeginsWithEntry tail
    → IsLongest (journal_octets stop entries ++ tail) (written stop entries)
written_is stop entries tail small is ends =
    let text = journal_octets stop entries in
    let behind : drop (length text) (text ++ tail) ≡ tail = drop_at text tail (length text) refl in
    record {
      whole = ap (λ (o : List ℕ). text ++ o) (sym behind);
      octets = refl;
      stop = small;
      entries = is;
      ends = subst (λ (o : List ℕ). ¬ BeginsWithEntry o) (sym behind) ends;
    }

-- of such a text it is the only one
pub written_alone : (text : List ℕ) (stop : ℕ) (entries : List Entry) (tail : List ℕ)
    (journal : Journal) → text ≡ journal_octets stop entries ++ tail → stop < 2 ^ 64
    → AllByRecursion IsEntry entries → ¬ BeginsWithEntry tail
    → (IsLongest text journal ↔ (journal ≡ written stop entries))
written_alone text stop entries tail journal parts small is ends =
    let there : IsLongest text (written stop entries) =
    subst (λ (t : List ℕ). IsLongest t (written stop entries)) (sym parts)
    (written_is stop entries tail small is ends) in (
      λ longest. one_longest text journal (written stop entries) longest there,
      λ same. subst (λ (j : Journal). IsLongest text j) (sym same) there,
    )

-- the third octet of an entry isn't 0
kind_is : (entry : Entry) (rest : List ℕ) → 0 < get_or (entry_octets entry ++ rest) 2 0
kind_is (Refused id moment) rest = omega arith
kind_is (Stored id moment token) rest = omega arith
kind_is (Taken feed gained passed taken) rest = omega arith

-- each of zeros is 0
zero_at : (n i : ℕ) → get_or (zeros n) i 0 ≡ zero
zero_at zero i = refl
zero_at (suc n) zero = refl
zero_at (suc n) (suc i) = zero_at n i

-- no entry begins with zeros
pub zeros_begin_none : (n : ℕ) → ¬ BeginsWithEntry (zeros n)
zeros_begin_none n = λ begins.
    let kind : zero ≡ get_or (entry_octets begins.entry ++ begins.rest) 2 0 =
    sym (zero_at n 2) ∙ ap (λ (o : List ℕ). get_or o 2 0) begins.parts in
    absurd (omega (arith, kind, kind_is begins.entry begins.rest))

-- an entry that is cut begins none
pub torn_begins_none : (entry : Entry) (rest : List ℕ) (n : ℕ) → IsEntry entry
    → n < length (entry_octets entry) → ¬ BeginsWithEntry (take n (entry_octets entry ++ rest))
torn_begins_none entry rest n is short = λ begins.
    let all = entry_octets entry ++ rest in
    let other = begins.entry in
    let parts : entry_octets entry ++ rest
    ≡ entry_octets other ++ (begins.rest ++ drop n all) =
    sym (take-append-drop n all) ∙ ap (λ (o : List ℕ). o ++ drop n all) begins.parts
    ∙ append_assoc (entry_octets other) begins.rest (drop n all) in
    let same = one_entry entry other rest (begins.rest ++ drop n all) is begins.is parts in
    absurd (omega (
      arith,
      short,
      ap (λ (e : Entry). length (entry_octets e)) same.0,
      ap (λ (o : List ℕ). length o) begins.parts,
      length-append (entry_octets other) begins.rest,
      length-take n all,
    ))
