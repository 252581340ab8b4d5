-- What is read of a text, piece by piece, is its longest beginning.
use Rattle.std.proofs.Common.{◌≡◌, ℕ, ◌-◌, ◌^◌, ◌<◌, ◌≤◌, List, [], ◌∷◌, ◌++◌, length, take, drop}
use Rattle.std.proofs.Common.{Some, None, sym, ap, subst, ◌∙◌, append_assoc, arith}
use Rattle.std.proofs.lemmas.List.{append-nil, length-append, take-append-drop}
use Rattle.std.proofs.lemmas.List.Concat.{flat_map-append}
use Rattle.std.proofs.lemmas.Slice.Eq.{bytes_eq-Decides}
use Rattle.std.specs.Int.{w64, to_be_bytes}
use Rattle.std.specs.List.{AllByRecursion, flat_map}
use Rattle.std.specs.Str.{bytes_eq}
use Rattle.relay_log.specs.Beginning.{IsLongest, written}
use Rattle.relay_log.specs.Journal.{Entry, IsEntry, BeginsWithEntry, HasFront, mark}
use Rattle.relay_log.specs.Journal.{entry_octets, front_octets, journal_octets}
use Rattle.relay_log.specs.Reading.{marked_at, front_at}
use Rattle.relay_log.proofs.Beginnings.{front_again, none_is_some, written_is}
use Rattle.id_history.proofs.Fields.{IsBytes, IsBytes-drop, bind_some, held_some, Takes, Takes-then}
use Rattle.id_history.proofs.Fields.{wide64, number_takes}

-- the mark
marked_takes : (bytes rest : List ℕ) → IsBytes bytes → marked_at bytes ≡ Some rest
    → Takes bytes mark rest
marked_takes bytes rest fits e =
    let g = held_some (bytes_eq (take 4 bytes) mark) (drop 4 bytes) rest e in
    let front : take 4 bytes ≡ mark = (bytes_eq-Decides (take 4 bytes) mark).0 g.0 in
    subst (λ (r : List ℕ). Takes bytes mark r) g.1 (record {
      parts = sym (take-append-drop 4 bytes) ∙ ap (λ (t : List ℕ). t ++ drop 4 bytes) front;
      rest_fits = IsBytes-drop 4 bytes fits;
    })

-- the front that is read is written so
pub front_takes : (text : List ℕ) (x : ℕ × List ℕ) → IsBytes text → front_at text ≡ Some x
    → Takes text (front_octets x.0) x.1 × (x.0 < 2 ^ 64)
unfolding front_at
front_takes text x fits e =
    let a = bind_some (marked_at text) _ x e in
    let ta = marked_takes text a.0 fits a.1 in
    let tb = number_takes w64 (2 ^ 64) wide64 a.0 x ta.rest_fits a.2 in
    (Takes-then text mark a.0 (to_be_bytes w64 x.0) x.1 ta tb.0, tb.1)

-- where no front is read there is none
pub none_front : (text : List ℕ) → front_at text ≡ None → ¬ HasFront text
none_front text none = λ front.
    none_is_some (front.stop, front.rest)
    (sym none ∙ ap front_at front.parts ∙ front_again front.stop front.rest front.fits)

-- one more that holds
pub holds_push : {X : Type 0} (F : X → Type 0) (xs : List X) (x : X) → AllByRecursion F xs → F x
    → AllByRecursion F (xs ++ x ∷ [])
holds_push F [] x so_far one = (one, tt)
holds_push F (y ∷ ys) x so_far one = (so_far.0, holds_push F ys x so_far.1 one)

-- the octets of one entry more
pub octets_push : (entries : List Entry) (entry : Entry)
    → flat_map entry_octets (entries ++ entry ∷ [])
    ≡ flat_map entry_octets entries ++ entry_octets entry
octets_push entries entry =
    flat_map-append entry_octets entries (entry ∷ [])
    ∙ ap (λ (o : List ℕ). flat_map entry_octets entries ++ o) (append-nil (entry_octets entry))

-- one entry more was read
pub one_more : (bytes rest after : List ℕ) (entries : List Entry) (entry : Entry)
    → bytes ≡ flat_map entry_octets entries ++ rest → rest ≡ entry_octets entry ++ after
    → bytes ≡ flat_map entry_octets (entries ++ entry ∷ []) ++ after
one_more bytes rest after entries entry so_far next =
    let past = flat_map entry_octets entries in
    so_far ∙ ap (λ (o : List ℕ). past ++ o) next
    ∙ sym (append_assoc past (entry_octets entry) after)
    ∙ ap (λ (o : List ℕ). o ++ after) (sym (octets_push entries entry))

-- front and entries are the text, up to what is left
pub both_parts : (text behind rest : List ℕ) (stop : ℕ) (entries : List Entry)
    → text ≡ front_octets stop ++ behind → behind ≡ flat_map entry_octets entries ++ rest
    → text ≡ journal_octets stop entries ++ rest
both_parts text behind rest stop entries front back =
    front ∙ ap (λ (o : List ℕ). front_octets stop ++ o) back
    ∙ sym (append_assoc (front_octets stop) (flat_map entry_octets entries) rest)

-- what is left is no longer than the text
pub rest_is_shorter : (text rest : List ℕ) (stop : ℕ) (entries : List Entry)
    → text ≡ journal_octets stop entries ++ rest → length rest ≤ length text
rest_is_shorter text rest stop entries parts =
    omega (
      arith,
      ap (λ (o : List ℕ). length o) parts,
      length-append (journal_octets stop entries) rest,
    )

-- what was read is the longest beginning
pub read_is : (text rest : List ℕ) (stop : ℕ) (entries : List Entry)
    → text ≡ journal_octets stop entries ++ rest → stop < 2 ^ 64
    → AllByRecursion IsEntry entries → ¬ BeginsWithEntry rest
    → IsLongest text
    (record { stop = stop; entries = entries; octets = length text - length rest })
read_is text rest stop entries parts small are ends =
    let count : length (journal_octets stop entries) ≡ length text - length rest =
    omega (
      arith,
      ap (λ (o : List ℕ). length o) parts,
      length-append (journal_octets stop entries) rest,
    ) in
    subst (λ (n : ℕ). IsLongest text (record { stop = stop; entries = entries; octets = n })) count
    (subst (λ (t : List ℕ). IsLongest t (written stop entries)) (sym parts)
    (written_is stop entries rest small are ends))
