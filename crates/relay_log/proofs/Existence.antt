-- Each text that has a front has a longest beginning.
use Rattle.std.proofs.Common.{◌≡◌, ℕ, zero, suc, ◌≤◌, List, [], ◌∷◌, ◌++◌, length}
use Rattle.std.proofs.Common.{Option, Some, None, refl, sym, ap, ◌∙◌, append_assoc, arith}
use Rattle.std.proofs.lemmas.List.{nil_from_length}
use Rattle.std.specs.List.{AllByRecursion, flat_map}
use Rattle.relay_log.specs.Beginning.{IsLongest}
use Rattle.relay_log.specs.Journal.{Entry, Journal, IsEntry, BeginsWithEntry, HasFront}
use Rattle.relay_log.specs.Journal.{entry_octets}
use Rattle.relay_log.specs.Reading.{entry_at, front_at}
use Rattle.relay_log.proofs.Beginnings.{front_again, none_begins, zeros_begin_none}
use Rattle.relay_log.proofs.Checked.{entry_takes, entry_shorter}
use Rattle.id_history.proofs.Fields.{IsBytes}
use Rattle.relay_log.proofs.Texts.{front_takes, both_parts, read_is}

-- octets are those of entries, and others that begin with none
record AreEntries (octets : List ℕ) : Type 0 where
  pub entries : List Entry
  pub rest : List ℕ
  pub parts : octets ≡ flat_map entry_octets entries ++ rest
  pub are : AllByRecursion IsEntry entries
  pub ends : ¬ BeginsWithEntry rest

-- each octets are, as there are no more entries than octets
are_entries : (most : ℕ) (octets : List ℕ) → IsBytes octets → length octets ≤ most
    → AreEntries octets
are_entries zero octets fits few =
    record {
      entries = [];
      rest = [];
      parts = nil_from_length octets (omega (arith, few));
      are = tt;
      ends = zeros_begin_none 0;
    }
are_entries (suc most) octets fits few =
    chosen (λ x is. are_entries most x.1 (entry_takes octets x fits is).0.rest_fits
    (omega (arith, few, entry_shorter octets x fits is))) (entry_at octets) refl
  where
    chosen : ((x : Entry × List ℕ) → entry_at octets ≡ Some x → AreEntries x.1)
        → (read : Option (Entry × List ℕ)) → entry_at octets ≡ read → AreEntries octets
    chosen later None none =
        record {
          entries = [];
          rest = octets;
          parts = refl;
          are = tt;
          ends = none_begins octets none;
        }
    chosen later (Some x) some =
        let takes = entry_takes octets x fits some in
        let behind = later x some in
        record {
          entries = x.0 ∷ behind.entries;
          rest = behind.rest;
          parts = takes.0.parts ∙ ap (λ (o : List ℕ). entry_octets x.0 ++ o) behind.parts
              ∙ sym (append_assoc (entry_octets x.0) (flat_map entry_octets behind.entries)
              behind.rest);
          are = (takes.1, behind.are);
          ends = behind.ends;
        }

-- the longest beginning of a text that has a front
pub one_is_there : (text : List ℕ) → IsBytes text → HasFront text
    → (journal : Journal) × IsLongest text journal
one_is_there text fits front =
    let stop = front.stop in
    let read : front_at text ≡ Some (stop, front.rest) =
    ap front_at front.parts ∙ front_again stop front.rest front.fits in
    let takes = front_takes text (stop, front.rest) fits read in
    let behind = are_entries (length front.rest) front.rest takes.0.rest_fits (omega arith) in
    let parts = both_parts text front.rest behind.rest stop behind.entries front.parts
    behind.parts in
    (_, read_is text behind.rest stop behind.entries parts front.fits behind.are behind.ends)
