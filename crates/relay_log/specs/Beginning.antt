-- The longest beginning of a text that is a journal (docs/FORMATS.md, Journal file).
use Rattle.std.specs.Prelude.{◌≡◌, ℕ, ◌-◌, ◌<◌, ◌^◌, nat_le, List, [], ◌∷◌, ◌++◌, length, drop}
use Rattle.std.specs.Prelude.{replicate, if◌then◌else◌}
use Rattle.std.specs.List.{AllByRecursion}
use Rattle.relay_log.specs.Journal.{Entry, Journal, IsEntry, BeginsWithEntry, entry_octets}
use Rattle.relay_log.specs.Journal.{journal_octets}

-- the text is this journal, and what is behind it begins with no entry
pub record IsLongest (text : List ℕ) (journal : Journal) : Type 0 where
  pub whole : text ≡ journal_octets journal.stop journal.entries ++ drop journal.octets text
  pub octets : journal.octets ≡ length (journal_octets journal.stop journal.entries)
  pub stop : journal.stop < 2 ^ 64
  pub entries : AllByRecursion IsEntry journal.entries
  pub ends : ¬ BeginsWithEntry (drop journal.octets text)

-- the journal of a text that was written whole
abbrev pub written : ℕ → List Entry → Journal
written stop entries =
    record {
      stop = stop;
      entries = entries;
      octets = length (journal_octets stop entries);
    }

-- those of the entries of which all octets are among so many
abbrev pub whole_within : ℕ → List Entry → List Entry
whole_within n [] = []
whole_within n (entry ∷ entries) =
    if nat_le (length (entry_octets entry)) n
    then entry ∷ whole_within (n - length (entry_octets entry)) entries else []

-- so many zeros
abbrev pub zeros : ℕ → List ℕ
zeros n = replicate n 0
