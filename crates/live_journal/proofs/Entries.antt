-- What is put behind entries.
use Rattle.std.proofs.Common.{◌≡◌, ℕ, false, List, [], ◌∷◌, ◌++◌, ◌∙◌, ap}
use Rattle.std.proofs.Math.Logic.{∥∥₁_map}
use Rattle.std.proofs.lemmas.List.{flat_map_more}
use Rattle.std.specs.List.{AllByRecursion}
use Rattle.std.specs.Prelude.{Result, Ok, Err, OnOk, is_err}
use Rattle.relay_log.specs.Journal.{Entry, IsEntry, entry_octets}
use Rattle.live_journal.specs.Batches.{AreEntries}

-- entries with one behind them are entries
all_behind : (entries : List Entry) (entry : Entry) → AllByRecursion IsEntry entries
    → IsEntry entry → AllByRecursion IsEntry (entries ++ entry ∷ [])
all_behind [] entry all is = (is, tt)
all_behind (one ∷ entries) entry all is = (all.0, all_behind entries entry all.1 is)

-- octets of entries, with those of an entry behind them
are_behind : (was now : List ℕ) (entry : Entry) → IsEntry entry → now ≡ was ++ entry_octets entry
    → AreEntries was → AreEntries now
are_behind was now entry is put were =
    record {
      entries = were.entries ++ entry ∷ [];
      are = all_behind were.entries entry were.are is;
      parts =
          put ∙ ap (λ (o : List ℕ). o ++ entry_octets entry) were.parts
          ∙ flat_map_more entry_octets [] were.entries entry;
    }

-- what was put behind entries, where it was
pub put_behind : {X E : Type 0} (result : Result X E) (was now : List ℕ) (entry : Entry)
    → is_err result ≡ false → OnOk result (IsEntry entry)
    → OnOk result (now ≡ was ++ entry_octets entry)
    → ∥ AreEntries was ∥₁ → ∥ AreEntries now ∥₁
put_behind (Ok x) was now entry done is put were = ∥∥₁_map were (are_behind was now entry is put)
put_behind (Err e) was now entry done is put were = absurd (cc)
