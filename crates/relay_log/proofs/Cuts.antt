-- What is read of a text that was written and then cut.
use Rattle.std.proofs.Common.{◌≡◌, ℕ, ◌+◌, ◌-◌, ◌<◌, ◌≤◌, Bool, true, false, cond, leb}
use Rattle.std.proofs.Common.{List, [], ◌∷◌, ◌++◌, length, take, refl, sym, ap, ◌∙◌, append_assoc}
use Rattle.std.proofs.Common.{arith}
use Rattle.std.proofs.lemmas.Bool.{leb-true, leb-false}
use Rattle.std.proofs.lemmas.List.{take_all, length-append}
use Rattle.std.proofs.Math.Seq.{take-append-add}
use Rattle.std.specs.List.{AllByRecursion, flat_map}
use Rattle.relay_log.specs.Beginning.{whole_within}
use Rattle.relay_log.specs.Journal.{Entry, IsEntry, BeginsWithEntry, HasFront, entry_octets}
use Rattle.relay_log.specs.Journal.{front_octets, journal_octets}
use Rattle.relay_log.proofs.Beginnings.{zeros_begin_none, torn_begins_none}

-- the first so many octets, which are those of whole entries, and what is left of one that is torn
pub record IsCut (cut : List ℕ) (entries : List Entry) : Type 0 where
  pub torn : List ℕ
  pub parts : cut ≡ flat_map entry_octets entries ++ torn
  pub ends : ¬ BeginsWithEntry torn
  pub are : AllByRecursion IsEntry entries

-- more octets than a list has, up to so many
take_past : (text rest : List ℕ) (n : ℕ) → length text ≤ n
    → take n (text ++ rest) ≡ text ++ take (n - length text) rest
take_past text rest n le =
    let sum : n ≡ length text + (n - length text) = omega (arith, le) in
    ap (λ (k : ℕ). take k (text ++ rest)) sum ∙ take-append-add text rest (n - length text)

-- the octets of entries, cut at whatever octet
pub cut_entries : (n : ℕ) (entries : List Entry) → AllByRecursion IsEntry entries
    → IsCut (take n (flat_map entry_octets entries)) (whole_within n entries)
cut_entries n [] is =
    record {
      torn = [];
      parts = take_all n [] (omega arith);
      ends = zeros_begin_none 0;
      are = tt;
    }
cut_entries n (entry ∷ entries) is =
    chosen (cut_entries (n - length (entry_octets entry)) entries is.1)
    (leb (length (entry_octets entry)) n) refl
  where
    octets : List ℕ
    octets = entry_octets entry

    others : List ℕ
    others = flat_map entry_octets entries

    within : List Entry
    within = whole_within (n - length octets) entries

    chosen : IsCut (take (n - length octets) others) within → (b : Bool)
        → leb (length octets) n ≡ b → IsCut (take n (octets ++ others)) (cond b (entry ∷ within) [])
    chosen later true whole =
        let le : length octets ≤ n = leb-true (length octets) n whole in
        let kept = flat_map entry_octets within in
        record {
          torn = later.torn;
          parts = take_past octets others n le ∙ ap (λ (o : List ℕ). octets ++ o) later.parts
              ∙ sym (append_assoc octets kept later.torn);
          ends = later.ends;
          are = (is.0, later.are);
        }
    chosen later false torn =
        record {
          torn = take n (octets ++ others);
          parts = refl;
          ends = torn_begins_none entry others n is.0 (leb-false (length octets) n torn);
          are = tt;
        }

-- a text that was written, cut behind its front
pub cut_text : (n stop : ℕ) (entries : List Entry) → 12 ≤ n → AllByRecursion IsEntry entries
    → (torn : List ℕ) × (take n (journal_octets stop entries)
    ≡ journal_octets stop (whole_within (n - 12) entries) ++ torn) × (¬ BeginsWithEntry torn)
    × AllByRecursion IsEntry (whole_within (n - 12) entries)
cut_text n stop entries le is =
    let cut = cut_entries (n - 12) entries is in
    let front = front_octets stop in
    let kept = flat_map entry_octets (whole_within (n - 12) entries) in (
      cut.torn,
      take_past front (flat_map entry_octets entries) n le
          ∙ ap (λ (o : List ℕ). front ++ o) cut.parts ∙ sym (append_assoc front kept cut.torn),
      cut.ends,
      cut.are,
    )

-- a front has twelve octets
pub short_front : (text : List ℕ) → length text < 12 → ¬ HasFront text
short_front text short = λ front.
    absurd (omega (
      arith,
      short,
      ap (λ (o : List ℕ). length o) front.parts,
      length-append (front_octets front.stop) front.rest,
    ))
