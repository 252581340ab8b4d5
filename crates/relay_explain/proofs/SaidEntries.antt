-- An entry as the lines say it, made of what was found among them.
use Rattle.std.proofs.Common.{◌≡◌, ◌∙◌, ◌+◌, ap, sym, ℕ, List, drop, map, unwrap_or}
use Rattle.std.proofs.lemmas.List.{drop-map}
use Rattle.std.specs.Borrow.{Bor}
use Rattle.std.specs.Prelude.{slice_get}
use Rattle.relay_conf.specs.declared.settings.StorageEntry.{StorageEntry}
use Rattle.relay_explain.specs.Entries.{Said, entry_lines, newsgroups_in, said_entry}

-- What is made of the line that begins an entry, and of the newsgroups behind it, is the entry.
pub said_one : (lines rest : List (Bor (List ℕ))) (begins newsgroups : List ℕ) (place line : ℕ)
    (entry at : StorageEntry) → begins ≡ entry_lines (map (λ one. one.now) lines)
    → line ≡ unwrap_or (slice_get begins place) 0 → rest ≡ drop line lines
    → newsgroups ≡ newsgroups_in (map (λ one. one.now) rest) → entry ≡ at
    → record { number = place + 1; line = line; newsgroups = newsgroups; entry = entry }
    ≡ said_entry (map (λ one. one.now) lines) (place, at)
said_one lines rest begins newsgroups place line entry at begun is behind said same =
    let texts : List (List ℕ) = map (λ one. one.now) lines in
    let here : line ≡ unwrap_or (slice_get (entry_lines texts) place) 0 =
    is ∙ ap (λ (numbers : List ℕ). unwrap_or (slice_get numbers place) 0) begun in
    let text : newsgroups ≡ newsgroups_in (drop line texts) =
    said ∙ ap (λ (left : List (Bor (List ℕ))). newsgroups_in (map (λ one. one.now) left)) behind
    ∙ ap newsgroups_in (sym (drop-map (λ (one : Bor (List ℕ)). one.now) line lines)) in
    let made : ℕ → List ℕ → StorageEntry → Said = λ from told of. record {
      number = place + 1;
      line = from;
      newsgroups = told;
      entry = of;
    } in
    ap (λ told. made line told entry) text
    ∙ ap (λ from. made from (newsgroups_in (drop from texts)) entry) here
    ∙ ap (made (unwrap_or (slice_get (entry_lines texts) place) 0) (newsgroups_in
    (drop (unwrap_or (slice_get (entry_lines texts) place) 0) texts))) same
