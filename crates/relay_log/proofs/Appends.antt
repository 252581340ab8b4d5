-- What is written behind what was there.
use Rattle.std.proofs.Common.{◌≡◌, ℕ, List, [], ◌∷◌, ◌++◌, length, refl, sym, ap, ◌∙◌, append_assoc}
use Rattle.std.specs.Int.{to_be_bytes, w16, w32, w64}
use Rattle.relay_log.specs.Check.{check}
use Rattle.relay_log.specs.Journal.{Entry, Taken, said_octets, counted_octets, entry_octets}

-- four texts, one behind the other
pub four_behind : (was a b c d : List ℕ) {first second third now : List ℕ} → first ≡ was ++ a
    → second ≡ first ++ b → third ≡ second ++ c → now ≡ third ++ d
    → now ≡ was ++ (a ++ (b ++ (c ++ d)))
four_behind was a b c d one two three four =
    four ∙ ap (λ (o : List ℕ). o ++ d)
    (three ∙ ap (λ (o : List ℕ). o ++ c) (two ∙ ap (λ (o : List ℕ). o ++ b) one))
    ∙ append_assoc ((was ++ a) ++ b) c d ∙ append_assoc (was ++ a) b (c ++ d)
    ∙ append_assoc was a (b ++ (c ++ d))

-- three texts and their check are an entry, where they are what it says behind its number
pub entry_put : (was now first second third : List ℕ) (entry : Entry)
    → counted_octets (said_octets entry) ≡ first ++ (second ++ third)
    → now ≡ was ++ (first ++ (second
    ++ (third ++ to_be_bytes w32 (check (first ++ (second ++ third))))))
    → now ≡ was ++ entry_octets entry
entry_put was now first second third entry counted put =
    let all = first ++ (second ++ third) in
    let sum = to_be_bytes w32 (check all) in
    put ∙ ap (λ (o : List ℕ). was ++ o)
    (ap (λ (o : List ℕ). first ++ o) (sym (append_assoc second third sum))
    ∙ sym (append_assoc first (second ++ third) sum)
    ∙ ap (λ (o : List ℕ). o ++ to_be_bytes w32 (check o)) (sym counted))

-- what begins with a kind and a moment, behind its number
pub dated_counted : (count kind moment : ℕ) (first said behind : List ℕ)
    → said ≡ kind ∷ (to_be_bytes w64 moment ++ behind) → count ≡ length said
    → first ≡ to_be_bytes w16 count ++ (kind ∷ to_be_bytes w64 moment)
    → counted_octets said ≡ first ++ behind
dated_counted count kind moment first said behind is number front =
    ap (λ (n : ℕ). to_be_bytes w16 n ++ said) (sym number)
    ∙ ap (λ (o : List ℕ). to_be_bytes w16 count ++ o) is
    ∙ sym (append_assoc (to_be_bytes w16 count) (kind ∷ to_be_bytes w64 moment) behind)
    ∙ ap (λ (o : List ℕ). o ++ behind) (sym front)

-- what a take says, behind its number
pub taken_counted : (feed gained passed taken : ℕ) (second third : List ℕ)
    → second ≡ to_be_bytes w16 feed
    → third ≡ to_be_bytes w64 gained ++ (to_be_bytes w64 passed ++ to_be_bytes w64 taken)
    → counted_octets (said_octets (Taken feed gained passed taken))
    ≡ (0 ∷ 27 ∷ 3 ∷ []) ++ (second ++ third)
taken_counted feed gained passed taken second third is counts = rw (is, counts) refl
