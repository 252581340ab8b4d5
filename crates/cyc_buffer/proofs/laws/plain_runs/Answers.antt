-- The sizes of begins that are not fresh, cut into runs.
use Rattle.std.proofs.Common.{◌≡◌, ◌∙◌, ℕ, Bool, List, [], ◌∷◌, ◌++◌, ap, sym, refl}
use Rattle.std.specs.List.{AllByRecursion, fold}
use Rattle.news_terms.specs.Places.{Head, head_after, after_size, first_head}
use Rattle.cyc_buffer.specs.History.{Begin, IsPlain, head_of, sizes_of}
use Rattle.news_terms.specs.Picks.{head_past, place_after}
use Rattle.cyc_buffer.proofs.laws.plain_runs.Goals as goal

-- one more size moves the head on
head_more : (room : ℕ → ℕ) (sizes : List ℕ) (size : ℕ) (head : Head)
    → fold (after_size room) head (sizes ++ size ∷ [])
    ≡ after_size room (fold (after_size room) head sizes) size
head_more room [] size head = refl
head_more room (s ∷ sizes) size head = head_more room sizes size (after_size room head s)

plain : (blocks : ℕ) (begins : List Begin) → AllByRecursion IsPlain begins
    → head_of blocks begins ≡ head_after (λ (run : ℕ). blocks) (sizes_of begins)
plain blocks [] h = refl
plain blocks (b ∷ earlier) h =
    ap (λ (f : Bool). head_past (place_after blocks (head_of blocks earlier) f b.size) b.size)
    h.0.plain
    ∙ ap (after_size' b.size) (plain blocks earlier h.1)
    ∙ sym (head_more (λ (run : ℕ). blocks) (sizes_of earlier) b.size first_head)
  where
    after_size' : ℕ → Head → Head
    after_size' size head = after_size (λ (run : ℕ). blocks) head size

pub returns : goal.returns
returns c = plain
