use Rattle.std.proofs.Common.{◌≡◌, ℕ, List, All, drop, length, map}
use Rattle.std.specs.List.{AllZip}
use Rattle.relay_model.specs.Crash.{Again, accepted_again}
use Rattle.relay_model.specs.Terms.{Terms}
use Rattle.found_again.specs.Filling.{AreThere, FillEach, IsTokenThere, size_of}
use Rattle.found_again.specs.Texts.{IsText, ring_sizes}
use Rattle.found_again.specs.declared.text.FoundText.{FoundText}
use Rattle.found_again.proofs.BackLemmas.{IsFront}
use Rattle.found_again.proofs.feeds.feeds_again.Given as goal

-- the feeds have gained what comes after the texts that are left
abbrev pub invariant-loop-text : goal.invariant-loop-text
invariant-loop-text l = record {
  front : IsFront l.texts l.left;
  sizes : map size_of l.fillings.rings.items ≡ l.sizes;
  fill : (w : Terms) (again : List Again)
      → AllZip (IsText w) (drop (length l.left) l.texts) again → ring_sizes w ≡ l.sizes
      → FillEach w l.fillings.rings.items (accepted_again w again);
  there : (buffers : ℕ) → All (λ (text : FoundText). IsTokenThere buffers text.token) l.texts
      → AreThere buffers l.fillings.rings.items;
}

abbrev pub decreases-loop-text : goal.decreases-loop-text
decreases-loop-text l = length l.left
