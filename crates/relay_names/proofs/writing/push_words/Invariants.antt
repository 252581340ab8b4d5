use Rattle.std.proofs.Common.{◌≡◌, ◌++◌, ◌∷◌, flat_map, take}
use Rattle.relay_names.proofs.writing.push_words.Given as goal

-- the words so far are put
abbrev pub invariant-loop-word : goal.invariant-loop-word
invariant-loop-word l =
    l.text.items ≡ l.fn.text.items ++ flat_map (λ word. 32 ∷ word) (take l.word-index l.words)
