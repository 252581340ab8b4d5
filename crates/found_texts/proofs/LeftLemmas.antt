-- The texts that are found, in the relay's own words, are under the tokens of what was found: so a
-- caller has what the reading of all of them asks.
use Rattle.std.proofs.Common.{◌∙◌, ◌++◌, ap, refl, sym, List, [], ◌∷◌, map, ℕ}
use Rattle.std.proofs.lemmas.List.{map-append}
use Rattle.std.specs.Prelude.{flat_map}
use Rattle.buffer_repair.specs.Finding.{remains_in}
use Rattle.buffer_repair.specs.Parts.{remains_of}
use Rattle.buffer_repair.specs.Remains.{all_texts_left, text_left, texts_left}
use Rattle.buffer_repair.specs.declared.found_set.FoundBufferSet.{FoundBufferSet}
use Rattle.cyc_block.specs.declared.store.BlockStore.{Ghosts}
use Rattle.cyc_buffer.specs.declared.starting.Started.{Started}
use Rattle.cyc_token.specs.Token.{token_view}
use Rattle.cyc_token.specs.declared.Token as code
use Rattle.news_terms.specs.Token.{Token}
use Rattle.relay_model.specs.State.{Kept}
use Rattle.found_texts.specs.Reading.{AreUnder, all_tokens_in, tokens_of}

-- those of some tokens on a device
under_each : (ids : Token → List ℕ) (blocks : List (List ℕ)) (tokens : List code.Token)
    → AreUnder tokens (map (text_left ids blocks) tokens)
under_each ids blocks [] = refl
under_each ids blocks (token ∷ tokens) =
    ap (λ (xs : List Token). token_view token ∷ xs) (under_each ids blocks tokens)

-- those of some tokens and those of further ones
under_both : (tokens more : List code.Token) (kept others : List Kept) → AreUnder tokens kept
    → AreUnder more others → AreUnder (tokens ++ more) (kept ++ others)
under_both tokens more kept others one other =
    map-append (λ (x : Kept). x.token) kept others
    ∙ ap (λ (xs : List Token). xs ++ map (λ (x : Kept). x.token) others) one
    ∙ ap (λ (xs : List Token). map token_view tokens ++ xs) other
    ∙ sym (map-append token_view tokens more)

module _ {S : Type 0} {g : Ghosts S} (ids : Token → List ℕ) where
  -- those of some buffers
  under_all : (found : List (Started S g))
      → AreUnder (flat_map (λ (one : Started S g). tokens_of one) found)
      (all_texts_left ids (map (λ (one : Started S g). remains_of one) found))
  under_all [] = refl
  under_all (one ∷ found) =
      under_both (tokens_of one) (flat_map (λ (x : Started S g). tokens_of x) found)
      (texts_left ids (remains_of one))
      (all_texts_left ids (map (λ (x : Started S g). remains_of x) found))
      (under_each ids (remains_of one).blocks one.tokens.items) (under_all found)

  -- those of all
  pub left_under : (found_set : FoundBufferSet S g)
      → AreUnder (all_tokens_in found_set) (all_texts_left ids (remains_in found_set))
  left_under found_set = under_all found_set.found.items
