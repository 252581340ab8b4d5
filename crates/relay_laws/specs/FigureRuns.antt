-- The states and feeds that figures are computed of.
use Rattle.std.specs.Prelude.{List, [], ◌∷◌}
use Rattle.news_terms.specs.Token.{Token}
use Rattle.relay_model.specs.State.{State, Feed, empty_state}
use Rattle.relay_laws.specs.OtherTerms.{in_turn}
use Rattle.relay_laws.specs.Terms.{k1}
use Rattle.relay_laws.specs.Worlds.{courses_of, three_blocks_at}

-- one article of three blocks was begun, and isn't whole
abbrev pub one_begun : State
one_begun = record empty_state { begun = courses_of k1 (λ group. 3 ∷ []) }

-- of two that were begun the first is whole
abbrev pub one_of_two : State
one_of_two =
    record empty_state {
      begun = courses_of k1 (λ group. 3 ∷ 3 ∷ []);
      kept = record { token = three_blocks_at 0 0; id = []; text = [] } ∷ [];
    }

-- three of one block went to the first buffer, three of three blocks to the second, whose newest is
-- in its next cycle
abbrev pub taken_in_turn : State
taken_in_turn =
    record empty_state {
      begun = courses_of in_turn (λ group. 1 ∷ 3 ∷ 1 ∷ 3 ∷ 1 ∷ 3 ∷ []);
      kept =
          record { token = record (three_blocks_at 1 0) { buffer = 1 }; id = []; text = [] } ∷ [];
    }

-- a feed that gained these tokens, none of which was taken
abbrev pub untaken : List Token → Feed
untaken tokens = record { gained = tokens; passed = 0; taken = 0 }

-- three tokens
abbrev pub three_tokens : List Token
three_tokens = three_blocks_at 0 0 ∷ three_blocks_at 0 3 ∷ three_blocks_at 1 0 ∷ []
