-- The tokens, states and worlds that are told from those that are on record.
use Rattle.std.specs.Prelude.{ℕ, [], ◌∷◌, Some, codes}
use Rattle.news_terms.specs.Token.{Token}
use Rattle.relay_model.specs.Claims.{Claim, Unknown}
use Rattle.relay_model.specs.State.{State, Phase, Feed, put_at, put_id, empty_state}
use Rattle.relay_model.specs.State.{in_phase}
use Rattle.relay_model.specs.World.{World, Writer, empty_world}
use Rattle.relay_laws.specs.FigureRuns.{one_of_two}
use Rattle.relay_laws.specs.Terms.{k1}
use Rattle.relay_laws.specs.Worlds.{courses_of, reading, three_blocks_at}

-- a token of one block, at this block of the first cycle
abbrev pub one_block_at : ℕ → Token
one_block_at first = record { class = 1; buffer = 0; cycle = 0; first = first; length = 480 }

-- three articles of three blocks were begun
abbrev pub three_begun : State
three_begun = record empty_state { begun = courses_of k1 (λ group. 3 ∷ 3 ∷ 3 ∷ []) }

-- two articles were begun and the first is whole, with this claim on an id
abbrev pub with_one_claim : Claim → State
with_one_claim claim = record one_of_two { claim = put_id (λ id. Unknown) (codes "<1@x>") claim }

-- with a text under this token
abbrev pub with_one_text : Token → State
with_one_text token = record one_of_two { kept = record { token = token; id = []; text = [] } ∷ [] }

-- with this feed
abbrev pub with_one_feed : Feed → State
with_one_feed feed = record one_of_two { feed = λ number. feed }

-- the first article is accepted, and the writer of the group is this far
abbrev pub one_accepted : (failures : ℕ → ℕ) → Writer → World
one_accepted failures writer =
    record (empty_world failures) {
      state = record one_of_two { accepted = (three_blocks_at 0 0, []) ∷ [] };
      work = record (empty_world failures).work { writer = λ group. writer };
    }

-- a session of a third peer, in this phase
abbrev pub of_third_peer : Phase → State
of_third_peer phase =
    record empty_state {
      session = put_at empty_state.session 1 (Some (in_phase (record reading { peer = 2 }) phase));
      newest = Some 1;
    }
