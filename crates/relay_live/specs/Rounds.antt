-- A round of forgetting (docs/PROTOCOL.md, Forgetting).
use Rattle.std.specs.Prelude.{◌≡◌, ℕ, List, length, map}
use Rattle.std.specs.List.{range_with_len}
use Rattle.cyc_buffer.specs.declared.answers.Front.{Front}
use Rattle.relay_live.specs.declared.forgetting.round.Round.{Round}
use Rattle.relay_live.specs.declared.forgetting.round.Rounds.{Rounds}
use Rattle.relay_live.specs.declared.forgetting.round.ShardRound.{ShardRound}
use Rattle.relay_model.specs.Terms.{shard_count}

-- the moment of a round, and for how many seconds ids are remembered
abbrev pub times_of : Rounds → ℕ × ℕ
times_of rounds = rounds.times

-- the numbers of the buffers whose fronts it has read
abbrev pub buffers_in : Rounds → List ℕ
buffers_in rounds = rounds.buffers.items

-- those fronts
abbrev pub fronts_in : Rounds → List Front
fronts_in rounds = rounds.fronts.items

-- the shards that it has gone over
abbrev pub shards_in : Rounds → List ShardRound
shards_in rounds = rounds.shards.items

-- the first so many numbers, from 0 on
abbrev pub first_numbers : ℕ → List ℕ
first_numbers count = range_with_len 0 count

-- the shard of this number was gone over once so many fronts had been read
abbrev pub gone_over : (fronts shard : ℕ) → ShardRound
gone_over fronts shard = record { shard = shard; fronts = fronts }

-- the round is that which has gone so far
pub record IsOf (rounds : Rounds) (round : Round) : Type 0 where
  pub times : round.times.value ≡ times_of rounds
  pub buffers : round.buffers.value.items ≡ buffers_in rounds
  pub fronts : round.fronts.value.items ≡ fronts_in rounds
  pub shards : round.shards.value.items ≡ shards_in rounds

-- The round was gone at this moment, where ids are remembered for so many seconds. It read a front
-- of each of so many buffers, in the order of their numbers, and then went over each shard once, in
-- the order of their numbers, with all these fronts.
pub record IsRound (now remember buffers : ℕ) (round : Round) : Type 0 where
  pub times : round.times.value ≡ (now, remember)
  pub numbers : round.buffers.value.items ≡ first_numbers buffers
  pub fronts : length round.fronts.value.items ≡ buffers
  pub shards : round.shards.value.items ≡ map (gone_over buffers) (first_numbers shard_count)
