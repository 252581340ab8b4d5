-- What is forgotten of what a shard keeps (docs/PROTOCOL.md, Forgetting).
use Rattle.std.specs.Prelude.{ℕ, ◌+◌, ◌&&◌, nat_le, Bool, false, List}
use Rattle.cyc_buffer.specs.declared.answers.Front.{Front}
use Rattle.relay_model.specs.Claims.{Passed, is_passed}
use Rattle.id_history.specs.Mark.{Mark, Unknown, Offered, Storing, Stored, Refused}

-- a front that was read of a buffer, as the definitions have it
abbrev pub passed_view : Front → Passed
passed_view front =
    record { buffer = front.buffer; blocks = front.blocks; front = front.front }

-- the id of this mark is forgotten: it was stored or refused so long ago, and what was stored is
-- gone
abbrev pub is_forgotten : (now remember : ℕ) → List Passed → Mark → Bool
is_forgotten now remember fronts Unknown = false
is_forgotten now remember fronts (Offered session since) = false
is_forgotten now remember fronts (Storing session) = false
is_forgotten now remember fronts (Stored token moment) =
    nat_le (moment + remember) now && is_passed fronts token
is_forgotten now remember fronts (Refused moment) = nat_le (moment + remember) now
