use Rattle.std.proofs.Common.{◌≡◌, ◌+◌, ◌++◌, take, vec_len, vec_capacity}
use Rattle.line_words.proofs.room.put_octets.Given as goal

-- the octets passed so far were put, and the room is as it was
abbrev pub invariant-loop-octet : goal.invariant-loop-octet
invariant-loop-octet l = record {
  items : l.own.items ≡ l.fn.room.items ++ take l.octet-index l.octets;
  len : vec_len l.own ≡ vec_len l.fn.room + l.octet-index;
  capacity : vec_capacity l.own ≡ vec_capacity l.fn.room;
}
