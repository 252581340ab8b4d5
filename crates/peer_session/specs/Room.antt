-- Room for a reply, which is taken before it is known what the reply says.
use Rattle.std.specs.Prelude.{◌≡◌, ◌+◌, ◌*◌, ℕ, [], vec_capacity}
use Rattle.std.specs.Global.{Vec}
use Rattle.nntp_text.specs.Reply.{reply_room}

-- the octets are none yet, and there is room for a reply and so many items of a queue, and no more
pub record IsRoom (octets : Vec ℕ) (items : ℕ) : Type 0 where
  pub has_room : vec_capacity octets ≡ reply_room + 53 * items
  pub is_empty : octets.items ≡ []
