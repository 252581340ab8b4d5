-- The lines of the items passed so far were added, and there is room for the others.
use Rattle.std.proofs.Common.{◌≡◌, ◌+◌, ◌*◌, ◌≤◌, ◌++◌, take, map, flat_map, vec_len, vec_capacity}
use Rattle.news_terms.specs.Reply.{queue_line}
use Rattle.nntp_text.specs.Reply.{item_view, item_room}
use Rattle.nntp_text.proofs.reply.put_items.Given as goal

abbrev pub invariant-loop-item : goal.invariant-loop-item
invariant-loop-item l = record {
  items : l.out.items
      ≡ l.fn.out.items ++ flat_map queue_line (map item_view (take l.item-index l.items));
  len : vec_len l.out ≤ vec_len l.fn.out + item_room * l.item-index;
  capacity : vec_capacity l.out ≡ vec_capacity l.fn.out;
}
