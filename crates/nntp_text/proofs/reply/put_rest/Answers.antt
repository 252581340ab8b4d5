-- How long the block that sends a text is, and where the items of a queue stand.
use Rattle.std.proofs.Common.{◌∙◌, arith, ap, sym, List, ℕ, ◌∷◌, [], ◌++◌, length, length-append}
use Rattle.std.proofs.Common.{append_assoc, map, flat_map, decimal}
use Rattle.news_terms.specs.Blocks.{stuffed}
use Rattle.news_terms.specs.Reply.{queue_line}
use Rattle.news_terms.proofs.StuffRoom.{stuffed-bounded}
use Rattle.nntp_text.specs.Reply.{item_view, rest_after, rest_room}
use Rattle.nntp_text.proofs.reply.put_rest.Goals as goal

pub returns-in-Text-clause-len : goal.returns-in-Text-clause-len
returns-in-Text-clause-len c =
    let text = c.in-Text.text.now in
    omega (
      arith,
      ap length c.put_stuffed.ensures.items,
      length-append c.args.out.now.items (stuffed text),
      stuffed-bounded text,
      ap rest_room c.in-Text.is,
    )

pub returns-in-Queue-clause-items : goal.returns-in-Queue-clause-items
returns-in-Queue-clause-items c =
    let out = c.args.out.now.items in
    let lines = flat_map queue_line (map item_view c.in-Queue.items.now) in
    c.put_line-in-Queue.ensures.items
    ∙ ap (λ (octets : List ℕ). octets ++ 46 ∷ 13 ∷ 10 ∷ [])
    (c.put_items.ensures.items
    ∙ ap (λ (octets : List ℕ). octets ++ lines)
    (c.put_octets.ensures.items
    ∙ ap (λ (octets : List ℕ). octets ++ 13 ∷ 10 ∷ []) c.put_decimal.ensures.items
    ∙ append_assoc out (decimal c.in-Queue.missed) (13 ∷ 10 ∷ [])))
    ∙ sym (ap (rest_after out) c.in-Queue.is)
