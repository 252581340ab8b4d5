use Rattle.std.proofs.Common.{◌∷◌, [], codes, map, List, ℕ}
use Rattle.std.specs.Prelude.{decimal}
use Rattle.relay_names.specs.Text.{group_words}
use Rattle.relay_names.specs.Views.{group_view}
use Rattle.relay_names.proofs.OneMore.{part_put}
use Rattle.relay_names.proofs.writing.push_part.Goals as goal

pub returns : goal.returns
returns c =
    let names = c.args.names.now in
    rw (
      c.in_ok-push_each-2.ensures,
      c.in_ok-push_groups.ensures,
      c.in_ok-push_each.ensures,
      c.in_ok-push_line.ensures,
      c.deref.ensures.value,
      c.deref-2.ensures.value,
      c.deref-3.ensures.value,
      c.as_bytes.ensures.value,
      c.format.ensures.text,
    )
    (part_put c.args.text.now.items (c.args.kind.now ∷ decimal c.args.stop ∷ [])
    (map (λ (name : List ℕ). codes "buffer" ∷ name ∷ []) names.buffers.items)
    (map group_words (map group_view names.groups.items))
    (map (λ (name : List ℕ). codes "feed" ∷ name ∷ []) names.feeds.items))
