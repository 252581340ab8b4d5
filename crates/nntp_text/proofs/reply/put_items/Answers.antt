use Rattle.std.proofs.Common.{◌≡◌, ◌∙◌, ℕ, ◌+◌, ◌<◌, ap, sym, arith, List, [], ◌∷◌, ◌++◌}
use Rattle.std.proofs.Common.{length, map}
use Rattle.std.proofs.Common.{take, get_or, flat_map, append_assoc, append-nil}
use Rattle.std.proofs.lemmas.List.{take_more, map-append}
use Rattle.std.proofs.lemmas.List.Concat.{flat_map-append}
use Rattle.news_terms.specs.Reply.{queue_line}
use Rattle.nntp_text.specs.Reply.{item_view}
use Rattle.nntp_text.proofs.reply.put_items.Goals as goal

-- what one item more adds
one_more : {X Y Z : Type 0} (f : X → Y) (g : Y → List Z) (xs : List X) (i : ℕ) (d : X)
    (start before after : List Z) → i < length xs → before ≡ start ++ flat_map g (map f (take i xs))
    → after ≡ before ++ g (f (get_or xs i d)) → after ≡ start ++ flat_map g
    (map f (take (i + 1) xs))
one_more {X} {Y} {Z} f g xs i d start before after h was is =
    let passed = flat_map g (map f (take i xs)) in
    let line = g (f (get_or xs i d)) in
    is
    ∙ ap (λ (octets : List Z). octets ++ line) was
    ∙ append_assoc start passed line
    ∙ ap (λ (octets : List Z). start ++ octets) (sym
    (ap (λ (ys : List X). flat_map g (map f ys)) (take_more xs i d h)
    ∙ ap (flat_map g) (map-append f (take i xs) (get_or xs i d ∷ []))
    ∙ flat_map-append g (map f (take i xs)) (f (get_or xs i d) ∷ [])
    ∙ ap (λ (octets : List Z). passed ++ octets) (append-nil line)))

pub loop-item-preserved : goal.loop-item-preserved
loop-item-preserved c = record {
  items = one_more item_view queue_line c.args.items.now c.loop-item.item-index _
      c.args.out.now.items c.loop-item.out.items c.put_item.new.out.items c.loop-item-test.true
      c.loop-item.invariant.items c.put_item.ensures.items;
  len = omega (arith, c.put_item.ensures.len, c.loop-item.invariant.len);
  capacity = c.put_item.ensures.capacity ∙ c.loop-item.invariant.capacity;
}
