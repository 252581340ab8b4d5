use Rattle.std.proofs.Common.{◌≡◌, false, ◌∷◌, refl, sym, ap, ◌∙◌, map}
use Rattle.std.specs.Prelude.{◌&&◌}
use Rattle.news_terms.specs.Pattern.{matches}
use Rattle.uwild.specs.declared.item.Item.{Item}
use Rattle.uwild.specs.declared.item.Item.TheVariants.{Star, AnyOctet, Literal, Escaped, OneOf}
use Rattle.uwild.specs.declared.item.Item.TheVariants.{NoneOf}
use Rattle.uwild.specs.Expression.{item_view}
use Rattle.uwild.specs.Walks.{is_star}
use Rattle.uwild.proofs.Stars.{item_step}
use Rattle.uwild.proofs.matching.next_step.Goals as goal

-- a part that is no star
no_star : (item : Item) → (item ≡ Star → ⊥) → is_star (item_view item) ≡ false
no_star Star n = absurd (n refl)
no_star AnyOctet n = refl
no_star (Literal c) n = refl
no_star (Escaped c) n = refl
no_star (OneOf set) n = refl
no_star (NoneOf set) n = refl

pub returns-in-Some-split_first : goal.returns-in-Some-split_first
returns-in-Some-split_first c =
    let item = item_view c.in-Some.item.now in
    let rest = map item_view c.in-Some.items.now in
    let octet = c.in-Some-split_first.octet.now in
    let name = c.in-Some-split_first.name.now in
    let items_are = ap (map item_view) c.in-Some.ensures.cases.0 in
    let name_is = c.in-Some-split_first.ensures.cases.0 in
    let plain = no_star c.in-Some.item.now c.in_default-item.not-Star in
    record {
      item = item;
      octet = octet;
      no_star = plain;
      items = items_are;
      name = name_is;
      same = ap (λ x. matches x c.args.at.name.now) items_are
          ∙ ap (λ x. matches (item ∷ rest) x) name_is
          ∙ item_step item rest octet name plain
          ∙ ap (λ b. b && matches rest name) (sym c.if-takes.ensures);
    }
