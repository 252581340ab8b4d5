use Rattle.std.proofs.Common.{◌≡◌, ℕ, List, ◌∷◌, map, nat_eq, take}
use Rattle.std.specs.Prelude.{filter}
use Rattle.std.specs.List.{IsDistinct}
use Rattle.cyc_token.specs.Token.{token_view}
use Rattle.news_terms.specs.Token.{Token}
use Rattle.relay_model.specs.Crash.{has_room}
use Rattle.relay_model.specs.Terms.{Terms}
use Rattle.found_again.specs.Filling.{AreThere, FillEach, IsTokenThere, size_of}
use Rattle.found_again.proofs.feeds.Fillings.gain_all.Given as goal

-- the feeds so far have gained the token, where their rings have room
abbrev pub invariant-loop-feed : goal.invariant-loop-feed
invariant-loop-feed l = record {
  sizes : map size_of l.self.rings.items ≡ map size_of l.fn.self.rings.items;
  fill : (w : Terms) (later : List (Token × List ℕ)) → IsDistinct nat_eq l.feeds
      → FillEach w l.fn.self.rings.items later
      → FillEach w l.self.rings.items
      ((token_view l.token, filter (has_room w later) (take l.feed-index l.feeds)) ∷ later);
  there : (buffers : ℕ) → IsTokenThere buffers l.token → AreThere buffers l.fn.self.rings.items
      → AreThere buffers l.self.rings.items;
}
