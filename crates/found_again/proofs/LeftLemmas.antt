-- What is left of the feeds, once their rings are filled.
use Rattle.std.proofs.Common.{◌≡◌, ◌∙◌, ap, sym, refl, subst, arith, ◌-◌, ◌<◌, ◌^◌, ℕ}
use Rattle.std.proofs.Common.{zero, suc, List, [], ◌∷◌, ◌++◌, length, map, drop, All}
use Rattle.std.specs.Prelude.{reverse, slice_get, slice_index, Some}
use Rattle.std.specs.List.{AllByRecursion, AllZip}
use Rattle.std.proofs.Math.ListN.{get_or}
use Rattle.std.proofs.lemmas.List.{length-map, get_or-map}
use Rattle.std.proofs.lemmas.List.Elements.{All-head, All-map, All-tail}
use Rattle.std.proofs.lemmas.List.Elements.{All-from_recursion, recursion_from_All}
use Rattle.std.proofs.lemmas.List.Sorted.{All-permutation, IsPermutation-reverse}
use Rattle.cyc_token.specs.Token.{token_view}
use Rattle.feed_queue.specs.Left.{IsLeft, AreLeft}
use Rattle.id_history.specs.History.{KeptFeed, FeedHolds, RingHolds}
use Rattle.id_history.specs.History as terms
use Rattle.id_history.specs.Views.{feed_view}
use Rattle.id_history.specs.declared.kept.KeptFeed as kept
use Rattle.news_terms.specs.Token.{Token}
use Rattle.relay_model.specs.Crash.{Again, accepted_again, with_again}
use Rattle.relay_model.specs.State.{tokens_for}
use Rattle.relay_model.specs.Terms.{Terms}
use Rattle.found_again.specs.Filling.{FillEach, IsTokenThere, AreThere, size_of, tokens_of, filled}
use Rattle.found_again.specs.Filling.{gained_anew}
use Rattle.found_again.specs.Texts.{IsText, ring_sizes}
use Rattle.found_again.specs.declared.filling.Filling.{Filling}
use Rattle.found_again.specs.declared.text.FoundText.{FoundText}
use Rattle.found_again.proofs.BackLemmas.{IsFront, after_before}
use Rattle.found_again.proofs.FillLemmas.{length-tokens_of}

-- what is left of one feed that gained what its ring has
left_of : (one : Filling) (size : ℕ) (accepted : List (Token × List ℕ)) (f : ℕ)
    → one.size ≡ size → tokens_of one ≡ tokens_for f accepted
    → IsLeft (filled one) size (gained_anew accepted f)
left_of one size accepted f is tokens =
    let many : length (tokens_of one) ≡ length one.newest_first.items = length-tokens_of one in
    let few : length (tokens_for f accepted) - size ≡ 0 =
    omega (arith, many, ap length tokens, is, one.within) in
    record {
      gained = sym many ∙ ap length tokens;
      passed = refl;
      taken = refl;
      waiting = tokens ∙ sym (ap (λ (n : ℕ). drop n (tokens_for f accepted)) few);
      within = omega arith;
      had = omega arith;
    }

-- the ring of which something is left
map_at : (fillings : List Filling) (f : ℕ) (one : KeptFeed)
    → slice_get (map filled fillings) f ≡ Some one
    → (x : Filling) × (f < length fillings) × (get_or fillings f x ≡ x) × (filled x ≡ one)
map_at [] f one at = absurd cc
map_at (x ∷ others) zero one at = (x, omega arith, refl, cc)
map_at (x ∷ others) (suc f) one at =
    let rest = map_at others f one at in
    (rest.0, omega (arith, rest.1), rest.2, rest.3)

-- what is left of all
pub are_left : (w : Terms) (fillings : List Filling) (kept : List KeptFeed) (sizes : List ℕ)
    (accepted : List (Token × List ℕ)) → kept ≡ map filled fillings → ring_sizes w ≡ sizes
    → FillEach w fillings accepted → AreLeft kept sizes (gained_anew accepted)
are_left w fillings kept sizes accepted are rings fill =
    record {
      count = ap length are ∙ length-map fillings filled ∙ sym (length-map fillings size_of)
          ∙ ap length (fill.sizes ∙ rings);
      each = λ f one at. by f one (map_at fillings f one
          (sym (ap (λ (xs : List KeptFeed). slice_get xs f) are) ∙ at));
    }
  where
    by : (f : ℕ) (one : KeptFeed)
        → (x : Filling) × (f < length fillings) × (get_or fillings f x ≡ x) × (filled x ≡ one)
        → IsLeft one (slice_index sizes f) (gained_anew accepted f)
    by f one there =
        subst (λ (left : KeptFeed). IsLeft left (slice_index sizes f) (gained_anew accepted f))
        there.3
        (left_of there.0 (slice_index sizes f) accepted f
        (ap size_of (sym there.2) ∙ sym (get_or-map size_of fillings f there.0 0 there.1)
        ∙ ap (λ (xs : List ℕ). slice_index xs f) (fill.sizes ∙ rings))
        (ap tokens_of (sym there.2) ∙ fill.tokens f there.0 there.1))

-- a ring's tokens are of the buffers, in whichever order
tokens_there : (buffers : ℕ) (one : Filling) → All (IsTokenThere buffers) one.newest_first.items
    → AllByRecursion (terms.IsThere buffers) (tokens_of one)
tokens_there buffers one all =
    recursion_from_All (terms.IsThere buffers) (tokens_of one)
    (All-map (terms.IsThere buffers) token_view (reverse one.newest_first.items)
    (All-permutation (IsTokenThere buffers) one.newest_first.items (reverse one.newest_first.items)
    (IsPermutation-reverse one.newest_first.items) all))

-- what is left of each feed fits its ring
pub each_holds : (buffers : ℕ) (fillings : List Filling) → AreThere buffers fillings
    → AllZip (FeedHolds buffers) (map filled fillings) (map size_of fillings)
each_holds buffers [] all = tt
each_holds buffers (one ∷ others) all = (
  record {
    counts = record {
      taken = omega arith;
      passed = omega arith;
      waiting = omega (arith, length-tokens_of one, one.within);
    };
    gained = omega (arith, one.within, one.small);
    tokens = tokens_there buffers one (All-head Held one others all);
  },
  each_holds buffers others (All-tail Held one others all),
)
  where
    Held : Filling → Type 0
    Held filling = All (IsTokenThere buffers) filling.newest_first.items

pub all_hold : (buffers : ℕ) (fillings : List Filling) (kept : List KeptFeed) (sizes : List ℕ)
    → kept ≡ map filled fillings → map size_of fillings ≡ sizes → AreThere buffers fillings
    → AllZip (FeedHolds buffers) kept sizes
all_hold buffers fillings kept sizes are is all =
    subst (λ (xs : List KeptFeed). AllZip (FeedHolds buffers) xs sizes) (sym are)
    (subst (AllZip (FeedHolds buffers) (map filled fillings)) is
    (each_holds buffers fillings all))

-- there are as many feeds as rings
pub as_many : (fillings : List Filling) (feeds : List kept.KeptFeed) (sizes : List ℕ)
    → map feed_view feeds ≡ map filled fillings → map size_of fillings ≡ sizes
    → length feeds ≡ length sizes
as_many fillings feeds sizes are is =
    sym (length-map feeds feed_view) ∙ ap length are ∙ length-map fillings filled
    ∙ sym (length-map fillings size_of) ∙ ap length is

-- each has so few tokens that their number has room in a text
each_few : (fillings : List Filling) (feeds : List kept.KeptFeed)
    → map feed_view feeds ≡ map filled fillings
    → AllByRecursion (λ (feed : kept.KeptFeed). length feed.waiting.items < 2 ^ 32) feeds
each_few fillings [] are = tt
each_few [] (feed ∷ feeds) are = absurd cc
each_few (one ∷ others) (feed ∷ feeds) are =
    let first : feed_view feed ≡ filled one = cc in
    let rest : map feed_view feeds ≡ map filled others = cc in
    let same : length (map token_view feed.waiting.items) ≡ length (tokens_of one) =
    ap (λ (k : KeptFeed). length k.waiting) first in (
      omega (
        arith,
        same,
        length-map feed.waiting.items token_view,
        length-tokens_of one,
        one.within,
        one.small,
      ),
      each_few others feeds rest,
    )

pub all_few : (fillings : List Filling) (feeds : List kept.KeptFeed)
    → map feed_view feeds ≡ map filled fillings
    → All (λ (feed : kept.KeptFeed). length feed.waiting.items < 2 ^ 32) feeds
all_few fillings feeds are =
    All-from_recursion (λ (feed : kept.KeptFeed). length feed.waiting.items < 2 ^ 32) feeds
    (each_few fillings feeds are)

-- what comes after the texts that are left was gained, and now the last of those too
pub gains_back : (w : Terms) (texts left older : List FoundText) (text : FoundText)
    (before after : List Filling) → IsFront texts left → left ≡ older ++ text ∷ []
    → ((again : List Again) → AllZip (IsText w) (drop (length left) texts) again
    → FillEach w before (accepted_again w again))
    → ((one : Again) (later : List (Token × List ℕ)) → IsText w text one
    → FillEach w before later → FillEach w after (with_again w one later))
    → (again : List Again) → AllZip (IsText w) (drop (length older) texts) again
    → FillEach w after (accepted_again w again)
gains_back w texts left older text before after front split fill gain again are =
    by again
    (subst (λ (xs : List FoundText). AllZip (IsText w) xs again)
    (after_before texts left older text front split) are)
  where
    by : (again : List Again)
        → AllZip (IsText w) (text ∷ drop (length left) texts) again
        → FillEach w after (accepted_again w again)
    by [] are = absurd are
    by (one ∷ more) are = gain one (accepted_again w more) are.0 (fill more are.1)

-- where none is left, all was
pub all_gained : (w : Terms) (texts left : List FoundText) (fillings : List Filling)
    → length left ≡ 0
    → ((again : List Again) → AllZip (IsText w) (drop (length left) texts) again
    → FillEach w fillings (accepted_again w again))
    → (again : List Again) → AllZip (IsText w) texts again
    → FillEach w fillings (accepted_again w again)
all_gained w texts left fillings none fill again are =
    fill again
    (subst (λ (n : ℕ). AllZip (IsText w) (drop n texts) again) (sym none) are)
