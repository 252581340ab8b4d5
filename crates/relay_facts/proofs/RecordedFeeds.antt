-- No more of a feed is taken than is past taking, and no more is than it gained: each move keeps
-- that.
use Rattle.std.proofs.Common.{◌≡◌, ◌∙◌, ℕ, ◌+◌, ◌-◌, nat_eq, List, [], ◌∷◌, ◌++◌, length, take}
use Rattle.std.proofs.Common.{drop}
use Rattle.std.proofs.Common.{sym, ap, subst, arith, length-append, length-drop}
use Rattle.std.specs.Prelude.{max, min}
use Rattle.std.specs.List.{list_any}
use Rattle.std.proofs.lemmas.Bool.{cond_both}
use Rattle.std.proofs.lemmas.List.{length-take}
use Rattle.std.proofs.lemmas.List.FromFn.{length-enumerate_from}
use Rattle.news_terms.specs.Ring as rings
use Rattle.news_terms.specs.Token.{Token}
use Rattle.relay_model.specs.OnRecord.{PassesInOrder}
use Rattle.relay_model.specs.Shares.{after_take_of, as_ring}
use Rattle.relay_model.specs.State.{State, Feed}
use Rattle.relay_model.specs.Terms.{Terms}
use Rattle.relay_model.specs.Writers.{gaining}
use Rattle.relay_facts.proofs.Moves.{Moves, FeedGoes, IsLeft, IsTaken}
use Rattle.relay_facts.proofs.Moves as moves

-- how many tokens a take lists
taken_length : (ring most : ℕ) (feed : Feed) → length (rings.taken_items ring most (as_ring feed))
    ≡ min most (length feed.gained - max feed.passed (length feed.gained - ring))
taken_length ring most feed =
    let past : ℕ = max feed.passed (length feed.gained - ring) in
    length-enumerate_from (past + 1) (take most (drop past feed.gained))
    ∙ length-take most (drop past feed.gained)
    ∙ ap (min most) (length-drop past feed.gained)

-- a take leaves the feed in order
take_in_order : (ring most : ℕ) (feed : Feed) → PassesInOrder feed
    → PassesInOrder (after_take_of ring most feed)
take_in_order ring most feed is =
    let listed = taken_length ring most feed in
    record {
      taken = omega (arith, listed, is.taken, is.passed);
      passed = omega (arith, is.passed);
    }

-- so does what is no gain
goes_in_order : (before after : Feed) → FeedGoes before after → PassesInOrder before
    → PassesInOrder after
goes_in_order before after (IsLeft same) is = subst PassesInOrder (sym same) is
goes_in_order before after (IsTaken ring most e) is =
    subst PassesInOrder (sym e) (take_in_order ring most before is)

-- and a gain
gain_in_order : (feed : ℕ → Feed) (permitted : List ℕ) (token : Token) (f : ℕ)
    → PassesInOrder (feed f) → PassesInOrder (gaining feed permitted token f)
gain_in_order feed permitted token f is =
    cond_both (list_any (nat_eq f) permitted)
    (record (feed f) { gained = (feed f).gained ++ token ∷ [] }) (feed f) PassesInOrder
    (λ permits. record {
      taken = is.taken;
      passed = omega (arith, is.passed, length-append (feed f).gained (token ∷ []));
    })
    (λ other. is)

-- all feeds are in order
abbrev pub FeedsInOrder : State → Type 0
FeedsInOrder σ = (f : ℕ) → PassesInOrder (σ.feed f)

-- each move keeps that
pub feeds_stay : (w : Terms) (σ τ : State) → Moves w σ τ → FeedsInOrder σ → FeedsInOrder τ
feeds_stay w σ τ (moves.LeavesStore same) all =
    λ f. goes_in_order (σ.feed f) (τ.feed f) (same.feeds f) (all f)
feeds_stay w σ τ (moves.Begun job token begins) all = subst FeedsInOrder (sym begins.after) all
feeds_stay w σ τ (moves.Stored job token stores) all = subst FeedsInOrder (sym stores.after) all
feeds_stay w σ τ (moves.Failed job token fails) all = subst FeedsInOrder (sym fails.after) all
feeds_stay w σ τ (moves.Accepted job token now timed accepts) all =
    subst FeedsInOrder (sym accepts.after)
    (λ f. gain_in_order σ.feed job.article.permitted token f (all f))
feeds_stay w σ τ (moves.Abandoned job abandons) all =
    subst FeedsInOrder (sym abandons.after) all
