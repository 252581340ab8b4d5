use Rattle.std.proofs.Common.{◌≡◌, ◌∙◌, ℕ, List, ap, false, inl, inr, refl, rules}
use Rattle.std.proofs.Common.{subst, sym}
use Rattle.std.proofs.lemmas.Bool.{cases_Bool}
use Rattle.std.proofs.lemmas.Slice.Eq.{bytes_eq-Decides}
use Rattle.std.specs.Str.{bytes_eq}
use Rattle.cyc_token.specs.Token.{token_view}
use Rattle.cyc_token.specs.declared.Token.{Token}
use Rattle.feed_queue.specs.Feeds.{KeepsFeeds}
use Rattle.id_history.specs.Answers.{token_of}
use Rattle.id_history.specs.Mark.{mark_of}
use Rattle.news_terms.specs.Token as terms
use Rattle.relay_model.specs.Claims.{Claim, after_settle, is_storing_for}
use Rattle.relay_model.specs.Claims.{Unknown, Offered, Storing, Stored, Refused}
use Rattle.relay_model.specs.State.{put_id}
use Rattle.relay_model.specs.Writers.{gaining}
use Rattle.live_jobs.specs.Desks.{desk_of}
use Rattle.live_jobs.proofs.Rows.{never_none}
use Rattle.live_jobs.proofs.desk.both.settle_both.Goals as goal

-- a claim that isn't being stored for the session is settled to itself
unsettled : (session : ℕ) (token : terms.Token) (now : ℕ) (claim : Claim)
    → false ≡ is_storing_for session claim → after_settle session token now claim ≡ claim
unsettled session token now Unknown other = refl
unsettled session token now (Offered by since) other = refl
unsettled session token now (Storing by article stage) other = rw (sym other) refl
unsettled session token now (Stored had moment) other = refl
unsettled session token now (Refused moment) other = refl

-- an id's own claim put anew changes nothing
put_same : (claims : List ℕ → Claim) (id : List ℕ) (claim : Claim) → claim ≡ claims id
    → (other : List ℕ) → put_id claims id claim other ≡ claims other
put_same claims id claim same other = elim (cases_Bool (bytes_eq other id)) [
  | inl equal ↦ rw equal (same ∙ ap claims (sym ((bytes_eq-Decides other id).0 equal)))
  | inr differs ↦ rw differs refl
]

-- what was settled has the token, and the feeds are those of the list
pub returns-in-Some : goal.returns-in-Some
returns-in-Some g c = record {
  storing = search rules;
  settled = search rules;
  gained = λ sizes feeds keeps.
      subst
      (λ (token : Token). KeepsFeeds (desk_of c.post.new.self) sizes
      (gaining feeds c.args.article.now.permitted.now.items (token_view token)))
      c.in-Some.ensures.token
      (subst
      (λ (permitted : List ℕ). KeepsFeeds (desk_of c.post.new.self) sizes
      (gaining feeds permitted (token_view (token_of c.in-Some.settled))))
      c.deref.ensures.value (c.post.ensures.gained sizes feeds keeps));
  posted = c.of.ensures;
  counted = (c.post.ensures.amount, c.post.ensures.posts);
  before = c.post.ensures.before;
  why = never_none _;
  same = never_none _;
  parts = c.post.ensures.parts;
}

pub returns-then-is_full : goal.returns-then-is_full
returns-then-is_full g c = record {
  storing = tt;
  settled = tt;
  gained = tt;
  posted = tt;
  counted = tt;
  before = refl;
  why = λ none. inl (c.is_full.ensures.0 c.if-is_full.true);
  same = λ none. (λ claims keeps. keeps, refl, refl);
  parts = refl;
}

-- what isn't settled stays
pub returns-in-None : goal.returns-in-None
returns-in-None g c =
    let a = c.args.article.now in
    let id = a.id.now in
    record {
      storing = tt;
      settled = tt;
      gained = tt;
      posted = tt;
      counted = tt;
      before = refl;
      why = λ none. inr (λ claims keeps. sym (c.in-None.ensures.answer claims keeps));
      same = λ none. (
        λ claims keeps. record {
          agrees = λ other. (c.in-None.ensures.claims claims keeps).agrees other
              ∙ ap mark_of (put_same claims id
              (after_settle a.session (token_view a.token) a.moment (claims id))
              (unsettled a.session (token_view a.token) a.moment (claims id)
              (c.in-None.ensures.answer claims keeps)) other);
        },
        refl,
        refl,
      );
      parts = refl;
    }
