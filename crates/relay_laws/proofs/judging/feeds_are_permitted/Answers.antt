use Rattle.std.proofs.Common.{◌≡◌, ◌==◌, ◌&&◌, not, ℕ, true, false, sym, true≢false, eq-eqb}
use Rattle.std.proofs.Common.{◌∙◌}
use Rattle.std.proofs.lemmas.Bool.{and_parts, not-true}
use Rattle.news_terms.specs.Article.{Article, message_id, newsgroups}
use Rattle.news_terms.specs.Path.{has_identity}
use Rattle.news_terms.specs.Pattern.{permits}
use Rattle.relay_model.specs.HashFeeds.{in_hash_feed}
use Rattle.relay_model.specs.Judging.{identity_of, is_permitted, path_of}
use Rattle.relay_model.specs.Terms.{Terms, FeedTerms}
use Rattle.relay_laws.proofs.judging.feeds_are_permitted.Goals as goal

-- the four tests, one by one
four : (w : Terms) (from : ℕ) (a : Article) (feed : FeedTerms) → is_permitted w from a feed ≡ true
    → (permits feed.expression (newsgroups a.fields) ≡ true)
    × (has_identity (identity_of w feed.peer) (path_of a) ≡ false)
    × ((feed.peer == from) ≡ false)
    × (in_hash_feed feed.hash (message_id a.fields) ≡ true)
four w from a feed e =
    let one = permits feed.expression (newsgroups a.fields) in
    let two = not (has_identity (identity_of w feed.peer) (path_of a)) in
    let three = not (feed.peer == from) in
    let hash = in_hash_feed feed.hash (message_id a.fields) in
    let outer = and_parts (one && two && three) hash e in
    let middle = and_parts (one && two) three outer.0 in
    let inner = and_parts one two middle.0 in
    (inner.0, not-true _ inner.1, not-true _ middle.1, outer.1)

pub returns-clause-expression : goal.returns-clause-expression
returns-clause-expression c = λ w from a feed e. (four w from a feed e).0

pub returns-clause-path : goal.returns-clause-path
returns-clause-path c = λ w from a feed e. (four w from a feed e).1

pub returns-clause-source : goal.returns-clause-source
returns-clause-source c = λ w from a feed e same.
    true≢false (sym (eq-eqb feed.peer from same) ∙ (four w from a feed e).2)

pub returns-clause-hash : goal.returns-clause-hash
returns-clause-hash c = λ w from a feed e. (four w from a feed e).3
