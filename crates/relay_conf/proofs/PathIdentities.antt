-- The identities that relay.conf takes are such as stand in a Path.
use Rattle.std.proofs.Common.{◌≡◌, ℕ, true, List, [], ◌∷◌, ◌++◌, refl, ap, ◌∙◌, rules, tests}
use Rattle.std.proofs.Common.{not, arith}
use Rattle.std.specs.Prelude.{◌&&◌, ◌==◌, filter}
use Rattle.std.specs.Char.{is_ascii_graphic}
use Rattle.std.specs.List.{list_all}
use Rattle.std.specs.Str.{byte}
use Rattle.std.proofs.lemmas.Bool.{and_parts, and_from}
use Rattle.std.proofs.lemmas.List.Sums.{take_while-cons}
use Rattle.news_terms.specs.Path.{cut_at_bangs, path_octets, path_pieces, before_tail, is_posted}
use Rattle.news_terms.specs.Path.{before_posted, path_identities, is_agent}
use Rattle.news_terms.specs.Path as path
use Rattle.news_terms.proofs.PathUpdates.{all_agent, agent_first, not_posted}
use Rattle.line_words.proofs.Cuts.{some_part}
use Rattle.relay_conf.specs.Words.{is_name_octet, is_identity}

-- An octet of a name is one of an agent's identity.
name_octet_agent : (c : ℕ) → is_name_octet c ≡ true
    → (is_ascii_graphic c && not (c == byte "!")) ≡ true
name_octet_agent c h = search (rules, tests)

-- Octets of names are those of an agent's identity.
name_octets_agent : (word : List ℕ) → list_all is_name_octet word ≡ true → all_agent word ≡ true
name_octets_agent [] h = refl
name_octets_agent (c ∷ word) h =
    let parts = and_parts (is_name_octet c) (list_all is_name_octet word) h in
    and_from _ _ (name_octet_agent c parts.0) (name_octets_agent word parts.1)

-- An identity of relay.conf is one of an agent.
pub identity_is_agent : (word : List ℕ) → is_identity word ≡ true → is_agent word ≡ true
identity_is_agent word h = grind (arith, name_octets_agent)

-- A text cut at each `!` has a piece, so a piece before it isn't the last.
before_more : (piece text : List ℕ)
    → before_tail (piece ∷ cut_at_bangs text) ≡ piece ∷ before_tail (cut_at_bangs text)
before_more piece text = let some = some_part (λ c. c == byte "!") text in rw some.2 refl

-- An identity that is the first piece of a Path is its first identity.
pub first_identity : (identity more : List ℕ) → is_identity identity ≡ true
    → path_identities (identity ++ byte "!" ∷ more) ≡ identity ∷ path_identities more
first_identity identity more h =
    let agent = and_parts (path.is_identity identity) (all_agent identity)
    (identity_is_agent identity h) in
    let rest = before_tail (path_pieces more) in
    let kept : before_posted (identity ∷ rest) ≡ identity ∷ before_posted rest =
    take_while-cons (λ piece. not (is_posted piece)) identity rest
    ∙ rw (not_posted identity agent.0) refl in
    ap (λ (pieces : List (List ℕ)). filter path.is_identity (before_posted (before_tail pieces)))
    (agent_first identity more agent.1)
    ∙ ap (λ (pieces : List (List ℕ)). filter path.is_identity (before_posted pieces))
    (before_more identity (path_octets more))
    ∙ ap (filter path.is_identity) kept
    ∙ rw agent.0 refl
