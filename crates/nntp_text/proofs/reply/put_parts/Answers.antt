use Rattle.std.proofs.Common.{◌≡◌, ◌∙◌, ℕ, refl, ap, arith, List, [], ◌∷◌, ◌++◌, length}
use Rattle.std.proofs.Common.{append_assoc, length-append}
use Rattle.std.specs.Prelude.{codes}
use Rattle.news_terms.specs.Reply.{line_of}
use Rattle.nntp_text.specs.Reply.{named_after, rest_after, text_of}
use Rattle.nntp_text.specs.declared.parts.Named.{Named}
use Rattle.nntp_text.specs.declared.parts.Named.TheVariants as named
use Rattle.nntp_text.specs.declared.parts.Rest.{Rest}
use Rattle.nntp_text.specs.declared.parts.Rest.TheVariants as rests
use Rattle.nntp_text.proofs.reply.put_parts.Goals as goal

pub put_octets-requires-2 : goal.put_octets-requires-2
put_octets-requires-2 c = omega (
  arith,
  c.requires,
  c.put_octets.ensures.len,
  c.put_octets.ensures.capacity,
  c.put_named.ensures.len,
  c.put_named.ensures.capacity,
)

pub put_rest-requires : goal.put_rest-requires
put_rest-requires c = omega (
  arith,
  c.requires,
  c.put_octets.ensures.len,
  c.put_octets.ensures.capacity,
  c.put_named.ensures.len,
  c.put_named.ensures.capacity,
  c.put_octets-2.ensures.len,
  c.put_octets-2.ensures.capacity,
)

-- two lists more stand behind all that stands before the first
two_behind : (out a b c : List ℕ) → out ++ a ++ b ++ c ≡ out ++ (a ++ b ++ c)
two_behind out a b c =
    ap (λ (octets : List ℕ). octets ++ c) (append_assoc out a b) ∙ append_assoc out (a ++ b) c

-- what is named stands behind all that stands before the words
named_behind : (out words : List ℕ) (one : Named)
    → named_after (out ++ words) one ≡ out ++ named_after words one
named_behind out words named.Nothing = refl
named_behind out words (named.Id id) = append_assoc out words _
named_behind out words (named.Token token) = append_assoc out words _
named_behind out words (named.Gone token) = two_behind out words _ _
named_behind out words (named.Unknown token) = two_behind out words _ _
named_behind out words (named.Digits digits) = append_assoc out words digits

-- so does what follows the first line
rest_behind : (out first : List ℕ) (rest : Rest)
    → rest_after (out ++ first) rest ≡ out ++ rest_after first rest
rest_behind out first rests.Nothing = refl
rest_behind out first (rests.Text text) = append_assoc out first _
rest_behind out first (rests.Line line) = two_behind out first _ _
rest_behind out first (rests.Queue missed items) =
    ap (λ (octets : List ℕ). octets ++ line_of (codes ".")) (two_behind out first _ _)
    ∙ append_assoc out (first ++ _ ++ _) _

pub returns-clause-items : goal.returns-clause-items
returns-clause-items c =
    let out = c.args.out.now.items in
    let parts = c.args.parts.now in
    let words = named_after parts.words.now parts.named in
    c.put_rest.ensures.items
    ∙ ap (λ (first : List ℕ). rest_after first parts.rest)
    (c.put_octets-2.ensures.items
    ∙ ap (λ (octets : List ℕ). octets ++ 13 ∷ 10 ∷ [])
    (c.put_named.ensures.items
    ∙ ap (λ (octets : List ℕ). named_after octets parts.named) c.put_octets.ensures.items
    ∙ named_behind out parts.words.now parts.named)
    ∙ append_assoc out words (13 ∷ 10 ∷ []))
    ∙ rest_behind out (line_of words) parts.rest

pub returns-clause-room : goal.returns-clause-room
returns-clause-room c = omega (
  arith,
  ap length (returns-clause-items c),
  length-append c.args.out.now.items (text_of c.args.parts.now),
  c.put_octets.ensures.len,
  c.put_named.ensures.len,
  c.put_octets-2.ensures.len,
  c.put_rest.ensures.len,
)
