use Rattle.std.proofs.Common.{◌++◌, ◌∙◌, ◌≡◌, ap, map, refl, List, ℕ}
use Rattle.std.specs.Int.{to_be_bytes, w64}
use Rattle.cyc_token.specs.Token.{token_view}
use Rattle.id_history.specs.History.{tokens_octets}
use Rattle.std.proofs.lemmas.Result.{on_ok_weaker}
use Rattle.id_history.proofs.Appends.{behind}
use Rattle.id_history.proofs.writing.KeptFeedWritable.put.Goals as goal

-- the three counts, and then the tokens
pub returns-in-Ok-clause-octets : goal.returns-in-Ok-clause-octets
returns-in-Ok-clause-octets c =
    let feed = c.args.self.now in
    let counts =
    to_be_bytes w64 feed.gained ++ to_be_bytes w64 feed.passed ++ to_be_bytes w64 feed.taken in
    let tokens = tokens_octets (map token_view feed.waiting.items) in
    let written : c.as_flattened.result.now ≡ counts =
    rw (
      c.as_flattened.ensures.value,
      c.to_be_bytes.ensures,
      c.to_be_bytes-2.ensures,
      c.to_be_bytes-3.ensures,
    ) refl in
    on_ok_weaker c.put_counted.result
    (λ last. behind c.args.out.now.items counts tokens
    (c.in-Ok.ensures.items ∙ ap (λ (o : List ℕ). c.args.out.now.items ++ o) written) last)
    (rw c.deref.ensures.value at c.put_counted.ensures.octets)
