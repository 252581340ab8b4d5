use Rattle.std.proofs.Common.{◌≡◌, ◌+◌, false, subst, sym, take}
use Rattle.std.specs.Prelude.{IfSome}
use Rattle.cyc_token.specs.Token.{token_view}
use Rattle.id_history.specs.Shards.{KeepsAll}
use Rattle.news_terms.specs.Article.{is_empty}
use Rattle.found_again.specs.Finding.{all_found, found_of}
use Rattle.found_again.proofs.FindLemmas.{keeps_found, not_empty, some_more}
use Rattle.found_again.proofs.finding.find_all.Goals as goal
use Rattle.found_again.proofs.finding.find_all.Goals.{in-Some+in_ok-find, in_default}

-- one text more was found, or was no id's
pub loop-text-preserved : goal.loop-text-preserved
loop-text-preserved c =
    let texts = c.args.texts.now in
    let n = c.loop-text.text-index in
    let text = c.text-item.result in
    elim c.match-text.branch [
      | in-Some+in_ok-find s ↦ record {
        keeps = λ claims keeps.
            subst (λ shards. KeepsAll shards (all_found c.args.now claims (take (n + 1) texts)))
            (sym s.shards-is)
            (keeps_found s.find.new.shards c.args.now claims texts n text
            c.loop-text-test.true c.text-item.is
            (subst (λ own. KeepsAll s.find.new.shards (found_of own (token_view text.token)
            c.args.now (all_found c.args.now claims (take n texts)))) (sym s.in-Some.is)
            (s.in_ok-find.ensures _ (c.loop-text.invariant.keeps claims keeps))));
        some = some_more texts n text c.loop-text-test.true c.text-item.is
            (subst (λ own. IfSome own (λ id. is_empty id ≡ false)) (sym s.in-Some.is)
            (not_empty _ s.as_bytes-octets.ensures.no_fault))
            c.loop-text.invariant.some;
      }
      | in_default s ↦ record {
        keeps = λ claims keeps.
            subst (λ shards. KeepsAll shards (all_found c.args.now claims (take (n + 1) texts)))
            (sym s.shards-is)
            (keeps_found c.loop-text.shards c.args.now claims texts n text
            c.loop-text-test.true c.text-item.is
            (subst (λ own. KeepsAll c.loop-text.shards (found_of own (token_view text.token)
            c.args.now (all_found c.args.now claims (take n texts)))) (sym s.in_default.is)
            (c.loop-text.invariant.keeps claims keeps)));
        some = some_more texts n text c.loop-text-test.true c.text-item.is
            (subst (λ own. IfSome own (λ id. is_empty id ≡ false)) (sym s.in_default.is) tt)
            c.loop-text.invariant.some;
      }
    ]
