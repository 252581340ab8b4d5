use Rattle.std.proofs.Common.{ℕ, ◌==◌, arith, inl, inr, map, subst, sym, ◌≡◌, ◌≢◌, ◌∙◌}
use Rattle.std.proofs.lemmas.Bool.{cases_Bool}
use Rattle.std.proofs.lemmas.Bool.Decides.{nat_tests}
use Rattle.id_history.specs.Expiry.{passed_view}
use Rattle.post_history.specs.Posts.{posts_of}
use Rattle.post_history.specs.Remembering.{AreOwnOnce}
use Rattle.post_history.proofs.audit.agree.Goals as goal

-- the shard at the place agrees, and those before it do
pub loop-k-preserved : goal.loop-k-preserved
loop-k-preserved g c = λ j below.
    elim (cases_Bool (j == c.loop-k.k)) [
      | inl equal ↦
          let same : j ≡ c.loop-k.k = grind (arith, nat_tests) in
          let number : c.in-Some.number ≡ c.loop-k.k = search in
          subst (λ (n : ℕ). ∥ AreOwnOnce (map passed_view c.args.fronts.now) g.J.Naming.began n
          (posts_of n c.args.all.now.history) ∥₁) (number ∙ sym same) c.in-Some.ensures
      | inr differs ↦
          let apart : j ≢ c.loop-k.k = grind (arith, nat_tests) in
          c.loop-k.invariant j (omega (arith, below, apart))
    ]
