use Rattle.std.proofs.Common.{◌≡◌, ◌∙◌, ◌+◌, arith, subst, sym, vec_len, Option}
use Rattle.std.proofs.lemmas.Bool.{eqb-true}
use Rattle.std.specs.Prelude.{IfSome}
use Rattle.live_store.specs.Ahead.{GoesAsFar}
use Rattle.live_store.specs.declared.ahead.Ahead.{Ahead}
use Rattle.live_store.proofs.RunLemmas.{none_behind}
use Rattle.live_store.proofs.reading_ahead.read_behind.Goals as goal

pub returns-then-is_empty-clause-none : goal.returns-then-is_empty-clause-none
returns-then-is_empty-clause-none g c = λ is_none.
    none_behind c.args.buffer.now c.args.own.now c.args.token.now c.args.k
    c.blocks_behind-blocks.result c.read_on.new.ahead c.blocks_behind-blocks.ensures.blocks
    (c.read_on.ensures.token
    ∙ subst (λ (r : Option Ahead). IfSome r (λ a. a.token ≡ c.args.token.now)) c.in-Some.is
    c.in_ok-ahead.ensures.token)
    (c.read_on.ensures.from
    ∙ subst (λ (r : Option Ahead). IfSome r (λ a. a.from ≡ c.args.k + 1)) c.in-Some.is
    c.in_ok-ahead.ensures.from)
    (omega (
      arith,
      c.read_on.new.ahead.octets.ok.0,
      eqb-true (vec_len c.read_on.new.ahead.octets) 0 (sym c.if-is_empty.ensures),
    )) c.read_on.ensures.far

pub returns-clause-far : goal.returns-clause-far
returns-clause-far g c =
    subst
    (λ n. GoesAsFar c.args.buffer.now c.args.own.now n c.read_on.new.ahead)
    c.blocks_behind-blocks.ensures.blocks c.read_on.ensures.far
