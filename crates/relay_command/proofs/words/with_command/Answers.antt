use Rattle.std.proofs.Common.{◌∙◌, refl, subst, sym, map}
use Rattle.std.proofs.lemmas.List.{at_drop_all}
use Rattle.clap.specs.Words.{App, new_app}
use Rattle.relay_command.specs.CommandLine.{Reads}
use Rattle.relay_command.specs.WordTable.{app_of_words, rule_of_word, with_rules}
use Rattle.relay_command.proofs.CommandLines.{told_reads, with_subcommand_reads, with_word}
use Rattle.relay_command.proofs.CommandLines.{word_next}
use Rattle.relay_command.proofs.words.with_command.Goals as goal

pub loop-word-init : goal.loop-word-init
loop-word-init c =
    let named = new_app c.args.words.now.name.now in (
      named,
      told_reads c.new.result c.about-command.result named _
          (record { words = c.new.ensures.app; own = c.new.ensures.local })
          c.about-command.ensures,
      refl,
    )

pub loop-word-preserved : goal.loop-word-preserved
loop-word-preserved c =
    let so_far = c.loop-word.invariant in (
      _,
      with_word _ _ _ so_far.0 _ so_far.1 c.arg_of.ensures.own c.arg_of.ensures.rule
          c.in_ok-command.ensures,
      sym (word_next c.args.words.now.words.now c.loop-word.word-index _ so_far.0
          c.loop-word-test.true) ∙ so_far.2,
    )

pub returns : goal.returns
returns c = λ app reads.
    let so_far = c.loop-word.invariant in
    let whole = subst (λ (a : App). Reads c.loop-word.command a)
    (sym (at_drop_all (λ left. with_rules so_far.0 (map rule_of_word left))
    c.args.words.now.words.now c.loop-word.word-index c.loop-word-test.false) ∙ so_far.2)
    so_far.1 in
    with_subcommand_reads _ _ c.subcommand.result app (app_of_words c.args.words.now) reads whole
    c.subcommand.ensures
