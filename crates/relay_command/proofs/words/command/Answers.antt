use Rattle.std.proofs.Common.{◌∙◌, codes, refl, subst, sym, map}
use Rattle.std.proofs.lemmas.List.{at_drop_all}
use Rattle.clap.specs.Words.{App, new_app}
use Rattle.relay_command.specs.CommandLine.{Reads, version_words}
use Rattle.relay_command.specs.WordTable.{app_of_words, with_commands}
use Rattle.relay_command.proofs.CommandLines.{command_next, told_reads, version_reads}
use Rattle.relay_command.proofs.words.command.Goals as goal

pub loop-words-init : goal.loop-words-init
loop-words-init c =
    let named = version_reads c.new.result c.version.result (new_app (codes "cnrelay")) _
    (record { words = c.new.ensures.app; own = c.new.ensures.local }) c.version.ensures in (
      version_words,
      told_reads c.version.result c.about-command.result version_words _ named
          c.about-command.ensures,
      refl,
    )

pub loop-words-preserved : goal.loop-words-preserved
loop-words-preserved c =
    let so_far = c.loop-words.invariant in (
      _,
      c.in_ok-command.ensures so_far.0 so_far.1,
      sym (command_next _ c.loop-words.words-index _ so_far.0
          c.loop-words-test.true) ∙ so_far.2,
    )

pub returns : goal.returns
returns c =
    let so_far = c.loop-words.invariant in
    subst (λ (app : App). Reads c.loop-words.command app)
    (sym (at_drop_all (λ left. with_commands so_far.0 (map app_of_words left))
    _ c.loop-words.words-index c.loop-words-test.false) ∙ so_far.2)
    so_far.1
