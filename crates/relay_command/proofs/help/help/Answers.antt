use Rattle.std.proofs.Common.{◌∙◌, refl, sym}
use Rattle.clap.specs.declared.error.kind.ErrorKind.TheVariants.{DisplayHelp, DisplayVersion}
use Rattle.relay_command.specs.Help.{the_version}
use Rattle.relay_command.specs.Version.{version_line}
use Rattle.relay_command.proofs.Checks.{keeps_same}
use Rattle.relay_command.proofs.Helps.{has_kind, text_given}
use Rattle.relay_command.proofs.help.help.Goals as goal

-- the version's line was written,
pub returns-in-Ok : goal.returns-in-Ok
returns-in-Ok g c words said = record {
  text = version_line;
  wanted = the_version (has_kind words c.args.error DisplayVersion
      (sym c.kind.ensures ∙ c.in-DisplayVersion.is) (λ is. cc) said) refl;
  written = c.in-Ok.ensures;
}

-- or a front of it,
pub returns-in-DisplayVersion : goal.returns-in-DisplayVersion
returns-in-DisplayVersion g c words said = record {
  text = version_line;
  wanted = the_version (has_kind words c.args.error DisplayVersion
      (sym c.kind.ensures ∙ c.in-DisplayVersion.is) (λ is. cc) said) refl;
  written = c.in-Err.ensures;
}

-- or clap's text,
pub returns-in-DisplayHelp : goal.returns-in-DisplayHelp
returns-in-DisplayHelp g c words said =
    text_given words c.clap_text.result (g.W.Write.contents c.args.writer.now)
    (g.W.Write.contents c.clap_text.new.writer)
    (has_kind words c.args.error DisplayHelp (sym c.kind.ensures ∙ c.in-DisplayHelp.is) (λ is. cc)
    said)
    c.clap_text.ensures

-- or the words are at fault, and nothing was written.
pub returns : goal.returns
returns g c words said = (
  record {
    said = said;
    no_help = λ is. c.in_default.not-DisplayHelp (c.kind.ensures ∙ is);
    no_version = λ is. c.in_default.not-DisplayVersion (c.kind.ensures ∙ is);
  },
  keeps_same (g.W.Write.contents c.args.writer.now),
)
