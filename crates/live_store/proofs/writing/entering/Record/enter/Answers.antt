-- What is entered is the record of what was begun.
use Rattle.std.proofs.Common.{◌∙◌, ap, length, subst, sym}
use Rattle.boxcar.specs.Table.{Shows}
use Rattle.live_store.specs.Tied.{fresh_in, named_in, text_in}
use Rattle.live_store.proofs.writing.entering.Record.enter.Goals as goal

pub new-requires : goal.new-requires
new-requires g c = record {
  named = c.in-Ok.ensures.token;
  long = ap length c.in-Ok.ensures.text ∙ c.requires.long;
}

pub returns-in-Ok : goal.returns-in-Ok
returns-in-Ok g c =
    let is = c.new.ensures.shown in
    let was = c.in-Ok.ensures in
    record {
      shown = subst (Shows c.args.register.now) (sym is) was.shown;
      none = c.new.ensures.none;
      token = ap named_in is ∙ was.token;
      fresh = ap fresh_in is ∙ was.fresh;
      text = ap text_in is ∙ was.text;
    }
