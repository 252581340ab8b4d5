use Rattle.std.proofs.Common.{Err}
use Rattle.cyc_token.specs.Token.{token_view}
use Rattle.relay_command.proofs.Tokens.{untold}
use Rattle.relay_command.proofs.token.tell.Goals as goal

pub returns-in-Ok-print_parts : goal.returns-in-Ok-print_parts
returns-in-Ok-print_parts g c =
    let read = (c.parse.ensures.token c.in-Ok.token).0 c.in-Ok.is in
    record {
      token = token_view c.in-Ok.token;
      fits = read.0;
      spelled = read.1;
      written = c.in-Ok-print_parts.ensures;
    }

pub returns-in-Err-print_parts : goal.returns-in-Err-print_parts
returns-in-Err-print_parts g c =
    let read = (c.parse.ensures.token c.in-Ok.token).0 c.in-Ok.is in
    (token_view c.in-Ok.token, read.0, read.1, c.in-Err-print_parts.ensures)

pub returns-in-Err : goal.returns-in-Err
returns-in-Err g c =
    let has = c.in-Err.ensures in
    untold (Err c.from.result) c.in-Err.error c.args.text.now
    (g.W.Write.contents c.args.writer.now) c.from.ensures has.length.0 has.marks.0
    has.digit.0 has.lower_case.0
