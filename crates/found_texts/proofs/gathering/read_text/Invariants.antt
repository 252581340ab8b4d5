use Rattle.cyc_token.specs.Token.{token_view}
use Rattle.found_texts.specs.Gathering.{ReadsFront}
use Rattle.found_texts.specs.Held.{AreHeld, NoneFailed}
use Rattle.found_texts.proofs.gathering.read_text.Given as goal

-- the blocks so far are gathered; nothing was written, and no device has failed
abbrev pub invariant-loop-k : goal.invariant-loop-k
invariant-loop-k g l = record {
  front : ReadsFront (token_view l.token) l.k l.initial.found_set l.octets.items l.found_set;
  held : AreHeld l.initial.found_set l.found_set;
  unfailed : NoneFailed l.initial.found_set l.found_set;
}
