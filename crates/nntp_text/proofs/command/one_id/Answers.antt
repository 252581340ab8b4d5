-- Memory ran out for the one word, which is a message-id.
use Rattle.std.proofs.Common.{◌≡◌, ℕ, List, [], ◌∷◌, Result, Ok, Err, refl}
use Rattle.std.specs.Prelude.{IsTrue}
use Rattle.std.specs.Result.{IsErrAnd}
use Rattle.news_terms.specs.Command.{is_id}
use Rattle.nntp_text.specs.Command.{OneId}
use Rattle.nntp_text.specs.declared.command.CmdError.{CmdError}
use Rattle.nntp_text.specs.declared.command.CmdError.TheVariants.{Memory}
use Rattle.nntp_text.proofs.command.one_id.Goals as goal

-- memory may run out for an offer with one word that is a message-id
memory_for_offer : (r : Result (List ℕ) CmdError) (after : List (List ℕ)) (word : List ℕ)
    → IsErrAnd r (λ e. e ≡ Memory) → after ≡ word ∷ [] → IsTrue (is_id word) → OneId r after
memory_for_offer (Ok id) after word memory one is = absurd memory
memory_for_offer (Err e) after word memory one is =
    rw (memory, one) (word, (λ command. rw is refl))

pub returns-in_err-id-in-One : goal.returns-in_err-id-in-One
returns-in_err-id-in-One c =
    memory_for_offer c.from_residual.result _ c.in-One.word.now c.from_residual.ensures.1
    c.in-One.ensures c.in_err-id-in-One.ensures.memory
