use Rattle.std.proofs.Common.{◌≡◌, ◌∙◌, sym, subst, ℕ, List, Option, Result, Ok, Err, Bor}
use Rattle.std.specs.Prelude.{IsErrAnd, MatchResult}
use Rattle.std.specs.Str.{IsUtf8}
use Rattle.std.proofs.lemmas.Str.{IsUtf8-from_ascii}
use Rattle.news_terms.specs.MessageId.{IdFault, id_fault}
use Rattle.nntp_text.specs.MessageId.{IdGives, IsId}
use Rattle.nntp_text.specs.declared.id.IdError.{IdError}
use Rattle.nntp_text.specs.declared.id.IdError.TheVariants.{Memory}
use Rattle.nntp_text.proofs.Ids.{ascii_from_no_fault, ok_from_fact}
use Rattle.nntp_text.proofs.id.MsgId.parse.Goals as goal

pub unwrap-text-requires : goal.unwrap-text-requires
unwrap-text-requires c =
    let text = c.args.text.now in
    ok_from_fact (IsUtf8 text) _ _ c.from_utf8.result c.from_utf8.ensures.cases
    (IsUtf8-from_ascii text (ascii_from_no_fault text c.in_ok-tried.ensures.fault))

-- an error that is handed on is still that of the fault
handed_on : {X : Type 0} (Y : Type 0) (r : Result X IdError) (error : IdError)
    (fault : Option IdFault)
    → IsErrAnd r (λ e. e ≡ error) → IdGives {X = Y} (Err error) fault → IdGives r fault
handed_on Y (Ok id) error fault is gives = absurd is
handed_on Y (Err e) error fault is gives =
    subst (λ (one : IdError). IdGives {X = Y} (Err one) fault) (sym is) gives

pub returns-in_err-tried-clause-fault : goal.returns-in_err-tried-clause-fault
returns-in_err-tried-clause-fault c =
    handed_on (Unit {0}) c.from_residual.result c.in_err-tried.field-0.0 (id_fault c.args.text.now)
    c.from_residual.ensures.1 c.in_err-tried.ensures.fault

pub returns-in_err-from_str-clause-fault : goal.returns-in_err-from_str-clause-fault
returns-in_err-from_str-clause-fault c =
    handed_on (Unit {0}) c.from_residual-in_err-from_str.result Memory (id_fault c.args.text.now)
    c.from_residual-in_err-from_str.ensures.1 c.in_ok-tried.ensures.fault

-- the text as it was read is the octets
read_as : {E : Type 0} (text : List ℕ) (r : Result (Bor (List ℕ)) E) (read : Bor (List ℕ))
    (Q : E → Type 0) → r ≡ Ok read → MatchResult r (λ s. (s.now ≡ text) × IsUtf8 text) Q
    → read.now ≡ text
read_as text r read Q is cases =
    (subst (λ one. MatchResult one (λ s. (s.now ≡ text) × IsUtf8 text) Q) is cases).0

pub invariant_of-result : goal.invariant_of-result
invariant_of-result c =
    let text = c.args.text.now in
    let none = c.in_ok-tried.ensures.fault in
    subst IsId (sym (c.in_ok-from_str.ensures.ok
    ∙ read_as text c.from_utf8.result c.unwrap-text.result _ c.unwrap-text.ensures
    c.from_utf8.ensures.cases))
    (record { no_fault = none; ascii = ascii_from_no_fault text none })
