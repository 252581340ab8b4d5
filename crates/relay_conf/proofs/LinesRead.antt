-- Lines read one after the other: what they say, and the draft that is theirs.
use Rattle.std.proofs.Common.{◌≡◌, ℕ, ◌+◌, List, [], ◌∷◌, ◌++◌, length, Option, Some, None}
use Rattle.std.proofs.Common.{Result, Ok, Err, refl, ap, ◌∙◌, sym, subst, arith, append_assoc}
use Rattle.std.proofs.Common.{append-nil, inl, inr}
use Rattle.std.specs.Prelude.{IsErrAnd, OnOk}
use Rattle.std.proofs.lemmas.List.{length-append}
use Rattle.relay_conf.specs.declared.faults.Fault.{Fault}
use Rattle.relay_conf.specs.declared.faults.LineFault.{LineFault}
use Rattle.relay_conf.specs.declared.faults.ConfError.{ConfError}
use Rattle.relay_conf.specs.declared.faults.ConfError.TheVariants as errors
use Rattle.relay_conf.specs.declared.faults.Refusal.{Refusal}
use Rattle.relay_conf.specs.declared.faults.Refusal.TheVariants.{Memory, Faulty}
use Rattle.relay_conf.specs.Drafts.{Passes, StepGives, IsDrawnFrom, DraftGives, Ends, ReadingGives}
use Rattle.relay_conf.specs.Expressions.{ExpressionGives}
use Rattle.relay_conf.specs.Faults.{first_fault, error_at, ConfGives, LineGives}
use Rattle.relay_conf.specs.LineByLine.{SayEach, LinesGive}
use Rattle.relay_conf.specs.Lines.{lines_in}
use Rattle.relay_conf.proofs.FirstFaults.{fault_last}

-- WHAT LINES SAY

module _ {S : Type 0} (Says : List S → List ℕ → S → Type 0) where
  -- Lines say one more.
  say_more : (before : List S) (lines : List (List ℕ)) (said : List S) (line : List ℕ) (one : S)
      → SayEach Says before lines said → Says (before ++ said) line one
      → SayEach Says before (lines ++ line ∷ []) (said ++ one ∷ [])
  say_more before [] [] line one h k =
      (subst (λ (b : List S). Says b line one) (append-nil before) k, tt)
  say_more before (l ∷ lines) (s ∷ said) line one h k = (
    h.0,
    say_more (before ++ s ∷ []) lines said line one h.1
        (subst (λ (b : List S). Says b line one) (sym (append_assoc before (s ∷ []) said)) k),
  )
  say_more before lines said line one h k = absurd h

  -- Lines are as many as what they say.
  say_length : (before : List S) (lines : List (List ℕ)) (said : List S)
      → SayEach Says before lines said → length said ≡ length lines
  say_length before [] [] h = refl
  say_length before (l ∷ lines) (s ∷ said) h =
      let rest = say_length (before ++ s ∷ []) lines said h.1 in omega (arith, rest)
  say_length before lines said h = absurd h

-- THE LOOP OVER LINES

-- so many lines are passed, which have no fault, and the draft is theirs; these are left
pub record HasPassed {S D : Type 0} (Says : List S → List ℕ → S → Type 0)
    (wrong : List S → S → Option Fault) (Draws : List S → D → Type 0) (lines : List (List ℕ))
    (number : ℕ) (left : List (List ℕ)) (draft : D) : Type 0 where
  pub read : List (List ℕ)
  pub split : lines ≡ read ++ left
  pub count : length read ≡ number
  pub from : IsDrawnFrom Says wrong Draws read draft

module _ {S D : Type 0} (Says : List S → List ℕ → S → Type 0)
    (wrong : List S → S → Option Fault) (Draws : List S → D → Type 0) where
  -- No line is passed at the start.
  pub none_passed : (lines : List (List ℕ)) (draft : D) → Draws [] draft
      → HasPassed Says wrong Draws lines 0 lines draft
  none_passed lines draft h =
      record {
        read = [];
        split = refl;
        count = refl;
        from = record { said = []; says = tt; none = refl; draws = h };
      }

  module _ (lines : List (List ℕ)) (number : ℕ) (line : List ℕ) (rest : List (List ℕ))
      (draft after : D) (passed : HasPassed Says wrong Draws lines number (line ∷ rest) draft) where
    -- The next line is of the number behind.
    of_number : length passed.from.said + 1 ≡ number + 1
    of_number =
        omega (
          arith,
          say_length Says [] passed.read passed.from.said passed.from.says,
          passed.count,
        )

    -- With it the text is split further on.
    split_on : lines ≡ (passed.read ++ line ∷ []) ++ rest
    split_on = passed.split ∙ sym (append_assoc passed.read (line ∷ []) rest)

    -- A line without fault is passed.
    pub line_passed : ((said : List S) → length said + 1 ≡ number + 1 → Draws said draft
        → Passes Says wrong Draws said line after)
        → HasPassed Says wrong Draws lines (number + 1) rest after
    line_passed step =
        let from = passed.from in
        let passes = step from.said of_number from.draws in
        record {
          read = passed.read ++ line ∷ [];
          split = split_on;
          count = omega (arith, length-append passed.read (line ∷ []), passed.count);
          from = record {
            said = from.said ++ passes.one ∷ [];
            says = say_more Says [] passed.read from.said line passes.one from.says passes.says;
            none = fault_last wrong from.said passes.one None from.none passes.none;
            draws = passes.draws;
          };
        }

    -- The refusal of a line is the answer.
    pub line_refused : (refusal : Refusal)
        → ((said : List S) → length said + 1 ≡ number + 1 → Draws said draft
        → StepGives Says wrong Draws said line after (Err refusal))
        → DraftGives Says wrong Draws lines (Err (error_at (number + 1) refusal))
    line_refused Memory step = tt
    line_refused (Faulty fault) step =
        let from = passed.from in
        let refuses = step from.said of_number from.draws in
        record {
          read = passed.read ++ line ∷ [];
          rest = rest;
          said = from.said ++ refuses.one ∷ [];
          split = split_on;
          says = say_more Says [] passed.read from.said line refuses.one from.says refuses.says;
          first = fault_last wrong from.said refuses.one (Some fault) from.none refuses.found
              ∙ ap (λ (k : ℕ). Some (record { line = k; fault = fault })) of_number;
        }

  -- All lines are read at the end.
  pub all_passed : (lines : List (List ℕ)) (number : ℕ) (draft : D)
      → HasPassed Says wrong Draws lines number [] draft
      → IsDrawnFrom Says wrong Draws lines draft
  all_passed lines number draft passed =
      subst (λ (read : List (List ℕ)). IsDrawnFrom Says wrong Draws read draft)
      (sym (passed.split ∙ append-nil passed.read)) passed.from

-- A text has at most one line more than octets.
pub few_lines : (parts : List (List ℕ)) → length (lines_in parts) ≡ length parts
few_lines [] = refl
few_lines (last ∷ []) = refl
few_lines (line ∷ next ∷ more) = let rest = few_lines (next ∷ more) in omega (arith, rest)

-- THE ANSWER

module _ {A S T D : Type 0} (view : A → T) (Says : List S → List ℕ → S → Type 0)
    (wrong : List S → S → Option Fault) (Draws : List S → D → Type 0)
    (together : List S → Result T LineFault) (lines : List (List ℕ)) where
  -- What is answered of the draft is answered of the lines.
  pub draft_answers : (result : Result A ConfError) (draft : D)
      → IsDrawnFrom Says wrong Draws lines draft
      → ((said : List S) → first_fault wrong [] said ≡ None → Draws said draft
      → ConfGives view result (together said))
      → LinesGive view Says wrong together result lines
  draft_answers result draft from gives =
      by_result result (gives from.said from.none from.draws)
    where
      by_result : (r : Result A ConfError) → ConfGives view r (together from.said)
          → LinesGive view Says wrong together r lines
      by_result (Ok settings) g = record { said = from.said; says = from.says; gives = g }
      by_result (Err errors.Memory) g = tt
      by_result (Err (errors.Faulty fault)) g =
          inr (record { said = from.said; says = from.says; gives = g })

  -- An error of the draft is that of the lines.
  pub draft_fails : (result : Result A ConfError) (error : ConfError)
      → IsErrAnd result (λ e. e ≡ error)
      → DraftGives Says wrong Draws lines (Err error)
      → LinesGive view Says wrong together result lines
  draft_fails (Ok settings) error is gives = absurd is
  draft_fails (Err errors.Memory) error is gives = tt
  draft_fails (Err (errors.Faulty fault)) error is gives = inl (rw (← is) at gives)

-- A READING BECOMES THE NEXT

module _ {E R : Type 0} (Says : Result E Fault → Type 0)
    (wrong : R → Result E Fault → Option Fault) (next : R → E → R) (r : R) where
  -- What a line gives, by whether it has a fault.
  pub read_by : {D : Type 0} (view : D → R) (new changed : D) (line : E)
      (result : Result (Unit {0}) Refusal) → Says (Ok line)
      → LineGives result (wrong r (Ok line)) → OnOk result (new ≡ changed)
      → view changed ≡ next r line → ReadingGives Says wrong next r (view new) result
  read_by view new changed line (Ok done) says gives same after =
      record { line = line; says = says; none = gives; reading = ap view same ∙ after }
  read_by view new changed line (Err Memory) says gives same after = tt
  read_by view new changed line (Err (Faulty fault)) says gives same after =
      record { said = Ok line; says = says; found = gives }

  -- An expression that isn't read ends the step.
  pub unread : (after : R) (result : Result (Unit {0}) Refusal) (text : List ℕ)
      (refusal : Refusal) → IsErrAnd result (λ e. e ≡ refusal)
      → ExpressionGives text (Err refusal)
      → ((fault : Fault) → ExpressionGives text (Err (Faulty fault)) → Ends Says wrong r fault)
      → ReadingGives Says wrong next r after result
  unread after (Ok done) text refusal is gives ends = absurd is
  unread after (Err Memory) text refusal is gives ends = tt
  unread after (Err (Faulty fault)) text refusal is gives ends =
      ends fault (rw (← is) at gives)

  -- A step of a reading is one of the draft.
  pub step_gives : {D : Type 0} (AllSay : List (Result E Fault) → List ℕ → Result E Fault → Type 0)
      (early : List (Result E Fault) → Result E Fault → Option Fault)
      (Draws : List (Result E Fault) → D → Type 0) (said : List (Result E Fault))
      (line : List ℕ) (after : R) (new : D) (Kept : Type 0) (result : Result (Unit {0}) Refusal)
      → ((one : Result E Fault) → Says one → AllSay said line one)
      → ((one : Result E Fault) → early said one ≡ wrong r one)
      → ((one : E) → wrong r (Ok one) ≡ None → after ≡ next r one → Kept
      → Draws (said ++ Ok one ∷ []) new)
      → ReadingGives Says wrong next r after result → OnOk result Kept
      → StepGives AllSay early Draws said line new result
  step_gives AllSay early Draws said line after new Kept (Ok done) says same draws gives kept =
      record {
        one = Ok gives.line;
        says = says (Ok gives.line) gives.says;
        none = same (Ok gives.line) ∙ gives.none;
        draws = draws gives.line gives.none gives.reading kept;
      }
  step_gives AllSay early Draws said line after new Kept (Err Memory) says same draws gives kept =
      tt
  step_gives AllSay early Draws said line after new Kept (Err (Faulty fault)) says same draws gives
      kept =
      record {
        one = gives.said;
        says = says gives.said gives.says;
        found = same gives.said ∙ gives.found;
      }
