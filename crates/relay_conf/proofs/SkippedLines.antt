-- Lines that say nothing change nothing of what the others say.
use Rattle.std.proofs.Common.{◌≡◌, ℕ, Bool, true, false, List, [], ◌∷◌, ◌++◌, Option, Some, None}
use Rattle.std.proofs.Common.{Result, Ok, Err, refl, ap, ◌∙◌, sym, append_assoc, append-nil, arith}
use Rattle.std.specs.Prelude.{◌↔◌}
use Rattle.relay_conf.specs.declared.faults.Fault.{Fault}
use Rattle.relay_conf.specs.declared.faults.LineFault.{LineFault}
use Rattle.relay_conf.specs.Faults.{fault_or_later, first_fault, unless_fault, whole_fault}
use Rattle.relay_conf.specs.LineByLine.{SayTogether}
use Rattle.relay_conf.proofs.OneReading.{IsOne, answered, answers, say, saying}

-- What is the same without a line, one line later, is the same behind one line more.
pub same_behind : {S X : Type 0} (f : List S → X) (skip : S) (passed more : List S) (line : S)
    → f (passed ++ skip ∷ (more ++ line ∷ [])) ≡ f (passed ++ (more ++ line ∷ []))
    → f ((passed ++ skip ∷ more) ++ line ∷ []) ≡ f ((passed ++ more) ++ line ∷ [])
same_behind f skip passed more line e =
    ap f (append_assoc passed (skip ∷ more) (line ∷ [])) ∙ e
    ∙ ap f (sym (append_assoc passed more (line ∷ [])))

-- WHAT STANDS

module _ {S X : Type 0} (f : List S → X) (next : X → S → X)
    (grows : (before : List S) (line : S) → f (before ++ line ∷ []) ≡ next (f before) line) where
  -- What stands of lines, by what stood before each of them, is the same behind the same.
  same_from : (one other : List S) → f one ≡ f other → (after : List S)
      → f (one ++ after) ≡ f (other ++ after)
  same_from one other e [] = ap f (append-nil one) ∙ e ∙ ap f (sym (append-nil other))
  same_from one other e (line ∷ after) =
      ap f (sym (append_assoc one (line ∷ []) after))
      ∙ same_from (one ++ line ∷ []) (other ++ line ∷ [])
      (grows one line ∙ ap (λ (x : X). next x line) e ∙ sym (grows other line)) after
      ∙ ap f (append_assoc other (line ∷ []) after)

  -- So it is without a line that leaves what stands.
  pub stands_without : (skip : S) → ((x : X) → next x skip ≡ x) → (before after : List S)
      → f (before ++ skip ∷ after) ≡ f (before ++ after)
  stands_without skip idle before after =
      ap f (sym (append_assoc before (skip ∷ []) after))
      ∙ same_from (before ++ skip ∷ []) before (grows before skip ∙ idle (f before)) after

-- WHAT LINES SAY

module _ {S : Type 0} (says : List S → List ℕ → S) (skip : S)
    (alike : (before more : List S) (line : List ℕ)
    → says (before ++ skip ∷ more) line ≡ says (before ++ more) line) where
  -- Lines say the same without one that is skipped among those before.
  saying_behind : (passed more : List S) (lines : List (List ℕ))
      → saying says (passed ++ skip ∷ more) lines ≡ saying says (passed ++ more) lines
  saying_behind passed more [] = refl
  saying_behind passed more (line ∷ lines) =
      let one = says (passed ++ more) line in
      rw (alike passed more line) (ap (λ (said : List S). one ∷ said)
      (same_behind (λ (before : List S). saying says before lines) skip passed more one
      (saying_behind passed (more ++ one ∷ []) lines)))

  -- With a line that is skipped, lines say the same and what is skipped.
  saying_skip : (passed : List S) (before : List (List ℕ)) (line : List ℕ)
      (after : List (List ℕ)) → ((b : List S) → says b line ≡ skip)
      → (one : List S) × (two : List S)
      × (saying says passed (before ++ line ∷ after) ≡ one ++ skip ∷ two)
      × (saying says passed (before ++ after) ≡ one ++ two)
  saying_skip passed [] line after skips = (
    [],
    saying says passed after,
    ap (λ (u : S). u ∷ saying says (passed ++ u ∷ []) after) (skips passed)
        ∙ ap (λ (said : List S). skip ∷ said)
        (saying_behind passed [] after
        ∙ ap (λ (b : List S). saying says b after) (append-nil passed)),
    refl,
  )
  saying_skip passed (first ∷ before) line after skips =
      let one = says passed first in
      let rest = saying_skip (passed ++ one ∷ []) before line after skips in (
        one ∷ rest.0,
        rest.1,
        ap (λ (said : List S). one ∷ said) rest.2,
        ap (λ (said : List S). one ∷ said) rest.3,
      )

-- FIRST FAULTS

-- there is no fault
abbrev is_quiet : Option LineFault → Bool
is_quiet None = true
is_quiet (Some fault) = false

-- A fault, or that of later lines, is there where it is there.
quiet_or : (n m : ℕ) (o : Option Fault) (one other : Option LineFault)
    → is_quiet one ≡ is_quiet other
    → is_quiet (fault_or_later n o one) ≡ is_quiet (fault_or_later m o other)
quiet_or n m o one other e = grind arith

module _ {S : Type 0} (wrong : List S → S → Option Fault) (skip : S)
    (none : (before : List S) → wrong before skip ≡ None)
    (same : (before after : List S) (line : S)
    → wrong (before ++ skip ∷ after) line ≡ wrong (before ++ after) line) where
  -- Whether a later line has a fault is the same without one among those before,
  quiet_behind : (passed more lines : List S)
      → is_quiet (first_fault wrong (passed ++ skip ∷ more) lines)
      ≡ is_quiet (first_fault wrong (passed ++ more) lines)
  quiet_behind passed more [] = refl
  quiet_behind passed more (line ∷ lines) =
      rw (same passed more line) (quiet_or _ _ (wrong (passed ++ more) line) _ _
      (same_behind (λ (before : List S). is_quiet (first_fault wrong before lines)) skip passed more
      line (quiet_behind passed (more ++ line ∷ []) lines)))

  -- and whether one of the lines has one.
  quiet_same : (passed before after : List S)
      → is_quiet (first_fault wrong passed (before ++ skip ∷ after))
      ≡ is_quiet (first_fault wrong passed (before ++ after))
  quiet_same passed [] after =
      rw (none passed) (quiet_behind passed [] after
      ∙ ap (λ (b : List S). is_quiet (first_fault wrong b after)) (append-nil passed))
  quiet_same passed (line ∷ before) after =
      quiet_or _ _ (wrong passed line) _ _ (quiet_same (passed ++ line ∷ []) before after)

-- WHAT LINES COME TO

-- the settings, where there is no fault
abbrev settings_in : {T : Type 0} → Result T LineFault → Option T
settings_in (Err fault) = None
settings_in (Ok settings) = Some settings

-- Settings behind one trial are the same where the trials are.
unless_same : {T : Type 0} (o p : Option LineFault) (r q : Result T LineFault)
    → is_quiet o ≡ is_quiet p → settings_in r ≡ settings_in q
    → settings_in (unless_fault o r) ≡ settings_in (unless_fault p q)
unless_same o p r q h k = grind arith

-- The same settings are said.
settings_to : {T : Type 0} (r q : Result T LineFault) (t : T) → settings_in r ≡ settings_in q
    → r ≡ Ok t → q ≡ Ok t
settings_to r q t h k = grind arith

module _ {S T K : Type 0} (early : List S → S → Option Fault) (whole : List S → Option Fault)
    (key : List S → K) (late : K → List S → S → Option Fault) (made : List S → T) where
  -- what a file's lines come to: the first fault of a line, else that of the whole file, else the
  -- first that is looked for after the last line, else the settings
  abbrev come_to : List S → Result T LineFault
  come_to said =
      unless_fault (first_fault early [] said)
      (unless_fault (whole_fault (whole said))
      (unless_fault (first_fault (late (key said)) [] said) (Ok (made said))))

  -- a line has no fault, and among others it changes nothing
  pub record IsIdle (skip : S) : Type 0 where
    pub none : (before : List S) → early before skip ≡ None
    pub none_late : (k : K) (before : List S) → late k before skip ≡ None
    pub early_same : (before after : List S) (line : S)
        → early (before ++ skip ∷ after) line ≡ early (before ++ after) line
    pub whole_same : (before after : List S)
        → whole (before ++ skip ∷ after) ≡ whole (before ++ after)
    pub key_same : (before after : List S) → key (before ++ skip ∷ after) ≡ key (before ++ after)
    pub late_same : (k : K) (before after : List S) (line : S)
        → late k (before ++ skip ∷ after) line ≡ late k (before ++ after) line
    pub made_same : (before after : List S)
        → made (before ++ skip ∷ after) ≡ made (before ++ after)

  module _ (skip : S) (idle : IsIdle skip) where
    -- So what lines come to has the same settings without it,
    settings_same : (before after : List S)
        → settings_in (come_to (before ++ skip ∷ after)) ≡ settings_in (come_to (before ++ after))
    settings_same before after =
        let all = before ++ skip ∷ after in
        let others = before ++ after in
        unless_same _ _ _ _ (quiet_same early skip idle.none idle.early_same [] before after)
        (unless_same _ _ _ _
        (ap (λ (o : Option Fault). is_quiet (whole_fault o)) (idle.whole_same before after))
        (unless_same _ _ _ _
        (ap (λ (k : K). is_quiet (first_fault (late k) [] all)) (idle.key_same before after)
        ∙ quiet_same (late (key others)) skip (idle.none_late (key others))
        (idle.late_same (key others)) [] before after)
        (ap (λ (t : T). Some t) (idle.made_same before after))))

    -- where a line says it.
    pub come_without : (says : List S → List ℕ → S)
        → ((before more : List S) (line : List ℕ)
        → says (before ++ skip ∷ more) line ≡ says (before ++ more) line)
        → (before after : List (List ℕ)) (line : List ℕ) (settings : T)
        → ((b : List S) → says b line ≡ skip)
        → (come_to (saying says [] (before ++ line ∷ after)) ≡ Ok settings)
        ↔ (come_to (saying says [] (before ++ after)) ≡ Ok settings)
    come_without says alike before after line settings skips =
        let at = saying_skip says skip alike [] before line after skips in
        let to : List S → Option T = λ said. settings_in (come_to said) in
        let same = ap to at.2 ∙ settings_same at.0 at.1 ∙ sym (ap to at.3) in
        (settings_to _ _ settings same, settings_to _ _ settings (sym same))

    -- So lines have the same settings without such a line.
    pub settings_without : (Says : List S → List ℕ → S → Type 0)
        (each : (before : List S) (line : List ℕ) → IsOne (Says before line))
        → ((before more : List S) (line : List ℕ)
        → say Says each (before ++ skip ∷ more) line ≡ say Says each (before ++ more) line)
        → (before after : List (List ℕ)) (line : List ℕ) (settings : T)
        → ((b : List S) → Says b line skip)
        → SayTogether Says come_to (before ++ line ∷ after) (Ok settings)
        ↔ SayTogether Says come_to (before ++ after) (Ok settings)
    settings_without Says each alike before after line settings skips =
        let both = come_without (say Says each) alike before after line settings
        (λ b. sym ((each b line).only skip (skips b))) in (
          λ h. answers Says each come_to (before ++ after) (Ok settings)
              (both.0 (answered Says each come_to (before ++ line ∷ after) (Ok settings) h)),
          λ h. answers Says each come_to (before ++ line ∷ after) (Ok settings)
              (both.1 (answered Says each come_to (before ++ after) (Ok settings) h)),
        )
