-- cycbuff.conf line by line: the buffers, the names of groups and the groups so far.
use Rattle.std.proofs.Common.{◌≡◌, ◌≢◌, ℕ, List, [], ◌∷◌, ◌++◌, length, map, Option, Result, Ok}
use Rattle.std.proofs.Common.{Err, refl, ap, ◌∙◌, sym, arith}
use Rattle.std.specs.Prelude.{IsErrAnd, OnOk}
use Rattle.std.specs.Option.{option_to_list}
use Rattle.relay_conf.specs.declared.cycbuff.BufferConf.{BufferConf}
use Rattle.relay_conf.specs.declared.cycbuff.BufferDraft.{BufferDraft}
use Rattle.relay_conf.specs.declared.cycbuff.GroupDraft.{GroupDraft}
use Rattle.relay_conf.specs.declared.faults.Fault.{Fault}
use Rattle.relay_conf.specs.declared.faults.Fault.TheVariants.{NoBuffers}
use Rattle.relay_conf.specs.declared.faults.LineFault.{LineFault}
use Rattle.relay_conf.specs.declared.faults.ConfError.{ConfError}
use Rattle.relay_conf.specs.declared.faults.ConfError.TheVariants as errors
use Rattle.relay_conf.specs.declared.faults.Refusal.{Refusal}
use Rattle.relay_conf.specs.declared.settings.Buffers.{Buffers}
use Rattle.relay_conf.specs.declared.faults.Refusal.TheVariants.{Memory, Faulty}
use Rattle.relay_conf.specs.Cycbuff.{CycbuffLine, CycbuffSettings, Group, cycbuff_line, early_fault}
use Rattle.relay_conf.specs.Cycbuff.{late_fault, line_fault, listed_fault, buffers_of, buffer_of}
use Rattle.relay_conf.specs.Cycbuff.{group_names, group_name_of, groups_of, group_of}
use Rattle.relay_conf.specs.Cycbuff.{no_group_fault, buffers_said, groups_said, cycbuff_said}
use Rattle.relay_conf.specs.Cycbuff.{cycbuff_of}
use Rattle.relay_conf.specs.CycbuffDraft.{LineSays, HasBuffers, HasGroups}
use Rattle.relay_conf.specs.Drafts.{StepGives, IsDrawnFrom, DraftGives}
use Rattle.relay_conf.specs.Faults.{first_fault, whole_fault, unless_fault, ConfGives, LineGives}
use Rattle.relay_conf.specs.LineByLine.{SayEach}
use Rattle.relay_conf.specs.Places.{group_view}
use Rattle.relay_conf.specs.Settings.{buffers_view}
use Rattle.relay_conf.proofs.FirstFaults.{filter_one}
use Rattle.relay_conf.proofs.OneReading.{IsOne, early_first, said_is, say, saying}

-- WHAT LINES SAY

-- A line says one thing, whatever stands before it.
abbrev pub alone : (before : List (Result CycbuffLine Fault)) (line : List ℕ)
    → IsOne (LineSays before line)
alone before line = record { one = cycbuff_line line; is = refl; only = λ other h. h }

-- Lines say what each of them says alone.
pub saying_alone : (before : List (Result CycbuffLine Fault)) (lines : List (List ℕ))
    → saying (say LineSays alone) before lines ≡ map cycbuff_line lines
saying_alone before [] = refl
saying_alone before (line ∷ lines) =
    ap (λ (said : List (Result CycbuffLine Fault)). cycbuff_line line ∷ said)
    (saying_alone (before ++ cycbuff_line line ∷ []) lines)

said_alone : (lines : List (List ℕ)) (said : List (Result CycbuffLine Fault))
    → SayEach LineSays [] lines said → said ≡ map cycbuff_line lines
said_alone lines said h = said_is LineSays alone [] lines said h ∙ saying_alone [] lines

-- An error of a draft is that of what the lines say with what follows.
pub draft_error : {T S D : Type 0} (view : T → S)
    (wrong : List (Result CycbuffLine Fault) → Result CycbuffLine Fault → Option Fault)
    (Draws : List (Result CycbuffLine Fault) → D → Type 0) (lines : List (List ℕ))
    (error : ConfError) (result : Result T ConfError) (after : Result S LineFault)
    → IsErrAnd result (λ e. e ≡ error) → DraftGives LineSays wrong Draws lines (Err error)
    → ConfGives view result (unless_fault (first_fault wrong [] (map cycbuff_line lines)) after)
draft_error view wrong Draws lines error (Ok settings) after is gives = absurd is
draft_error view wrong Draws lines error (Err errors.Memory) after is gives = tt
draft_error view wrong Draws lines error (Err (errors.Faulty fault)) after is gives =
    ap (λ (first : Option LineFault). unless_fault first after)
    (ap (first_fault wrong []) (sym (saying_alone [] lines))
    ∙ early_first LineSays alone wrong lines fault
    (rw (← is) at gives))

-- THE BUFFERS AND THE NAMES OF GROUPS

-- One line more, by whether it has a fault.
pub buffers_step : (line : List ℕ) (d after : BufferDraft) (result : Result (Unit {0}) Refusal)
    → LineGives result (line_fault d.buffers.items d.names.items (cycbuff_line line))
    → OnOk result (after.buffers.items
    ≡ d.buffers.items ++ option_to_list (buffer_of (cycbuff_line line)))
    → OnOk result (after.names.items
    ≡ d.names.items ++ option_to_list (group_name_of (cycbuff_line line)))
    → (said : List (Result CycbuffLine Fault)) → HasBuffers said d
    → StepGives LineSays early_fault HasBuffers said line after result
buffers_step line d after (Ok done) gives more names said has =
    record {
      one = cycbuff_line line;
      says = refl;
      none = rw (← has.buffers, ← has.names) gives;
      draws = record {
        buffers = rw (filter_one buffer_of said (cycbuff_line line), ← has.buffers) more;
        names = rw (filter_one group_name_of said (cycbuff_line line), ← has.names) names;
      };
    }
buffers_step line d after (Err Memory) gives more names said has = tt
buffers_step line d after (Err (Faulty fault)) gives more names said has =
    record {
      one = cycbuff_line line;
      says = refl;
      found = rw (← has.buffers, ← has.names) gives;
    }

-- At the end the names decide: without one there is a fault of the whole file.
pub names_decide : (lines : List (List ℕ)) (d : BufferDraft)
    → IsDrawnFrom LineSays early_fault HasBuffers lines d
    → (length d.names.items ≡ 0 → buffers_said (map cycbuff_line lines)
    ≡ Err (record { line = 0; fault = NoBuffers }))
    × (length d.names.items ≢ 0 → buffers_said (map cycbuff_line lines) ≡ Ok d.buffers.items)
names_decide lines d from =
    rw (← said_alone lines from.said from.says) (by_names d.names.items from.draws.names)
  where
    by_names : (ns : List (List ℕ)) → ns ≡ group_names from.said
        → (length ns ≡ 0 → buffers_said from.said ≡ Err (record { line = 0; fault = NoBuffers }))
        × (length ns ≢ 0 → buffers_said from.said ≡ Ok d.buffers.items)
    by_names [] e = (λ n. rw (from.none, ← e) refl, λ n. absurd (n refl))
    by_names (name ∷ more) e =
        (λ n. absurd (omega (arith, n)), λ n. rw (from.none, ← e, from.draws.buffers) refl)

-- THE GROUPS

-- One line more, by whether it has a fault.
pub groups_step : (line : List ℕ) (d after : GroupDraft) (result : Result (Unit {0}) Refusal)
    → (known : List BufferConf)
    → LineGives result (listed_fault known (map group_view d.groups.items) (cycbuff_line line))
    → OnOk result (map group_view after.groups.items
    ≡ map group_view d.groups.items ++ option_to_list (group_of known (cycbuff_line line)))
    → (said : List (Result CycbuffLine Fault)) → HasGroups known said d
    → StepGives LineSays (late_fault known) (HasGroups known) said line after result
groups_step line d after (Ok done) known gives more said has =
    record {
      one = cycbuff_line line;
      says = refl;
      none = rw (← has.groups) gives;
      draws = record {
        groups = rw (filter_one (group_of known) said (cycbuff_line line), ← has.groups) more;
      };
    }
groups_step line d after (Err Memory) known gives more said has = tt
groups_step line d after (Err (Faulty fault)) known gives more said has =
    record { one = cycbuff_line line; says = refl; found = rw (← has.groups) gives }

-- At the end the groups are those of all lines.
pub groups_done : (known : List BufferConf) (lines : List (List ℕ)) (d : GroupDraft)
    → IsDrawnFrom LineSays (late_fault known) (HasGroups known) lines d
    → groups_said known (map cycbuff_line lines) ≡ Ok (map group_view d.groups.items)
groups_done known lines d from =
    let all = said_alone lines from.said from.says in
    rw (← all, from.none) (ap Ok (sym from.draws.groups))

-- THE FILE

-- what follows what is said, or its fault
abbrev and_then : {S T : Type 0} → Result S LineFault → (S → Result T LineFault)
    → Result T LineFault
and_then (Err fault) next = Err fault
and_then (Ok said) next = next said

-- What follows a trial follows what is behind it.
unless_then : {S T : Type 0} (fault : Option LineFault) (said : Result S LineFault)
    (next : S → Result T LineFault)
    → and_then (unless_fault fault said) next ≡ unless_fault fault (and_then said next)
unless_then fault said next = grind arith

-- settings of these buffers and groups
abbrev with_groups : List BufferConf → List Group → Result CycbuffSettings LineFault
with_groups buffers groups = Ok (record { buffers = buffers; groups = groups })

-- what lines say, with these buffers
abbrev with_buffers : List (Result CycbuffLine Fault) → List BufferConf
    → Result CycbuffSettings LineFault
with_buffers said buffers = and_then (groups_said buffers said) (with_groups buffers)

-- The groups follow the buffers.
groups_follow : (said : List (Result CycbuffLine Fault))
    → cycbuff_said said ≡ and_then (buffers_said said) (with_buffers said)
groups_follow said = sym (unless_then (first_fault early_fault [] said) _ _
    ∙ ap (unless_fault (first_fault early_fault [] said))
    (unless_then (whole_fault (no_group_fault (group_names said))) (Ok (buffers_of said)) _
    ∙ ap (unless_fault (whole_fault (no_group_fault (group_names said))))
    (unless_then (first_fault (late_fault (buffers_of said)) [] said)
    (Ok (groups_of (buffers_of said) said)) _)))

module _ (lines : List (List ℕ)) where
  -- A fault of the buffers is that of the file.
  pub buffers_fault : {T : Type 0} (view : T → List BufferConf) (result : Result Buffers ConfError)
      (error : ConfError) → IsErrAnd result (λ e. e ≡ error)
      → ConfGives view (Err error) (buffers_said (map cycbuff_line lines))
      → ConfGives buffers_view result (cycbuff_of lines)
  buffers_fault view (Ok settings) error is gives = absurd is
  buffers_fault view (Err errors.Memory) error is gives = tt
  buffers_fault view (Err (errors.Faulty fault)) error is gives =
      let found : buffers_said (map cycbuff_line lines) ≡ Err fault = rw (← is) at gives in
      groups_follow (map cycbuff_line lines)
      ∙ ap (λ (said : Result (List BufferConf) LineFault).
      and_then said (with_buffers (map cycbuff_line lines))) found

  module _ (buffers : List BufferConf) (said : buffers_said (map cycbuff_line lines) ≡ Ok buffers)
    where
      -- Where they have none, the groups decide.
      groups_decide : cycbuff_of lines
          ≡ and_then (groups_said buffers (map cycbuff_line lines)) (with_groups buffers)
      groups_decide =
          groups_follow (map cycbuff_line lines)
          ∙ ap (λ (said : Result (List BufferConf) LineFault).
          and_then said (with_buffers (map cycbuff_line lines))) said

      -- A fault of the groups is that of the file,
      pub groups_fault : {T : Type 0} (view : T → List Group) (result : Result Buffers ConfError)
          (error : ConfError) → IsErrAnd result (λ e. e ≡ error)
          → ConfGives view (Err error) (groups_said buffers (map cycbuff_line lines))
          → ConfGives buffers_view result (cycbuff_of lines)
      groups_fault view (Ok settings) error is gives = absurd is
      groups_fault view (Err errors.Memory) error is gives = tt
      groups_fault view (Err (errors.Faulty fault)) error is gives =
          let found : groups_said buffers (map cycbuff_line lines) ≡ Err fault =
          rw (← is) at gives in
          groups_decide
          ∙ ap (λ (said : Result (List Group) LineFault). and_then said (with_groups buffers)) found

      -- and without one there are settings.
      pub cycbuff_done : (groups : List Group)
          → groups_said buffers (map cycbuff_line lines) ≡ Ok groups
          → cycbuff_of lines ≡ Ok (record { buffers = buffers; groups = groups })
      cycbuff_done groups says =
          groups_decide
          ∙ ap (λ (said : Result (List Group) LineFault). and_then said (with_groups buffers)) says
