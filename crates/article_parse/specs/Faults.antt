-- What is wrong with the fields of an article, as tests in the order of trial.
use Rattle.std.specs.Prelude.{◌≡◌, ℕ, ◌==◌, nat_le, Bool, false, not, List, [], ◌∷◌, ◌++◌, length}
use Rattle.std.specs.Prelude.{Option, None, Some, is_some, Result, Ok, Err, if◌then◌else◌}
use Rattle.std.specs.List.{list_all, list_any}
use Rattle.news_terms.specs.MessageId.{id_fault}
use Rattle.news_terms.specs.Article.{Field, Fault, contents_of, name_of, is_empty, trimmed}
use Rattle.news_terms.specs.Article.{message_id}
use Rattle.news_terms.specs.Article.{is_newsgroup_name, newsgroups, IsFirstFault}
use Rattle.news_terms.specs.Article as terms
use Rattle.article_parse.specs.declared.faults.FieldName.{FieldName}
use Rattle.article_parse.specs.declared.faults.FieldName.TheVariants as names
use Rattle.article_parse.specs.declared.faults.ArtError.{ArtError}
use Rattle.article_parse.specs.declared.faults.ArtError.TheVariants as errors

-- the field names, as the definitions have them
abbrev pub name_view : FieldName → terms.FieldName
name_view names.Date = terms.Date
name_view names.From = terms.From
name_view names.MessageId = terms.MessageId
name_view names.Newsgroups = terms.Newsgroups
name_view names.Path = terms.Path
name_view names.Subject = terms.Subject
name_view names.InjectionDate = terms.InjectionDate

-- the fields have this fault
abbrev pub is_wrong : List Field → Fault → Bool
is_wrong fields terms.Nul = false
is_wrong fields terms.BareCrLf = false
is_wrong fields terms.NoBlankLine = false
is_wrong fields terms.BadHeader = false
is_wrong fields (terms.Missing name) = length (contents_of (name_of name) fields) == 0
is_wrong fields (terms.Twice name) = nat_le 2 (length (contents_of (name_of name) fields))
is_wrong fields (terms.EmptyField name) =
    list_any (λ c. is_empty (trimmed c)) (contents_of (name_of name) fields)
is_wrong fields terms.BadId = is_some (id_fault (message_id fields))
is_wrong fields terms.BadGroups = not (list_all is_newsgroup_name (newsgroups fields))

-- the first of some faults that a test finds
abbrev pub first_that : (Fault → Bool) → List Fault → Option Fault
first_that test [] = None
first_that test (fault ∷ more) = if test fault then Some fault else first_that test more

-- the faults of a mandatory field, in the order of trial
abbrev pub faults_of : terms.FieldName → List Fault
faults_of name = terms.Missing name ∷ terms.Twice name ∷ terms.EmptyField name ∷ []

-- the faults of a field that may be missing, in the order of trial
abbrev pub optional_faults_of : terms.FieldName → List Fault
optional_faults_of name = terms.Twice name ∷ terms.EmptyField name ∷ []

-- the faults of fields by their names, in the order of trial
abbrev pub named_faults : List Fault
named_faults =
    faults_of terms.Date ++ (faults_of terms.From ++ (faults_of terms.MessageId
    ++ (faults_of terms.Newsgroups ++ (faults_of terms.Path ++ (faults_of terms.Subject
    ++ optional_faults_of terms.InjectionDate)))))

-- the faults of fields, in the order of trial
abbrev pub field_faults : List Fault
field_faults = named_faults ++ (terms.BadId ∷ terms.BadGroups ∷ [])

-- the error is this fault, unless memory ran out
abbrev pub ErrorGives : ArtError → Option Fault → Type 0
ErrorGives errors.Memory fault = Unit {0}
ErrorGives errors.NoBlankLine fault = fault ≡ Some terms.NoBlankLine
ErrorGives errors.BadHeader fault = fault ≡ Some terms.BadHeader
ErrorGives errors.BareCrLf fault = fault ≡ Some terms.BareCrLf
ErrorGives errors.Nul fault = fault ≡ Some terms.Nul
ErrorGives (errors.Missing name) fault = fault ≡ Some (terms.Missing (name_view name))
ErrorGives (errors.Twice name) fault = fault ≡ Some (terms.Twice (name_view name))
ErrorGives (errors.EmptyField name) fault = fault ≡ Some (terms.EmptyField (name_view name))
ErrorGives errors.BadId fault = fault ≡ Some terms.BadId
ErrorGives errors.BadGroups fault = fault ≡ Some terms.BadGroups

-- the answer is the fault, or that there is none, unless memory ran out
abbrev pub FaultGives : {X : Type 0} → Result X ArtError → Option Fault → Type 0
FaultGives (Ok _) fault = fault ≡ None
FaultGives (Err error) fault = ErrorGives error fault

-- the error is the first fault of the text, unless memory ran out
abbrev pub IsFaultOf : List ℕ → ArtError → Type 0
IsFaultOf text errors.Memory = Unit {0}
IsFaultOf text errors.NoBlankLine = IsFirstFault text terms.NoBlankLine
IsFaultOf text errors.BadHeader = IsFirstFault text terms.BadHeader
IsFaultOf text errors.BareCrLf = IsFirstFault text terms.BareCrLf
IsFaultOf text errors.Nul = IsFirstFault text terms.Nul
IsFaultOf text (errors.Missing name) = IsFirstFault text (terms.Missing (name_view name))
IsFaultOf text (errors.Twice name) = IsFirstFault text (terms.Twice (name_view name))
IsFaultOf text (errors.EmptyField name) = IsFirstFault text (terms.EmptyField (name_view name))
IsFaultOf text errors.BadId = IsFirstFault text terms.BadId
IsFaultOf text errors.BadGroups = IsFirstFault text terms.BadGroups
