-- Commands that are built word by word, and what clap answers of them.
use Rattle.std.proofs.Common.{◌≡◌, ◌∙◌, ap, ap₂, false, true, Bool, Option, List, [], ℕ}
use Rattle.std.proofs.Common.{◌+◌, ◌<◌, Some, drop, get_or, length, map, refl, sym, subst}
use Rattle.std.proofs.Common.{Err, IfOk, Ok, Result}
use Rattle.std.specs.declared.alloc.AllocError.{AllocError}
use Rattle.std.proofs.lemmas.List.{at_drop_more}
use Rattle.std.specs.Prelude.{◌||◌}
use denote.Ref.{Bor}
use Rattle.clap.specs.Simple.{app_of_fields}
use Rattle.clap.specs.Words.{AddsArg, AddsSubcommand, App, Rule, rule_of, with_rule}
use Rattle.clap.specs.Words.{with_subcommand, HasKind, Row, Text, fault_of, is_simple}
use Rattle.clap.specs.Words.{is_simple_and_free, new_rule, subcommand_of}
use Rattle.clap.specs.declared.builder.Arg.{Arg}
use Rattle.clap.specs.declared.builder.ArgAction.TheVariants.{Set}
use Rattle.clap.specs.declared.builder.Command.{Command}
use Rattle.clap.specs.declared.error.Error.{Error}
use Rattle.clap.specs.declared.builder.Command.TheViews.{out-Command as fields_of}
use Rattle.relay_command.specs.CommandLine.{Asked, IsAskedBy, IsRefusedBy}
use Rattle.relay_command.specs.CommandLine.{Reads, asked_by, program_words}
use Rattle.relay_command.specs.Questions.{optional}
use Rattle.relay_command.specs.WordTable.{app_of_words, rule_of_word, with_commands, with_rules}
use Rattle.relay_command.specs.declared.words.Word.{Word}
use Rattle.relay_command.specs.declared.words.Words.{Words}

-- A command with one more word reads that too.
pub with_word : (old new : Command) (a : Arg) (app : App) (rule : Rule) → Reads old app
    → a.global ≡ false → rule_of a ≡ rule → AddsArg old a new → Reads new (with_rule app rule)
with_word old new a app rule before own same adds = record {
  words = adds.shape own ∙ ap₂ with_rule before.words same;
  own = adds.globals ∙ ap₂ (λ (x y : Bool). x || y) before.own own;
}

-- A command with one more below it reads that too, where memory is had for it.
pub with_subcommand_reads : (old sub : Command) (result : Result Command AllocError)
    (app below : App) → Reads old app → Reads sub below → IfOk result (AddsSubcommand old sub)
    → IfOk result (λ new. Reads new (with_subcommand app below.top))
with_subcommand_reads old sub (Err error) app below before under adds = tt
with_subcommand_reads old sub (Ok new) app below before under adds = record {
  words = adds.shape under.own ∙ ap₂ with_subcommand before.words
      (ap (λ (a : App). a.top) under.words);
  own = adds.globals ∙ ap₂ (λ (x y : Bool). x || y) before.own under.own;
}

-- An argument that is set, whatever is told of it, is read as a word that may be left out.
pub text_rule : (new told set : Arg) (name : Text) (help : Option (Bor (List ℕ)))
    → rule_of new ≡ new_rule name → told ≡ record new { help = help }
    → set ≡ record told { action = Some Set } → rule_of set ≡ optional name
text_rule new told set name help named helped made =
    let acts : Rule → Rule = λ r. record r { action = Some Set } in
    ap rule_of made ∙ ap (λ (a : Arg). acts (rule_of a)) helped ∙ ap acts named

-- What is told of a command changes nothing of what it reads.
pub told_reads : (old new : Command) (app : App) (told : Option (Bor (List ℕ))) → Reads old app
    → fields_of new ≡ record (fields_of old) { about = told } → Reads new app
told_reads old new app told before made = record {
  words = ap app_of_fields made ∙ before.words;
  own = rw made before.own;
}

-- One that has a version reads the word for that too.
pub version_reads : (old new : Command) (app : App) (version : Bor (List ℕ)) → Reads old app
    → fields_of new ≡ record (fields_of old) { version = Some version }
    → Reads new (record app { top = record app.top { has_version = true } })
version_reads old new app version before made = record {
  words = ap app_of_fields made
      ∙ ap (λ (a : App). record a { top = record a.top { has_version = true } }) before.words;
  own = rw made before.own;
}

-- One more word of a command.
pub word_next : (words : List Word) (at : ℕ) (word : Word) (app : App) → at < length words
    → with_rules app (map rule_of_word (drop at words))
    ≡ with_rules (with_rule app (rule_of_word (get_or words at word)))
    (map rule_of_word (drop (at + 1) words))
word_next words at word app h =
    at_drop_more (λ left. with_rules app (map rule_of_word left)) words at word h

-- One more command.
pub command_next : (below : List Words) (at : ℕ) (words : Words) (app : App) → at < length below
    → with_commands app (map app_of_words (drop at below))
    ≡ with_commands (with_subcommand app (app_of_words (get_or below at words)).top)
    (map app_of_words (drop (at + 1) below))
command_next below at words app h =
    at_drop_more (λ left. with_commands app (map app_of_words left)) below at words h

-- The program's words are of the plain kind of which clap states all.
words_are_plain : is_simple_and_free program_words ≡ true
words_are_plain = refl

-- What clap refuses of a command with the program's words is refused by their definition.
pub refuses : (app : App) (words : List Text) (error : Error) → app ≡ program_words
    → (is_simple_and_free app ≡ true → HasKind (fault_of app words) error)
    → IsRefusedBy words error
refuses app words error same kinds =
    subst (λ (a : App). HasKind (fault_of a words) error) same
    (kinds (ap is_simple_and_free same ∙ words_are_plain))

-- What clap reads of a command with the program's words is what they ask for by their definition.
pub asks : (app : App) (words : List Text) (a : Asked) → app ≡ program_words
    → (is_simple_and_free app ≡ true → fault_of app words ≡ [])
    → (met : Option (Text × List Row)) → (is_simple app ≡ true → met ≡ subcommand_of app words)
    → a ≡ asked_by met → IsAskedBy words a
asks app words a same faultless met named read =
    let simple : is_simple program_words ≡ true = refl in
    let plain = ap is_simple_and_free same ∙ words_are_plain in
    let asked : asked_by (subcommand_of app words) ≡ a =
    sym (read ∙ ap asked_by (named (ap is_simple same ∙ simple))) in
    record {
      taken = ap (λ (a : App). fault_of a words) (sym same) ∙ faultless plain;
      read = ap (λ (a : App). asked_by (subcommand_of a words)) (sym same) ∙ asked;
    }
