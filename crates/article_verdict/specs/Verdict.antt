-- Verdicts on articles, as the program's values show them (docs/PROTOCOL.md, Judging).
use Rattle.std.specs.Prelude.{ℕ, List, codes, length, map, not, is_some}
use Rattle.std.specs.Prelude.{Option, None, Some, Result, Ok, Err}
use Rattle.std.specs.Prelude.{if◌then◌else◌}
use Rattle.std.specs.List.{list_all}
use Rattle.std.specs.Char.{is_ascii_graphic}
use Rattle.buffer_group.specs.Jobs.{article_view}
use Rattle.buffer_group.specs.declared.job.Accepted.{Accepted}
use Rattle.news_terms.specs.Article.{Article, newsgroups}
use Rattle.news_terms.specs.Dates.{date_fault}
use Rattle.news_terms.specs.Path.{has_identity, path_octets}
use Rattle.news_terms.specs.StorageClass.{Entry, chosen_entry}
use Rattle.relay_conf.specs.Storage.{entry_view}
use Rattle.relay_conf.specs.declared.settings.Config.{Config}
use Rattle.relay_model.specs.Claims as claims
use Rattle.relay_model.specs.Judging.{classed, permitted, second_of, stored_text}
use Rattle.relay_model.specs.Terms.{Terms}
use Rattle.relay_model.specs.Terms as terms
use Rattle.article_verdict.specs.declared.reasons.Reason.{Reason}
use Rattle.article_verdict.specs.declared.reasons.Reason.TheVariants as reasons

-- a reason as the definitions have it
abbrev pub reason_view : Reason → terms.Reason
reason_view reasons.Size = terms.Size
reason_view reasons.Grammar = terms.Grammar
reason_view reasons.IdMismatch = terms.IdMismatch
reason_view reasons.BadPath = terms.BadPath
reason_view reasons.Loop = terms.Loop
reason_view reasons.Date = terms.Date
reason_view reasons.NoClass = terms.NoClass
reason_view reasons.TooLarge = terms.TooLarge

-- the name of a reason, as it is told
abbrev pub reason_name : terms.Reason → List ℕ
reason_name terms.Size = codes "Size"
reason_name terms.Grammar = codes "Grammar"
reason_name terms.IdMismatch = codes "IdMismatch"
reason_name terms.BadPath = codes "BadPath"
reason_name terms.Loop = codes "Loop"
reason_name terms.Date = codes "Date"
reason_name terms.NoClass = codes "NoClass"
reason_name terms.TooLarge = codes "TooLarge"

-- a verdict as the definitions have it
abbrev pub verdict_view : Result Accepted Reason → Result claims.Accepted terms.Reason
verdict_view (Ok accepted) = Ok (article_view accepted)
verdict_view (Err reason) = Err (reason_view reason)

-- PARTS OF THE JUDGEMENT. No public contract cites them.

-- the reason that a Path gives, if any, in the order of trial
abbrev pub path_reason : (own path : List ℕ) → Option terms.Reason
path_reason own path =
    if not (list_all is_ascii_graphic (path_octets path)) then Some terms.BadPath
    else (if has_identity own path then Some terms.Loop else None)

-- the entry of a configuration that an article of so many octets falls to
abbrev pub chosen_for : Config → Article → (octets : ℕ) → Option Entry
chosen_for config a octets =
    chosen_entry (map entry_view config.storage_entries.items) (newsgroups a.fields) octets

-- the entry that an article falls to, by its newsgroups and the octets of the updated text
abbrev pub class_of : Terms → (from : ℕ) → Article → Option Entry
class_of w from a =
    chosen_entry w.entries (newsgroups a.fields) (length (stored_text w from a))

-- the verdict on an article that none of the reasons before its date applies to
abbrev pub judged_by_date : Terms → (from now : ℕ) → Article → Result claims.Accepted terms.Reason
judged_by_date w from now a =
    if is_some (date_fault now w.cutoff (second_of w a)) then Err terms.Date
    else classed w from a (class_of w from a)

-- what is stored of an article in a class and a group
abbrev pub stored_as : Terms → (from : ℕ) → Article → (class group : ℕ) → claims.Accepted
stored_as w from a class group =
    record {
      class = class;
      group = group;
      permitted = permitted w from a;
      text = stored_text w from a;
    }
