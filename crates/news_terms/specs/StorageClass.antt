-- Storage classes: which entry of storage.conf an article falls to.
use Rattle.std.specs.Prelude.{ℕ, Bool, true, not, ◌&&◌, ◌||◌, List, Option, Some, None, find}
use Rattle.std.specs.Prelude.{nat_le}
use Rattle.std.specs.List.{list_all}
use Rattle.news_terms.specs.Pattern.{Marked, verdict, is_match, permits}

-- an entry of storage.conf: the sizes that it takes, no upper limit being None, the groups, whether
-- each group has to match, and the class and the group of buffers that it gives (docs/FORMATS.md,
-- Configuration)
pub record Entry : Type 0 where
  pub smallest : ℕ
  pub largest : Option ℕ
  pub newsgroups : List Marked
  pub exactmatch : Bool
  pub class : ℕ
  pub group : ℕ

-- a size is within a limit, where there is one (docs/FORMATS.md, Configuration)
abbrev pub is_at_most : Option ℕ → ℕ → Bool
is_at_most None size = true
is_at_most (Some limit) size = nat_le size limit

-- the entry takes this size, both ends included (docs/FORMATS.md, Configuration)
abbrev pub takes_size : Entry → (size : ℕ) → Bool
takes_size entry size = nat_le entry.smallest size && is_at_most entry.largest size

-- at least one group is Match and none Poison, and with exactmatch every group is Match
-- (docs/FORMATS.md, Configuration)
abbrev pub takes_groups : Entry → (groups : List (List ℕ)) → Bool
takes_groups entry groups =
    permits entry.newsgroups groups
    && (not entry.exactmatch || list_all (λ name. is_match (verdict entry.newsgroups name)) groups)

-- the entry's conditions hold (docs/FORMATS.md, Configuration)
abbrev pub takes : Entry → (groups : List (List ℕ)) → (size : ℕ) → Bool
takes entry groups size = takes_size entry size && takes_groups entry groups

-- the first entry whose conditions hold (docs/FORMATS.md, Configuration)
abbrev pub chosen_entry : List Entry → (groups : List (List ℕ)) → (size : ℕ) → Option Entry
chosen_entry entries groups size = find (λ entry. takes entry groups size) entries
