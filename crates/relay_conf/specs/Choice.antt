-- The choice of a class, as the program's values show it.
use Rattle.std.specs.Prelude.{ℕ, Bool, not, ◌&&◌, ◌||◌, List}
use Rattle.std.specs.List.{list_all, list_any}
use Rattle.std.specs.Borrow.{Bor}
use Rattle.news_terms.specs.Pattern.{verdict, is_match, is_poison}
use Rattle.news_terms.specs.StorageClass.{Entry}

-- the class and the group of buffers that an entry gives
abbrev pub given : Entry → ℕ × ℕ
given entry = (entry.class, entry.group)

-- the octets of a newsgroup name
abbrev pub octets_of : Bor (List ℕ) → List ℕ
octets_of name = name.now

-- whether the entry takes the groups, where one that was judged is Match or none is yet, and these
-- are left
abbrev pub takes_rest : Entry → (has_match : Bool) → (rest : List (List ℕ)) → Bool
takes_rest entry has_match rest =
    ((has_match || list_any (λ name. is_match (verdict entry.newsgroups name)) rest)
    && not (list_any (λ name. is_poison (verdict entry.newsgroups name)) rest))
    && (not entry.exactmatch
    || list_all (λ name. is_match (verdict entry.newsgroups name)) rest)
