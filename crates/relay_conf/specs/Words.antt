-- Words of configuration files: what stands between spaces, names and identities.
use Rattle.std.specs.Prelude.{ℕ, ◌==◌, ◌&&◌, ◌||◌, not, nat_eq, nat_le, Bool, List, length, codes}
use Rattle.std.specs.List.{list_all, starts_with}
use Rattle.std.specs.Char.{is_ascii_alphanumeric}
use Rattle.std.specs.Str.{byte}
use Rattle.news_terms.specs.Article.{is_empty}
use Rattle.news_terms.specs.Lines.{words_between}
use Rattle.line_words.specs.Words.{is_space}

-- the words of a line of relay.conf: what stands between spaces, and at either end
-- (docs/FORMATS.md, Configuration)
abbrev pub words : List ℕ → List (List ℕ)
words line = words_between is_space line

-- an octet of a name: an ASCII letter or digit, `-`, `_` or `.` (docs/FORMATS.md, Configuration)
abbrev pub is_name_octet : ℕ → Bool
is_name_octet c = is_ascii_alphanumeric c || c == byte "-" || c == byte "_" || c == byte "."

-- a name: 1 to 16 of its octets (docs/FORMATS.md, Configuration)
abbrev pub is_name : List ℕ → Bool
is_name word =
    not (is_empty word) && nat_le (length word) 16 && list_all is_name_octet word

-- an identity: 1 to 64 octets of names, the first no dot (docs/FORMATS.md, Configuration)
abbrev pub is_identity : List ℕ → Bool
is_identity word =
    not (is_empty word) && nat_le (length word) 64 && list_all is_name_octet word
    && not (starts_with nat_eq word (codes "."))
