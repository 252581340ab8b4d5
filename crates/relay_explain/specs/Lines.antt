-- Where the files of a configuration say what they say (docs/FORMATS.md, Configuration), and the
-- lines that are told of it (docs/PROTOCOL.md, `explain`).
use Rattle.std.specs.Prelude.{ℕ, ◌+◌, ◌&&◌, Bool, false, List, [], ◌∷◌, ◌++◌, codes, decimal}
use Rattle.std.specs.Prelude.{bytes_eq, fold, slice_get, unwrap_or, Option, Some, None}
use Rattle.std.specs.Prelude.{if◌then◌else◌}
use Rattle.std.specs.List.{position_or_len}
use Rattle.line_words.specs.Parts.{parts}
use Rattle.line_words.specs.Words.{words}
use Rattle.line_words.specs.declared.words.Between.TheVariants.{Spaces}
use Rattle.news_terms.specs.Article.{without_outer_white}

-- WHERE SOMETHING IS SAID

-- the octet between the parts of a line of cycbuff.conf, and behind a key of storage.conf
abbrev pub colon : ℕ
colon = 58

-- the first word is this key, and a second one follows it that is this name
abbrev pub begins_with : (key name : List ℕ) → (words : List (List ℕ)) → Bool
begins_with key name [] = false
begins_with key name (first ∷ []) = false
begins_with key name (first ∷ second ∷ more) = bytes_eq key first && bytes_eq name second

-- the first word is this key
abbrev pub begins : (key : List ℕ) → (words : List (List ℕ)) → Bool
begins key [] = false
begins key (first ∷ more) = bytes_eq key first

-- the words of a line of storage.conf or relay.conf, without the white space at its ends
abbrev pub words_in : List ℕ → List (List ℕ)
words_in line = words Spaces (without_outer_white line)

-- the parts of a line of cycbuff.conf, without the white space at its ends
abbrev pub parts_in : List ℕ → List (List ℕ)
parts_in line = parts colon (without_outer_white line)

-- the number of the first line that passes, counted from 1; one more than there are lines where
-- none does
abbrev pub line_where : (passes : List ℕ → Bool) → (lines : List (List ℕ)) → ℕ
line_where passes lines = position_or_len passes lines + 1

-- the line of cycbuff.conf that says a buffer or a group, by its name
abbrev pub named_line : (key name : List ℕ) → (lines : List (List ℕ)) → ℕ
named_line key name lines = line_where (λ line. begins_with key name (parts_in line)) lines

-- the line of relay.conf that says something of a peer, by its name
abbrev pub peer_line : (key name : List ℕ) → (lines : List (List ℕ)) → ℕ
peer_line key name lines = line_where (λ line. begins_with key name (words_in line)) lines

-- the line of relay.conf that says a setting of the relay itself
abbrev pub key_line : (key : List ℕ) → (lines : List (List ℕ)) → ℕ
key_line key lines = line_where (λ line. begins key (words_in line)) lines

-- the line of a number from 0, empty where there is none
abbrev pub line_at : (number : ℕ) → (lines : List (List ℕ)) → List ℕ
line_at number lines = unwrap_or (slice_get lines number) []

-- WHAT IS TOLD

-- texts, one behind the other
abbrev pub joined : (parts : List (List ℕ)) → List ℕ
joined parts = fold ◌++◌ [] parts

-- what it begins with where that tells of a line of a file: `cycbuff.conf:2: `
abbrev pub line_head : (file : List ℕ) → (line : ℕ) → List ℕ
line_head file line = file ++ codes ":" ++ decimal line ++ codes ": "

-- what is told of what a line of a file says: `cycbuff.conf:2: group G`
unfoldable pub told_line : (file : List ℕ) → (line : ℕ) → (told : List ℕ) → List ℕ
told_line file line told = line_head file line ++ told ++ codes "\n"

-- what is odd in what a line of a file says, where that is so: `cycbuff.conf:2: odd: no room`
unfoldable pub odd_line : (is_odd : Bool) → (file : List ℕ) → (line : ℕ) → (told : List ℕ) → List ℕ
odd_line is_odd file line told =
    if is_odd then told_line file line (codes "odd: " ++ told) else []

-- what is odd where an earlier one, of this name, has the same: `relay.conf:4: odd: as peer p1`
unfoldable pub shared_line : (file : List ℕ) → (line : ℕ) → (shared : List ℕ) → Option (List ℕ)
    → List ℕ
shared_line file line shared None = []
shared_line file line shared (Some name) = told_line file line (codes "odd: " ++ shared ++ name)
