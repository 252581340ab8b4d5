-- Worked texts of names (docs/FORMATS.md, Names file).
use Rattle.std.specs.Prelude.{ℕ, List, [], ◌∷◌, ◌++◌, codes, None, Some}
use Rattle.relay_names.specs.Names.{Names, Told}

-- two buffers in one group, and the feed of the peer p2
abbrev pub own_names : Names
own_names =
    record {
      buffers = codes "A" ∷ codes "B" ∷ [];
      groups =
          record { name = codes "alt"; buffers = codes "A" ∷ codes "B" ∷ [] } ∷ [];
      feeds = codes "p2" ∷ [];
    }

-- the same buffers, in the group in another order, and a feed more in front
abbrev pub later_names : Names
later_names =
    record {
      buffers = codes "A" ∷ codes "B" ∷ [];
      groups =
          record { name = codes "alt"; buffers = codes "B" ∷ codes "A" ∷ [] } ∷ [];
      feeds = codes "p3" ∷ codes "p2" ∷ [];
    }

-- no names of any kind
abbrev pub no_names : Names
no_names = record { buffers = []; groups = []; feeds = [] }

-- what a start over the history of stop 3 tells
abbrev pub third : Told
third = record { stop = 3; last = Some own_names; later = later_names }

-- the lines of later_names
abbrev pub later_text : List ℕ
later_text =
    codes "buffer A\nbuffer B\n"
    ++ codes "group alt B A\n"
    ++ codes "feed p3\nfeed p2\n"

-- its text
abbrev pub third_text : List ℕ
third_text =
    codes "at 3\n"
    ++ codes "buffer A\nbuffer B\n"
    ++ codes "group alt A B\n"
    ++ codes "feed p2\n"
    ++ codes "after 3\n"
    ++ later_text

-- what the first start of all tells
abbrev pub first : Told
first = record { stop = 0; last = None; later = later_names }

-- its text
abbrev pub first_text : List ℕ
first_text = codes "after 0\n" ++ later_text

-- the same text with zeros in front of the number, words further apart, other line ends, and the
-- kinds in another order
abbrev pub loose_text : List ℕ
loose_text =
    codes "  after   00 \r\n"
    ++ codes "feed p3\r\n"
    ++ codes "group  alt B A\n"
    ++ codes " buffer A\n"
    ++ codes "feed p2\n"
    ++ codes "buffer B\n"

-- parts without any line
abbrev pub empty_parts : List ℕ
empty_parts = codes "at 18446744073709551615\nafter 18446744073709551615\n"

-- what they tell
abbrev pub empty_told : Told
empty_told = record { stop = 18446744073709551615; last = Some no_names; later = no_names }

-- a group without buffers, of a name that is the word of a kind
abbrev pub odd_group : List ℕ
odd_group = codes "after 7\ngroup buffer\n"

-- what it tells
abbrev pub odd_told : Told
odd_told =
    record {
      stop = 7;
      last = None;
      later = record {
        buffers = [];
        groups = record { name = codes "buffer"; buffers = [] } ∷ [];
        feeds = [];
      };
    }
