-- The worked examples of courses.
use Rattle.std.specs.Prelude.{ℕ, [], ◌∷◌}
use Rattle.news_terms.specs.Courses.{Course}
use Rattle.news_terms.specs.PlaceExamples.{eight, six}
use Rattle.news_terms.specs.Places.{Buffer, Extent, Group, Place, Sequential}

-- a place
abbrev pub at_place : Buffer → (cycle first : ℕ) → Place
at_place buffer cycle first = record { buffer = buffer; cycle = cycle; first = first }

-- an article of this size, which begins there
abbrev pub article_at : Buffer → (cycle first size : ℕ) → Extent
article_at buffer cycle first size =
    record { place = at_place buffer cycle first; size = size }

-- what was found of a group of both buffers: six blocks of a third cycle are used in the one of
-- eight, four of a second cycle in the one of six; it is the turn of this one
abbrev pub found_at_turn : (turn : ℕ) → Course
found_at_turn turn =
    record {
      turn = turn;
      articles =
          article_at eight 2 0 3 ∷ article_at six 1 2 2 ∷ article_at eight 2 3 3 ∷ [];
    }

-- what was found where the buffer of six has nothing yet, and it is the turn of the other
abbrev pub found_in_one : Course
found_in_one = record { turn = 0; articles = article_at eight 2 3 3 ∷ [] }

-- the buffer of eight blocks, as it is made with a later first cycle
abbrev pub later_eight : Buffer
later_eight = record eight { first_cycle = 7 }

-- a group of that buffer alone
abbrev pub later_by_itself : Group
later_by_itself = record { mode = Sequential; buffers = later_eight ∷ [] }
