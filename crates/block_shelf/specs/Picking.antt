-- Where the next article of a group goes, with the number of that buffer.
use Rattle.std.specs.Prelude.{◌≡◌, ℕ, map, Some, slice_get}
use Rattle.block_shelf.specs.declared.picking.Place.{Place}
use Rattle.buffer_group.specs.Groups.{pick_view}
use Rattle.news_terms.specs.Courses.{Course, pick_in}
use Rattle.news_terms.specs.Places as places
use Rattle.news_terms.specs.Places.{Group}

-- an article of this size goes where its group picks, and the buffer there has this number
pub record IsPicked (group : Group) (begun : Course) (size : ℕ) (place : Place) : Type 0 where
  pub picked : pick_view place.pick ≡ pick_in group begun size
  pub numbered : slice_get (map (λ (buffer : places.Buffer). buffer.number) group.buffers)
      place.pick.buffer
      ≡ Some place.number
