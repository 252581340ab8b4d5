-- When a group's code keeps the places of a group of the definitions.
use Rattle.std.specs.Prelude.{◌≡◌, ℕ, List, length, map}
use Rattle.buffer_group.specs.declared.group.Group.{Group}
use Rattle.buffer_group.specs.declared.group.Pick.{Pick}
use Rattle.news_terms.specs.Courses.{Course, position_in}
use Rattle.news_terms.specs.Picks as picks
use Rattle.news_terms.specs.Places as places
use Rattle.news_terms.specs.Positions.{Position}
use Rattle.relay_conf.specs.Places.{mode_view}
use Rattle.relay_conf.specs.declared.cycbuff.Mode.{Mode}

-- a pick as the definitions have it
abbrev pub pick_view : Pick → picks.Pick
pick_view pick = record { index = pick.buffer; fresh = pick.fresh }

-- the order in which the code fills the buffers
abbrev pub group_mode : Group → Mode
group_mode code = code.mode

-- how many blocks each of the code's buffers has
abbrev pub group_blocks : Group → List ℕ
group_blocks code = code.blocks.items

-- how many buffers the code has
abbrev pub buffer_count : Group → ℕ
buffer_count code = length code.blocks.items

-- where the code is
abbrev pub position_view : Group → Position
position_view code = record { index = code.position; used = code.used }

-- how many blocks each buffer has
abbrev pub blocks_in : List places.Buffer → List ℕ
blocks_in buffers = map (λ (b : places.Buffer). b.blocks) buffers

-- the code is where the group is on this course
pub record KeepsPlaces (code : Group) (group : places.Group) (begun : Course) : Type 0 where
  pub mode : mode_view (group_mode code) ≡ group.mode
  pub blocks : group_blocks code ≡ blocks_in group.buffers
  pub position : position_in group begun ≡ position_view code
