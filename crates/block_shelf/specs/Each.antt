-- Two lists whose items belong together, place by place.
use Rattle.std.specs.Prelude.{◌≡◌, ℕ, List, length, Some, slice_get}

-- at this place of a list stands an item that belongs to this one
pub record HasAt {X Y : Type 0} (Belong : ℕ → X → Y → Type 0) (ys : List Y) (b : ℕ) (x : X) : Type 0
  where
    pub item : Y
    pub there : slice_get ys b ≡ Some item
    pub belongs : Belong b x item

-- the lists have as many items, and those at each place belong together
pub record AreEach {X Y : Type 0} (Belong : ℕ → X → Y → Type 0) (xs : List X) (ys : List Y) : Type 0
  where
    pub count : length ys ≡ length xs
    pub each : (b : ℕ) (x : X) → slice_get xs b ≡ Some x → HasAt Belong ys b x
