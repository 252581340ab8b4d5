-- Which buffers are to be added to a relay that was stopped (docs/PROTOCOL.md, `add-buffer`).
use Rattle.std.specs.Prelude.{◌≡◌, ◌⊎◌, ℕ, ◌<◌, ◌≤◌, Bool, true, false, List, length, Some}
use Rattle.std.specs.Prelude.{slice_get}

-- Of the buffers of which this says whether the file of each has zeros alone those from this number
-- on are to be added: each of them has, each before them has something else, and of these there is
-- one, where any is added.
pub record AreAddedFrom (blank : List Bool) (first : ℕ) : Type 0 where
  pub within : first ≤ length blank
  pub kept : (b : ℕ) → b < first → slice_get blank b ≡ Some false
  pub added : (b : ℕ) → first ≤ b → b < length blank → slice_get blank b ≡ Some true
  pub behind : first < length blank → 0 < first

-- a buffer whose file has something else than zeros stands behind this one
pub record IsBeforeKept (blank : List Bool) (number : ℕ) : Type 0 where
  pub at : ℕ
  pub behind : number < at
  pub kept : slice_get blank at ≡ Some false

-- none can be added since the file of this buffer has zeros alone, and it is the first of all, or
-- stands before one with something else; each before it has something else
pub record IsBlankBefore (blank : List Bool) (number : ℕ) : Type 0 where
  pub blank_here : slice_get blank number ≡ Some true
  pub kept : (b : ℕ) → b < number → slice_get blank b ≡ Some false
  pub before : (number ≡ 0) ⊎ IsBeforeKept blank number
