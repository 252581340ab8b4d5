-- What follows from the definitions of the page: each number of a line has its place in it.
use Rattle.std.specs.Prelude.{ℕ, ◌+◌, ◌*◌, ◌<◌, ◌≤◌, ◌==◌, Bool, List, []}
use Rattle.std.specs.List.{enumerate_from, list_all, list_any}
use Rattle.relay_metrics.specs.Forms.{Form}
use Rattle.relay_metrics.specs.declared.lines.Subject.{Subject}
use Rattle.relay_metrics.specs.declared.lines.Subject.TheVariants.{Buffer, Feed, Ids, Peer}
use Rattle.relay_metrics.specs.declared.lines.Subject.TheVariants.{Oldest, Refusals, Size}
use Rattle.relay_page.specs.Figures.{Figure, buffer_figures, feed_figures, ids_figures}
use Rattle.relay_page.specs.Figures.{oldest_figures, peer_figures, refusal_figures}
use Rattle.relay_page.specs.Figures.{size_figures}

-- the numbers that the page has of a line about this
abbrev pub figures_of : Subject → List Figure
figures_of Buffer = buffer_figures
figures_of Size = size_figures
figures_of Oldest = oldest_figures
figures_of Feed = feed_figures
figures_of Ids = ids_figures
figures_of Peer = peer_figures
figures_of Refusals = refusal_figures
figures_of subject = []

-- the page has the number of this place of a line about this
abbrev pub has_figure : Subject → (place : ℕ) → Bool
has_figure subject place = list_any (λ figure. figure.place == place) (figures_of subject)

-- the page has each number of a line of this form
abbrev pub has_all_of : Form → Bool
has_all_of form =
    list_all (λ (key : ℕ × List ℕ). has_figure form.subject key.0) (enumerate_from 0 form.keys)

-- So many hundredths of a whole are no more than the part, and one more would be more.
pub record AreHundredths (part whole hundredths : ℕ) : Type 0 where
  pub least : hundredths * whole ≤ part * 100
  pub most : part * 100 < hundredths * whole + whole
