-- What follows from the definitions of the exposition: each number of a line is in it.
use Rattle.std.specs.Prelude.{◌≡◌, ℕ, ◌==◌, ◌<◌, Bool, false, List, [], ◌∷◌, ◌++◌, All, decimal}
use Rattle.std.specs.Prelude.{length}
use Rattle.std.specs.List.{enumerate_from, list_all, list_any}
use Rattle.id_history.specs.declared.counts.Counts.{Counts}
use Rattle.relay_report.specs.Figures.{NamedBuffer, NamedFeed}
use Rattle.relay_metrics.specs.Families.{report_families}
use Rattle.relay_metrics.specs.Forms.{Form}
use Rattle.relay_metrics.specs.Lines.{Line}
use Rattle.relay_metrics.specs.declared.families.Value.{Value}
use Rattle.relay_metrics.specs.declared.families.Value.TheVariants.{OfBuffer, OfFeed, OfIds, OfPeer}
use Rattle.relay_metrics.specs.declared.families.Value.TheVariants.{OfOldest, OfRefusals, OfSize}
use Rattle.relay_metrics.specs.declared.lines.Subject.{Subject}
use Rattle.relay_metrics.specs.declared.lines.Subject.TheVariants.{Buffer, Feed, Ids, Peer}
use Rattle.relay_metrics.specs.declared.lines.Subject.TheVariants.{Oldest, Refusals, Size}

-- The text has this part somewhere.
pub record HasPart (text part : List ℕ) : Type 0 where
  pub before : List ℕ
  pub after : List ℕ
  pub whole : text ≡ before ++ (part ++ after)

-- the values of a family are the numbers of this place of the lines about this
abbrev pub tells : Value → Subject → (place : ℕ) → Bool
tells (OfBuffer other) Buffer place = other == place
tells (OfFeed other) Feed place = other == place
tells (OfIds other) Ids place = other == place
tells (OfPeer other) Peer place = other == place
tells (OfRefusals other) Refusals place = other == place
tells (OfSize other) Size place = other == place
tells (OfOldest other) Oldest place = other == place
tells value subject place = false

-- a family tells the number of this place of the lines about this
abbrev pub is_told : Subject → (place : ℕ) → Bool
is_told subject place = list_any (λ family. tells family.value subject place) report_families

-- each number of a line of this form is told by a family
abbrev pub tells_all_of : Form → Bool
tells_all_of form =
    list_all (λ (key : ℕ × List ℕ). is_told form.subject key.0) (enumerate_from 0 form.keys)

-- A name as a configuration has one: an octet or more, none of which is a space.
pub record IsName (name : List ℕ) : Type 0 where
  pub some : 0 < length name
  pub unspaced : All (λ (c : ℕ). (c == 32) ≡ false) name

-- what the line of a buffer says
abbrev pub buffer_said : NamedBuffer → Line
buffer_said buffer =
    record {
      subject = Buffer;
      name = buffer.name;
      numbers = decimal buffer.figures.cycle ∷ decimal buffer.figures.front
          ∷ decimal buffer.figures.begun ∷ decimal buffer.figures.stored ∷ [];
    }

-- what the line of a feed says
abbrev pub feed_said : NamedFeed → Line
feed_said feed =
    record {
      subject = Feed;
      name = feed.peer;
      numbers = decimal feed.figures.waiting ∷ decimal feed.figures.gained
          ∷ decimal feed.figures.overwritten ∷ [];
    }

-- what the line of the message-ids says
abbrev pub ids_said : Counts → Line
ids_said ids =
    record {
      subject = Ids;
      name = [];
      numbers = decimal ids.offered ∷ decimal ids.storing ∷ decimal ids.stored
          ∷ decimal ids.refused ∷ [];
    }
