-- The forms of the lines of a report (docs/FORMATS.md, Report; cnrelay(1), Asking).
use Rattle.std.specs.Prelude.{ℕ, Bool, true, false, List, [], ◌∷◌, codes, map}
use Rattle.relay_metrics.specs.declared.forms.Form as code
use Rattle.relay_metrics.specs.declared.lines.Subject.{Subject}
use Rattle.relay_metrics.specs.declared.lines.Subject.TheVariants.{Address, Buffer, Feed, Ids}
use Rattle.relay_metrics.specs.declared.lines.Subject.TheVariants.{Oldest, Paused, Peer}
use Rattle.relay_metrics.specs.declared.lines.Subject.TheVariants.{Recovering, Refusals}
use Rattle.relay_metrics.specs.declared.lines.Subject.TheVariants.{Repaired, Size}

-- A form of lines: what such a line is about, its first word, whether a name follows that, what
-- stands before the name, and before each of its numbers.
pub record Form : Type 0 where
  pub subject : Subject
  pub word : List ℕ
  pub is_named : Bool
  pub name_key : List ℕ
  pub keys : List (List ℕ)

-- a form of the code as the definitions have it
abbrev pub form_view : code.Form → Form
form_view form =
    record {
      subject = form.subject;
      word = form.word.now;
      is_named = form.is_named;
      name_key = form.name_key.now;
      keys = map (λ key. key.now) form.keys.now;
    }

-- `buffer A 0 1 1 1`: cycle, front, articles begun, articles whole
abbrev pub buffer_form : Form
buffer_form =
    record {
      subject = Buffer;
      word = codes "buffer";
      is_named = true;
      name_key = [];
      keys = [] ∷ [] ∷ [] ∷ [] ∷ [];
    }

-- `feed p2 1 1 0`: tokens waiting, gained, overwritten
abbrev pub feed_form : Form
feed_form =
    record {
      subject = Feed;
      word = codes "feed";
      is_named = true;
      name_key = [];
      keys = [] ∷ [] ∷ [] ∷ [];
    }

-- `ids 0 0 1 0`: message-ids offered, storing, stored, refused
abbrev pub ids_form : Form
ids_form =
    record {
      subject = Ids;
      word = codes "ids";
      is_named = false;
      name_key = [];
      keys = [] ∷ [] ∷ [] ∷ [] ∷ [];
    }

-- `peer p1 open=1 accepted=2 known=3 refused=4 later=5 octets=6 offers=7`
abbrev pub peer_form : Form
peer_form =
    record {
      subject = Peer;
      word = codes "peer";
      is_named = true;
      name_key = [];
      keys = codes "open=" ∷ codes "accepted=" ∷ codes "known=" ∷ codes "refused="
          ∷ codes "later=" ∷ codes "octets=" ∷ codes "offers=" ∷ [];
    }

-- `refused p1 Size=1 Grammar=2 IdMismatch=3 BadPath=4 Loop=5 Date=6 NoClass=7 TooLarge=8`: by the
-- reasons of docs/PROTOCOL.md, Judging, in their order
abbrev pub refusals_form : Form
refusals_form =
    record {
      subject = Refusals;
      word = codes "refused";
      is_named = true;
      name_key = [];
      keys = codes "Size=" ∷ codes "Grammar=" ∷ codes "IdMismatch=" ∷ codes "BadPath="
          ∷ codes "Loop=" ∷ codes "Date=" ∷ codes "NoClass=" ∷ codes "TooLarge=" ∷ [];
    }

-- `from p1=192.0.2.1`: the peer and its address are one word, and stand for the name
abbrev pub address_form : Form
address_form =
    record {
      subject = Address;
      word = codes "from";
      is_named = true;
      name_key = [];
      keys = [];
    }

-- `size buffer=A blocks=1000 filled=371`
abbrev pub size_form : Form
size_form =
    record {
      subject = Size;
      word = codes "size";
      is_named = true;
      name_key = codes "buffer=";
      keys = codes "blocks=" ∷ codes "filled=" ∷ [];
    }

-- `oldest buffer=A since=1764547200`
abbrev pub oldest_form : Form
oldest_form =
    record {
      subject = Oldest;
      word = codes "oldest";
      is_named = true;
      name_key = codes "buffer=";
      keys = codes "since=" ∷ [];
    }

-- `recovering`
abbrev pub recovering_form : Form
recovering_form =
    record {
      subject = Recovering;
      word = codes "recovering";
      is_named = false;
      name_key = [];
      keys = [];
    }

-- `buffer A`, while the relay is repaired
abbrev pub repaired_form : Form
repaired_form =
    record {
      subject = Repaired;
      word = codes "buffer";
      is_named = true;
      name_key = [];
      keys = [];
    }

-- `paused`
abbrev pub paused_form : Form
paused_form =
    record {
      subject = Paused;
      word = codes "paused";
      is_named = false;
      name_key = [];
      keys = [];
    }

-- the forms that there are
abbrev pub report_forms : List Form
report_forms =
    buffer_form ∷ feed_form ∷ ids_form ∷ peer_form ∷ refusals_form ∷ address_form ∷ size_form
    ∷ oldest_form ∷ recovering_form ∷ repaired_form ∷ paused_form ∷ []
