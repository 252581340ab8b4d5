-- The texts of the built-in configuration say what K1 is.
use Rattle.std.proofs.Common.{◌≡◌, ℕ, List, [], ◌∷◌, map, None, Option, Result, Ok, Err, refl, lit<}
use Rattle.std.specs.Prelude.{codes, IfOk, IfErr}
use Rattle.std.specs.Global.{Vec}
use Rattle.news_terms.specs.Pattern.{IsExpressionText}
use Rattle.relay_conf.specs.declared.settings.Buffers.{Buffers}
use Rattle.relay_conf.specs.declared.faults.ConfError.{ConfError}
use Rattle.relay_conf.specs.declared.faults.ConfError.TheVariants.{Memory, Faulty}
use Rattle.relay_conf.specs.declared.faults.Fault.{Fault}
use Rattle.relay_conf.specs.declared.faults.LineFault.{LineFault}
use Rattle.relay_conf.specs.declared.settings.Relay.{Relay}
use Rattle.relay_conf.specs.declared.settings.StorageEntry.{StorageEntry}
use Rattle.relay_conf.specs.Cycbuff.{CycbuffSettings, cycbuff_of}
use Rattle.relay_conf.specs.Faults.{ConfGives}
use Rattle.relay_conf.specs.K1.{k1_buffers, every_newsgroup, k1_entries, k1_relay}
use Rattle.relay_conf.specs.LineByLine.{SayTogether, LinesGive}
use Rattle.relay_conf.specs.Relay.{early_fault, relay_said}
use Rattle.relay_conf.specs.RelayLines as relay
use Rattle.relay_conf.specs.RelayViews.{RelayGives, HasSettings, relay_view}
use Rattle.relay_conf.specs.Settings.{buffers_view}
use Rattle.relay_conf.specs.Storage.{entry_view}
use Rattle.relay_conf.specs.StorageFile as files
use Rattle.relay_conf.specs.StorageLines as storage
use Rattle.relay_conf.specs.StorageViews.{StorageGives, HasEntries}
use Rattle.relay_conf.proofs.OneReading.{HaveOneReading}
use Rattle.relay_conf.proofs.OneRelay.{relay_one}
use Rattle.relay_conf.proofs.OneStorage.{storage_one}

-- the lines of cycbuff.conf in K1
abbrev pub cycbuff_lines : List (List ℕ)
cycbuff_lines = codes "cycbuff:A:a.buf:4" ∷ codes "metacycbuff:G:A" ∷ [] ∷ []

-- `*` is the expression that each newsgroup matches.
pub star_is_every_newsgroup : IsExpressionText (codes "*") every_newsgroup
star_is_every_newsgroup = record { some = lit< tt; each = refl; spelled = refl }

-- the lines of relay.conf in K1
abbrev pub relay_lines : List (List ℕ)
relay_lines =
    codes "own relay.example" ∷ codes "peer p1 one.example 0" ∷ codes "peer p2 two.example 0"
    ∷ codes "feed p2 2 *" ∷ [] ∷ []

-- They say the settings of K1.
pub relay_has_settings : HasSettings relay_lines k1_relay
relay_has_settings = record {
  said = Ok (relay.Own (codes "relay.example"))
      ∷ Ok (relay.PeerLine (codes "p1") (codes "one.example") 0)
      ∷ Ok (relay.PeerLine (codes "p2") (codes "two.example") 0)
      ∷ Ok (relay.FeedLine (codes "p2") 2 every_newsgroup None) ∷ Ok relay.Skipped ∷ [];
  says = (refl, (refl, (refl, ((every_newsgroup, star_is_every_newsgroup, refl), (refl, tt)))));
  gives = refl;
}

-- the lines of storage.conf in K1
abbrev pub storage_lines : List (List ℕ)
storage_lines =
    codes "method cnfs {" ∷ codes "class: 1" ∷ codes "newsgroups: *" ∷ codes "options: G"
    ∷ codes "}" ∷ [] ∷ []

-- They say the entries of K1.
pub storage_has_entries : HasEntries k1_buffers.groups storage_lines k1_entries
storage_has_entries = record {
  said = Ok (storage.Opens (codes "cnfs")) ∷ Ok (storage.ClassLine 1)
      ∷ Ok (storage.NewsgroupsLine every_newsgroup) ∷ Ok (storage.OptionsLine (codes "G"))
      ∷ Ok storage.Closes ∷ Ok storage.Skipped ∷ [];
  says = (
    refl,
    (
      refl,
      (
        (every_newsgroup, star_is_every_newsgroup, refl),
        (refl, (refl, (refl, tt))),
      ),
    ),
  );
  gives = refl;
}

-- WHAT IS READ

-- the answer is these settings, unless memory ran out
pub record IsRead {A T : Type 0} (view : A → T) (settings : T) (result : Result A ConfError)
    : Type 0 where
  pub gives : IfOk result (λ said. view said ≡ settings)
  pub memory : IfErr result (λ error. error ≡ Memory)

-- What is read of lines that have settings is these.
is_read : {A S T : Type 0} (view : A → T) (Says : List S → List ℕ → S → Type 0)
    (wrong : List S → S → Option Fault) (together : List S → Result T LineFault)
    → HaveOneReading Says wrong together → (lines : List (List ℕ)) (settings : T)
    → SayTogether Says together lines (Ok settings) → (result : Result A ConfError)
    → LinesGive view Says wrong together result lines → IsRead view settings result
is_read view Says wrong together one lines settings has (Ok said) h =
    record { gives = one.settings lines (view said) settings h has; memory = tt }
is_read view Says wrong together one lines settings has (Err Memory) h =
    record { gives = tt; memory = refl }
is_read view Says wrong together one lines settings has (Err (Faulty fault)) h =
    absurd (one.either lines settings fault has h)

-- So it is with those of cycbuff.conf,
pub buffers_are_read : (result : Result Buffers ConfError)
    → ConfGives buffers_view result (cycbuff_of cycbuff_lines)
    → IsRead buffers_view k1_buffers result
buffers_are_read (Ok buffers) h = record { gives = cc; memory = tt }
buffers_are_read (Err Memory) h = record { gives = tt; memory = refl }
buffers_are_read (Err (Faulty fault)) h = cc

-- of relay.conf,
pub relay_is_read : (result : Result Relay ConfError) → RelayGives result relay_lines
    → IsRead relay_view k1_relay result
relay_is_read result h =
    is_read relay_view relay.LineSays early_fault relay_said relay_one relay_lines k1_relay
    relay_has_settings result h

-- and of storage.conf, over the buffers of K1.
pub entries_are_read : (result : Result (Vec StorageEntry) ConfError) (known : CycbuffSettings)
    → known ≡ k1_buffers → StorageGives result known.groups storage_lines
    → IsRead (λ (storage_entries : Vec StorageEntry). map entry_view storage_entries.items)
    k1_entries result
entries_are_read result known same h =
    let groups = k1_buffers.groups in
    is_read (λ (storage_entries : Vec StorageEntry). map entry_view storage_entries.items)
    files.LineSays (files.early_fault groups) (files.storage_said groups) (storage_one groups)
    storage_lines k1_entries storage_has_entries result
    (rw same at h)
