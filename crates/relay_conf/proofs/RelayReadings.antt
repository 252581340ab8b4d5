-- Readings of relay.conf, line by line.
use Rattle.std.proofs.lemmas.Bool.Decides.{nat_tests}
use Rattle.std.proofs.Common.{◌≡◌, ℕ, ◌+◌, ◌≤◌, Bool, true, false, List, [], ◌∷◌, ◌++◌, length, map}
use Rattle.std.proofs.Common.{Option, Some, None, Result, Ok, Err, refl, ap, ◌∙◌, sym, subst, arith}
use Rattle.std.proofs.Common.{append_assoc, append-nil, lit≤}
use Rattle.std.specs.Prelude.{bytes_eq, filter_map, flat_map, unwrap_or, not, OnOk, IsErrAnd}
use Rattle.std.specs.Prelude.{option_map}
use Rattle.std.specs.List.{cons_option, list_any}
use Rattle.std.specs.Option.{option_to_list}
use Rattle.std.proofs.lemmas.List.{map-append, length-append}
use Rattle.news_terms.specs.Pattern.{Marked}
use Rattle.relay_conf.specs.declared.faults.ConfError.{ConfError}
use Rattle.relay_conf.specs.declared.faults.Fault.TheVariants.{Duplicate}
use Rattle.relay_conf.specs.declared.faults.LineFault.{LineFault}
use Rattle.relay_conf.specs.declared.faults.Refusal.{Refusal}
use Rattle.relay_conf.specs.declared.faults.Refusal.TheVariants.{Memory, Faulty}
use Rattle.relay_conf.specs.declared.reach.Allow.{Allow}
use Rattle.relay_conf.specs.declared.reach.NamedAllow.{NamedAllow}
use Rattle.relay_conf.specs.declared.relay.Feed.{Feed}
use Rattle.relay_conf.specs.declared.relay.NamedFeed.{NamedFeed}
use Rattle.relay_conf.specs.declared.relay.NamedLine.{NamedLine}
use Rattle.relay_conf.specs.declared.relay.Peer.{Peer}
use Rattle.relay_conf.specs.declared.relay.RelayDraft.{RelayDraft}
use Rattle.relay_conf.specs.declared.settings.Relay.{Relay}
use Rattle.relay_conf.specs.Drafts.{StepGives, IsDrawnFrom}
use Rattle.relay_conf.specs.Faults.{first_fault, whole_fault, unless_fault, ConfGives}
use Rattle.relay_conf.specs.Faults.{fault_or_later}
use Rattle.relay_conf.specs.RelayLines.{RelayLine, RawLine, SaidLine, RawSays, LineSays, relay_line}
use Rattle.relay_conf.specs.RelayLines.{AllowLine}
use Rattle.relay_conf.specs.Relay.{name_in, Stand, stand_of, own_of, max_article_of, cutoff_of}
use Rattle.relay_conf.specs.Relay.{remember_of, patience_of, sync_of, offers_of, bind_of, peer_of}
use Rattle.relay_conf.specs.Relay.{connections_of, log_of}
use Rattle.relay_conf.specs.Relay.{feed_name_of, feed_of, allows_of, line_fault, early_fault}
use Rattle.relay_conf.specs.Relay.{late_fault}
use Rattle.relay_conf.specs.Relay.{unknown_fault, again_fault, no_own_fault, first_or, first_of}
use Rattle.relay_conf.specs.Relay.{binds_or_each, connected, relay_said, RelaySettings}
use Rattle.relay_conf.specs.RelayDraft.{AddsLine, IsDraftOf, Lists, draft_view, Reading, with_peers}
use Rattle.relay_conf.specs.RelayDraft.{stand_view, fault_behind, after_line, named_of, named_from}
use Rattle.relay_conf.specs.RelayDraft.{IsReadingOf, first_unknown, numbered_feed, draft_said}
use Rattle.relay_conf.specs.RelayDraft.{nothing, named_feed_of, named_allows_of, numbered_allow}
use Rattle.relay_conf.specs.RelayViews.{relay_view, RelayGives}
use Rattle.relay_conf.proofs.FaultlessLines.{no_fault_keeps, none_yet}
use Rattle.relay_conf.proofs.FirstFaults.{filter_one, flat_one}
use Rattle.relay_conf.proofs.LinesRead.{draft_answers, step_gives}
use Rattle.relay_conf.proofs.Ranges.{numbered_ranges}

-- WHAT STANDS

-- what stands with one line more
abbrev pub join : Stand → SaidLine → Stand
join st line =
    record {
      owns = st.owns ++ option_to_list (own_of line);
      sizes = st.sizes ++ option_to_list (max_article_of line);
      cutoffs = st.cutoffs ++ option_to_list (cutoff_of line);
      remembers = st.remembers ++ option_to_list (remember_of line);
      patiences = st.patiences ++ option_to_list (patience_of line);
      syncs = st.syncs ++ option_to_list (sync_of line);
      offers = st.offers ++ option_to_list (offers_of line);
      logs = st.logs ++ option_to_list (log_of line);
      binds = st.binds ++ option_to_list (bind_of line);
      peers = st.peers ++ option_to_list (peer_of line);
      connections = st.connections ++ option_to_list (connections_of line);
      feed_names = st.feed_names ++ option_to_list (feed_name_of line);
    }

-- What stands of lines and one more.
stand_one : (said : List SaidLine) (line : SaidLine) → stand_of (said ++ line ∷ []) ≡ join
    (stand_of said) line
stand_one said line = simp filter_one

-- What each line without a fault keeps of what stands holds of what stands of all.
pub stand_kept : (P : Stand → Type 0)
    → ((stand : Stand) (line : SaidLine) → line_fault stand line ≡ None → P stand
    → P (join stand line))
    → (said : List SaidLine) → first_fault early_fault [] said ≡ None → P (stand_of [])
    → P (stand_of said)
stand_kept P step said none =
    no_fault_keeps early_fault (λ before. P (stand_of before))
    (λ before line e holds.
    subst P (sym (stand_one before line)) (step (stand_of before) line e holds)) [] said none

-- A line without a fault adds a peer to fewer than 1,024.
pub few_joined : (stand : Stand) (line : SaidLine) → line_fault stand line ≡ None
    → length stand.peers ≤ 1024 → length (join stand line).peers ≤ 1024
few_joined stand line e few = grind (arith, nat_tests, length-append, append-nil)

-- What stands after a line without fault.
stand_after : (number : ℕ) (r : Reading) (line : RelayLine (List Marked))
    → line_fault (stand_view r) (Ok line) ≡ None → stand_view (after_line number r line) ≡ join
    (stand_view r) (Ok line)
stand_after number r line h = grind (arith, append-nil, map-append, none_yet)

-- THE READING

-- The names that lines and one more say something of.
named_one : (number last : ℕ) (said : List SaidLine) (line : SaidLine)
    → number + length said ≡ last
    → named_from number (said ++ line ∷ [])
    ≡ named_from number said ++ option_to_list (named_of last line)
named_one number last [] line e =
    let same : number ≡ last = omega (arith, e) in
    rw same (append-nil (option_to_list (named_of last line)))
named_one number last (s ∷ said) line e =
    rw (named_one (number + 1) last said line (omega (arith, e))) (sym (append_assoc
    (option_to_list (named_of number s)) (named_from (number + 1) said) _))

-- The names after a line.
named_after : (number : ℕ) (r : Reading) (line : RelayLine (List Marked))
    → (after_line number r line).named ≡ r.named ++ option_to_list (named_of number (Ok line))
named_after number r line = grind (arith, append-nil)

-- The feeds after a line.
feeds_after : (number : ℕ) (r : Reading) (line : RelayLine (List Marked))
    → (after_line number r line).feeds ≡ r.feeds ++ option_to_list (named_feed_of (Ok line))
feeds_after number r line = grind (arith, append-nil)

-- The ranges after a line.
allows_after : (number : ℕ) (r : Reading) (line : RelayLine (List Marked))
    → (after_line number r line).allows ≡ r.allows ++ named_allows_of (Ok line)
allows_after number r line = grind (arith, append-nil)

-- The reading after a line without fault is that of the lines with it.
reading_more : (said : List SaidLine) (r : Reading) (line : RelayLine (List Marked))
    → fault_behind r (Ok line) ≡ None → IsReadingOf said r
    → IsReadingOf (said ++ Ok line ∷ []) (after_line (length said + 1) r line)
reading_more said r line none reading =
    let stands = stand_after (length said + 1) r line none in
    record {
      stand = stands ∙ ap (λ (st : Stand). join st (Ok line)) reading.stand
          ∙ sym (stand_one said (Ok line));
      feeds = rw (filter_one named_feed_of said (Ok line), ← reading.feeds)
          (feeds_after (length said + 1) r line);
      allows = rw (flat_one named_allows_of said (Ok line), ← reading.allows)
          (allows_after (length said + 1) r line);
      named = rw (named_one 1 (length said + 1) said (Ok line) (omega arith), ← reading.named)
          (named_after (length said + 1) r line);
      few = subst (λ (st : Stand). length st.peers ≤ 1024) (sym stands)
          (few_joined (stand_view r) (Ok line) none reading.few);
    }

-- A step of the reading is one of the draft.
pub relay_step : (number : ℕ) (line : List ℕ) (d after : RelayDraft)
    (result : Result (Unit {0}) Refusal)
    → (Lists d → AddsLine number (relay_line line) d after result) → (said : List SaidLine)
    → length said + 1 ≡ number → IsDraftOf said d
    → StepGives LineSays early_fault IsDraftOf said line after result
relay_step number line d after result adds said n of =
    step_gives (RawSays (relay_line line)) fault_behind (after_line number) (draft_view d) LineSays
    early_fault IsDraftOf said line (draft_view after) after (Lists after) result (λ one says. says)
    (λ one. ap (λ (st : Stand). line_fault st one) (sym of.reading.stand))
    (λ one none same lists. record {
      reading = subst (IsReadingOf (said ++ Ok one ∷ []))
          (ap (λ (k : ℕ). after_line k (draft_view d) one) n ∙ sym same)
          (reading_more said (draft_view d) one none of.reading);
      listed = lists;
    })
    (adds of.listed).step (adds of.listed).listed

-- Where memory runs out, nothing is said of the line.
pub no_memory : {number : ℕ} {raw : RawLine} {old after : RelayDraft}
    (result : Result (Unit {0}) Refusal) → IsErrAnd result (λ e. e ≡ Memory)
    → AddsLine number raw old after result
no_memory (Ok done) is = absurd is
no_memory (Err Memory) is = record { step = tt; listed = tt }
no_memory (Err (Faulty fault)) is = cc

-- What holds, holds after any answer.
pub still : {P : Type 0} (result : Result (Unit {0}) Refusal) → P → OnOk result P
still (Ok done) p = p
still (Err refusal) p = tt

-- Peers alone change nothing of the names that are listed.
pub peers_listed : (old after : RelayDraft) (peers : List Peer) (result : Result (Unit {0}) Refusal)
    → OnOk result (draft_view after ≡ with_peers (draft_view old) peers)
    → OnOk result (after.feed_names ≡ old.feed_names)
    → OnOk result (after.connected_names ≡ old.connected_names) → Lists old
    → OnOk result (Lists after)
peers_listed old after peers (Ok done) same names connected listed = (
  λ name. rw names (listed.0 name)
      ∙ ap (λ (r : Reading). list_any (bytes_eq name) (map (λ feed. feed.name) r.feeds)) (sym same),
  λ name. rw connected (listed.1 name)
      ∙ ap (λ (r : Reading). list_any (bytes_eq name) (map (λ one. one.name) r.connections))
      (sym same),
)
peers_listed old after peers (Err refusal) same names connected listed = tt

-- WHAT IT SAYS

-- A line that says something of a name has a fault where that is no peer's, else the later one.
late_one : (peers : List Peer) (line : SaidLine) (number : ℕ) (later : Option LineFault)
    (more : List NamedLine) → later ≡ first_unknown peers more
    → fault_or_later number (unknown_fault peers (name_in line)) later
    ≡ first_unknown peers (option_to_list (named_of number line) ++ more)
late_one peers line number later more h = grind arith

-- The first line that says something of no peer is the first fault that is looked for after the
-- last line.
late_is_unknown : (peers : List Peer) (number : ℕ) (before said : List SaidLine)
    → length before + 1 ≡ number
    → first_fault (late_fault peers) before said ≡ first_unknown peers (named_from number said)
late_is_unknown peers number before [] n = refl
late_is_unknown peers number before (line ∷ said) n =
    rw n (late_one peers line number _ _
    (late_is_unknown peers (number + 1) (before ++ line ∷ []) said
    (omega (arith, n, length-append before (line ∷ [])))))

-- A feed by the number of its peer.
feed_is_numbered : (peers : List Peer) (line : SaidLine)
    → feed_of peers line ≡ option_map (numbered_feed peers) (named_feed_of line)
feed_is_numbered peers line = grind arith

-- The feeds of lines by the numbers of their peers.
feeds_are_numbered : (peers : List Peer) (said : List SaidLine)
    → filter_map (feed_of peers) said ≡ map (numbered_feed peers) (filter_map named_feed_of said)
feeds_are_numbered peers [] = refl
feeds_are_numbered peers (line ∷ said) =
    rw (feed_is_numbered peers line, feeds_are_numbered peers said) (by_feed (named_feed_of line))
  where
    by_feed : (o : Option NamedFeed)
        → cons_option (option_map (numbered_feed peers) o)
        (map (numbered_feed peers) (filter_map named_feed_of said))
        ≡ map (numbered_feed peers) (cons_option o (filter_map named_feed_of said))
    by_feed None = refl
    by_feed (Some feed) = refl

-- The ranges of a line by the numbers of their peers.
allow_is_numbered : (peers : List Peer) (line : SaidLine)
    → allows_of peers line ≡ map (numbered_allow peers) (named_allows_of line)
allow_is_numbered peers (Ok (AllowLine name ranges)) = numbered_ranges peers name ranges
allow_is_numbered peers line = refl

-- The ranges of lines by the numbers of their peers.
allows_are_numbered : (peers : List Peer) (said : List SaidLine)
    → flat_map (allows_of peers) said ≡ map (numbered_allow peers) (flat_map named_allows_of said)
allows_are_numbered peers [] = refl
allows_are_numbered peers (line ∷ said) =
    rw (allow_is_numbered peers line, allows_are_numbered peers said)
    (sym (map-append (numbered_allow peers) (named_allows_of line)
    (flat_map named_allows_of said)))

-- A name that is listed is Duplicate, and one that isn't is the first.
pub name_listed : (names : List (List ℕ)) (name : List ℕ) (b added : Bool)
    → b ≡ list_any (bytes_eq name) names → added ≡ not b
    → (added ≡ false → again_fault names name ≡ Some Duplicate)
    × (added ≡ true → again_fault names name ≡ None)
name_listed names name b added listed new = grind arith

first_or_is : {X : Type 0} (o : Option X) (d : X) → first_or d (option_to_list o) ≡ unwrap_or o d
first_or_is o d = grind arith

first_of_is : {X : Type 0} (o : Option X) → first_of (option_to_list o) ≡ o
first_of_is o = grind arith

-- the settings of what stands, of these feeds and of these ranges
abbrev pub settings_by : Stand → List Feed → List Allow → RelaySettings
settings_by st feeds allows =
    record {
      own = first_or [] st.owns;
      max_article = first_or 1000000 st.sizes;
      cutoff = first_or 864000 st.cutoffs;
      remember = first_of st.remembers;
      patience = first_or 3600 st.patiences;
      sync = first_of st.syncs;
      offers = first_of st.offers;
      log = first_of st.logs;
      binds = binds_or_each st.binds;
      peers = map (connected st.connections) st.peers;
      feeds = feeds;
      allows = allows;
    }

-- what lines without early fault say, by what stands, the feeds, the ranges and the names
abbrev said_by_stand : Stand → List NamedFeed → List NamedAllow → List NamedLine
    → Result RelaySettings LineFault
said_by_stand st feeds allows named =
    unless_fault (whole_fault (no_own_fault st.owns)) (unless_fault (first_unknown st.peers named)
    (Ok (settings_by st (map (numbered_feed st.peers) feeds)
    (map (numbered_allow st.peers) allows))))

-- The lines say what their reading says.
pub reading_says : (said : List SaidLine) (r : Reading) → first_fault early_fault [] said ≡ None
    → IsReadingOf said r → relay_said said ≡ draft_said r
reading_says said r none reading =
    rw (
      none,
      late_is_unknown (stand_of said).peers 1 [] said refl,
      feeds_are_numbered (stand_of said).peers said,
      allows_are_numbered (stand_of said).peers said,
    )
    (ap (λ (st : Stand). said_by_stand st (filter_map named_feed_of said)
    (flat_map named_allows_of said) (named_from 1 said))
    (sym reading.stand)
    ∙ ap (λ (fs : List NamedFeed). said_by_stand (stand_view r) fs (flat_map named_allows_of said)
    (named_from 1 said))
    (sym reading.feeds)
    ∙ ap (λ (all : List NamedAllow). said_by_stand (stand_view r) r.feeds all (named_from 1 said))
    (sym reading.allows)
    ∙ ap (said_by_stand (stand_view r) r.feeds r.allows) (sym reading.named)
    ∙ rw (
      first_or_is r.own [],
      first_or_is r.max_article 1000000,
      first_or_is r.cutoff 864000,
      first_of_is r.remember,
      first_or_is r.patience 3600,
      first_of_is r.sync,
      first_of_is r.offers,
      first_of_is r.log,
    ) refl)

-- The draft of no lines.
pub no_draft : (d : RelayDraft) → draft_view d ≡ nothing → Lists d → IsDraftOf [] d
no_draft d e listed =
    record {
      reading = subst (IsReadingOf []) (sym e)
          (record { stand = refl; feeds = refl; allows = refl; named = refl; few = lit≤ tt });
      listed = listed;
    }

-- What the draft says is what its lines say.
pub relay_gives : (lines : List (List ℕ)) (d : RelayDraft) (result : Result Relay ConfError)
    → IsDrawnFrom LineSays early_fault IsDraftOf lines d
    → ConfGives relay_view result (draft_said (draft_view d)) → RelayGives result lines
relay_gives lines d result from gives =
    draft_answers relay_view LineSays early_fault IsDraftOf relay_said lines result d from
    (λ said none of. rw (reading_says said (draft_view d) none of.reading) gives)
