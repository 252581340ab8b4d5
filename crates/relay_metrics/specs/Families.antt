-- The metric families of the exposition (docs/FORMATS.md, Metrics): of which number of which line
-- each has its samples.
use Rattle.std.specs.Prelude.{ℕ, List, [], ◌∷◌, ◌++◌, codes, slice_get, Option, None, Some}
use Rattle.relay_metrics.specs.Lines.{Line}
use Rattle.relay_metrics.specs.declared.families.Family as code
use Rattle.relay_metrics.specs.declared.families.Kind.{Kind}
use Rattle.relay_metrics.specs.declared.families.Kind.TheVariants.{Counter, Gauge}
use Rattle.relay_metrics.specs.declared.families.Value.{Value}
use Rattle.relay_metrics.specs.declared.families.Value.TheVariants.{IsPaused, IsRecovering}
use Rattle.relay_metrics.specs.declared.families.Value.TheVariants.{IsRepaired}
use Rattle.relay_metrics.specs.declared.families.Value.TheVariants.{OfBuffer, OfFeed, OfIds, OfPeer}
use Rattle.relay_metrics.specs.declared.families.Value.TheVariants.{OfOldest, OfRefusals, OfSize}
use Rattle.relay_metrics.specs.declared.families.Value.TheVariants.{Uncounted}
use Rattle.relay_metrics.specs.declared.lines.Subject.{Subject}
use Rattle.relay_metrics.specs.declared.lines.Subject.TheVariants.{Buffer, Feed, Ids, Peer}
use Rattle.relay_metrics.specs.declared.lines.Subject.TheVariants.{Oldest, Paused, Recovering}
use Rattle.relay_metrics.specs.declared.lines.Subject.TheVariants.{Refusals, Repaired, Size}

-- A metric family: its name but for what its type adds, what is told of it, its type, its unit,
-- empty where it has none, the label that a line's name is the value of, empty where it has none,
-- and its samples' values.
pub record Family : Type 0 where
  pub base : List ℕ
  pub help : List ℕ
  pub kind : Kind
  pub unit : List ℕ
  pub label : List ℕ
  pub value : Value

-- a family of the code as the definitions have it
abbrev pub family_view : code.Family → Family
family_view family =
    record {
      base = family.base.now;
      help = family.help.now;
      kind = family.kind;
      unit = family.unit.now;
      label = family.label.now;
      value = family.value;
    }

-- what a name ends with by its family's type: that of a counter with `_total`
abbrev pub name_end : Kind → List ℕ
name_end Counter = codes "_total"
name_end Gauge = []

-- the type as the exposition calls it
abbrev pub kind_word : Kind → List ℕ
kind_word Counter = codes "counter"
kind_word Gauge = codes "gauge"

-- The value of a family's sample of a line about this, with these numbers; none where the family
-- has no sample of such a line. Each report of a relay that is served has a line of the
-- message-ids, and none of one that is being repaired has.
abbrev pub value_of : Value → Subject → (numbers : List (List ℕ)) → Option (List ℕ)
value_of (OfBuffer place) Buffer numbers = slice_get numbers place
value_of (OfFeed place) Feed numbers = slice_get numbers place
value_of (OfIds place) Ids numbers = slice_get numbers place
value_of (OfPeer place) Peer numbers = slice_get numbers place
value_of (OfRefusals place) Refusals numbers = slice_get numbers place
value_of (OfSize place) Size numbers = slice_get numbers place
value_of (OfOldest place) Oldest numbers = slice_get numbers place
value_of IsRecovering Recovering numbers = Some (codes "1")
value_of IsRecovering Ids numbers = Some (codes "0")
value_of IsRepaired Repaired numbers = Some (codes "1")
value_of IsPaused Paused numbers = Some (codes "1")
value_of value subject numbers = None

-- the value of a family's sample of a line
abbrev pub value_in : Family → Line → Option (List ℕ)
value_in family line = value_of family.value line.subject line.numbers

-- a family of numbers that only grow
abbrev pub counter : (base help unit label : List ℕ) → Value → Family
counter base help unit label value =
    record {
      base = base;
      help = help;
      kind = Counter;
      unit = unit;
      label = label;
      value = value;
    }

-- a family of numbers that grow and shrink, without a unit
abbrev pub gauge : (base help label : List ℕ) → Value → Family
gauge base help label value =
    record {
      base = base;
      help = help;
      kind = Gauge;
      unit = [];
      label = label;
      value = value;
    }

-- a family of blocks of a buffer that grow and shrink
abbrev pub blocks_gauge : (base help : List ℕ) → Value → Family
blocks_gauge base help value =
    record (gauge base help (codes "buffer") value) { unit = codes "blocks" }

-- whether the relay is being repaired
abbrev pub recovering_families : List Family
recovering_families =
    gauge (codes "cnrelay_recovering")
    (codes "Whether the relay is being repaired.") [] IsRecovering
    ∷ gauge (codes "cnrelay_buffer_recovering")
    (codes "A buffer of a relay that is being repaired.") (codes "buffer") IsRepaired
    ∷ []

-- whether the relay is paused
abbrev pub paused_families : List Family
paused_families =
    gauge (codes "cnrelay_paused") (codes "Whether the relay takes no new articles for now.") []
    IsPaused
    ∷ []

-- of the buffers: cycle, front, articles begun, articles whole
abbrev pub buffer_families : List Family
buffer_families =
    counter (codes "cnrelay_buffer_cycles")
    (codes "The cycle that the newest article of the buffer is in.") [] (codes "buffer")
    (OfBuffer 0)
    ∷ counter (codes "cnrelay_buffer_front_blocks")
    (codes "The front of the buffer, counted on over all cycles.")
    (codes "blocks") (codes "buffer") (OfBuffer 1)
    ∷ counter (codes "cnrelay_buffer_articles_begun")
    (codes "Articles that were begun in the buffer.") [] (codes "buffer") (OfBuffer 2)
    ∷ counter (codes "cnrelay_buffer_articles_stored")
    (codes "Articles that are whole in the buffer, or were.") [] (codes "buffer") (OfBuffer 3)
    ∷ []

-- of the buffers' sizes: blocks, and those of them that hold something
abbrev pub size_families : List Family
size_families =
    blocks_gauge (codes "cnrelay_buffer_size_blocks")
    (codes "Blocks of 512 octets that the buffer has.") (OfSize 0)
    ∷ blocks_gauge (codes "cnrelay_buffer_filled_blocks")
    (codes "Blocks of the buffer that hold something.") (OfSize 1)
    ∷ []

-- of the oldest articles of the buffers: since when each is there
abbrev pub oldest_families : List Family
oldest_families =
    record (gauge (codes "cnrelay_buffer_oldest_article_timestamp_seconds")
    (codes "Since when the oldest article of the buffer is there.") (codes "buffer")
    (OfOldest 0)) { unit = codes "seconds" }
    ∷ []

-- of the feeds: tokens waiting, gained, overwritten
abbrev pub feed_families : List Family
feed_families =
    gauge (codes "cnrelay_feed_tokens_waiting")
    (codes "Tokens that wait in the ring of the feed of the peer.") (codes "peer") (OfFeed 0)
    ∷ counter (codes "cnrelay_feed_tokens_gained")
    (codes "Tokens that the feed of the peer has gained.") [] (codes "peer") (OfFeed 1)
    ∷ counter (codes "cnrelay_feed_tokens_overwritten")
    (codes "Tokens of the feed of the peer that were overwritten before they were taken.") []
    (codes "peer") (OfFeed 2)
    ∷ []

-- of the message-ids: offered, storing, stored, refused
abbrev pub ids_families : List Family
ids_families =
    gauge (codes "cnrelay_message_ids_offered")
    (codes "Message-ids that a session was told to send.") [] (OfIds 0)
    ∷ gauge (codes "cnrelay_message_ids_storing")
    (codes "Message-ids whose articles are being stored.") [] (OfIds 1)
    ∷ gauge (codes "cnrelay_message_ids_stored")
    (codes "Message-ids that are remembered as stored.") [] (OfIds 2)
    ∷ gauge (codes "cnrelay_message_ids_refused")
    (codes "Message-ids that are remembered as refused.") [] (OfIds 3)
    ∷ []

-- of the peers: sessions open, articles accepted, known, refused or put off, octets read, offers
-- open
abbrev pub peer_families : List Family
peer_families =
    gauge (codes "cnrelay_peer_sessions_open") (codes "Sessions of the peer that are open.")
    (codes "peer") (OfPeer 0)
    ∷ counter (codes "cnrelay_peer_articles_accepted")
    (codes "Replies 239 and 235 to the peer since the start.") [] (codes "peer") (OfPeer 1)
    ∷ counter (codes "cnrelay_peer_articles_known")
    (codes "Articles that were known when the peer offered or sent them, since the start.") []
    (codes "peer") (OfPeer 2)
    ∷ counter (codes "cnrelay_peer_articles_refused")
    (codes "Articles of the peer that were judged and refused, since the start.") [] (codes "peer")
    (OfPeer 3)
    ∷ counter (codes "cnrelay_peer_articles_later")
    (codes "Replies 431 and 436 to the peer since the start.") [] (codes "peer") (OfPeer 4)
    ∷ counter (codes "cnrelay_peer_received_bytes")
    (codes "Octets that were read of the peer since the start.") (codes "bytes") (codes "peer")
    (OfPeer 5)
    ∷ gauge (codes "cnrelay_peer_offers_open")
    (codes "Message-ids that the peer's sessions were told to send and have not sent.")
    (codes "peer") (OfPeer 6)
    ∷ []

-- a family of articles of a peer that were refused for a reason
abbrev pub refusals : (base help : List ℕ) → Value → Family
refusals base help value = counter base help [] (codes "peer") value

-- of what was refused of the peers, by the reason (docs/PROTOCOL.md, Judging)
abbrev pub refusal_families : List Family
refusal_families =
    refusals (codes "cnrelay_peer_refused_size")
    (codes "Articles of the peer refused: more octets than maxart.") (OfRefusals 0)
    ∷ refusals (codes "cnrelay_peer_refused_grammar")
    (codes "Articles of the peer refused: their text is no article.") (OfRefusals 1)
    ∷ refusals (codes "cnrelay_peer_refused_id_mismatch")
    (codes "Articles of the peer refused: another Message-ID was offered.")
    (OfRefusals 2)
    ∷ refusals (codes "cnrelay_peer_refused_bad_path")
    (codes "Articles of the peer refused: a forbidden octet in the Path.")
    (OfRefusals 3)
    ∷ refusals (codes "cnrelay_peer_refused_loop")
    (codes "Articles of the peer refused: the own identity is in the Path.")
    (OfRefusals 4)
    ∷ refusals (codes "cnrelay_peer_refused_date")
    (codes "Articles of the peer refused: their date can't be read, is too"
    ++ codes " old, or is in the future.") (OfRefusals 5)
    ∷ refusals (codes "cnrelay_peer_refused_no_class")
    (codes "Articles of the peer refused: no entry of storage.conf is chosen.")
    (OfRefusals 6)
    ∷ refusals (codes "cnrelay_peer_refused_too_large")
    (codes "Articles of the peer refused: more blocks than the smallest buffer"
    ++ codes " of their group.") (OfRefusals 7)
    ∷ []

-- the families of which lines have samples, in their order
abbrev pub report_families : List Family
report_families =
    recovering_families ++ paused_families ++ buffer_families ++ size_families ++ oldest_families
    ++ feed_families ++ ids_families ++ peer_families ++ refusal_families

-- the family of how many lines aren't known: no line is a sample of it
abbrev pub unread_family : Family
unread_family =
    gauge (codes "cnrelay_report_lines_unread")
    (codes "Lines of the report that are not in this exposition.") [] Uncounted
