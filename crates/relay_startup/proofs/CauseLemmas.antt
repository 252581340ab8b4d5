-- A cause is told exactly of a text that is no history of the configuration.
use Rattle.std.proofs.Common.{◌≡◌, ◌∙◌, ◌-◌, ◌^◌, ℕ, suc, ap, refl, sym, arith}
use Rattle.std.proofs.Common.{Bool, true, false, ◌&&◌, List, [], ◌∷◌, length, min}
use Rattle.std.proofs.Common.{Option, None, Some, Ok, leb, eqb, ltb}
use Rattle.std.proofs.lemmas.Bool.{and_parts, eqb-true, eq-eqb, false≢true, lt-ltb}
use Rattle.std.proofs.lemmas.Option.{none-some}
use Rattle.std.specs.List.{AllByRecursion}
use Rattle.std.specs.Prelude.{IfSome}
use Rattle.news_terms.specs.Token.{Token, IsToken}
use Rattle.id_history.proofs.Fields.{IsBytes}
use Rattle.id_history.proofs.Histories.{all_again, all_takes}
use Rattle.id_history.proofs.Tests.{Holds-from_tests, both, tests_pass}
use Rattle.id_history.specs.Conditions.{are_positions, are_there, feed_holds, feeds_hold, holds}
use Rattle.id_history.specs.Conditions.{id_holds, ids_hold, is_there, rise}
use Rattle.id_history.specs.History.{FeedFits, Fits, Holds, IdFits, Kept, KeptFeed, KeptId, Setting}
use Rattle.id_history.specs.History.{history_octets}
use Rattle.id_history.specs.Reading.{all_of}
use Rattle.relay_conf.specs.declared.settings.Config.{Config}
use Rattle.relay_core.specs.Desks.{Reads, setting_of}
use Rattle.relay_report.specs.declared.fault.ServeError.{ServeError}
use Rattle.relay_report.specs.declared.fault.ServeError.TheVariants as faults
use Rattle.relay_report.specs.declared.keeping.HistoryFault.{HistoryFault}
use Rattle.relay_report.specs.declared.keeping.HistoryFault.TheVariants.{Missing, Text, Groups}
use Rattle.relay_report.specs.declared.keeping.HistoryFault.TheVariants.{Feeds, Ring, Buffers}
use Rattle.relay_report.specs.declared.keeping.StartFault.TheVariants as starts
use Rattle.relay_startup.specs.StopNumbers.{IsStopOf, TellsNone}
use Rattle.relay_startup.specs.Causes.{HasStopOrCause, TellsCause, cause_of, is_of_some}
use Rattle.relay_startup.specs.Causes.{names_buffers, own_ring}
use Rattle.relay_startup.specs.Causes.{own_rings, unfit, unfit_read, unless}

-- WHAT HOLDS WITH A SETTING HOLDS WITH THE WIDEST

-- tokens that have room name buffers below 256
there_wide : (tokens : List Token) → AllByRecursion IsToken tokens → are_there 256 tokens ≡ true
there_wide [] fit = refl
there_wide (token ∷ tokens) fit =
    both (ltb token.buffer 256) (are_there 256 tokens) (lt-ltb token.buffer 256 fit.0.buffer)
    (there_wide tokens fit.1)

-- so many as fit in a ring fit in a ring of their own
least : (n ring left : ℕ) → n ≡ min ring left → n ≡ min n left
least n ring left is = omega (arith, is)

-- a feed
feed_wide : (buffers : ℕ) (feed : KeptFeed) (ring : ℕ) → FeedFits feed
    → feed_holds buffers feed ring ≡ true → feed_holds 256 feed ring ≡ true
feed_wide buffers feed ring fit h =
    let taken = leb feed.taken feed.passed in
    let passed = leb feed.passed feed.gained in
    let gained = leb feed.gained (2 ^ 62) in
    let waits = eqb (length feed.waiting) (min ring (feed.gained - feed.passed)) in
    let d = and_parts (((taken && passed) && gained) && waits) (are_there buffers feed.waiting) h in
    both (((taken && passed) && gained) && waits) (are_there 256 feed.waiting) d.0
    (there_wide feed.waiting fit.tokens)

-- and with its own ring
feed_own : (buffers : ℕ) (feed : KeptFeed) (ring : ℕ) → FeedFits feed
    → feed_holds buffers feed ring ≡ true → feed_holds 256 feed (own_ring feed) ≡ true
feed_own buffers feed ring fit h =
    let taken = leb feed.taken feed.passed in
    let passed = leb feed.passed feed.gained in
    let gained = leb feed.gained (2 ^ 62) in
    let left = feed.gained - feed.passed in
    let n = length feed.waiting in
    let waits = eqb n (min ring left) in
    let own = eqb n (min n left) in
    let d = and_parts (((taken && passed) && gained) && waits) (are_there buffers feed.waiting) h in
    let c = and_parts ((taken && passed) && gained) waits d.0 in
    both (((taken && passed) && gained) && own) (are_there 256 feed.waiting)
    (both ((taken && passed) && gained) own c.0
    (eq-eqb n (min n left) (least n ring left (eqb-true n (min ring left) c.1))))
    (there_wide feed.waiting fit.tokens)

-- feeds
feeds_wide : (buffers : ℕ) (feeds : List KeptFeed) (rings : List ℕ)
    → AllByRecursion FeedFits feeds → feeds_hold buffers feeds rings ≡ true
    → feeds_hold 256 feeds rings ≡ true
feeds_wide buffers [] [] fit h = refl
feeds_wide buffers [] (ring ∷ rings) fit h = h
feeds_wide buffers (feed ∷ feeds) [] fit h = h
feeds_wide buffers (feed ∷ feeds) (ring ∷ rings) fit h =
    let parts = and_parts (feed_holds buffers feed ring) (feeds_hold buffers feeds rings) h in
    both (feed_holds 256 feed ring) (feeds_hold 256 feeds rings)
    (feed_wide buffers feed ring fit.0 parts.0) (feeds_wide buffers feeds rings fit.1 parts.1)

feeds_own : (buffers : ℕ) (feeds : List KeptFeed) (rings : List ℕ)
    → AllByRecursion FeedFits feeds → feeds_hold buffers feeds rings ≡ true
    → feeds_hold 256 feeds (own_rings feeds) ≡ true
feeds_own buffers [] rings fit h = refl
feeds_own buffers (feed ∷ feeds) [] fit h = absurd (false≢true h)
feeds_own buffers (feed ∷ feeds) (ring ∷ rings) fit h =
    let parts = and_parts (feed_holds buffers feed ring) (feeds_hold buffers feeds rings) h in
    both (feed_holds 256 feed (own_ring feed)) (feeds_hold 256 feeds (own_rings feeds))
    (feed_own buffers feed ring fit.0 parts.0) (feeds_own buffers feeds rings fit.1 parts.1)

-- there are as many as rings
as_many : (buffers : ℕ) (feeds : List KeptFeed) (rings : List ℕ)
    → feeds_hold buffers feeds rings ≡ true → length feeds ≡ length rings
as_many buffers [] [] h = refl
as_many buffers [] (ring ∷ rings) h = absurd (false≢true h)
as_many buffers (feed ∷ feeds) [] h = absurd (false≢true h)
as_many buffers (feed ∷ feeds) (ring ∷ rings) h =
    ap (λ n. suc n) (as_many buffers feeds rings
    (and_parts (feed_holds buffers feed ring) (feeds_hold buffers feeds rings) h).1)

-- message-ids
token_wide : (token : Option Token) → IfSome token IsToken → is_there 256 token ≡ true
token_wide None fit = refl
token_wide (Some token) fit = lt-ltb token.buffer 256 fit.buffer

ids_wide : (buffers : ℕ) (ids : List KeptId) → AllByRecursion IdFits ids
    → ids_hold buffers ids ≡ true → ids_hold 256 ids ≡ true
ids_wide buffers [] fit h = refl
ids_wide buffers (one ∷ ids) fit h =
    let parts = and_parts (id_holds buffers one) (ids_hold buffers ids) h in
    both (id_holds 256 one) (ids_hold 256 ids)
    (both _ (is_there 256 one.token) (and_parts _ (is_there buffers one.token) parts.0).0
    (token_wide one.token fit.0.token))
    (ids_wide buffers ids fit.1 parts.1)

-- a history that holds with a setting is one of some
of_some : (setting : Setting) (kept : Kept) → Fits kept → holds setting kept ≡ true
    → is_of_some kept ≡ true
of_some setting kept fits h =
    let positions = are_positions kept.positions setting.groups in
    let feeds = feeds_hold setting.buffers kept.feeds setting.rings in
    let ids = ids_hold setting.buffers kept.ids in
    let c = and_parts ((positions && feeds) && ids) (rise kept.ids) h in
    let b = and_parts (positions && feeds) ids c.0 in
    let a = and_parts positions feeds b.0 in
    let own = feeds_hold 256 kept.feeds (own_rings kept.feeds) in
    both (own && ids_hold 256 kept.ids) (rise kept.ids)
    (both own (ids_hold 256 kept.ids)
    (feeds_own setting.buffers kept.feeds setting.rings fits.feeds a.1)
    (ids_wide setting.buffers kept.ids fits.ids b.1)) c.1

-- THE CAUSES

-- where all conditions hold there is none
none_left : (a b c d e : Bool) → a ≡ true → b ≡ true → c ≡ true → d ≡ true → e ≡ true
    → unless a Text (unless b Groups (unless c Feeds (unless d Ring (unless e Buffers None))))
    ≡ None
none_left a b c d e pa pb pc pd pe = rw (pa, pb, pc, pd, pe) refl

-- and where there is none they hold
each_holds : (a b c d e : Bool)
    → unless a Text (unless b Groups (unless c Feeds (unless d Ring (unless e Buffers None))))
    ≡ None
    → (a ≡ true) × (b ≡ true) × (e ≡ true)
each_holds true true true true true is = (refl, refl, refl)
each_holds true true true true false is = absurd (none-some Buffers (sym is))
each_holds true true true false e is = absurd (none-some Ring (sym is))
each_holds true true false d e is = absurd (none-some Feeds (sym is))
each_holds true false c d e is = absurd (none-some Groups (sym is))
each_holds false b c d e is = absurd (none-some Text (sym is))

-- the cause is the text itself
abbrev is_text : Option HistoryFault → Bool
is_text (Some Text) = true
is_text other = false

-- that comes first, so it is the cause alone where its own condition fails
not_own : (a b c d e : Bool)
    → unless a Text (unless b Groups (unless c Feeds (unless d Ring (unless e Buffers None))))
    ≡ Some Text
    → a ≡ false
not_own false b c d e is = refl
not_own true false c d e is = absurd (false≢true (ap is_text is))
not_own true true false d e is = absurd (false≢true (ap is_text is))
not_own true true true false e is = absurd (false≢true (ap is_text is))
not_own true true true true false is = absurd (false≢true (ap is_text is))
not_own true true true true true is = absurd (false≢true (ap is_text is))

-- a history that holds has no cause
no_unfit : (setting : Setting) (kept : Kept) → Fits kept → holds setting kept ≡ true
    → unfit setting kept ≡ None
no_unfit setting kept fits h =
    let positions = are_positions kept.positions setting.groups in
    let feeds = feeds_hold setting.buffers kept.feeds setting.rings in
    let ids = ids_hold setting.buffers kept.ids in
    let c = and_parts ((positions && feeds) && ids) (rise kept.ids) h in
    let b = and_parts (positions && feeds) ids c.0 in
    let a = and_parts positions feeds b.0 in
    none_left (is_of_some kept) positions (eqb (length kept.feeds) (length setting.rings))
    (feeds_hold 256 kept.feeds setting.rings) (feeds && ids)
    (of_some setting kept fits h) a.0
    (eq-eqb (length kept.feeds) (length setting.rings)
    (as_many setting.buffers kept.feeds setting.rings a.1))
    (feeds_wide setting.buffers kept.feeds setting.rings fits.feeds a.1)
    (both feeds ids a.1 b.1)

-- and one without a cause holds
holds_unfit : (setting : Setting) (kept : Kept) → unfit setting kept ≡ None
    → holds setting kept ≡ true
holds_unfit setting kept is =
    let positions = are_positions kept.positions setting.groups in
    let feeds = feeds_hold setting.buffers kept.feeds setting.rings in
    let ids = ids_hold setting.buffers kept.ids in
    let own = feeds_hold 256 kept.feeds (own_rings kept.feeds) && ids_hold 256 kept.ids in
    let t = each_holds (is_of_some kept) positions
    (eqb (length kept.feeds) (length setting.rings)) (feeds_hold 256 kept.feeds setting.rings)
    (feeds && ids) is in
    let n = and_parts feeds ids t.2 in
    both ((positions && feeds) && ids) (rise kept.ids)
    (both (positions && feeds) ids (both positions feeds t.1 n.0) n.1)
    (and_parts own (rise kept.ids) t.0).1

-- what a text is read as without a cause is the history that it is
pub reads_of : (config : Config) (text : List ℕ) (kept : Kept) → IsBytes text
    → all_of text ≡ Some kept → unfit (setting_of config) kept ≡ None → Reads config text kept
reads_of config text kept bytes read is =
    let takes = all_takes text kept bytes read in
    record {
      fits = takes.0;
      holds = Holds-from_tests (setting_of config) kept (holds_unfit (setting_of config) kept is);
      text_is = takes.1;
    }

-- there are octets
abbrev has_octets : List ℕ → Bool
has_octets [] = false
has_octets (octet ∷ octets) = true

-- no history has none
written : (kept : Kept) → [] ≡ history_octets kept → ⊥
written kept is = false≢true (ap has_octets is)

-- a text that is a history of the configuration has no cause,
pub no_cause : (config : Config) (text : List ℕ) (kept : Kept) → Reads config text kept
    → cause_of config (Some text) ≡ None
no_cause config [] kept reads = absurd (written kept reads.text_is)
no_cause config (octet ∷ octets) kept reads =
    ap (unfit_read (setting_of config)) (ap all_of reads.text_is ∙ all_again kept reads.fits)
    ∙ no_unfit (setting_of config) kept reads.fits
    (tests_pass (setting_of config) kept reads.holds)

-- and one without a cause is one
pub some_reads : (config : Config) (text : List ℕ) → IsBytes text
    → cause_of config (Some text) ≡ None → (kept : Kept) × Reads config text kept
some_reads config [] bytes is = absurd (none-some Missing (sym is))
some_reads config (octet ∷ octets) bytes is = by (all_of (octet ∷ octets)) refl is
  where
    by : (read : Option Kept) → all_of (octet ∷ octets) ≡ read
        → unfit_read (setting_of config) read ≡ None
        → (kept : Kept) × Reads config (octet ∷ octets) kept
    by None read none = absurd (none-some Text (sym none))
    by (Some kept) read none = (kept, reads_of config (octet ∷ octets) kept bytes read none)

-- WHAT IS READ

-- a text of some octets has the cause of what it is read as
cause_read : (config : Config) (text : List ℕ) → eqb (length text) 0 ≡ false
    → cause_of config (Some text) ≡ unfit_read (setting_of config) (all_of text)
cause_read config [] some = absurd (false≢true (sym some))
cause_read config (octet ∷ octets) some = refl

-- one that is no history is at fault itself
pub unread_cause : (config : Config) (text : List ℕ) → eqb (length text) 0 ≡ false
    → all_of text ≡ None → cause_of config (Some text) ≡ Some Text
unread_cause config text some none =
    cause_read config text some ∙ ap (unfit_read (setting_of config)) none

-- one that is a history has its cause
pub read_cause : (config : Config) (text : List ℕ) (kept : Kept) (cause : HistoryFault)
    → eqb (length text) 0 ≡ false → all_of text ≡ Some kept
    → Some cause ≡ unfit (setting_of config) kept → cause_of config (Some text) ≡ Some cause
read_cause config text kept cause some read is =
    cause_read config text some ∙ ap (unfit_read (setting_of config)) read ∙ sym is

-- and where there is none it is that of a stop
pub read_stop : (config : Config) (text : List ℕ) (kept : Kept) (stop : ℕ) → IsBytes text
    → all_of text ≡ Some kept → None ≡ unfit (setting_of config) kept → kept.stop ≡ stop
    → HasStopOrCause config text (Ok stop)
read_stop config text kept stop bytes read none same =
    let reads = reads_of config text kept bytes read (sym none) in
    (record { kept = kept; reads = reads; stop_is = same }, no_cause config text kept reads)

-- WHAT IS TOLD

-- a text that is no history of the configuration has a cause
pub has_cause : (config : Config) (text : List ℕ) → IsBytes text
    → ((kept : Kept) → Reads config text kept → ⊥)
    → (cause : HistoryFault) × (cause_of config (Some text) ≡ Some cause)
has_cause config text bytes unread = by (cause_of config (Some text)) refl
  where
    by : (found : Option HistoryFault) → cause_of config (Some text) ≡ found
        → (cause : HistoryFault) × (cause_of config (Some text) ≡ Some cause)
    by None is = let reads = some_reads config text bytes is in absurd (unread reads.0 reads.1)
    by (Some cause) is = (cause, is)

-- where there is a cause nothing was stopped with that
pub no_stop : (config : Config) (kept : Option (List ℕ)) (cause : HistoryFault)
    → cause_of config kept ≡ Some cause → (stop : ℕ) → IsStopOf config kept stop → ⊥
no_stop config None cause is stop stops = stops
no_stop config (Some text) cause is stop stops =
    none-some cause (sym (no_cause config text stops.kept stops.reads) ∙ is)

-- an error that tells the cause says that there is no history only where that is so
pub tells_none : (config : Config) (kept : Option (List ℕ)) (error : ServeError)
    → TellsCause config kept error → TellsNone config kept error
tells_none config kept (faults.Start (starts.BadHistory cause)) told =
    no_stop config kept cause told
tells_none config kept error told = tt

-- where the cause is the text itself no relay can have stopped with it
pub of_none : (config : Config) (text : List ℕ) → cause_of config (Some text) ≡ Some Text
    → (setting : Setting) (kept : Kept) → Fits kept → Holds setting kept
    → text ≡ history_octets kept → ⊥
of_none config [] is setting kept fits holding same = written kept same
of_none config (octet ∷ octets) is setting kept fits holding same =
    let its = setting_of config in
    let read = ap (unfit_read its) (ap all_of same ∙ all_again kept fits) in
    let own = of_some setting kept fits (tests_pass setting kept holding) in
    let failed = not_own (is_of_some kept) (are_positions kept.positions its.groups)
    (eqb (length kept.feeds) (length its.rings)) (feeds_hold 256 kept.feeds its.rings)
    (names_buffers its kept) (sym read ∙ is) in
    false≢true (sym failed ∙ own)
