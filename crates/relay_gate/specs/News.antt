-- The line of what became of an article (docs/FORMATS.md, News log).
use Rattle.std.specs.Prelude.{ℕ, Bool, false, List, bytes_eq, codes, take, Option, Some, None}
use Rattle.std.specs.Prelude.{if◌then◌else◌}
use Rattle.article_verdict.specs.Verdict.{reason_name, reason_view}
use Rattle.live_session.specs.declared.remarks.Remark.{Remark}
use Rattle.live_session.specs.declared.remarks.Remark.TheVariants as remarks
use Rattle.news_log.specs.Lines.{IsAcceptedLine, IsRefusedLine}
use Rattle.news_log.specs.declared.moments.Moment.{Moment}
use Rattle.relay_conf.specs.declared.settings.NewsLog.{NewsLog}
use Rattle.relay_conf.specs.declared.settings.Relay.{Relay}
use Rattle.relay_gate.specs.declared.news.News.{News}
use Rattle.std.specs.Option.{option_map}

-- the lines of stored articles are put too
abbrev pub all_in : News → Bool
all_in news = news.all

-- of which articles a relay with this setting has lines put, where it logs any: of all that it
-- takes or refuses, or of those that it refuses
abbrev pub all_of : Relay → Option Bool
all_of relay = option_map (λ (log : NewsLog). log.all) relay.log

-- lines of stored articles are put, where any are
abbrev pub wants_all : Option Bool → Bool
wants_all None = false
wants_all (Some all) = all

-- the code of the reply by which an article isn't taken: 437 to IHAVE, 439 to TAKETHIS (RFC 3977
-- section 6.3.2, RFC 4644 section 2.5)
abbrev pub code_in : (reply : List ℕ) → List ℕ
code_in reply = if bytes_eq (take 3 reply) (codes "437") then codes "437" else codes "439"

-- the line of what became of an article that a peer was answered so at this moment: one that was
-- refused has its reason, one that was known is a duplicate
abbrev pub IsNewsLine : Relay → Moment → (peer reply : List ℕ) → Remark → (line : List ℕ) → Type 0
IsNewsLine relay moment peer reply (remarks.Refused id reason) line =
    IsRefusedLine moment peer id (code_in reply) (reason_name (reason_view reason)) line
IsNewsLine relay moment peer reply (remarks.Known id) line =
    IsRefusedLine moment peer id (code_in reply) (codes "Duplicate") line
IsNewsLine relay moment peer reply (remarks.Stored (Some taken)) line =
    IsAcceptedLine moment peer taken.id taken.octets relay taken.feeds.items line
IsNewsLine relay moment peer reply (remarks.Stored None) line = ⊥
