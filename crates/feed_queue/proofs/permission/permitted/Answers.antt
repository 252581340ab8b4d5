use Rattle.std.proofs.Common.{sym, ◌∙◌, ap, map, subst, refl, []}
use Rattle.std.specs.Prelude.{unwrap_or}
use Rattle.article_parse.specs.Article.{article_view}
use Rattle.feed_queue.specs.Permission.{HasFeeds, octets_of}
use Rattle.feed_queue.proofs.PermissionLemmas.{now-or, take-least}
use Rattle.feed_queue.proofs.permission.permitted.Goals as goal

-- of the feeds that have a number, by the article's newsgroups and its Path
pub returns : goal.returns
returns c w feeds =
    c.in_ok-numbers.ensures w (article_view c.args.article.now)
    (subst (HasFeeds w c.args.peers.now) (take-least c.args.feeds.now 65536 _ c.min.ensures) feeds)
    (record {
      newsgroups = sym c.in_ok-groups.ensures ∙ ap (map octets_of) (sym c.deref.ensures.value);
      received = ap (λ path. unwrap_or path []) (sym c.field.ensures)
          ∙ now-or c.field.result _ refl ∙ sym (ap (λ path. path.now) c.unwrap_or-path.ensures);
      message_id = sym (c.as_bytes-id.ensures.value ∙ c.id.ensures.content);
    })
