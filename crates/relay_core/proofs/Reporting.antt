-- One buffer or feed more of the report.
use Rattle.std.proofs.Common.{◌≡◌, ◌≤◌, ◌<◌, ◌+◌, ◌++◌, ◌∙◌, ℕ, List, [], ◌∷◌, None, Some}
use Rattle.std.proofs.Common.{arith, ap, sym, zero-add}
use Rattle.std.proofs.Math.ListN.{get_or-map}
use Rattle.std.proofs.lemmas.List.{length-map, map_push, take_all, take_more}
use Rattle.std.proofs.lemmas.List.FromFn.{get_or-enumerate_from, length-enumerate_from}
use Rattle.std.proofs.lemmas.Option.{none-some, same_Some, slice_get-get_or, slice_get-map}
use Rattle.std.specs.List.{enumerate_from}
use Rattle.std.specs.Prelude.{get_or, length, map, option_map, slice_get, slice_index, take}
use Rattle.std.specs.Prelude.{Option}
use Rattle.article_verdict.specs.Config.{terms_of}
use Rattle.block_shelf.proofs.NewBufferSet.{numbered_view}
use Rattle.block_shelf.specs.Figures.{figures_view}
use Rattle.block_shelf.specs.declared.figures.BufferFigures.{BufferFigures}
use Rattle.feed_queue.specs.Feeds.{KeepsFeeds, ring_count}
use Rattle.feed_queue.specs.Permission.{feed_view as conf_view}
use Rattle.feed_queue.specs.declared.desk.FeedDesk.{FeedDesk}
use Rattle.relay_conf.specs.Places.{numbered_buffer}
use Rattle.relay_conf.specs.declared.cycbuff.BufferConf.{BufferConf}
use Rattle.relay_conf.specs.declared.relay.Feed.{Feed}
use Rattle.relay_conf.specs.declared.relay.Peer.{Peer}
use Rattle.relay_conf.specs.declared.settings.Config.{Config}
use Rattle.relay_model.specs.Figures.{buffer_figures, feed_figures}
use Rattle.relay_model.specs.Shares.{ring_of}
use Rattle.relay_model.specs.State as model
use Rattle.relay_model.specs.State.{State}
use Rattle.relay_model.specs.Terms.{FeedTerms, Terms}
use Rattle.relay_core.proofs.Feeds.{ring_at}
use Rattle.relay_core.specs.Agreement.{ring_sizes}
use Rattle.relay_report.specs.Figures.{buffer_view, feed_figures_view, feed_view, name_of}
use Rattle.relay_report.specs.Figures.{named_buffer, named_buffers, named_feed, named_feeds}
use Rattle.relay_report.specs.declared.figures.FeedFigures.{FeedFigures}
use Rattle.relay_report.specs.declared.figures.NamedBuffer as code
use Rattle.relay_report.specs.declared.figures.NamedFeed as code_feed

-- what is made of each of a list with its number, as far as one more of it
pub numbered_more : {X Y : Type 0} (f : ℕ × X → Y) (xs : List X) (i : ℕ) (d : X) → i < length xs
    → take (i + 1) (map f (enumerate_from 0 xs))
    ≡ take i (map f (enumerate_from 0 xs)) ++ f (i, get_or xs i d) ∷ []
numbered_more {X = X} {Y = Y} f xs i d within =
    let pairs : List (ℕ × X) = enumerate_from 0 xs in
    let ys : List Y = map f pairs in
    let long : length ys ≡ length xs = length-map pairs f ∙ length-enumerate_from 0 xs in
    take_more ys i (f (0, d)) (omega (arith, long, within))
    ∙ ap (λ y. take i ys ++ y ∷ [])
    (get_or-map f pairs i (0, d) ∙ ap f (get_or-enumerate_from 0 xs i (0, d) within)
    ∙ ap (λ n. f (n, get_or xs i d)) (zero-add i))

-- what is made of each of a list with its number, as far as the end of it
pub numbered_all : {X Y : Type 0} (f : ℕ × X → Y) (xs : List X) (i : ℕ) → length xs ≤ i
    → take i (map f (enumerate_from 0 xs)) ≡ map f (enumerate_from 0 xs)
numbered_all f xs i past =
    let long = length-map (enumerate_from 0 xs) f ∙ length-enumerate_from 0 xs in
    take_all i (map f (enumerate_from 0 xs)) (omega (arith, long, past))

-- what a buffer set tells of a buffer that is there
abbrev pub TellsFigures : (w : Terms) → State → (n : ℕ) → Option BufferFigures → Type 0
TellsFigures w σ n told =
    option_map figures_view told ≡ option_map (buffer_figures w σ) (slice_get w.buffers n)

-- it is of the configuration's buffer of this number
told_at : (config : Config) (σ : State) (n : ℕ) (conf : BufferConf) (told : Option BufferFigures)
    → n < length config.buffers.buffers.items → TellsFigures (terms_of config) σ n told
    → option_map figures_view told
    ≡ Some (buffer_figures (terms_of config) σ
    (numbered_buffer (n, get_or config.buffers.buffers.items n conf)))
told_at config σ n conf told within tells =
    let w : Terms = terms_of config in
    let all : List BufferConf = config.buffers.buffers.items in
    tells
    ∙ ap (option_map (buffer_figures w σ))
    (numbered_view all n
    ∙ ap (option_map (λ (one : BufferConf). numbered_buffer (n, one)))
    (slice_get-get_or all n conf within))

-- the next buffer joins those before it
pub buffer_joins : (config : Config) (σ : State) (n : ℕ) (conf : BufferConf)
    (figures : BufferFigures) → n < length config.buffers.buffers.items
    → conf ≡ get_or config.buffers.buffers.items n conf
    → TellsFigures (terms_of config) σ n (Some figures)
    → (name : List ℕ) → name ≡ conf.name → (named more : List code.NamedBuffer)
    → more ≡ named ++ record { name = name; figures = figures } ∷ []
    → map buffer_view named ≡ take n (named_buffers config σ)
    → map buffer_view more ≡ take (n + 1) (named_buffers config σ)
buffer_joins config σ n conf figures within is tells name same named more joined so_far =
    let all = config.buffers.buffers.items in
    let one : code.NamedBuffer = record { name = name; figures = figures } in
    let told = told_at config σ n conf (Some figures) within tells in
    let f = named_buffer config σ in
    let shown : figures_view figures
    ≡ buffer_figures (terms_of config) σ (numbered_buffer (n, get_or all n conf)) =
    same_Some _ _ told in
    let named_one : buffer_view one ≡ f (n, get_or all n conf) =
    λ i. record { name = (same ∙ ap (λ (b : BufferConf). b.name) is) i; figures = shown i } in
    ap (map buffer_view) joined ∙ map_push buffer_view named one
    ∙ ap (λ xs. xs ++ buffer_view one ∷ []) so_far
    ∙ ap (λ y. take n (named_buffers config σ) ++ y ∷ []) named_one
    ∙ sym (numbered_more f all n conf within)

-- there is no buffer that isn't there
pub buffer_there : (config : Config) (σ : State) (n : ℕ) (conf : BufferConf)
    → n < length config.buffers.buffers.items → TellsFigures (terms_of config) σ n None → ⊥
buffer_there config σ n conf within tells =
    none-some _ (told_at config σ n conf None within tells)

-- the next feed joins those before it
pub feed_joins : (config : Config) (σ : State) (n : ℕ) (conf : Feed) (figures : FeedFigures)
    → n < length config.relay.feeds.items → conf ≡ get_or config.relay.feeds.items n conf
    → feed_figures_view figures
    ≡ feed_figures (slice_index (ring_sizes (terms_of config)) n) (σ.feed n)
    → (peer : Peer) → conf.peer < length config.relay.peers.items
    → peer ≡ get_or config.relay.peers.items conf.peer peer
    → (name : List ℕ) → name ≡ peer.name → (named more : List code_feed.NamedFeed)
    → more ≡ named ++ record { peer = name; figures = figures } ∷ []
    → map feed_view named ≡ take n (named_feeds config σ)
    → map feed_view more ≡ take (n + 1) (named_feeds config σ)
feed_joins config σ n conf figures within is tells peer has_peer is_peer name same named more
    joined so_far =
    let all : List Feed = config.relay.feeds.items in
    let w : Terms = terms_of config in
    let one : code_feed.NamedFeed = record { peer = name; figures = figures } in
    let within_terms : n < length w.feeds = omega (arith, length-map all conf_view, within) in
    let told = tells
    ∙ ap (λ size. feed_figures size (σ.feed n))
    (ring_at w.feeds n within_terms
    ∙ ap ring_of (slice_get-map conf_view all n
    ∙ ap (option_map conf_view) (slice_get-get_or all n conf within))) in
    let named_so : name ≡ name_of (slice_get config.relay.peers.items conf.peer) =
    same ∙ ap (λ (p : Peer). p.name) is_peer
    ∙ sym (ap name_of (slice_get-get_or config.relay.peers.items conf.peer peer has_peer)) in
    let f = named_feed config σ in
    let named_one : feed_view one ≡ f (n, get_or all n conf) = λ i. record {
      peer = (named_so
          ∙ ap (λ (feed : Feed). name_of (slice_get config.relay.peers.items feed.peer)) is) i;
      figures = told i;
    } in
    ap (map feed_view) joined ∙ map_push feed_view named one
    ∙ ap (λ xs. xs ++ feed_view one ∷ []) so_far
    ∙ ap (λ y. take n (named_feeds config σ) ++ y ∷ []) named_one
    ∙ sym (numbered_more f all n conf within)

-- there is no feed that isn't there
pub feed_there : (config : Config) (desk : FeedDesk) (feed : ℕ → model.Feed)
    → KeepsFeeds desk (ring_sizes (terms_of config)) feed → (n : ℕ)
    → n < length config.relay.feeds.items → n < ring_count desk
feed_there config desk feed keeps n within =
    let w : Terms = terms_of config in
    omega (
      arith,
      keeps.count,
      length-map w.feeds (λ (feed : FeedTerms). feed.ring),
      length-map config.relay.feeds.items conf_view,
      within,
    )
