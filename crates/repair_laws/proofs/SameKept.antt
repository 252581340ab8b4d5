-- Buffers that were found again keep the same texts in whatever order, for whatever ids.
use Rattle.std.proofs.Common.{◌∙◌, ℕ, List, [], ◌∷◌, map, All, None, true}
use Rattle.std.proofs.lemmas.List.Elements.{All-cons, All-head, All-map, All-nil, All-tail}
use Rattle.std.proofs.lemmas.List.Elements.{All-weaker}
use Rattle.std.proofs.lemmas.List.Sorted.{All-permutation}
use Rattle.block_shelf.specs.Histories.{IsHistoryOf}
use Rattle.block_shelf.specs.Keeping.{HasBuffer}
use Rattle.buffer_repair.specs.Keeping.{IsLiveText, KeepsFound}
use Rattle.buffer_repair.specs.declared.found_set.FoundBufferSet.{FoundBufferSet}
use Rattle.buffer_repair.specs.Finding.{buffers_in}
use Rattle.cyc_block.specs.declared.store.BlockStore.{Ghosts}
use Rattle.cyc_buffer.specs.History.{History}
use Rattle.cyc_buffer.specs.declared.buffer.Buffer.{Buffer}
use Rattle.found_again.specs.Reading.{AreSameTexts, unnamed}
use Rattle.news_terms.specs.Courses.{Course}
use Rattle.news_terms.specs.Places as places
use Rattle.relay_model.specs.Figures.{is_kept_in}
use Rattle.relay_model.specs.State.{Kept}
use Rattle.relay_model.specs.Terms.{Terms}
use Rattle.repair_laws.proofs.UnderTokens.{count_same, found_same, places_same}
use Rattle.repair_laws.specs.FoundAll.{AreAtPlaces}

-- what holds of each of a mapped list holds of what each is mapped to
pub of_map : {X Y : Type 0} (P : Y → Type 0) (f : X → Y) (xs : List X) → All P (map f xs)
    → All (λ x. P (f x)) xs
of_map {X} P f [] all = All-nil (λ (x : X). P (f x))
of_map {X} P f (first ∷ xs) all =
    All-cons (λ (x : X). P (f x)) first xs (All-head P (f first) (map f xs) all)
    (of_map P f xs (All-tail P (f first) (map f xs) all))

-- what holds of the texts whatever their ids are holds of the same texts
pub all_same : (P : Kept → Type 0) → ((one : Kept) → P one → P (unnamed one))
    → ((one : Kept) → P (unnamed one) → P one) → (kept other : List Kept)
    → AreSameTexts kept other → All P kept → All P other
all_same P to back kept other same all =
    All-weaker (λ (one : Kept). P (unnamed one)) P back other
    (of_map P unnamed other
    (All-permutation P (map unnamed kept) (map unnamed other) same
    (All-map P unnamed kept (All-weaker P (λ (one : Kept). P (unnamed one)) to kept all))))

-- what is said of a buffer's history is said of it with the same texts
said_same : (groups : List places.Group) (begun : ℕ → Course) (kept other : List Kept)
    → AreSameTexts kept other → AreAtPlaces kept → (h : History)
    → IsHistoryOf groups begun kept (λ g. None) h → IsHistoryOf groups begun other (λ g. None) h
said_same groups begun kept other same at_places h said = record {
  begins = said.begins;
  texts = λ token here. said.texts token here ∙ found_same kept other same at_places token;
  stored = said.stored ∙ count_same (is_kept_in h.buffer) kept other same;
  writing = said.writing;
}

-- a buffer keeps them
abbrev same_buffer : {S : Type 0} {g : Ghosts S} (codes : List (Buffer S g))
    (groups : List places.Group) (begun : ℕ → Course) (kept other : List Kept) (failures : ℕ → ℕ)
    → AreSameTexts kept other → AreAtPlaces kept → (b : ℕ) (buffer : places.Buffer)
    → HasBuffer true codes groups begun kept (λ h. None) failures b buffer
    → HasBuffer true codes groups begun other (λ h. None) failures b buffer
same_buffer codes groups begun kept other failures same at_places b buffer had = record {
  code = had.code;
  there = had.there;
  keeps = record {
    history = had.keeps.history;
    is_of_buffer = had.keeps.is_of_buffer;
    agrees = had.keeps.agrees;
    is_said = said_same groups begun kept other same at_places had.keeps.history
        had.keeps.is_said;
    failed = had.keeps.failed;
  };
}

-- so all that the buffers kept they keep
pub same_kept : {S : Type 0} {g : Ghosts S} (found_set : FoundBufferSet S g) (w : Terms)
    (begun : ℕ → Course) (kept other : List Kept) (failures : ℕ → ℕ)
    → KeepsFound found_set w begun kept failures → AreSameTexts kept other
    → KeepsFound found_set w begun other failures
same_kept {S} {g} found_set w begun kept other failures keeps same = record {
  texts = record {
    sound = keeps.texts.sound;
    numbered = keeps.texts.numbered;
    fit = keeps.texts.fit;
    laid = keeps.texts.laid;
    count = keeps.texts.count;
    buffers = λ b buffer at.
        same_buffer (buffers_in found_set) w.groups begun kept other failures same keeps.places b
        buffer (keeps.texts.buffers b buffer at);
  };
  live = all_same (IsLiveText w begun)
      (λ one l. record { buffer = l.buffer; there = l.there; unpassed = l.unpassed })
      (λ one l. record { buffer = l.buffer; there = l.there; unpassed = l.unpassed })
      kept other same keeps.live;
  places = places_same kept other same keeps.places;
  left = λ b buffer at. record {
    has = same_buffer (buffers_in found_set) w.groups begun kept other failures same keeps.places b
        buffer (keeps.left b buffer at).has;
    left = (keeps.left b buffer at).left;
  };
}
