use Rattle.std.proofs.Common.{refl, ℕ, Bool, Option}
use Rattle.relay_conf.specs.StorageDraft.{Reading, draft_view, after_line}
use Rattle.relay_conf.specs.StorageLines.{Skipped, Opens, Closes, Ends, ClassLine, OptionsLine}
use Rattle.relay_conf.specs.StorageLines.{SizeLine, ExactLine}
use Rattle.relay_conf.specs.declared.storage_lines.Sizes.{Sizes}
use Rattle.relay_conf.proofs.LinesRead.{read_by}
use Rattle.relay_conf.proofs.storage.StorageDraft.add.Goals as goal

pub returns-in-Skipped : goal.returns-in-Skipped
returns-in-Skipped c =
    rw c.in-Skipped.is (record { line = Skipped; says = refl; none = refl; reading = refl })

pub returns-in-Opens : goal.returns-in-Opens
returns-in-Opens c =
    rw c.in-Opens.is
    (read_by _ _ (after_line _ c.args.number) _ (λ (r : Reading). r)
    (draft_view c.open_entry.new.self) _ (Opens c.in-Opens.method.now)
    c.open_entry.result refl
    c.open_entry.ensures.taken c.open_entry.ensures.opened refl)

pub returns-in-Closes : goal.returns-in-Closes
returns-in-Closes c =
    rw c.in-Closes.is
    (read_by _ _ (after_line _ c.args.number) _ (λ (r : Reading). r)
    (draft_view c.close_entry.new.self) _ Closes c.close_entry.result refl
    c.close_entry.ensures.fault c.close_entry.ensures.entries refl)

pub returns-in-Ends : goal.returns-in-Ends
returns-in-Ends c =
    rw c.in-Ends.is
    (read_by _ _ (after_line _ c.args.number) _ (λ (r : Reading). r)
    (draft_view c.end_entry.new.self) _ Ends c.end_entry.result refl
    c.end_entry.ensures.taken c.end_entry.ensures.ended refl)

pub returns-in-Options : goal.returns-in-Options
returns-in-Options c =
    rw c.in-Options.is
    (read_by _ _ (after_line _ c.args.number) _ (λ (r : Reading). r)
    (draft_view c.add_options.new.self) _ (OptionsLine c.in-Options.name.now) c.add_options.result
    refl
    c.add_options.ensures.fault c.add_options.ensures.group refl)

pub returns-in-Newsgroups : goal.returns-in-Newsgroups
returns-in-Newsgroups c = rw c.in-Newsgroups.is (c.add_newsgroups.ensures _ c.args.number)

pub returns-in-Class : goal.returns-in-Class
returns-in-Class c =
    let set = c.set_once in
    let entry = c.args.self.now.entry in
    rw c.in-Class.is
    (read_by _ _ (after_line _ c.args.number) _ (λ (slot : Option ℕ).
    draft_view (record c.args.self.now { entry = record entry { class = slot } })) _ _
    (ClassLine c.in-Class.class) set.result refl set.ensures.fault set.ensures.set refl)

pub returns-in-Size : goal.returns-in-Size
returns-in-Size c =
    let set = c.set_once-in-Size in
    let entry = c.args.self.now.entry in
    rw c.in-Size.is
    (read_by _ _ (after_line _ c.args.number) _ (λ (slot : Option Sizes).
    draft_view (record c.args.self.now { entry = record entry { sizes = slot } })) _ _
    (SizeLine c.in-Size.sizes) set.result refl set.ensures.fault set.ensures.set refl)

pub returns-in-ExactMatch : goal.returns-in-ExactMatch
returns-in-ExactMatch c =
    let set = c.set_once-in-ExactMatch in
    let entry = c.args.self.now.entry in
    rw c.in-ExactMatch.is
    (read_by _ _ (after_line _ c.args.number) _ (λ (slot : Option Bool).
    draft_view (record c.args.self.now { entry = record entry { exactmatch = slot } })) _ _
    (ExactLine c.in-ExactMatch.exact) set.result refl set.ensures.fault set.ensures.set refl)
