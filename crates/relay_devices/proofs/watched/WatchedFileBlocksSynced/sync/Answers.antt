use Rattle.std.proofs.Common.{◌∙◌, ap, sym}
use Rattle.std.proofs.lemmas.Option.{none-some}
use Rattle.file_blocks.specs.Host.{failed_in}
use Rattle.relay_devices.proofs.Sizes.{seen_count}
use Rattle.relay_devices.proofs.watched.WatchedFileBlocksSynced.sync.Goals as goal

-- it has as many blocks as it was opened for
pub returns-clause-blocks : goal.returns-clause-blocks
returns-clause-blocks g c =
    seen_count c.sync_noted.new.self ∙ c.sync_noted.ensures.count
    ∙ sym (seen_count c.args.self.now.store)

-- nothing is read or written, and of a file of the machine nothing is promised
pub returns-clause-uncalled : goal.returns-clause-uncalled
returns-clause-uncalled g c number = record {
  unwritten = record {
    held = record {
      honest = λ honest. absurd honest.file;
      blocks = λ honest. absurd honest.file;
      heads = λ honest. absurd honest.file;
      count = seen_count c.sync_noted.new.self ∙ c.sync_noted.ensures.count
          ∙ sym (seen_count c.args.self.now.store);
    };
    failed_here = λ here. absurd (none-some number here);
    no_failure = λ other. ap failed_in c.sync_noted.ensures.unasked;
  };
  calls = c.sync_noted.ensures.asked;
}
