use Rattle.std.proofs.Common.{refl}
use Rattle.md5.specs.Md5.{block_words, rounds, compress, hash_after, digest_bytes, md5}
use Rattle.relay_laws.proofs.hash_feeds.one_message_id.Goals as goal

pub returns-clause-hash : goal.returns-clause-hash
unfolding block_words rounds compress hash_after digest_bytes md5
returns-clause-hash c = refl

pub returns-clause-of_two : goal.returns-clause-of_two
unfolding block_words rounds compress hash_after digest_bytes md5
returns-clause-of_two c = refl

pub returns-clause-of_three : goal.returns-clause-of_three
unfolding block_words rounds compress hash_after digest_bytes md5
returns-clause-of_three c = refl
