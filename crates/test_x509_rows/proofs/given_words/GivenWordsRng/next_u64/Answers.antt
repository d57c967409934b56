-- Goals of `GivenWords::next_u64` that the checker doesn't prove by itself.
use Rattle.std.proofs.Common.{rules}
use Rattle.rand_core.proofs.StepsLemmas.{meets_next_u64}
use Rattle.test_x509_rows.proofs.given_words.GivenWordsRng.next_u64.Goals as goal

pub returns : goal.returns
returns c = meets_next_u64 _ _ _ _ (search rules)
