-- Goals of `GivenWords::next_u32` that the checker doesn't prove by itself.
use Rattle.std.proofs.Common.{rules}
use Rattle.rand_core.proofs.StepsLemmas.{meets_next_u32}
use Rattle.test_x509_rows.proofs.given_words.GivenWordsRng.next_u32.Goals as goal

pub returns : goal.returns
returns c = meets_next_u32 _ _ _ _ (search rules)
