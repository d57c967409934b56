-- Goals of `GivenWords::fill_bytes` that the checker doesn't prove by itself.
use Rattle.std.proofs.Common.{rules}
use Rattle.rand_core.proofs.StepsLemmas.{meets_fill_bytes}
use Rattle.test_x509_rows.proofs.given_words.GivenWordsRng.fill_bytes.Goals as goal

pub returns : goal.returns
returns c = meets_fill_bytes _ _ _ _ _ (search rules)
