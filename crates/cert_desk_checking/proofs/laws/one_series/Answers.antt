-- Goals of `laws::one_series` that the checker doesn't prove by itself.
use Rattle.cert_desk_rules.proofs.DeskBundle.SeriesLaws.{one_series}
use Rattle.cert_desk_checking.proofs.laws.one_series.Goals as goal

pub returns : goal.returns
returns c = λ s limit vs ws stream u p q. one_series s limit u vs ws stream p q
