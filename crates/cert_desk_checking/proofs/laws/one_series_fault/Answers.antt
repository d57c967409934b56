-- Goals of `laws::one_series_fault` that the checker doesn't prove by itself.
use Rattle.cert_desk_rules.proofs.DeskBundle.SeriesLaws.{one_series_fault}
use Rattle.cert_desk_checking.proofs.laws.one_series_fault.Goals as goal

pub returns : goal.returns
returns c = λ s limit vs ws kind other stream u p q. one_series_fault s u limit vs ws kind other stream p q
