-- Goals of `laws::judged_alike` that the checker doesn't prove by itself.
use Rattle.cert_desk_checking.proofs.JudgedAlike.{judged_alike}
use Rattle.cert_desk_checking.proofs.laws.judged_alike.Goals as goal

pub returns : goal.returns
returns c = judged_alike
