-- Goals of `laws::one_anchor_file` that the checker doesn't prove by itself.
use Rattle.cert_desk_checking.proofs.OneAnchorFile.{one_anchor_file}
use Rattle.cert_desk_checking.proofs.laws.one_anchor_file.Goals as goal

pub returns : goal.returns
returns c = one_anchor_file
