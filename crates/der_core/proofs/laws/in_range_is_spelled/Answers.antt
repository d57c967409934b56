-- Goals of `laws::in_range_is_spelled` that the checker doesn't prove by itself.
use Rattle.der_core.proofs.laws.in_range_is_spelled.Goals as goal

pub returns-clause-valid : goal.returns-clause-valid
returns-clause-valid g c = λ o z e. c.written_is_spelled.ensures.valid g.T.Shaped.shape _ o z e c.in_range.ensures

pub returns-clause-read : goal.returns-clause-read
returns-clause-read g c = λ room o z r enough none e.
    c.written_is_read.ensures g.T.Shaped.shape room _ o z r g.met.T.Element.element g.met.T.Member.apart enough c.in_range.ensures none e
