-- The first tag is that of the value's alternative.
use Rattle.pki_ocsp.proofs.responder_id.ResponderIdFirstTag.first_tag.Goals as goal

pub returns : goal.returns
returns c = c.cases_tag.ensures _ c.cases.ensures
