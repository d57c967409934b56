-- Goals of `laws::written_is_read_back` that the checker doesn't prove by itself.
use Rattle.std.proofs.Common.{refl}
use Rattle.der_types_tagged.specs.Fields.{explicit_field, implicit_field}
use Rattle.der_types_tagged.proofs.ReadBack.{optional_again, numbered_again}
use Rattle.der_types_tagged.proofs.laws.written_is_read_back.Goals as goal

pub returns-clause-explicit : goal.returns-clause-explicit
returns-clause-explicit c = λ class n room s v rest apart enough valid. optional_again (explicit_field class n s) room v rest refl apart enough valid

pub returns-clause-implicit : goal.returns-clause-implicit
returns-clause-implicit c = λ class n room own k v rest apart enough valid. optional_again (implicit_field class n own k) room v rest refl apart enough valid

pub returns-clause-numbered : goal.returns-clause-numbered
returns-clause-numbered c = numbered_again
