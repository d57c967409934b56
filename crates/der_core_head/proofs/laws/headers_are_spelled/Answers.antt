-- Goals of `laws::headers_are_spelled` that the checker doesn't prove by itself.
use Rattle.der_core_head.proofs.OneEncoding.{bytes_are}
use Rattle.der_core_head.proofs.HeadLaws.{head_again, head_sound}
use Rattle.der_core_head.proofs.laws.headers_are_spelled.Goals as goal

pub returns : goal.returns
returns c = record {
  spelled = λ h r w below e. head_sound w h r (bytes_are w below) e;
  read = head_again;
}
