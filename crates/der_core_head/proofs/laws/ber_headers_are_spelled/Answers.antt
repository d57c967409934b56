-- Goals of `laws::ber_headers_are_spelled` that the checker doesn't prove by itself.
use Rattle.der_core_head.proofs.OneEncoding.{bytes_are}
use Rattle.der_core_head.proofs.BodyLaws.{head_ber_sound, head_ber_again, head_ber_more}
use Rattle.der_core_head.proofs.laws.ber_headers_are_spelled.Goals as goal

pub returns : goal.returns
returns c = record {
  spelled = λ h r w below e. head_ber_sound w h r (bytes_are w below) e;
  read = head_ber_again;
  der = λ h r w e. head_ber_more w h r e;
}
