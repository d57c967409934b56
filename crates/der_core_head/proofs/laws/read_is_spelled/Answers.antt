-- Goals of `laws::read_is_spelled` that the checker doesn't prove by itself.
use Rattle.der_core_head.proofs.OneEncoding.{bytes_are, sound}
use Rattle.der_core_head.proofs.laws.read_is_spelled.Goals as goal

pub returns : goal.returns
returns c = record {
  valid = λ s room w v r apart below fits e. (sound s room w v r apart (bytes_are w below) fits e).0;
  octets = λ s room w v r apart below fits e. (sound s room w v r apart (bytes_are w below) fits e).1;
}
