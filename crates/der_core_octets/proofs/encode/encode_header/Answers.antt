-- Goals of `encode::encode_header` that the checker doesn't prove by itself.
use Rattle.der_core_octets.proofs.GoingOn.{written_at_once}
use Rattle.der_core_octets.proofs.encode.encode_header.Goals as goal

pub returns-then-number_of-lt31-clause-exact : goal.returns-then-number_of-lt31-clause-exact
returns-then-number_of-lt31-clause-exact g c =
    written_at_once g.W.Writer.takes_memory c.args.tag c.args.len.value c.in_ok-_whole._whole.value _ _ _ c.in_ok-_whole.ensures c.encode_short_header.ensures.exact
