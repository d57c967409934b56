-- Goals of `bytes::copy_content` that the checker doesn't prove by itself.
use Rattle.std.proofs.Common.{arith}
use Rattle.der_core_octets.proofs.Levels.{slice_few}
use Rattle.der_core_values.proofs.Headed.{counted_fits}
use Rattle.der_core_values.proofs.bytes.copy_content.Goals as goal

pub returns-in-Err : goal.returns-in-Err
returns-in-Err g c =
    let few = slice_few c.args.header.length.value _ _ _ c.in_ok-octets.ensures.0 in
    absurd (cc (c.in-Err.ensures, counted_fits c.in_ok-octets.octets.items (omega (arith, few))))
