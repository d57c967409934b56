-- Goals of `laws::scanned_in_one_way` that the checker doesn't prove by itself.
use Rattle.std.proofs.Common.{◌++◌}
use Rattle.der_core_octets.proofs.LongLengths.{scans_alike, scans_longer}
use Rattle.der_core_octets.proofs.laws.scanned_in_one_way.Goals as goal

pub returns : goal.returns
returns c = record {
  alike = scans_alike;
  longer = λ w more r s h other i. scans_alike (w ++ more) r s (scans_longer w more r h other) i;
}
