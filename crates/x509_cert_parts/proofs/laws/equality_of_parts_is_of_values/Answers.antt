-- Goals of `laws::equality_of_parts_is_of_values` that the checker doesn't prove by itself.
use Rattle.der_core.proofs.ValueEquality.{all_alike, leaves}
use Rattle.x509_cert_parts.specs.Grammar.{serial_number}
use Rattle.x509_cert_parts.proofs.ValueEquality.{algorithms, keys, each_extension, each_time, each_version, validities}
use Rattle.x509_cert_parts.proofs.laws.equality_of_parts_is_of_values.Goals as goal

pub returns : goal.returns
returns g c = record {
  algorithms = all_alike algorithms;
  keys = all_alike keys;
  extensions = all_alike each_extension;
  versions = all_alike each_version;
  serials = λ limit. all_alike {s = serial_number limit} (λ x y. leaves);
  times = all_alike each_time;
  validities = all_alike validities;
}
