-- The loop invariant of `read_members`: the encodings of the members so far and the rest are the
-- bytes. Each iteration shortens the rest.
use Rattle.std.specs.Prelude.{◌≡◌, ◌++◌, length, flat_map, All}
use Rattle.x509_cert_policies.specs.Lists.{IsMember, sct_octets}
use Rattle.x509_cert_policies.proofs.signed_certificate_timestamp_list.read_members.Given as goal

abbrev pub invariant-loop-more : goal.invariant-loop-more
invariant-loop-more l = record {
  parts : l.body ≡ flat_map sct_octets l.scts.items ++ l.more;
  each : All IsMember l.scts.items;
}

abbrev pub decreases-loop-more : goal.decreases-loop-more
decreases-loop-more l = length l.more
