-- The loop invariant of `append_members`: the bytes are the encodings of the members so far.
use Rattle.std.specs.Prelude.{◌≡◌, take, flat_map, All}
use Rattle.x509_cert_policies.specs.Lists.{IsMember, sct_octets}
use Rattle.x509_cert_policies.proofs.signed_certificate_timestamp_list.append_members.Given as goal

abbrev pub invariant-loop-sct : goal.invariant-loop-sct
invariant-loop-sct l = record {
  so_far : l.body.items ≡ flat_map sct_octets (take l.sct-index l.serialized_scts);
  each : All IsMember (take l.sct-index l.serialized_scts);
}
