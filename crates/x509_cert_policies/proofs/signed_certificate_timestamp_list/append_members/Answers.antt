-- Goals of `signed_certificate_timestamp_list::append_members` that the checker doesn't prove by
-- itself.
use Rattle.std.proofs.Common.{subst}
use Rattle.std.proofs.lemmas.List.Elements.{All-more}
use Rattle.x509_cert_policies.specs.declared.serialized_sct.SerializedSct.{SerializedSct}
use Rattle.x509_cert_policies.specs.Forms.{vector, IsValue}
use Rattle.x509_cert_policies.proofs.Readings.{one_more_written}
use Rattle.x509_cert_policies.proofs.signed_certificate_timestamp_list.append_members.Goals as goal

pub loop-sct-preserved : goal.loop-sct-preserved
loop-sct-preserved c =
    let P : SerializedSct → Type 0 = λ s. IsValue vector s.data.items in
    record {
      so_far = one_more_written c.args.serialized_scts.now c.loop-sct.sct-index c.sct-item.result _ _ c.loop-sct-test.true c.sct-item.is c.loop-sct.invariant.so_far c.in_ok-append_to.ensures.ok;
      each = All-more P c.args.serialized_scts.now c.loop-sct.sct-index c.sct-item.result c.loop-sct-test.true c.loop-sct.invariant.each (subst P c.sct-item.is c.in_ok-append_to.ensures.ok.value);
    }
