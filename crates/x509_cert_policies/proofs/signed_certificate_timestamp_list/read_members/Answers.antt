-- Goals of `signed_certificate_timestamp_list::read_members` that the checker doesn't prove by
-- itself.
use Rattle.std.proofs.Common.{◌≡◌, false, rules}
use Rattle.std.proofs.lemmas.List.Elements.{All-push}
use Rattle.std.proofs.lemmas.Result.{err_from_is_err_and}
use Rattle.x509_cert_policies.specs.declared.serialized_sct.SerializedSct.{SerializedSct}
use Rattle.x509_cert_policies.specs.Forms.{vector, IsValue}
use Rattle.x509_cert_policies.proofs.Readings.{one_more_read, less_is_left, member_refused, some_left}
use Rattle.x509_cert_policies.proofs.signed_certificate_timestamp_list.read_members.Goals as goal

pub loop-more-preserved : goal.loop-more-preserved
loop-more-preserved c =
    let P : SerializedSct → Type 0 = λ s. IsValue vector s.data.items in
    record {
      parts = one_more_read c.loop-more.scts.items c.push.new.self.items c.in_ok-sct.sct c.args.body.now c.loop-more.more.now c.in_ok-sct.rest.now c.in_ok-push.ensures.items c.loop-more.invariant.parts c.in_ok-sct.ensures.ok;
      each = rw c.in_ok-push.ensures.items (All-push P c.loop-more.scts.items c.in_ok-sct.sct c.loop-more.invariant.each c.in_ok-sct.ensures.ok.value);
    }

pub loop-more-smaller : goal.loop-more-smaller
loop-more-smaller c = less_is_left c.in_ok-sct.sct.data.items c.loop-more.more.now c.in_ok-sct.rest.now c.in_ok-sct.ensures.ok

pub returns-in_err-sct-clause-err : goal.returns-in_err-sct-clause-err
returns-in_err-sct-clause-err c =
    let p = err_from_is_err_and c.from_residual.result c.from_residual.ensures.1 in
    let no : c.is_empty.result ≡ false = search rules in
    rw (p.1, p.2) (member_refused c.loop-more.scts.items c.args.body.now c.loop-more.more.now _ c.loop-more.invariant.each c.loop-more.invariant.parts (some_left c.loop-more.more.now c.is_empty.result c.is_empty.ensures no) c.in_err-sct.ensures.err)
