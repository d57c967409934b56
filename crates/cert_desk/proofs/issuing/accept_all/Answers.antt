-- Goals of `issuing::accept_all` that the checker doesn't prove by itself.
use Rattle.std.proofs.Common.{map, sym, ◌∙◌, subst}
use Rattle.cert_desk.specs.declared.issue_error.IssueError.{IssueError}
use Rattle.cert_desk.specs.PlainOrders.{accepted_plain, orders_plain}
use Rattle.cert_desk.specs.Refusals.{Refuses}
use Rattle.cert_desk_orders.proofs.Types.AscendingSteps.{length_plain_list}
use Rattle.cert_desk.proofs.AcceptedFronts.{accepted_more, told}
use Rattle.cert_desk.proofs.issuing.accept_all.Goals as goal

pub returns-in-Err-clause-refused : goal.returns-in-Err-clause-refused
returns-in-Err-clause-refused g c =
    let s = g.S.Signer in
    let orders = c.args.orders.now in
    let signers = c.args.signers.now in
    let so_far = c.loop-place.all.items in
    subst (λ (e : IssueError). Refuses s.public_key s.signs_by s.signs s.may_refuse orders signers e) (sym c.at.ensures)
    (told s.public_key s.signs_by s.signs s.may_refuse orders signers c.loop-place.place c.in-Err.fault c.requires (record {
      asked = orders_plain so_far;
      before = c.loop-place.invariant.front;
      here = length_plain_list accepted_plain so_far ∙ c.loop-place.invariant.count;
      refused = c.in-Err.ensures.refused;
    }))

pub loop-place-preserved : goal.loop-place-preserved
loop-place-preserved g c =
    let more = accepted_more c.args.orders.now (map g.S.Signer.public_key c.args.signers.now) c.loop-place.all.items c.push.new.self.items c.in-Ok.accepted c.loop-place.place
    c.in-Ok-push.ensures.items c.loop-place.invariant.count c.loop-place.invariant.front c.in-Ok.ensures.accepted in
    record { count = more.0; front = more.1 }
