-- The first pair has the name, or the search goes on after it.
use Rattle.std.proofs.Common.{refl}
use Rattle.std.proofs.lemmas.Bool.Decides.{Decides-eqb}
use Rattle.std.proofs.lemmas.Slice.Eq.{slice_eq-Decides}
use Rattle.cert_tool.proofs.SentInputLaws.{found, left_after, none_after, passed}
use Rattle.cert_tool.proofs.request_inputs.find.Goals as goal

pub returns-in_default-split_frame-clause-missing : goal.returns-in_default-split_frame-clause-missing
returns-in_default-split_frame-clause-missing c = λ is octets sent.
    none_after c.args.name.now octets c.inputs.left.now c.in-Some.this.now c.in-Some.after.now c.in-Some.ensures.some c.in-Some.ensures.short (c.in_default-split_frame.ensures.none refl)
    ((c.inputs.invariant octets).1 sent)

pub returns-then-eq-clause-found : goal.returns-then-eq-clause-found
returns-then-eq-clause-found c =
    let first = c.in-Some.ensures in
    let second = c.in-Some-split_frame.ensures in
    (c.inputs.invariant c.in-Some-split_frame.octets.now).0 (found c.args.name.now c.inputs.left.now c.in-Some.this.now c.in-Some.after.now c.in-Some-split_frame.octets.now c.in-Some-split_frame.others.now c.eq.result
    first.some first.short second.some second.short (slice_eq-Decides Decides-eqb _ _ _ c.eq.ensures) c.if-eq.true)

pub inputs-preserved : goal.inputs-preserved
inputs-preserved c = λ octets.
    let first = c.in-Some.ensures in
    let second = c.in-Some-split_frame.ensures in
    let is = c.inputs.invariant octets in
    let decides = slice_eq-Decides Decides-eqb _ _ _ c.eq.ensures in (
      λ sent. is.0 (passed c.args.name.now c.inputs.left.now c.in-Some.this.now c.in-Some.after.now c.in-Some-split_frame.octets.now c.in-Some-split_frame.others.now c.eq.result first.some first.short second.some second.short decides c.if-eq.false octets sent),
      λ sent. left_after c.args.name.now c.inputs.left.now c.in-Some.this.now c.in-Some.after.now c.in-Some-split_frame.octets.now c.in-Some-split_frame.others.now c.eq.result first.some first.short second.some second.short decides c.if-eq.false octets (is.1 sent),
    )
