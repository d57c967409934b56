-- Goals of `reasons::exceeded_length` that the checker doesn't prove by itself.
use Rattle.std.proofs.Common.{◌≡◌, ℕ, Bool, ◌+◌, ◌-◌, suc, true, false, cond, not, ◌&&◌, ◌||◌, sym, ap, ◌∙◌, arith}
use Rattle.x509_cert_anchors.specs.Oid.Bound.{Bound}
use Rattle.cert_desk_rules.specs.Paths.{counts, keep_lengths, keeps_length}
use Rattle.cert_desk_rules.specs.Reasons.{SomeMayTakeMemory}
use Rattle.cert_desk_rules.proofs.DeskIo.Given.{OnErr-by}
use Rattle.cert_desk_checking.proofs.ReasonLaws.{used_up_less, lengths-broken}
use Rattle.cert_desk_checking.proofs.reasons.exceeded_length.Goals as goal
use Rattle.cert_desk_checking.proofs.reasons.exceeded_length.Goals.{then-counts, else-counts}

pub overflow_sub-left : goal.overflow_sub-left
overflow_sub-left c =
    let cs = c.args.bundle.now.certificates in
    let less = used_up_less Bound cs c.loop-before.before c.args.place c.loop-before.left c.loop-before-test.true c.loop-before.invariant.left in
    let one : ◌≡◌ {A = ℕ} (cond (counts Bound cs (c.loop-before.before + 1)) 1 0) 1 = ap (λ (b : Bool). cond b 1 0) (sym c.counts-in-loop-before.ensures ∙ c.if-counts.true) in
    omega (arith, less, one)

pub loop-before-preserved : goal.loop-before-preserved
loop-before-preserved c =
    let cs = c.args.bundle.now.certificates in
    let before = c.loop-before.before in
    let place = c.args.place in
    let less = used_up_less Bound cs before place c.loop-before.left c.loop-before-test.true c.loop-before.invariant.left in
    let next : before + 1 ≡ suc before = omega arith in
    let here : keeps_length Bound cs before place ≡ true = sym (c.in_ok-keeps_length.ensures.kept place c.loop-before.invariant.left) ∙ c.if-not-branch.false in
    record {
      kept = ap (λ (n : ℕ). keep_lengths Bound cs n place) next ∙ ap (λ (b : Bool). b && keeps_length Bound cs before place) c.loop-before.invariant.kept ∙ here;
      left = elim c.if-counts.branch [
        | then-counts w ↦
            let one : ◌≡◌ {A = ℕ} (cond (counts Bound cs (before + 1)) 1 0) 1 = ap (λ (b : Bool). cond b 1 0) (sym c.counts-in-loop-before.ensures ∙ w.if-counts.true) in
            omega (arith, less, one, w.left-is)
        | else-counts w ↦
            let none : ◌≡◌ {A = ℕ} (cond (counts Bound cs (before + 1)) 1 0) 0 = ap (λ (b : Bool). cond b 1 0) (sym c.counts-in-loop-before.ensures ∙ w.if-counts.false) in
            omega (arith, less, none, w.left-is)
      ];
    }

pub returns-then-not-branch-clause-told : goal.returns-then-not-branch-clause-told
returns-then-not-branch-clause-told c =
    let cs = c.args.bundle.now.certificates in
    let place = c.args.place in
    let broken : keeps_length Bound cs c.loop-before.before place ≡ false = sym (c.in_ok-keeps_length.ensures.kept place c.loop-before.invariant.left) ∙ c.if-not-branch.true in
    ap not (sym (lengths-broken Bound cs c.loop-before.before place place (omega (arith, c.loop-before-test.true)) broken))
    ∙ ap (λ b. not (not b || keep_lengths Bound cs place place)) c.if-not-counts.ensures

pub returns-in_err-keeps_length-clause-memory : goal.returns-in_err-keeps_length-clause-memory
returns-in_err-keeps_length-clause-memory c =
    OnErr-by _ (SomeMayTakeMemory c.args.bundle.now.certificates c.args.place) (c.loop-before.before, omega (arith, c.loop-before-test.true), c.in_err-keeps_length.ensures.memory)
