-- Goals of `paths::path_up`: a certificate is added to the path.
use Rattle.std.proofs.Common.{◌≡◌, ℕ, ◌+◌, ◌-◌, List, ◌++◌, length, map, sym, ap, ◌∙◌, arith}
use Rattle.cert_desk_checking.specs.Oid.Bound.{Bound}
use Rattle.cert_desk_checking.specs.Anchors.{anchor_plain}
use Rattle.pki_signers.specs.Followed.{followed}
use Rattle.pki_signers.specs.Paths.{next_up}
use Rattle.pki_signers.proofs.PathSteps.{goes_on, ends_here, is_full}
use Rattle.pki_signers.proofs.paths.path_up.Goals as goal

pub loop-turn-init : goal.loop-turn-init
loop-turn-init c =
    let cs = c.args.certificates.now.certificates in
    let whole : length cs ≡ length cs - 0 = omega arith in
    record {
      within = c.requires;
      so = ap (λ (n : ℕ). followed (next_up Bound (map anchor_plain c.args.anchors.now) cs) n c.args.last) whole
          ∙ ap (λ (path : List ℕ). path ++ followed (next_up Bound (map anchor_plain c.args.anchors.now) cs) (length cs - 0) c.args.last) (sym c.new-path.ensures.items);
    }

pub returns-in_default : goal.returns-in_default
returns-in_default c =
    let cs = c.args.certificates.now.certificates in
    c.in_ok-push.ensures.items
    ∙ ends_here (next_up Bound (map anchor_plain c.args.anchors.now) cs) _ c.loop-turn.path.items (length cs) c.loop-turn._turn c.loop-turn.place c.loop-turn.invariant.so (omega arith) (sym c.next_up.ensures.next ∙ c.in_default.is)

pub loop-turn-preserved : goal.loop-turn-preserved
loop-turn-preserved c =
    let cs = c.args.certificates.now.certificates in
    let next = next_up Bound (map anchor_plain c.args.anchors.now) cs in
    record {
      within = c.in-Some.ensures.within;
      so = goes_on next _ c.loop-turn.path.items (length cs) c.loop-turn._turn c.loop-turn.place c.loop-turn.invariant.so c.in-Some.next (omega arith) (sym c.next_up.ensures.next ∙ c.in-Some.is)
          ∙ ap (λ (x : List ℕ). x ++ followed next (length cs - (c.loop-turn._turn + 1)) c.in-Some.next) (sym c.in_ok-push.ensures.items);
    }

pub returns : goal.returns
returns c =
    let cs = c.args.certificates.now.certificates in
    is_full (next_up Bound (map anchor_plain c.args.anchors.now) cs) _ c.loop-turn.path.items (length cs) c.loop-turn._turn c.loop-turn.place c.loop-turn.invariant.so (omega arith)
