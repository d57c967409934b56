-- Goals of `Issued::audit` that the checker doesn't prove by itself.
use Rattle.std.proofs.Common.{ℕ, List, map, sym, ap, ◌∙◌, subst}
use Rattle.cert_desk_checking.specs.Anchors.{anchor_plain}
use Rattle.cert_desk_checking.specs.DeskRules.Judging.{Terms}
use Rattle.cert_desk_checking.specs.DeskBundle.Streams.{Reads}
use Rattle.cert_desk_checking.specs.DeskRules.Verdicts.{IsCounted, IsVerdict, StopsAsking}
use Rattle.cert_desk.specs.Laws.{root_anchors}
use Rattle.cert_desk.proofs.Auditing.{asked_or_not, exactly, on_error, under_root}
use Rattle.cert_desk.proofs.issued.Issued.audit.Goals as goal
use Rattle.cert_desk_listing.specs.Oid.Bound.{Bound}

pub returns-clause-verdict : goal.returns-clause-verdict
returns-clause-verdict g c = λ root below cs h.
    let own = c.args.self.now.certificates in
    let stream = c.args.self.now.stream in
    let answers = g.J.SignatureJudge.answers c.args.judge.now in
    let reads = subst (λ (w : List ℕ). Reads Bound c.read-bundle.result w) c.stream.ensures.octets
    (c.read-bundle.ensures.reads (λ e. (let none = sym c.in_ok-checked.was ∙ c.check.ensures.no_memory e in absurd cc))) in
    let given = ap (map anchor_plain) c.as_slice.ensures.value ∙ c.in_ok-anchors.ensures.copied ∙ ap root_anchors c.certificates.ensures in
    under_root root below cs own stream h c.stream.ensures.chain (map anchor_plain c.as_slice.result.now) c.args.moment c.args.purpose.now answers c.read-bundle.result.limit c.args.limit
    (λ (t : Terms) (n : ℕ). IsVerdict t n stream c.in_ok-checked.checked.verdict) given c.read-bundle.ensures.limit (c.in_ok-checked.ensures.verdict stream reads)

pub returns-clause-trusted : goal.returns-clause-trusted
returns-clause-trusted g c = λ root below cs h.
    let answers = g.J.SignatureJudge.answers c.args.judge.now in
    exactly root below cs c.args.self.now.stream c.args.limit c.args.moment c.args.purpose.now answers c.in_ok-checked.checked.verdict h (returns-clause-verdict g c root below cs h)

pub returns-clause-counted : goal.returns-clause-counted
returns-clause-counted g c = λ root below cs h.
    let own = c.args.self.now.certificates in
    let stream = c.args.self.now.stream in
    let answers = g.J.SignatureJudge.answers c.args.judge.now in
    let reads = subst (λ (w : List ℕ). Reads Bound c.read-bundle.result w) c.stream.ensures.octets
    (c.read-bundle.ensures.reads (λ e. (let none = sym c.in_ok-checked.was ∙ c.check.ensures.no_memory e in absurd cc))) in
    let given = ap (map anchor_plain) c.as_slice.ensures.value ∙ c.in_ok-anchors.ensures.copied ∙ ap root_anchors c.certificates.ensures in
    under_root root below cs own stream h c.stream.ensures.chain (map anchor_plain c.as_slice.result.now) c.args.moment c.args.purpose.now answers c.read-bundle.result.limit c.args.limit
    (λ (t : Terms) (n : ℕ). IsCounted t n stream c.in_ok-checked.checked (g.J.SignatureJudge.questions c.args.judge.now) (g.J.SignatureJudge.questions c.check.new.judge)) given c.read-bundle.ensures.limit (c.in_ok-checked.ensures.counted stream reads)

pub returns-in_err-checked-clause-stopped : goal.returns-in_err-checked-clause-stopped
returns-in_err-checked-clause-stopped g c =
    let answers = g.J.SignatureJudge.answers c.args.judge.now in
    let stream = c.args.self.now.stream in
    let given = ap (map anchor_plain) c.as_slice.ensures.value ∙ c.in_ok-anchors.ensures.copied ∙ ap root_anchors c.certificates.ensures in
    on_error c.from_residual-in_err-checked.result
    (asked_or_not c.read-bundle.result.standing (λ other. c.check.ensures.untouched other) (λ ended root below cs h.
    (let reads = subst (λ (w : List ℕ). Reads Bound c.read-bundle.result w) c.stream.ensures.octets (c.read-bundle.ensures.reads (λ e. (let none = sym ended ∙ e in absurd cc))) in
    under_root root below cs c.args.self.now.certificates stream h c.stream.ensures.chain (map anchor_plain c.as_slice.result.now) c.args.moment c.args.purpose.now answers
    c.read-bundle.result.limit c.args.limit
    (λ (t : Terms) (n : ℕ). StopsAsking t n stream (g.J.SignatureJudge.questions c.args.judge.now) (g.J.SignatureJudge.questions c.check.new.judge)) given
    c.read-bundle.ensures.limit (c.in_err-checked.ensures.stopped stream ended reads))))
