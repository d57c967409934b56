-- Goals of `checking::check` that the checker doesn't prove by itself.
use Rattle.std.proofs.Common.{sym, ap, ◌∙◌}
use Rattle.cert_desk_rules.specs.declared.checked.Verdict.TheVariants as verdicts
use Rattle.cert_desk_checking.specs.Anchors.{terms_of}
use Rattle.cert_desk_rules.specs.Verdicts.{asked}
use Rattle.cert_desk_checking.proofs.Counts.{Rises-by, Rises-none}
use Rattle.cert_desk_rules.proofs.DeskBundle.OneChain.{fault_no_chain}
use Rattle.cert_desk_checking.proofs.ChainLaws.{only_trusted, reads_chain, reads_fault, Asks-chain, Asks-fault, counted_by}
use Rattle.cert_desk_checking.proofs.checking.check.Goals as goal
use Rattle.x509_cert_anchors.specs.Oid.Bound.{Bound}

pub returns-in-Ok-clause-trusted : goal.returns-in-Ok-clause-trusted
returns-in-Ok-clause-trusted g c = λ stream reads trusted.
    let t = terms_of c.args.anchors.now c.args.moment c.args.purpose.now (g.J.SignatureJudge.answers c.args.judge.now) in
    let chain = reads_chain Bound c.args.bundle.now stream (sym c.in-Ended.is ∙ c.standing.ensures) reads in
    only_trusted t c.args.bundle.now.limit stream c.in-Ok.checked.verdict (c.in-Ok.ensures.judged stream chain) trusted

pub returns-in-Ok-clause-counted : goal.returns-in-Ok-clause-counted
returns-in-Ok-clause-counted g c = λ stream reads.
    let t = terms_of c.args.anchors.now c.args.moment c.args.purpose.now (g.J.SignatureJudge.answers c.args.judge.now) in
    let chain = reads_chain Bound c.args.bundle.now stream (sym c.in-Ended.is ∙ c.standing.ensures) reads in
    counted_by t c.args.bundle.now.limit stream c.in-Ok.checked (asked t c.args.bundle.now.certificates stream) _ _
    (Asks-chain t c.args.bundle.now.limit c.args.bundle.now.certificates stream chain)
    (Rises-by _ _ _ _ _ _ (ap (asked t c.args.bundle.now.certificates) (sym chain.joins)) c.in-Ok.ensures.counted)

pub returns-in-Faulted-clause-trusted : goal.returns-in-Faulted-clause-trusted
returns-in-Faulted-clause-trusted g c = λ stream reads trusted.
    let fault = reads_fault Bound c.args.bundle.now stream c.in-Faulted.kind (sym c.in-Faulted.is ∙ c.standing.ensures) reads in
    absurd (fault_no_chain Bound c.args.bundle.now.limit c.args.bundle.now.certificates trusted.certificates c.in-Faulted.kind stream fault trusted.chain)

pub returns-in-Faulted-clause-counted : goal.returns-in-Faulted-clause-counted
returns-in-Faulted-clause-counted g c = λ stream reads.
    let t = terms_of c.args.anchors.now c.args.moment c.args.purpose.now (g.J.SignatureJudge.answers c.args.judge.now) in
    let fault = reads_fault Bound c.args.bundle.now stream c.in-Faulted.kind (sym c.in-Faulted.is ∙ c.standing.ensures) reads in
    counted_by t c.args.bundle.now.limit stream (record { verdict = verdicts.StreamFault c.len.result c.end_offset.result c.in-Faulted.kind; calls = 0 }) 0 _ _
    (Asks-fault t c.args.bundle.now.limit c.args.bundle.now.certificates stream c.in-Faulted.kind fault)
    (Rises-none _ 0)

pub returns-in-Err-clause-stopped : goal.returns-in-Err-clause-stopped
returns-in-Err-clause-stopped g c = λ stream ended reads. c.in-Err.ensures.stopped stream (reads_chain Bound c.args.bundle.now stream (sym ended) reads)
