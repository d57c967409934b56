-- Goals of `chains::chain_of`: the bundle has read all certificates of the path.
use Rattle.std.proofs.Common.{◌≡◌, List, ℕ, ◌+◌, length, take, sym, ap, ◌∙◌, subst, arith}
use Rattle.std.proofs.Math.Seq.{take-length}
use Rattle.std.proofs.lemmas.List.{take_more}
use Rattle.std.proofs.lemmas.Result.{err_from_is_err_and}
use Rattle.cert_desk_checking.specs.Oid.Bound.{Bound}
use Rattle.cert_desk_checking.specs.DeskBundle.Streams.{Reads}
use Rattle.cert_desk_checking.specs.DeskBundle.Chains.{joined}
use Rattle.pki_signers.specs.Paths.{certificates_at}
use Rattle.pki_signers.proofs.ChainSteps.{joined-step, joined-within, same_chain, piece_long, end_long}
use Rattle.pki_signers.proofs.chains.chain_of.Goals as goal

pub loop-place-preserved : goal.loop-place-preserved
loop-place-preserved c =
    record {
      opened = c.in_ok-feed_at.ensures.open;
      limit = c.in_ok-feed_at.ensures.limit ∙ c.loop-place.invariant.limit;
      reads = subst (λ (w : List ℕ). Reads Bound c.feed_at.new.chain w) (sym (joined-step c.args.certificates.now.certificates c.args.path.now c.loop-place.place-index 0 (omega arith)))
          (c.in_ok-feed_at.ensures.reads _ c.loop-place.invariant.reads);
    }

pub returns-clause-limit : goal.returns-clause-limit
returns-clause-limit c = c.in_ok-finish.ensures.limit ∙ c.loop-place.invariant.limit

pub returns-clause-reads : goal.returns-clause-reads
returns-clause-reads c =
    let path = c.args.path.now in
    let end : c.loop-place.place-index ≡ length path = omega arith in
    let all = ap (λ (n : ℕ). take n path) end ∙ take-length path in
    subst (λ (p : List ℕ). Reads Bound c.finish.new.self (joined Bound (certificates_at c.args.certificates.now.certificates p))) all (c.in_ok-finish.ensures.reads _ c.loop-place.invariant.reads)

pub returns-clause-chain : goal.returns-clause-chain
returns-clause-chain c = λ stream reads.
    let path = c.args.path.now in
    let end : c.loop-place.place-index ≡ length path = omega arith in
    let all = ap (λ (n : ℕ). take n path) end ∙ take-length path in
    let limit = c.in_ok-finish.ensures.limit ∙ c.loop-place.invariant.limit in
    let fed = subst (λ (p : List ℕ). Reads Bound c.finish.new.self (joined Bound (certificates_at c.args.certificates.now.certificates p))) all (c.in_ok-finish.ensures.reads _ c.loop-place.invariant.reads) in
    same_chain c.args.certificates.now stream reads c.finish.new.self limit path c.in_ok-finish.ensures.ended fed

pub returns-in_err-finish-clause-long : goal.returns-in_err-finish-clause-long
returns-in_err-finish-clause-long c =
    let cs = c.args.certificates.now.certificates in
    let path = c.args.path.now in
    let p = err_from_is_err_and c.from_residual-in_err-finish.result c.from_residual-in_err-finish.ensures.1 in
    rw (p.1, p.2) (λ stream reads other.
    let long = end_long c.args.certificates.now stream reads c.finish.new.self (c.in_err-finish.ensures.limit ∙ c.loop-place.invariant.limit)
    c.loop-place.chain c.loop-place.invariant.opened (take c.loop-place.place-index path) c.loop-place.invariant.reads _ c.in_err-finish.ensures.refused other in
    omega (arith, long, joined-within cs path c.loop-place.place-index))

pub returns-in_err-feed_at-clause-long : goal.returns-in_err-feed_at-clause-long
returns-in_err-feed_at-clause-long c =
    let cs = c.args.certificates.now.certificates in
    let path = c.args.path.now in
    let i = c.loop-place.place-index in
    let p = err_from_is_err_and c.from_residual.result c.from_residual.ensures.1 in
    rw (p.1, p.2) (λ stream reads other.
    let long = piece_long c.args.certificates.now stream reads c.feed_at.new.chain (c.in_err-feed_at.ensures.limit ∙ c.loop-place.invariant.limit)
    c.loop-place.chain c.loop-place.invariant.opened (take i path) c.loop-place.invariant.reads _ _ c.in_err-feed_at.ensures.refused other in
    omega (arith, long, ap (λ (x : List ℕ). length (joined Bound (certificates_at cs x))) (take_more path i 0 (omega arith)), joined-within cs path (i + 1)))
