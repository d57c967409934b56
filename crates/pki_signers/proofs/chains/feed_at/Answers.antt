-- Goals of `chains::feed_at`: the bytes that are fed are those of the certificate at the index.
use Rattle.std.proofs.Common.{◌≤◌, ◌++◌, List, ℕ, length, sym, ap, ◌∙◌, subst, inl, inr, append-nil}
use Rattle.std.proofs.lemmas.Bool.{cases_lt}
use Rattle.std.proofs.lemmas.Option.{slice_get_past}
use Rattle.std.proofs.lemmas.Result.{err_from_is_err_and}
use Rattle.cert_desk_checking.specs.Oid.Bound.{Bound}
use Rattle.cert_desk_checking.specs.DeskBundle.Streams.{Reads}
use Rattle.cert_desk_checking.specs.DeskBundle.Steps.{ReadsExtended, RefusesPiece}
use Rattle.pki_signers.proofs.ChainSteps.{joined-none, joined-some}
use Rattle.pki_signers.proofs.chains.feed_at.Goals as goal

pub returns-in_default-clause-reads : goal.returns-in_default-clause-reads
returns-in_default-clause-reads c = λ stream reads.
    let cs = c.args.certificates.now.certificates in
    let past : length cs ≤ c.args.place = elim (cases_lt c.args.place (length cs)) [
      | inl within ↦ let wrong = c.in_default.ensures.within.1 within in absurd cc
      | inr past ↦ past
    ] in
    let none = joined-none cs c.args.place (slice_get_past cs c.args.place past) in
    subst (λ (w : List ℕ). Reads Bound c.args.chain.now w) (sym (ap (λ (x : List ℕ). stream ++ x) none ∙ append-nil stream)) reads

pub returns-clause-reads : goal.returns-clause-reads
returns-clause-reads c =
    let entry = c.in-Some.ensures.entry in
    let octets = entry.octets ∙ sym (joined-some c.args.certificates.now.certificates c.args.place _ entry.certificate) in
    subst (λ (w : List ℕ). ReadsExtended Bound c.args.chain.now c.feed.new.self w) octets c.in_ok-feed.ensures.reads

pub returns-in_err-feed-clause-refused : goal.returns-in_err-feed-clause-refused
returns-in_err-feed-clause-refused c =
    let entry = c.in-Some.ensures.entry in
    let octets = entry.octets ∙ sym (joined-some c.args.certificates.now.certificates c.args.place _ entry.certificate) in
    let p = err_from_is_err_and c.from_residual.result c.from_residual.ensures.1 in
    rw (p.1, p.2) (subst (λ (w : List ℕ). RefusesPiece Bound c.args.chain.now c.feed.new.self w c.in_err-feed.field-0.0) octets c.in_err-feed.ensures.refused)
