-- Goals of `paths::path_to`: the path ends with the index, and its certificates are linked.
use Rattle.std.proofs.Common.{length, map, reverse, ap, ◌∙◌, arith}
use Rattle.cert_desk_checking.specs.Oid.Bound.{Bound}
use Rattle.cert_desk_checking.specs.Anchors.{anchor_plain}
use Rattle.pki_signers.specs.Paths.{next_up}
use Rattle.pki_signers.proofs.PathLaws.{link}
use Rattle.pki_signers.proofs.PathSteps.{last_is, comes_next}
use Rattle.pki_signers.proofs.paths.path_to.Goals as goal

pub returns-clause-last : goal.returns-clause-last
returns-clause-last c =
    let cs = c.args.certificates.now.certificates in
    let found = last_is (next_up Bound (map anchor_plain c.args.anchors.now) cs) (length cs) c.args.last (omega (arith, c.requires)) in
    (found.0, c.reverse.ensures.items ∙ ap reverse c.in_ok-path.ensures ∙ found.1)

pub returns-clause-linked : goal.returns-clause-linked
returns-clause-linked c = λ front rest above below e.
    let cs = c.args.certificates.now.certificates in
    let anchors = map anchor_plain c.args.anchors.now in
    link Bound anchors cs below above
    (comes_next (next_up Bound anchors cs) (length cs) c.args.last _ front rest above below (c.reverse.ensures.items ∙ ap reverse c.in_ok-path.ensures) e)
