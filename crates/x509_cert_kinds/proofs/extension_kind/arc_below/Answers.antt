-- Goals of `extension_kind::arc_below` that the checker doesn't prove by itself.
use Rattle.std.proofs.Common.{sym, ◌∙◌, not, ap}
use Rattle.std.specs.Cmp.Lexicographic.{bytes_decides}
use Rattle.std.proofs.lemmas.List.{same_from_push}
use Rattle.std.proofs.lemmas.Bool.{both_ways}
use Rattle.x509_cert_kinds.proofs.extension_kind.arc_below.Goals as goal

pub returns-then-ne-clause-none : goal.returns-then-ne-clause-none
returns-then-ne-clause-none c = λ arc e.
    let above = c.in-Some.above.now in
    let front = c.args.front.now in
    let same = same_from_push above front c.in-Some.arc.now arc (sym c.in-Some.ensures.cases.0 ∙ e) in
    both_ways c.ne.result (c.ne.ensures ∙ ap not ((bytes_decides above front).1 same.0)) c.if-ne.true
