-- Goals of `database::Database::by_name` that the checker doesn't prove by itself.
use Rattle.std.proofs.Common.{sym, ◌∙◌}
use Rattle.std.proofs.lemmas.Bool.{false≢true}
use Rattle.const_oid.proofs.NamesLaws.{by_name-match, by_name-pass}
use Rattle.const_oid.proofs.database.Database.by_name.Goals as goal

pub returns-then-eq_ignore_ascii_case : goal.returns-then-eq_ignore_ascii_case
returns-then-eq_ignore_ascii_case c =
    sym (c.loop-i.invariant ∙ by_name-match c.args.name.now c.args.self.now.entries.now c.loop-i.i _ c.index-self-i.result c.loop-i-test.true (c.eq_ignore_ascii_case.ensures.test.0 c.if-eq_ignore_ascii_case.true))

pub loop-i-preserved : goal.loop-i-preserved
loop-i-preserved c =
    c.loop-i.invariant ∙ by_name-pass c.args.name.now c.args.self.now.entries.now c.loop-i.i _ c.loop-i-test.true (λ same. false≢true (sym c.if-eq_ignore_ascii_case.false ∙ c.eq_ignore_ascii_case.ensures.test.1 same))
