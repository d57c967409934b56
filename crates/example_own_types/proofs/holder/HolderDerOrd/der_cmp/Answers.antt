-- Goals of `holder::HolderDerOrd::der_cmp` that the checker doesn't prove by itself.
use Rattle.example_own_types.proofs.holder.HolderDerOrd.der_cmp.Goals as goal

pub returns-clause-exact : goal.returns-clause-exact
returns-clause-exact c = c.cases_cmp.ensures.exact _ _ c.cases.ensures c.cases-2.ensures

pub returns-clause-refused : goal.returns-clause-refused
returns-clause-refused c = c.cases_cmp.ensures.refused _ _ c.cases.ensures c.cases-2.ensures
