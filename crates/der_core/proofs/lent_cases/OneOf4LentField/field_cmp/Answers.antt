-- Goals of `lent_cases::OneOf4LentField::field_cmp` that the checker doesn't prove by itself.
use Rattle.der_core.proofs.lent_cases.OneOf4LentField.field_cmp.Goals as goal

pub returns-clause-exact : goal.returns-clause-exact
returns-clause-exact g c = c.values_cmp.ensures.exact _ _ c.four_of.ensures c.four_of-2.ensures

pub returns-clause-refused : goal.returns-clause-refused
returns-clause-refused g c = c.values_cmp.ensures.refused _ _ c.four_of.ensures c.four_of-2.ensures
