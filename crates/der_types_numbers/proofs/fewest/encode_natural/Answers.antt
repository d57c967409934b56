-- Goals of `fewest::encode_natural` that the checker doesn't prove by itself.
use Rattle.std.proofs.Common.{sym, ◌∙◌}
use Rattle.der_core.proofs.Added.{write_adds}
use Rattle.der_types_numbers.proofs.Naturals.{content-set, content-clear}
use Rattle.der_types_numbers.proofs.fewest.encode_natural.Goals as goal

pub returns-then-begins_with_one_bit-clause-exact : goal.returns-then-begins_with_one_bit-clause-exact
returns-then-begins_with_one_bit-clause-exact g c = rw (content-set c.args.octets.now c.requires (sym c.begins_with_one_bit.ensures ∙ c.if-begins_with_one_bit.true)) c.encode_behind.ensures.exact

pub returns-clause-exact : goal.returns-clause-exact
returns-clause-exact g c = rw (content-clear c.args.octets.now c.requires (sym c.begins_with_one_bit.ensures ∙ c.if-begins_with_one_bit.false)) c.write.ensures.exact

pub returns-then-begins_with_one_bit-clause-front : goal.returns-then-begins_with_one_bit-clause-front
returns-then-begins_with_one_bit-clause-front g c = rw (content-set c.args.octets.now c.requires (sym c.begins_with_one_bit.ensures ∙ c.if-begins_with_one_bit.true)) c.encode_behind.ensures.front

pub returns-clause-front : goal.returns-clause-front
returns-clause-front g c =
    let clear = content-clear c.args.octets.now c.requires (sym c.begins_with_one_bit.ensures ∙ c.if-begins_with_one_bit.false) in
    write_adds _ _ _ _ _ _ c.write.ensures.exact c.write.ensures.refused (sym clear)
