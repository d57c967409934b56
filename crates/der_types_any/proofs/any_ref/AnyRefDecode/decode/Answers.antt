-- Goals of `any_ref::AnyRefDecode::decode` that the checker doesn't prove by itself.
use Rattle.std.proofs.Common.{arith}
use Rattle.der_types_text.proofs.Der.Levels.{slice_few}
use Rattle.der_types_any.proofs.any_ref.AnyRefDecode.decode.Goals as goal

pub invariant_of-result : goal.invariant_of-result
invariant_of-result g c =
    let few = slice_few c.in_ok-header.header.length.value _ _ _ c.in_ok-bytes.ensures.0 in
    record { short = omega arith }
