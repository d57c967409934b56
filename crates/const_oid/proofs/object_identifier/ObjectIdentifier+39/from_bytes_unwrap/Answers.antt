-- Goals of `object_identifier::ObjectIdentifier<39>::from_bytes_unwrap` that the checker doesn't
-- prove by itself.
use Rattle.std.proofs.Common.{◌^◌, sym, ◌∙◌, arith}
use Rattle.const_oid.proofs.BoundLaws.{Bound-is}
use Rattle.const_oid.proofs.BoundedLaws.{constant_read, constant_refused}
use Rattle.const_oid.proofs.object_identifier.ObjectIdentifier+39.from_bytes_unwrap.Goals as goal

pub unreachable-requires : goal.unreachable-requires
unreachable-requires c =
    absurd (constant_refused (2 ^ 64) 39 c.args.ber_bytes.now c.in-Err.field-0 (omega (arith, Bound-is)) (λ i. omega (arith, c.type_inv.ber_bytes i)) c.requires
    (sym c.from_bytes.ensures.read ∙ c.in-Err.is))

pub returns : goal.returns
returns c =
    sym c.in-Ok.is ∙ c.from_bytes.ensures.read
    ∙ constant_read (2 ^ 64) 39 c.args.ber_bytes.now (omega (arith, Bound-is)) (λ i. omega (arith, c.type_inv.ber_bytes i)) c.requires
