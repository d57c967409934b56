-- Goals of `any_ref::AnyRefEncode::encode` that the checker doesn't prove by itself.
use Rattle.std.proofs.Common.{refl}
use Rattle.der_types_text.specs.Der.Leaves.{octets}
use Rattle.der_types_text.specs.Der.Shapes.{leaf, octets_of, contents}
use Rattle.der_types_text.proofs.Der.Added.{header_adds, content_adds, write_adds}
use Rattle.der_types_any.proofs.any_ref.AnyRefEncode.encode.Goals as goal

pub returns-in_err-encode_header-clause-front : goal.returns-in_err-encode_header-clause-front
unfolding octets_of contents
returns-in_err-encode_header-clause-front g c =
    header_adds c.args.self.now.tag (leaf octets) c.args.self.now.bytes.now c.in_ok-len.len.value _ _ c.in_ok-len.ensures c.in_err-encode_header.ensures.front

pub returns-clause-front : goal.returns-clause-front
unfolding octets_of contents
returns-clause-front g c =
    content_adds c.args.self.now.tag (leaf octets) c.args.self.now.bytes.now c.in_ok-len.len.value _ _ _ c.in_ok-len.ensures c.in_ok-encode_header.ensures.exact
    (write_adds _ _ _ _ _ _ c.write.ensures.exact c.write.ensures.refused refl)
