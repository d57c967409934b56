-- Goals of `trust_anchor_choice::TrustAnchorChoiceEncode::encode` that the checker doesn't prove
-- by itself.
use Rattle.std.proofs.Common.{subst}
use Rattle.der_core.specs.Oid.Bound.{Bound}
use Rattle.der_core.specs.Shapes.{Value, octets_of}
use Rattle.der_core.specs.Outputs.{AddsFront}
use Rattle.x509_cert_anchors.specs.Anchors.{trust_anchor_choice}
use Rattle.x509_cert_anchors.proofs.trust_anchor_choice.TrustAnchorChoiceEncode.encode.Goals as goal

pub returns-clause-front : goal.returns-clause-front
returns-clause-front g c =
    subst (λ (v : Value (trust_anchor_choice Bound g.P.Profile.serial_limit)). AddsFront (octets_of (trust_anchor_choice Bound g.P.Profile.serial_limit) v) (g.W.Writer.out c.args.writer.now) (g.W.Writer.out c.encode_field.new.writer)) c.cases.ensures c.encode_field.ensures.front
