-- Goals of `slices::encode_value_to_slice` that the checker doesn't prove by itself.
use Rattle.std.proofs.Common.{Bor, ℕ, List, length}
use Rattle.der_core_coding.proofs.Fronts.{content_spelled, filled_contents, content_in_range}
use Rattle.der_core_coding.proofs.slices.encode_value_to_slice.Goals as goal

pub returns-clause-octets : goal.returns-clause-octets
returns-clause-octets g c =
    filled_contents g.T.ShapedValue.content (g.T.ShapedValue.value_written c.args.value.now) (length c.args.bytes.now) (λ (o : Bor (List ℕ)). o.now) c.fill_content.result c.fill_content.ensures

pub returns-clause-spelled : goal.returns-clause-spelled
returns-clause-spelled g c = λ valid room. content_spelled g.T.ShapedValue.content (g.T.ShapedValue.value_written c.args.value.now) (length c.args.bytes.now) (λ (o : Bor (List ℕ)). o.now) c.fill_content.result c.fill_content.ensures valid room

pub returns-clause-valid : goal.returns-clause-valid
returns-clause-valid g c =
    content_in_range g.T.ShapedValue.content (g.T.ShapedValue.value_written c.args.value.now) (length c.args.bytes.now) (λ (o : Bor (List ℕ)). o.now) c.fill_content.result c.fill_content.ensures
