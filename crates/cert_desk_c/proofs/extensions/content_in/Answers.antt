-- Goals of `extensions::content_in` that the checker doesn't prove by itself.
use Rattle.cert_tool_describe.specs.CertParts.Grammar.{extension_octets}
use Rattle.cert_desk_c.proofs.ExtensionPlaces.{Inside, content_is, before_content}
use Rattle.cert_desk_c.proofs.extensions.content_in.Goals as goal

pub returns : goal.returns
returns c = λ e w before valid is same.
    let inside : Inside c.args.rest.now c.args.critical = record {
      fields = c.inside-fields.result.now;
      fields_in = c.inside-fields.ensures;
      marking = c.behind-marking.result.now;
      marking_behind = c.behind-marking.ensures;
      value = c.behind_where-value.result.now;
      value_rest = c.behind_where-value.ensures.rest;
      value_there = c.behind_where-value.ensures.there;
      value_alone = c.behind_where-value.ensures.absent;
      content = c.inside-content.result.now;
      content_in = c.inside-content.ensures;
      end = c.behind-end.result.now;
      end_behind = c.behind-end.ensures;
    } in
    let at = before_content c.args.octets.now c.args.rest.now c.args.critical inside e w before valid is same in
    c.part.ensures at.0 (extension_octets e) at.1 (content_is c.args.octets.now c.args.rest.now c.args.critical inside e w before valid is same)
