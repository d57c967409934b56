-- Goals of `extensions::extension_in` that the checker doesn't prove by itself.
use Rattle.std.proofs.Common.{◌-◌, ◌++◌, length, take, drop, refl, sym, ◌∙◌}
use Rattle.cert_tool_describe.specs.Oid.Bound.{Bound}
use Rattle.cert_tool_describe.specs.Der.Shapes.{many, body_octets}
use Rattle.cert_tool_describe.specs.CertParts.Grammar.{extension}
use Rattle.cert_tool_describe.specs.CertParts.Views.{extension_plain, extensions_plain}
use Rattle.cert_desk_c.proofs.PartPlaces.{rests}
use Rattle.cert_desk_c.proofs.ExtensionPlaces.{cons_is, found_none, found_here, found_later, this_valid, this_is, left_valid, left_is}
use Rattle.cert_desk_c.proofs.extensions.+extension_in.Goals as goal

pub returns-in_default : goal.returns-in_default
returns-in_default t c = λ w before valid is. found_none c.args.octets.now c.args.identifier.now c.args.extensions.now c.in_default.len_below

pub returns-then-eq : goal.returns-then-eq
returns-then-eq t c = λ w before valid is.
    let es = c.args.extensions.now in
    let left = take (length es - 1) (drop 1 es) in
    let x = c.first-item.result in
    let e = cons_is es x c.in-len1-up.len_at_least c.first-item.is in
    found_here c.args.octets.now c.args.identifier.now es x left c.content_in-content.result e (sym c.eq.ensures ∙ c.if-eq.true)
    (c.content_in-content.ensures (extension_plain x) (body_octets (many (extension Bound)) (extensions_plain left) ++ w) before (this_valid es x left e w c.args.rest.now valid is) (this_is es x left e w c.args.rest.now valid is) refl)

pub returns : goal.returns
returns t c = λ w before valid is.
    let es = c.args.extensions.now in
    let left = take (length es - 1) (drop 1 es) in
    let x = c.first-item.result in
    let e = cons_is es x c.in-len1-up.len_at_least c.first-item.is in
    found_later c.args.octets.now c.args.identifier.now es x left c.extension_in.result e (sym c.eq.ensures ∙ c.if-eq.false)
    (c.extension_in.ensures w (rests c.args.octets.now c.args.rest.now c.behind.result.now before c.behind.ensures.0) (left_valid es x left e w c.args.rest.now valid is) (left_is es x left e w c.args.rest.now valid is c.behind.result.now c.behind.ensures))
