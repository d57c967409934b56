-- Goals of `places::behind_version` that the checker doesn't prove by itself.
use Rattle.std.proofs.Common.{[], true, refl}
use Rattle.cert_tool_describe.specs.Der.Shapes.{nested, only}
use Rattle.cert_tool_describe.specs.Der.Tags.{context}
use Rattle.cert_tool_describe.specs.CertParts.Grammar.{version}
use Rattle.cert_desk_c.specs.Places.{numbered_fields}
use Rattle.cert_desk_c.proofs.PartPlaces.{versioned, valid_versioned, some_fields}
use Rattle.cert_desk_c.proofs.places.behind_version.Goals as goal

pub returns-in_default : goal.returns-in_default
returns-in_default c = (([], refl), λ t w valid e. absurd (some_fields t w c.args.octets.now e c.in_default.len_below))

pub returns-then-first : goal.returns-then-first
returns-then-first c = (
  c.behind.ensures.0,
  λ t w valid e. c.behind.ensures.1 (context true 0) (nested (only version)) numbered_fields t w (valid_versioned t valid) ((versioned t w c.args.octets.now e).0 c.if-first.true),
)

pub returns : goal.returns
returns c = (([], refl), λ t w valid e. (versioned t w c.args.octets.now e).1 c.if-first.false)
