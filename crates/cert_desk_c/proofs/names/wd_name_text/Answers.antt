-- Goals of `names::wd_name_text` that the checker doesn't prove by itself.
use Rattle.std.proofs.Common.{inl, refl, sym, ap, ◌∙◌}
use Rattle.cert_tool_describe.specs.Oid.Bound.{Bound}
use Rattle.cert_tool_describe.specs.CertNames.Names.{name}
use Rattle.cert_tool_describe.specs.CertNames.PlainTexts.{name_text}
use Rattle.cert_tool_describe.specs.CertNames.Views.{name_plain}
use Rattle.cert_desk_c.proofs.Told.{printed, unprinted}
use Rattle.cert_desk_c.proofs.names.wd_name_text.Goals as goal

pub returns-in-Err-clause-statuses : goal.returns-in-Err-clause-statuses
returns-in-Err-clause-statuses c =
    unprinted (name Bound) refl refl name_text c.args.octets.now c.args.out.now c.in-Err.status c.code.result c.code.ensures c.in-Err.ensures.refused

pub returns-clause-statuses : goal.returns-clause-statuses
returns-clause-statuses c =
    inl (printed (name Bound) refl refl name_text c.args.octets.now c.args.out.now (name_plain c.in-Ok.name) c.as_bytes.result.now c.give.result c.in-Ok.ensures.spelled
    (c.as_bytes.ensures.value ∙ c.in-Ok-text_of.ensures) c.give.ensures.status c.give.ensures.fits c.give.ensures.no_room)
