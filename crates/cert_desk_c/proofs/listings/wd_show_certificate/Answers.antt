-- Goals of `listings::wd_show_certificate` that the checker doesn't prove by itself.
use Rattle.std.proofs.Common.{inl, refl, sym, ap, ◌∙◌}
use Rattle.cert_tool_describe.specs.Oid.Bound.{Bound}
use Rattle.cert_desk_listing.specs.Listing.{certificate_lines}
use Rattle.cert_tool_describe.specs.CertCertificates.Certificates.{raw_certificate}
use Rattle.cert_tool_describe.specs.CertCertificates.Views.{certificate_plain}
use Rattle.cert_desk_c.proofs.Told.{printed, unprinted}
use Rattle.cert_desk_c.proofs.listings.wd_show_certificate.Goals as goal

pub returns-in-Err-clause-statuses : goal.returns-in-Err-clause-statuses
returns-in-Err-clause-statuses c =
    unprinted (raw_certificate Bound) refl refl certificate_lines c.args.octets.now c.args.out.now c.in-Err.status c.code.result c.code.ensures c.in-Err.ensures.refused

pub returns-clause-statuses : goal.returns-clause-statuses
returns-clause-statuses c =
    inl (printed (raw_certificate Bound) refl refl certificate_lines c.args.octets.now c.args.out.now (certificate_plain c.in-Ok.certificate) c.as_slice.result.now c.give.result c.in-Ok.ensures.spelled
    (c.as_slice.ensures.value ∙ c.in-Ok-certificate_listing.ensures) c.give.ensures.status c.give.ensures.fits c.give.ensures.no_room)
