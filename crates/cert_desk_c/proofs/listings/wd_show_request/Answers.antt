-- Goals of `listings::wd_show_request` that the checker doesn't prove by itself.
use Rattle.std.proofs.Common.{inl, refl, sym, ap, ◌∙◌}
use Rattle.cert_tool_describe.specs.Oid.Bound.{Bound}
use Rattle.cert_desk_listing.specs.Listing.{request_lines}
use Rattle.cert_tool_describe.specs.CertLists.ListGrammar.{cert_req}
use Rattle.cert_tool_describe.specs.CertLists.ListViews.{cert_req_plain}
use Rattle.cert_desk_c.proofs.Told.{printed, unprinted}
use Rattle.cert_desk_c.proofs.listings.wd_show_request.Goals as goal

pub returns-in-Err-clause-statuses : goal.returns-in-Err-clause-statuses
returns-in-Err-clause-statuses c =
    unprinted (cert_req Bound) refl refl request_lines c.args.octets.now c.args.out.now c.in-Err.status c.code.result c.code.ensures c.in-Err.ensures.refused

pub returns-clause-statuses : goal.returns-clause-statuses
returns-clause-statuses c =
    inl (printed (cert_req Bound) refl refl request_lines c.args.octets.now c.args.out.now (cert_req_plain c.in-Ok.request) c.as_slice.result.now c.give.result c.in-Ok.ensures.spelled
    (c.as_slice.ensures.value ∙ c.in-Ok-request_listing.ensures) c.give.ensures.status c.give.ensures.fits c.give.ensures.no_room)
