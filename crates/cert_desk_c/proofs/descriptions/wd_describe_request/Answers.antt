-- Goals of `descriptions::wd_describe_request` that the checker doesn't prove by itself.
use Rattle.cert_tool_describe.specs.Files.{IsRequest}
use Rattle.cert_desk_c.specs.Values.{IsNoRequest}
use Rattle.cert_desk_c.proofs.Described.{described}
use Rattle.cert_desk_c.proofs.descriptions.wd_describe_request.Goals as goal

pub returns-clause-statuses : goal.returns-clause-statuses
returns-clause-statuses c =
    described (IsRequest c.args.octets.now) (IsNoRequest c.args.octets.now) c.give_lines.new.size c.args.out.now c.add_request-fault.result c.give_lines.result (λ it none. none it.0 it.1) (λ never it spelled. never (it, spelled))
    c.add_request-fault.ensures.spelled c.add_request-fault.ensures.refused c.give_lines.ensures.given c.give_lines.ensures.refused
