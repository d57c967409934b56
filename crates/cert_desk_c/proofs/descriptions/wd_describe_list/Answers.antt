-- Goals of `descriptions::wd_describe_list` that the checker doesn't prove by itself.
use Rattle.cert_tool_describe.specs.Files.{IsList}
use Rattle.cert_desk_c.specs.Values.{IsNoList}
use Rattle.cert_desk_c.proofs.Described.{described}
use Rattle.cert_desk_c.proofs.descriptions.wd_describe_list.Goals as goal

pub returns-clause-statuses : goal.returns-clause-statuses
returns-clause-statuses c =
    described (IsList c.args.octets.now) (IsNoList c.args.octets.now) c.give_lines.new.size c.args.out.now c.add_list-fault.result c.give_lines.result (λ it none. none it.0 it.1) (λ never it spelled. never (it, spelled))
    c.add_list-fault.ensures.spelled c.add_list-fault.ensures.refused c.give_lines.ensures.given c.give_lines.ensures.refused
