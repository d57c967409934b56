-- Goals of `descriptions::wd_describe_certificate` that the checker doesn't prove by itself.
use Rattle.cert_tool_describe.specs.Files.{IsCertificate}
use Rattle.cert_desk_c.specs.Values.{IsNoCertificate}
use Rattle.cert_desk_c.proofs.Described.{described}
use Rattle.cert_desk_c.proofs.descriptions.wd_describe_certificate.Goals as goal

pub returns-clause-statuses : goal.returns-clause-statuses
returns-clause-statuses c =
    described (IsCertificate c.args.octets.now) (IsNoCertificate c.args.octets.now) c.give_lines.new.size c.args.out.now c.add_certificate-fault.result c.give_lines.result (λ it none. none it.0 it.1) (λ never it spelled. never (it, spelled))
    c.add_certificate-fault.ensures.spelled c.add_certificate-fault.ensures.refused c.give_lines.ensures.given c.give_lines.ensures.refused
