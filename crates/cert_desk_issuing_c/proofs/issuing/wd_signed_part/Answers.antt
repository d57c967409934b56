-- Goals of `issuing::wd_signed_part` that the checker doesn't prove by itself.
use Rattle.std.proofs.Common.{[]}
use Rattle.cert_desk_issuing_c.proofs.GivenChains.{given_status, refused_status}
use Rattle.cert_desk_issuing_c.proofs.issuing.wd_signed_part.Goals as goal

pub returns-in-Ok-clause-known : goal.returns-in-Ok-clause-known
returns-in-Ok-clause-known c = given_status c.give.result c.give.ensures.status

pub returns-in-Err-clause-known : goal.returns-in-Err-clause-known
returns-in-Err-clause-known c =
    refused_status c.args.orders.now c.args.place c.args.algorithm.now [] c.in-Err.status c.code.result c.code.ensures c.in-Err.ensures.refused
