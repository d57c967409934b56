-- What a piece adds comes after what was read and written before it.
use Rattle.std.proofs.Common.{[], arith, ap, Ok, refl, subst, ◌∙◌}
use Rattle.cert_tool_explain.specs.DeskIo.Devices.{sink, source}
use Rattle.cert_tool.specs.DescribedStreams.{HasTaken}
use Rattle.cert_tool.proofs.DescribedStreamLaws.{at_end, begun, moved_on, no_memory, on, read_failed, refused, unwritten}
use Rattle.cert_tool.proofs.each_certificate.write_each.Goals as goal

pub pieces-init : goal.pieces-init
pieces-init g c = record {
  read =
      begun (source g.S.Input.takes g.S.Input.is_ended g.S.Input.failures c.args.stream.now c.args.stream.now) c.args.limit _ c.args.ahead.now.bundle c.args.ahead.now.octets.items (g.met.S.Input.takes_nothing c.args.stream.now) refl
      refl refl c.requires.nothing c.requires.held;
  written = ([], g.met.O.Output.gives_nothing c.args.out.now, refl);
}

pub returns-in_default : goal.returns-in_default
returns-in_default g c =
    read_failed (source g.S.Input.takes g.S.Input.is_ended g.S.Input.failures c.args.stream.now c.pieces.stream) g.met.S.Input.takes_in_turn c.args.limit c.pieces.passed c.pieces.ahead.bundle c.pieces.ahead.octets.items
    c.pieces.invariant.read c.feed.new.stream (sink g.O.Output.gives g.O.Output.failures c.args.out.now c.pieces.out) c.pieces.invariant.written c.in_default.ensures.failed

pub returns-in-Err : goal.returns-in-Err
returns-in-Err g c =
    let fed = c.in-Some.ensures.fed in
    unwritten (source g.S.Input.takes g.S.Input.is_ended g.S.Input.failures c.args.stream.now c.pieces.stream) g.met.S.Input.takes_in_turn c.args.limit c.pieces.passed c.pieces.ahead.bundle c.pieces.ahead.octets.items
    c.pieces.invariant.read c.feed.new.stream fed.0 fed.1 (sink g.O.Output.gives g.O.Output.failures c.args.out.now c.pieces.out) g.met.O.Output.gives_in_turn c.pieces.invariant.written c.write_descriptions.new.out c.in-Err.outcome
    c.in-Err.ensures.unwritten

pub returns-in-Ok-false : goal.returns-in-Ok-false
returns-in-Ok-false g c =
    let fed = c.in-Some.ensures.fed in
    let taken = subst (λ r. HasTaken c.pieces.ahead.bundle.limit c.feed.new.self.bundle c.pieces.ahead.octets.items fed.0 r) (c.in-Ok-false.is ∙ ap Ok c.in-Ok-false.field-0-test) fed.2 in
    let written =
    moved_on (sink g.O.Output.gives g.O.Output.failures c.args.out.now c.pieces.out) g.met.O.Output.gives_in_turn c.pieces.invariant.written c.write_descriptions.new.out c.in-Ok.ensures.written in
    at_end (source g.S.Input.takes g.S.Input.is_ended g.S.Input.failures c.args.stream.now c.pieces.stream) g.met.S.Input.takes_in_turn c.args.limit c.pieces.passed c.pieces.ahead.bundle c.pieces.ahead.octets.items
    c.pieces.invariant.read c.feed.new.stream fed.0 fed.1 c.feed.new.self.bundle c.in-Ok.next c.in-Ok.ensures.behind (sink g.O.Output.gives g.O.Output.failures c.args.out.now c.write_descriptions.new.out) written taken
    c.end.result c.end.ensures.none c.end.ensures.some

pub returns-in-Err-fed : goal.returns-in-Err-fed
returns-in-Err-fed g c =
    let fed = c.in-Some.ensures.fed in
    let taken = subst (λ r. HasTaken c.pieces.ahead.bundle.limit c.feed.new.self.bundle c.pieces.ahead.octets.items fed.0 r) c.in-Err-fed.is fed.2 in
    let written =
    moved_on (sink g.O.Output.gives g.O.Output.failures c.args.out.now c.pieces.out) g.met.O.Output.gives_in_turn c.pieces.invariant.written c.write_descriptions.new.out c.in-Ok.ensures.written in
    rw c.stop.ensures
    (refused (source g.S.Input.takes g.S.Input.is_ended g.S.Input.failures c.args.stream.now c.pieces.stream) g.met.S.Input.takes_in_turn c.args.limit c.pieces.passed c.pieces.ahead.bundle c.pieces.ahead.octets.items
    c.pieces.invariant.read c.feed.new.stream fed.0 fed.1 c.feed.new.self.bundle c.in-Ok.next c.in-Ok.ensures.behind (sink g.O.Output.gives g.O.Output.failures c.args.out.now c.write_descriptions.new.out) written
    c.in-Err-fed.error taken)

pub returns-in-Err-forget : goal.returns-in-Err-forget
returns-in-Err-forget g c =
    let fed = c.in-Some.ensures.fed in
    let written =
    moved_on (sink g.O.Output.gives g.O.Output.failures c.args.out.now c.pieces.out) g.met.O.Output.gives_in_turn c.pieces.invariant.written c.write_descriptions.new.out c.in-Ok.ensures.written in
    no_memory (source g.S.Input.takes g.S.Input.is_ended g.S.Input.failures c.args.stream.now c.pieces.stream) g.met.S.Input.takes_in_turn c.args.limit c.pieces.passed c.pieces.ahead.bundle c.pieces.ahead.octets.items
    c.pieces.invariant.read c.feed.new.stream fed.0 fed.1.moved fed.1.sound fed.1.short (sink g.O.Output.gives g.O.Output.failures c.args.out.now c.write_descriptions.new.out) written

pub pieces-preserved : goal.pieces-preserved
pieces-preserved g c =
    let fed = c.in-Some.ensures.fed in
    let taken = subst (λ r. HasTaken c.pieces.ahead.bundle.limit c.feed.new.self.bundle c.pieces.ahead.octets.items fed.0 r) (c.in-Ok-true.is ∙ ap Ok c.in-Ok-true.field-0-test) fed.2 in
    record {
      read =
          on (source g.S.Input.takes g.S.Input.is_ended g.S.Input.failures c.args.stream.now c.pieces.stream) g.met.S.Input.takes_in_turn c.args.limit c.pieces.passed c.pieces.ahead.bundle c.pieces.ahead.octets.items
          c.pieces.invariant.read c.feed.new.stream fed.0 fed.1 c.feed.new.self.bundle c.in-Ok.next c.in-Ok.ensures.behind taken c.forget.new.self.bundle c.forget.new.self.octets.items
          c.in-Ok-forget.ensures.rest c.in-Ok-forget.ensures.held;
      written = moved_on (sink g.O.Output.gives g.O.Output.failures c.args.out.now c.pieces.out) g.met.O.Output.gives_in_turn c.pieces.invariant.written c.write_descriptions.new.out c.in-Ok.ensures.written;
    }

pub returns : goal.returns
returns g c =
    no_memory (source g.S.Input.takes g.S.Input.is_ended g.S.Input.failures c.args.stream.now c.pieces.stream) g.met.S.Input.takes_in_turn c.args.limit c.pieces.passed c.pieces.ahead.bundle c.pieces.ahead.octets.items
    c.pieces.invariant.read c.pieces.stream [] (g.met.S.Input.takes_nothing c.pieces.stream) refl (omega arith) (sink g.O.Output.gives g.O.Output.failures c.args.out.now c.pieces.out) c.pieces.invariant.written
