-- Goals of `frames::read_frame`: a length is read, and then its content.
use Rattle.std.proofs.Common.{◌≡◌, ◌∙◌, ℕ, List, length, sym, subst, arith}
use Rattle.std.proofs.lemmas.Result.{err_from_is_err_and}
use Rattle.cert_desk_io.specs.Frames.{number_octets}
use Rattle.cert_desk_io.proofs.FrameLaws.{alone, cut_behind, next_behind, stopped_behind, within}
use Rattle.cert_desk_io.proofs.frames.read_frame.Goals as goal

pub returns-in_err-content-clause-unread : goal.returns-in_err-content-clause-unread
returns-in_err-content-clause-unread g c =
    let p = err_from_is_err_and c.from_residual-in_err-content.result c.from_residual-in_err-content.ensures.1 in
    let front = c.in_ok-front.ensures.taken in
    rw (p.1, p.2) (stopped_behind g.I.Input.takes g.I.Input.is_ended g.I.Input.failures g.met.I.Input.takes_in_turn c.args.input.now c.take_octets.new.input c.take_octets-2.new.input c.args.most c.in_err-content.field-0.0 c.in_ok-front.front.items front.0 front.1 c.in_err-content.ensures.stopped)

pub returns-then-len-count-clause-unread : goal.returns-then-len-count-clause-unread
returns-then-len-count-clause-unread g c =
    let front = c.in_ok-front.ensures.taken in
    let octets = c.in_ok-front.front.items in
    let number : octets ≡ number_octets c.in-Some.count = alone octets c.in-Some.field-0-1.now c.in-Some.count (sym c.as_slice.ensures.value ∙ c.in-Some.ensures.some) (within (length octets) 4 (g.I.Input.is_ended c.take_octets.new.input) front.2) in
    cut_behind g.I.Input.takes g.I.Input.is_ended g.I.Input.failures g.met.I.Input.takes_in_turn c.args.input.now c.take_octets.new.input c.take_octets-2.new.input c.args.most c.in-Some.count c.in_ok-content.content.items
    (omega (arith, c.if-count-most.false))
    (subst (λ (x : List ℕ). g.I.Input.takes c.args.input.now x c.take_octets.new.input) number front.0)
    front.1 c.in_ok-content.ensures.taken (omega (arith, c.if-len-count.true, c.len.ensures))

pub returns-clause-next : goal.returns-clause-next
returns-clause-next g c =
    let front = c.in_ok-front.ensures.taken in
    let octets = c.in_ok-front.front.items in
    let number : octets ≡ number_octets c.in-Some.count = alone octets c.in-Some.field-0-1.now c.in-Some.count (sym c.as_slice.ensures.value ∙ c.in-Some.ensures.some) (within (length octets) 4 (g.I.Input.is_ended c.take_octets.new.input) front.2) in
    next_behind g.I.Input.takes g.I.Input.is_ended g.I.Input.failures g.met.I.Input.takes_in_turn c.args.input.now c.take_octets.new.input c.take_octets-2.new.input c.args.most c.in-Some.count c.in_ok-content.content.items
    (omega (arith, c.if-count-most.false))
    (subst (λ (x : List ℕ). g.I.Input.takes c.args.input.now x c.take_octets.new.input) number front.0)
    front.1 c.in_ok-content.ensures.taken (omega (arith, c.if-len-count.false, c.len.ensures))
