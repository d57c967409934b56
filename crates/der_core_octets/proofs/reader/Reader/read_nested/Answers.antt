-- Goals of `reader::Reader::read_nested` that the checker doesn't prove by itself.
use Rattle.std.proofs.Common.{length, refl, ap, subst, arith, Ok, Err, Bool}
use Rattle.std.proofs.lemmas.Result.{err_from_is_err_and}
use Rattle.der_core_head.specs.Reading.{State, Closes}
use Rattle.der_core_octets.proofs.GoingOn.{refused, behind_long, broken_kept, not_opened, ran_there, kept_there, nested_tells, nested_reads, left_refused, left_reads}
use Rattle.der_core_octets.proofs.reader.Reader.read_nested.Goals as goal

-- The end wasn't moved.
pub returns-in_err-behind : goal.returns-in_err-behind
returns-in_err-behind g c =
    let state = g.Self.Reader.state in
    let old = state c.args.self.now in
    let n = c.args.len.value in
    let e = c.in_err-behind.field-0.0 in
    let p = err_from_is_err_and c.from_residual.result c.from_residual.ensures.1 in
    let opens = c.in_err-behind.ensures in
    rw (p.1, p.2) (record {
      moved = tt;
      ran = tt;
      kept = broken_kept _ _ opens.1;
      failed = ap (λ (s : State). s.failed) opens.1;
      refused = not_opened state g.F.FnOnce c.args.f n old e opens.0 opens.2;
      reads = λ t b view calls. (λ ready. refused t e.kind n old b (opens.0 ready), broken_kept _ _ opens.1, opens.2, ap (λ (s : State). s.failed) opens.1);
    })

pub end_nested-requires : goal.end_nested-requires
end_nested-requires g c κs =
    let state = g.Self.Reader.state in
    let old = state c.args.self.now in
    let n = c.args.len.value in
    let taken = c.in_ok-behind.behind in
    let opens = c.in_ok-behind.ensures in
    let ran = ran_there state g.F.FnOnce c.args.f n old taken c.begin_nested.new.self c.f-outcome.new.arg2 c.f-outcome.result c.requires.hands_back opens
    (record { shown = _; shows = refl; left = _; met = c.f-outcome.ensures; leaves = refl }) in
    let long = behind_long n taken.value old ran.enough in
    ((refl, tt), (omega (arith, long, ap length ran.kept.behind), omega (arith, ran.kept.room, opens.1, opens.2)))

-- Bytes were left before the end.
pub returns-in_err-end_nested : goal.returns-in_err-end_nested
returns-in_err-end_nested g c =
    let state = g.Self.Reader.state in
    let old = state c.args.self.now in
    let n = c.args.len.value in
    let f = c.args.f in
    let taken = c.in_ok-behind.behind in
    let inner = c.begin_nested.new.self in
    let outer = c.f-outcome.new.arg2 in
    let new = state c.end_nested.new.self in
    let r = c.f-outcome.result in
    let e = c.in_err-end_nested.field-0.0 in
    let p = err_from_is_err_and c.from_residual-in_err-end_nested.result c.from_residual-in_err-end_nested.ensures.1 in
    let ran = ran_there state g.F.FnOnce f n old taken inner outer r c.requires.hands_back c.in_ok-behind.ensures (record { shown = _; shows = refl; left = _; met = c.f-outcome.ensures; leaves = refl }) in
    let Q : Bool → Type 0 = λ b. Closes taken.value b (state outer) new (Err e) in
    let closes = subst Q c.is_err.ensures.value c.in_err-end_nested.ensures in
    rw (p.1, p.2) (record {
      moved = tt;
      ran = tt;
      kept = kept_there state g.F.FnOnce f n old taken.value inner outer new r _ ran closes.3;
      failed = ap (λ (s : State). s.failed) closes.3;
      refused = left_refused state g.F.FnOnce f n old taken.value inner outer new r e ran closes;
      reads = λ t b view calls. left_reads state g.F.FnOnce f n old taken.value inner outer new t b view r e ran closes calls;
    })

pub returns : goal.returns
returns g c =
    let state = g.Self.Reader.state in
    let old = state c.args.self.now in
    let n = c.args.len.value in
    let f = c.args.f in
    let taken = c.in_ok-behind.behind in
    let inner = c.begin_nested.new.self in
    let outer = c.f-outcome.new.arg2 in
    let new = state c.end_nested.new.self in
    let r = c.f-outcome.result in
    let ran = ran_there state g.F.FnOnce f n old taken inner outer r c.requires.hands_back c.in_ok-behind.ensures (record { shown = _; shows = refl; left = _; met = c.f-outcome.ensures; leaves = refl }) in
    let Q : Bool → Type 0 = λ b. Closes taken.value b (state outer) new (Ok tt) in
    let closes = subst Q c.is_err.ensures.value c.in_ok-end_nested.ensures in
    let tells = nested_tells state g.F.FnOnce f n old taken.value inner outer new r ran closes in
    record {
      moved = tells.0;
      ran = tells.1;
      kept = tells.2;
      failed = tells.3;
      refused = tells.4;
      reads = λ t b view calls. nested_reads state g.F.FnOnce f n old taken.value inner outer new t b view r ran closes calls;
    }
