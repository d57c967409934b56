-- The outputs of a request fit into frames, or they don't.
use Rattle.std.proofs.Common.{◌≡◌, ℕ, List, ap, sym, ◌∙◌}
use Rattle.std.specs.Global.{Vec}
use Rattle.std.proofs.lemmas.Result.{IfErr-weaker, IfOk-weaker}
use Rattle.cert_tool.specs.Serving.{HasOutcome, HasNoReply, IsReply, reply_frames}
use Rattle.cert_tool.proofs.ServingLaws.{no_reply}
use Rattle.cert_tool.proofs.serving.answer.Goals as goal

pub returns : goal.returns
returns g c =
    let items : Vec ℕ → List ℕ = λ v. v.items in
    let tells = g.C.UnixClock.tells c.args.clock.now in
    let octets = c.args.request.now in
    let output = c.as_slice.result.now in
    let errors = c.as_slice-2.result.now in
    let comes : HasOutcome tells octets c.in-Ok.status output errors = record {
      old_output = c.new-out.result;
      new_output = c.run_request.new.out;
      old_errors = c.new-err.result;
      new_errors = c.run_request.new.err;
      empty = (ap items c.new-out.ensures.writer ∙ c.new.ensures.items, ap items c.new-err.ensures.writer ∙ c.new-2.ensures.items);
      is_obeyed = c.in-Ok.ensures;
      written = (sym (c.as_slice.ensures.value ∙ ap items c.in_ok-output.ensures.octets), sym (c.as_slice-2.ensures.value ∙ ap items c.in_ok-errors.ensures.octets));
      whole = (c.in_ok-output.ensures.whole, c.in_ok-errors.ensures.whole);
    } in
    record {
      answer = IfOk-weaker c.framed.result (λ v. v.items ≡ reply_frames c.in-Ok.status output errors) (λ v. IsReply tells octets v.items) (λ v is. (c.in-Ok.status, output, errors, comes, is)) c.framed.ensures.framed;
      none = IfErr-weaker c.framed.result _ (HasNoReply tells octets) (no_reply tells octets c.in-Ok.status output errors comes) c.framed.ensures.refused;
    }
