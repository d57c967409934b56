-- Goals of `json_texts::escaped_text` that the checker doesn't prove by itself.
use Rattle.std.proofs.Common.{ap, sym, ◌∙◌, append_assoc, append-nil}
use Rattle.std.specs.List.{list_all}
use Rattle.std.proofs.lemmas.Result.{IfOk-weaker}
use Rattle.std.proofs.lemmas.Str.{IsUtf8-past_char}
use Rattle.cert_tool.specs.JsonTexts.{is_plain}
use Rattle.cert_tool.proofs.JsonSteps.{escaped_text-empty, escaped_text-plain, escaped_text-step}
use Rattle.cert_tool.proofs.json_texts.escaped_text.Goals as goal

pub returns-then-is_plain_text : goal.returns-then-is_plain_text
returns-then-is_plain_text c =
    let plain = ap (list_all is_plain) (sym c.as_bytes.ensures.value) ∙ sym c.is_plain_text.ensures ∙ c.if-is_plain_text.true in
    IfOk-weaker c.from_str.result _ _ (λ escaped copied. copied ∙ sym (escaped_text-plain c.args.text.now c.utf8.text plain)) c.from_str.ensures.ok

pub loop-letter-preserved : goal.loop-letter-preserved
loop-letter-preserved c =
    let held = c.loop-letter.invariant in
    let parts = c.in-Some.ensures.steps.0 in
    let step = escaped_text-step _ _ c.in-Some.letter held.0 parts in
    (IsUtf8-past_char _ _ c.in-Some.letter held.0 parts, rw (c.in_ok-add_letter.ensures, append_assoc) (rw step at held.1))

pub returns : goal.returns
returns c = sym (append-nil _) ∙ rw (escaped_text-empty _ c.in-None.ensures.steps.0.0) at c.loop-letter.invariant.1
