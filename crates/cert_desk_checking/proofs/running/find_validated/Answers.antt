-- The verdict, and the errors for which there is none.
use Rattle.std.proofs.Common.{◌≡◌, Err, inr, map, refl, sym, ◌∙◌, subst}
use Rattle.cert_desk_rules.specs.DeskIo.Devices.{source}
use Rattle.cert_desk_rules.specs.declared.checked.CheckError.TheVariants as errors
use Rattle.cert_desk_rules.specs.DeskBundle.declared.standing.Standing.TheVariants as standings
use Rattle.cert_desk_checking.specs.Anchors.{anchor_plain, purpose_plain}
use Rattle.cert_desk_checking.specs.AnchorFiles.{IsAnchorFile}
use Rattle.cert_desk_checking.specs.Reading.{ReadFailed}
use Rattle.cert_desk_checking.specs.Runs.{IsReadFor, IsReadInVain, judging, run_terms}
use Rattle.cert_desk_rules.specs.Verdicts.{IsCounted, IsVerdict}
use Rattle.cert_desk_checking.proofs.RunLaws.{fed_in_vain, fed_none, fed_reads}
use Rattle.cert_desk_checking.proofs.running.find_validated.Goals as goal

pub returns-in-Ok-check-clause-found : goal.returns-in-Ok-check-clause-found
returns-in-Ok-check-clause-found g c =
    let stream = source g.S.Input.takes g.S.Input.is_ended g.S.Input.failures c.args.stream.now c.read_stream-bundle.new.input in
    let bundle = c.read_stream-bundle.result in
    let anchors = map anchor_plain c.deref.result.now in
    let terms = run_terms anchors c.args.moment (purpose_plain c.args.purpose.now) (g.J.SignatureJudge.answers c.args.judge.now) in
    let ok = c.in-Ok-check.is in
    let checked = c.in-Ok-check.checked in
    let fed = fed_reads stream bundle terms refl checked.verdict _ _ bundle.standing refl c.read_stream-bundle.ensures.fed
    (λ e. (let none = sym ok ∙ c.check.ensures.no_memory e in absurd cc))
    (λ e. (let none = sym ok ∙ c.check.ensures.device.1 e in absurd cc))
    c.in-Ok-check.ensures.fault c.in-Ok-check.ensures.verdict in
    let octets = c.in-Ok.both.0.items in
    let limit = c.read_stream-bundle.ensures.limit in (
      anchors,
      fed.0,
      (octets, c.in-Ok.ensures.read, subst (λ xs. IsAnchorFile octets (map anchor_plain xs)) (sym c.deref.ensures.value) c.in-Ok.ensures.anchors),
      fed.1,
      fed.3,
      subst (λ n. IsReadFor checked.verdict stream n) limit fed.4,
      subst (λ n. IsVerdict terms n fed.0 checked.verdict) limit (c.in-Ok-check.ensures.verdict fed.0 fed.2),
      subst (λ n. IsCounted terms n fed.0 checked (g.J.SignatureJudge.questions c.args.judge.now) (g.J.SignatureJudge.questions c.check.new.judge))
          limit (c.in-Ok-check.ensures.counted fed.0 fed.2),
    )

pub returns-in-Err-OutOfMemory-clause-stopped : goal.returns-in-Err-OutOfMemory-clause-stopped
returns-in-Err-OutOfMemory-clause-stopped g c =
    let stream = source g.S.Input.takes g.S.Input.is_ended g.S.Input.failures c.args.stream.now c.read_stream-bundle.new.input in
    let judge = judging g.J.SignatureJudge.answers g.J.SignatureJudge.questions c.args.judge.now c.check.new.judge in
    let anchors = map anchor_plain c.deref.result.now in
    let terms = run_terms anchors c.args.moment (purpose_plain c.args.purpose.now) (g.J.SignatureJudge.answers c.args.judge.now) in
    let refused : c.check.result ≡ Err errors.OutOfMemory = cc (c.in-Err-OutOfMemory.is, c.in-Err-OutOfMemory.field-0-is) in
    let vain = fed_in_vain stream c.read_stream-bundle.result judge terms c.read_stream-bundle.ensures.fed
    (c.check.ensures.out_of_memory refused) c.check.ensures.untouched c.in-Err-OutOfMemory.ensures.stopped in
    let octets = c.in-Ok.both.0.items in
    inr (
      anchors,
      (octets, c.in-Ok.ensures.read, subst (λ xs. IsAnchorFile octets (map anchor_plain xs)) (sym c.deref.ensures.value) c.in-Ok.ensures.anchors),
      subst (λ n. IsReadInVain stream judge terms n) c.read_stream-bundle.ensures.limit vain,
    )

pub returns-clause-stopped : goal.returns-clause-stopped
returns-clause-stopped g c =
    let stream = source g.S.Input.takes g.S.Input.is_ended g.S.Input.failures c.args.stream.now c.read_stream-bundle.new.input in
    let bundle = c.read_stream-bundle.result in
    let refused : c.check.result ≡ Err errors.Device = cc (c.in-Err-Device.is, c.in-Err-Device.field-0-is) in
    let failed : bundle.standing ≡ standings.NoDevice = c.check.ensures.device.0 refused in
    let octets = c.in-Ok.both.0.items in (
      inr (
        map anchor_plain c.deref.result.now,
        (octets, c.in-Ok.ensures.read, subst (λ xs. IsAnchorFile octets (map anchor_plain xs)) (sym c.deref.ensures.value) c.in-Ok.ensures.anchors),
        subst (λ n. ReadFailed stream n) c.read_stream-bundle.ensures.limit (fed_none stream bundle c.read_stream-bundle.ensures.fed failed),
      ),
      c.check.ensures.untouched (λ ended. (let none : standings.NoDevice ≡ standings.Ended = sym failed ∙ ended in absurd cc)),
    )
