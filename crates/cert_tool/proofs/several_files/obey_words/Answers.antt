-- Arguments that don't name several files are run once.
use Rattle.std.proofs.Common.{List, ℕ, Bor, Option, map, option_map, inl, subst, sym, ap, ◌∙◌}
use Rattle.cert_tool_explain.specs.DeskIo.Devices.{sink}
use Rattle.cert_tool_explain.specs.DeskIo.NamedInputs.{inputs}
use Rattle.cert_tool.specs.SeveralFiles.{AreRunsBy, several_plain}
use Rattle.cert_tool.proofs.several_files.obey_words.Goals as goal

pub returns-in-Ok-None : goal.returns-in-Ok-None
returns-in-Ok-None g c =
    let word : Bor (List ℕ) → List ℕ = λ text. text.now in
    let tells = g.C.UnixClock.tells c.args.clock.now in
    let i = inputs g.I.Input.takes g.I.Input.is_ended g.I.Input.failures (g.F.NamedInputs.is_opened c.args.files.now) (g.F.NamedInputs.is_unopened c.args.files.now) in
    let out = sink g.O.Output.gives g.O.Output.failures c.args.out.now c.obey.new.out in
    let err = sink g.E.Output.gives g.E.Output.failures c.args.err.now c.obey.new.err in
    record {
      obeyed = inl
          (subst (λ (s : Option (List (List ℕ) × List (List ℕ))). AreRunsBy s tells i out err (map word c.args.words.now) c.obey.result)
          (ap (option_map several_plain) (sym c.in-Ok-None.field-0-is) ∙ c.in-Ok-None.ensures) c.obey.ensures.obeyed);
    }
