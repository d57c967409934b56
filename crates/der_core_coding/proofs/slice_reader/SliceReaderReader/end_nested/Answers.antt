-- Goals of `slice_reader::SliceReaderReader::end_nested` that the checker doesn't prove by itself.
use mathlib.Core.Bool.{◌||◌}
use Rattle.std.proofs.Common.{◌≡◌, ◌≤◌, ◌<◌, ◌-◌, length, take, drop, arith, sym, ap, subst, ◌∙◌, true}
use Rattle.der_core_values.specs.CoreHead.declared.error.Error.{Error}
use Rattle.der_core_values.specs.CoreHead.Reading.{State, restored}
use Rattle.der_core_coding.proofs.Windows.{closed, window_length}
use Rattle.der_core_values.proofs.CoreOctets.Levels.{or_true, or_false}
use Rattle.der_core_coding.proofs.slice_reader.SliceReaderReader.end_nested.Goals as goal

pub overflow_sub-self : goal.overflow_sub-self
overflow_sub-self c =
    let room : 64 - c.self.inside.depth < 64 = let P : State → Type 0 = λ s. s.room < 64 in subst P (sym c.self.view_is) c.requires.room in
    omega arith

pub returns-then-failed : goal.returns-then-failed
returns-then-failed c =
    let i = c.self.inside in
    let room : 64 - i.depth < 64 = let P : State → Type 0 = λ s. s.room < 64 in subst P (sym c.self.view_is) c.requires.room in
    let behind : c.args.behind.value ≤ length (drop i.end i.bytes.now) = let P : State → Type 0 = λ s. c.args.behind.value ≤ length s.behind in subst P (sym c.self.view_is) c.requires.behind in
    (λ h. absurd (cc (h, c.if-failed.true)), closed i c.args.behind.value true c.self.invariant behind (omega arith) ∙ ap (restored c.args.behind.value true) c.self.view_is ∙ ap (λ b. restored c.args.behind.value b c.args.self.now) (sym (or_true c.args.self.now.failed) ∙ ap (λ b. c.args.self.now.failed || b) (sym c.if-failed.true)))

pub returns-then-not-finished : goal.returns-then-not-finished
returns-then-not-finished c =
    let i = c.self.inside in
    let ok = c.self.invariant in
    let room : 64 - i.depth < 64 = let P : State → Type 0 = λ s. s.room < 64 in subst P (sym c.self.view_is) c.requires.room in
    let behind : c.args.behind.value ≤ length (drop i.end i.bytes.now) = let P : State → Type 0 = λ s. c.args.behind.value ≤ length s.behind in subst P (sym c.self.view_is) c.requires.behind in
    let len = window_length i.position i.end i.bytes.now ok.position ok.end in
    let rest : take (i.end - i.position) (drop i.position i.bytes.now) ≡ c.args.self.now.rest = ap (λ (s : State). s.rest) c.self.view_is in
    (c.if-failed.false, λ e. c.if-not-finished.true (omega (arith, len, ap length (rest ∙ e), ok.position)), ap (λ (e : Error). e.kind) c.at.ensures, closed i c.args.behind.value true ok behind (omega arith) ∙ ap (restored c.args.behind.value true) c.self.view_is)

pub returns : goal.returns
returns c =
    let i = c.self.inside in
    let ok = c.self.invariant in
    let room : 64 - i.depth < 64 = let P : State → Type 0 = λ s. s.room < 64 in subst P (sym c.self.view_is) c.requires.room in
    let behind : c.args.behind.value ≤ length (drop i.end i.bytes.now) = let P : State → Type 0 = λ s. c.args.behind.value ≤ length s.behind in subst P (sym c.self.view_is) c.requires.behind in
    let rest : take (i.end - i.position) (drop i.position i.bytes.now) ≡ c.args.self.now.rest = ap (λ (s : State). s.rest) c.self.view_is in
    let none : i.end - i.position ≡ 0 = omega (arith, c.if-not-finished.false) in
    let failed : i.failed ≡ c.args.self.now.failed = ap (λ (s : State). s.failed) c.self.view_is in
    (λ h. sym rest ∙ ap (λ n. take n (drop i.position i.bytes.now)) none, closed i c.args.behind.value i.failed ok behind (omega arith) ∙ ap (restored c.args.behind.value i.failed) c.self.view_is ∙ ap (λ b. restored c.args.behind.value b c.args.self.now) (failed ∙ sym (or_false c.args.self.now.failed) ∙ ap (λ b. c.args.self.now.failed || b) (sym c.if-failed.false)))
