-- Goals of `slice_reader::SliceReaderReader::skip` that the checker doesn't prove by itself.
use Rattle.std.proofs.Common.{◌≤◌, length, arith, sym, ap, subst, ◌∙◌}
use Rattle.der_core_values.specs.CoreHead.Reading.{State, past}
use Rattle.der_core_coding.proofs.Windows.{passed, window_length}
use Rattle.der_core_coding.proofs.slice_reader.SliceReaderReader.skip.Goals as goal

pub returns : goal.returns
returns c =
    let i = c.self.inside in
    let ok = c.self.invariant in
    let len = window_length i.position i.end i.bytes.now ok.position ok.end in
    let enough = let P : State → Type 0 = λ s. c.args.len ≤ length s.rest in subst P (sym c.self.view_is) c.requires in
    passed i c.args.len (omega (arith, len, enough)) ok.position ∙ ap (past c.args.len) c.self.view_is
