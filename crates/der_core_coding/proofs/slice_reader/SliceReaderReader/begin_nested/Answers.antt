-- Goals of `slice_reader::SliceReaderReader::begin_nested` that the checker doesn't prove by
-- itself.
use Rattle.std.proofs.Common.{arith}
use Rattle.der_core_coding.proofs.Windows.{opened, window_length}
use Rattle.der_core_coding.proofs.slice_reader.SliceReaderReader.begin_nested.Goals as goal

pub returns : goal.returns
returns c =
    let i = c.self.inside in
    let ok = c.self.invariant in
    let len = window_length i.position i.end i.bytes.now ok.position ok.end in
    rw (← c.self.view_is) (omega (arith, len, c.if-left-len.false, ok.position), omega (arith, ok.depth, c.if-self-eq-MAX_LEVELS.false), omega arith, c.if-self.false, opened i c.args.len.value ok c.if-left-len.false (omega (arith, ok.depth, c.if-self-eq-MAX_LEVELS.false)))
