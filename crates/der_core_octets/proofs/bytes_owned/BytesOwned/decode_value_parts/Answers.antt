-- Goals of `bytes_owned::BytesOwned::decode_value_parts` that the checker doesn't prove by itself.
use Rattle.std.proofs.Common.{ap, arith}
use Rattle.std.proofs.lemmas.Result.{err_from_is_err_and}
use Rattle.der_core_head.specs.Reading.{State}
use Rattle.der_core_octets.proofs.Levels.{slice_few}
use Rattle.der_core_octets.proofs.GoingOn.{parts_none, parts_are, parts_stop, broken_kept, kept_then}
use Rattle.der_core_octets.proofs.bytes_owned.BytesOwned.decode_value_parts.Goals as goal

pub returns-in_err-octets : goal.returns-in_err-octets
returns-in_err-octets g c =
    let p = err_from_is_err_and c.from_residual.result c.from_residual.ensures.1 in
    let old = g.R.Reader.state c.args.reader.now in
    let front = c.in_err-octets.ensures in
    rw (p.1, p.2) (
      λ ready memory. parts_none old.source.encoding c.args.inner_tag c.args.header.length.value old.rest _ (front.0 ready),
      broken_kept _ _ front.1,
      front.2,
      ap (λ (s : State). s.failed) front.1,
    )

pub invariant_of-result : goal.invariant_of-result
invariant_of-result g c =
    let old = g.R.Reader.state c.args.reader.now in
    let mid = g.R.Reader.state c.read_slice.new.self in
    omega (arith, c.in-Ok.ensures.fewer, slice_few c.args.header.length.value old.rest c.in_ok-octets.octets.now mid.rest c.in_ok-octets.ensures.0)

pub returns-in-Ok : goal.returns-in-Ok
returns-in-Ok g c =
    let old = g.R.Reader.state c.args.reader.now in
    let mid = g.R.Reader.state c.read_slice.new.self in
    let front = c.in_ok-octets.ensures in (
      parts_are old.source.encoding _ c.args.inner_tag c.args.header.length.value old.rest _ mid.rest _ c.encoding_rules-rules.ensures front.0 c.in-Ok.ensures.exact,
      front.1,
      front.2,
      front.3,
    )

pub returns-in-Err : goal.returns-in-Err
returns-in-Err g c =
    let old = g.R.Reader.state c.args.reader.now in
    let mid = g.R.Reader.state c.read_slice.new.self in
    let front = c.in_ok-octets.ensures in (
      λ ready memory. parts_stop old.source.encoding _ c.args.inner_tag c.args.header.length.value old.rest _ mid.rest _ c.encoding_rules-rules.ensures front.0 (c.in-Err.ensures.exact memory),
      kept_then old mid _ front.1 front.3 (broken_kept _ _ c.fail.ensures),
      λ failed. absurd (cc (failed, front.2)),
      ap (λ (s : State). s.failed) c.fail.ensures,
    )
