-- Goals of `blocks::octets_in` that the checker doesn't prove by itself.
use Rattle.std.proofs.Common.{◌≡◌, ℕ, true, false, Bor, List, map, Ok, ap, sym, subst, ◌∙◌}
use Rattle.std.specs.List.{list_any}
use Rattle.cert_tool_pem.specs.Pem.{is_boundary, lines_of, octets_of, values_of}
use Rattle.cert_tool_pem.specs.PemReading.{FailsBy}
use Rattle.cert_tool_pem.proofs.AnyLine.{any_line}
use Rattle.cert_tool_pem.proofs.TextOctets.{err_by, ok_by, with_blocks, without_blocks}
use Rattle.cert_tool_pem.proofs.blocks.octets_in.Goals as goal

abbrev seen : List (Bor (List ℕ)) → List (List ℕ)
seen lines = map (λ line. line.now) lines

pub returns-then-has_boundary-clause-read : goal.returns-then-has_boundary-clause-read
returns-then-has_boundary-clause-read c =
    let tested = ap seen c.as_slice.ensures.value ∙ c.in-Ok.ensures in
    let read = ap seen c.as_slice-then-has_boundary.ensures.value ∙ c.in-Ok.ensures in
    let some : list_any is_boundary (lines_of c.args.text.now) ≡ true = ap (list_any is_boundary) (sym tested) ∙ any_line is_boundary c.as_slice.result.now ∙ sym c.has_boundary.ensures ∙ c.if-has_boundary.true in
    let same = with_blocks c.args.wanted c.args.text.now some ∙ ap (λ lines. octets_of c.args.wanted (values_of c.args.wanted lines)) (sym read) in
    ok_by c.blocks_in.result _ _ (λ octets is. same ∙ is) c.blocks_in.ensures.read

pub returns-then-has_boundary-clause-refused : goal.returns-then-has_boundary-clause-refused
returns-then-has_boundary-clause-refused c =
    let tested = ap seen c.as_slice.ensures.value ∙ c.in-Ok.ensures in
    let read = ap seen c.as_slice-then-has_boundary.ensures.value ∙ c.in-Ok.ensures in
    let some : list_any is_boundary (lines_of c.args.text.now) ≡ true = ap (list_any is_boundary) (sym tested) ∙ any_line is_boundary c.as_slice.result.now ∙ sym c.has_boundary.ensures ∙ c.if-has_boundary.true in
    let same = with_blocks c.args.wanted c.args.text.now some ∙ ap (λ lines. octets_of c.args.wanted (values_of c.args.wanted lines)) (sym read) in
    err_by c.blocks_in.result _ _ (λ error is. subst (λ r. FailsBy r error) (sym same) is) c.blocks_in.ensures.refused

pub returns-in-Ok-from_slice-clause-read : goal.returns-in-Ok-from_slice-clause-read
returns-in-Ok-from_slice-clause-read c =
    let tested = ap seen c.as_slice.ensures.value ∙ c.in-Ok.ensures in
    let none : list_any is_boundary (lines_of c.args.text.now) ≡ false = ap (list_any is_boundary) (sym tested) ∙ any_line is_boundary c.as_slice.result.now ∙ sym c.has_boundary.ensures ∙ c.if-has_boundary.false in
    without_blocks c.args.wanted c.args.text.now none ∙ ap (λ (octets : List ℕ). Ok octets) (sym c.in-Ok-from_slice.ensures.items)
