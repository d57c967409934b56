-- Goals of `pieces::read_pieces` that the checker doesn't prove by itself.
use Rattle.std.proofs.Common.{Err, ap, option_map}
use Rattle.std.proofs.lemmas.Result.{err_from_is_err_and}
use Rattle.x509_cert_name_texts.specs.Pieces.{ReadsPieces}
use Rattle.x509_cert_name_texts.proofs.PieceSteps.{continues_start, continues_more, ends_piece, more_piece, utf8_rest}
use Rattle.x509_cert_name_texts.proofs.pieces.read_pieces.Goals as goal

pub loop-values-init : goal.loop-values-init
loop-values-init g c = (c.utf8.text, continues_start c.args.separator g.T.FromText.reads_text c.args.text.now c.new-values.result.items c.new-values.ensures.items)

pub returns-in_err-from_text : goal.returns-in_err-from_text
returns-in_err-from_text g c =
    let p = err_from_is_err_and c.from_residual.result c.from_residual.ensures.1 in
    rw (p.1, p.2)
    (λ n. c.loop-values.invariant.1 (Err _) (ReadsPieces.refused c.loop-values.left.now c.first_piece.result.0.now _ _ c.first_piece.ensures (c.in_err-from_text.ensures n)))

pub returns-in_default : goal.returns-in_default
returns-in_default g c =
    let left = c.loop-values.left.now in
    let piece = c.first_piece.result.0.now in
    let reads = g.T.FromText.reads_text in
    let first = ends_piece c.args.separator left piece (option_map (λ r. r.now) c.first_piece.result.1) c.first_piece.ensures (ap (option_map (λ r. r.now)) c.in_default.is) in
    rw c.in_ok-push.ensures.items (c.loop-values.invariant.1 _ (ReadsPieces.last left piece c.in_ok-from_text.field-0 first c.in_ok-from_text.ensures))

pub loop-values-preserved : goal.loop-values-preserved
loop-values-preserved g c =
    let left = c.loop-values.left.now in
    let piece = c.first_piece.result.0.now in
    let first = more_piece c.args.separator left piece c.in-Some.rest.now (option_map (λ r. r.now) c.first_piece.result.1) c.first_piece.ensures (ap (option_map (λ r. r.now)) c.in-Some.is) in (
      utf8_rest c.args.separator left piece c.in-Some.rest.now c.loop-values.invariant.0 c.requires first.0,
      rw c.in_ok-push.ensures.items
          (continues_more c.args.separator g.T.FromText.reads_text c.args.text.now left piece c.in-Some.rest.now c.loop-values.values.items c.in_ok-from_text.field-0
          c.loop-values.invariant.1 first c.in_ok-from_text.ensures),
    )
