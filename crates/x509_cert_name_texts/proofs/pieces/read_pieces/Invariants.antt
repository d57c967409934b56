-- The loop invariants of `pieces::read_pieces`.
use Rattle.std.proofs.Common.{length}
use denote.Text.{Utf8}
use denote.Shadow.{shadow}
use Rattle.x509_cert_name_texts.proofs.PieceSteps.{Continues}
use Rattle.x509_cert_name_texts.proofs.pieces.read_pieces.Given as goal

-- The whole text yields the values so far and then what the rest yields.
abbrev pub invariant-loop-values : goal.invariant-loop-values
invariant-loop-values g l = shadow (Utf8 l.left) × Continues l.separator g.T.FromText.reads_text l.text l.values.items l.left

abbrev pub decreases-loop-values : goal.decreases-loop-values
decreases-loop-values g l = length l.left
