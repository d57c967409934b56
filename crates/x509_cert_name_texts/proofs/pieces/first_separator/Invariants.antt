-- The loop invariants of `pieces::first_separator`.
use Rattle.std.proofs.Common.{◌≡◌, take}
use Rattle.x509_cert_name_texts.proofs.PieceSteps.{is_escaped, NoneBelow}
use Rattle.x509_cert_name_texts.proofs.pieces.first_separator.Given as goal

abbrev pub invariant-loop-i : goal.invariant-loop-i
invariant-loop-i l =
    record {
      open_escape : l.escaped ≡ is_escaped (take l.i l.text);
      none : NoneBelow l.separator l.text l.i;
    }
