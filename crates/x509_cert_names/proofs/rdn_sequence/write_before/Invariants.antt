-- The loop invariants of `rdn_sequence::write_before`.
use Rattle.std.specs.Prelude.{◌≡◌, List, ℕ, ◌++◌, length, reverse, flat_map}
use Rattle.std.specs.Fmt.{HasWritten, IsPlainFormatter}
use Rattle.x509_cert_names.specs.NameTexts.{printed_behind, relative_printed}
use Rattle.x509_cert_names.proofs.rdn_sequence.write_before.Given as goal

-- The RDNs written so far and the remaining ones are all RDNs.
abbrev pub invariant-loop-last : goal.invariant-loop-last
invariant-loop-last g l =
    IsPlainFormatter l.initial.f
    → (text : List ℕ) × HasWritten g.W.Write.write_str_gives l.initial.f text l.f
    × (text ++ flat_map (printed_behind 44 relative_printed) (reverse l.left) ≡ flat_map (printed_behind 44 relative_printed) (reverse l.initial.left))

abbrev pub decreases-loop-last : goal.decreases-loop-last
decreases-loop-last g l = length l.left
