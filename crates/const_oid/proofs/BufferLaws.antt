-- Lemmas about buffers: copying bytes to the beginning of an array of zeros leaves zeros after
-- them.
use Rattle.std.proofs.Common.{◌≡◌, ℕ, ◌-◌, ◌≤◌, List, ◌++◌, length, drop, replicate, ◌∙◌, arith, length-append, length-drop}
use Rattle.std.proofs.lemmas.List.{drop-replicate, length-replicate}
use Rattle.std.proofs.Math.Seq.{drop-append_seam}

pub zeros_after_copy : (size : ℕ) (octets : List ℕ) → length octets ≤ size
    → drop (length octets) (octets ++ drop (length octets) (replicate size 0)) ≡ replicate (size - length octets) 0
zeros_after_copy size octets fits =
    drop-append_seam octets (drop (length octets) (replicate size 0)) ∙ drop-replicate (length octets) size 0

pub length_after_copy : (size : ℕ) (octets : List ℕ) → length octets ≤ size
    → length (octets ++ drop (length octets) (replicate size 0)) ≡ size
length_after_copy size octets fits =
    omega (arith, length-append octets (drop (length octets) (replicate size 0)), length-drop (length octets) (replicate {A = ℕ} size 0), length-replicate {A = ℕ} size 0)
