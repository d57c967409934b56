-- The loop invariant of `extensions::extension_in`.
use Rattle.std.proofs.Common.{length}
use Rattle.cert_desk_c.proofs.extensions.+extension_in.Given as goal

abbrev pub decreases-extension_in : goal.decreases-extension_in
decreases-extension_in l = length l.extensions.now
