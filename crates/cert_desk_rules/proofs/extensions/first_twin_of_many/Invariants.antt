-- The loop invariant of `extensions::first_twin_of_many`: the set has the OIDs of the extensions so
-- far, and the result is that of these.
use Rattle.std.proofs.Common.{◌≡◌, ◌<◌, ◌≤◌, ℕ, List, length, true, false, not, drop, IfSome}
use Rattle.std.specs.BTreeSet.{contains}
use Rattle.std.specs.List.{list_any}
use Rattle.std.specs.Option.{is_some}
use Rattle.cert_desk_bundle.specs.Oid.Comparing.{owned_eq}
use Rattle.cert_desk_bundle.specs.Oid.Orders.{owned_cmp}
use Rattle.cert_desk_bundle.specs.CertParts.Grammar.{extension_arcs}
use Rattle.cert_desk_bundle.specs.CertParts.Views.{extensions_plain}
use Rattle.cert_desk_rules.specs.Judging.{are_distinct, has_twin}
use Rattle.cert_desk_rules.proofs.extensions.first_twin_of_many.Given as goal

abbrev pub invariant-loop-place : goal.invariant-loop-place
invariant-loop-place l = (not (is_some l.twin) ≡ are_distinct (extensions_plain (drop l.place l.extensions)))
    × IfSome l.twin (λ place. place < length l.extensions)
    × IfSome l.twin (λ place. has_twin (extensions_plain l.extensions) place ≡ true)
    × IfSome l.twin (λ place. (other : ℕ) → l.place ≤ other → other < place → has_twin (extensions_plain l.extensions) other ≡ false)
    × ((q : List ℕ) → contains owned_cmp l.behind q ≡ list_any (λ e. owned_eq q (extension_arcs e)) (extensions_plain (drop l.place l.extensions)))
