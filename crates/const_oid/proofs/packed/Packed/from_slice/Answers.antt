-- Goals of `packed::Packed::from_slice` that the checker doesn't prove by itself.
use Rattle.std.proofs.Common.{ℕ, List, length, min, ◌≡◌, refl, sym, ap, subst, ◌∙◌, arith}
use Rattle.const_oid.specs.PackedOctets.{unmarked_front, IsPacked}
use Rattle.const_oid.proofs.PackedLaws.{packed_copy, front-copied, three_copied}
use Rattle.const_oid.proofs.packed.Packed.from_slice.Goals as goal

pub invariant_of-result : goal.invariant_of-result
invariant_of-result g c =
    let octets = c.args.octets.now in
    let three = three_copied g.row.SIZE octets c.in-len3.len_at_least c.in-len3.len_below c.requires.fits in
    let P : List ℕ → Type 0 = λ bytes. IsPacked g.row.SIZE bytes 3 in
    let counted : 3 ≡ min 255 (length octets) = omega (arith, c.in-len3.len_at_least, c.in-len3.len_below) in
    (subst P (sym three) (packed_copy g.row.SIZE 3 octets c.requires.fits c.requires.whole counted), refl)

pub returns-in-len3 : goal.returns-in-len3
returns-in-len3 g c =
    let octets = c.args.octets.now in
    ap unmarked_front (three_copied g.row.SIZE octets c.in-len3.len_at_least c.in-len3.len_below c.requires.fits) ∙ front-copied g.row.SIZE octets c.requires.whole

pub invariant_of-result-2 : goal.invariant_of-result-2
invariant_of-result-2 g c =
    rw c.copy_from_slice.ensures.after (packed_copy g.row.SIZE c.counted-count.result c.args.octets.now c.requires.fits c.requires.whole c.counted-count.ensures, refl)

pub returns : goal.returns
returns g c = rw c.copy_from_slice.ensures.after (front-copied g.row.SIZE c.args.octets.now c.requires.whole)
