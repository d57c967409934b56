-- Goals of `issuing::issue_at` that the checker doesn't prove by itself.
use Rattle.std.proofs.Common.{◌<◌, length, refl, sym, subst}
use Rattle.std.proofs.lemmas.Option.{slice_get_read}
use Rattle.cert_desk.specs.Roles.{place_above}
use Rattle.cert_desk.proofs.AcceptedFronts.{above_within, signer_within}
use Rattle.cert_desk.proofs.IssuedFronts.{key_above, makes_at, own_at, read_above, ready_at}
use Rattle.cert_desk.proofs.issuing.issue_at.Goals as goal

pub certificate_for-requires : goal.certificate_for-requires
certificate_for-requires g c =
    let xs = c.args.accepted.now in
    let signers = c.args.signers.now in
    let x = c.index-accepted-place.result in
    let y = c.index-accepted-above.result in
    let here = slice_get_read xs (length xs) c.args.place x refl c.requires.within c.index-accepted-place.is in
    let there = read_above xs c.args.place c.place_above-above.result y c.place_above-above.ensures (above_within c.args.place (length xs) c.requires.within) c.index-accepted-above.is in
    let enough = subst (λ n. place_above c.args.place < n) (sym c.requires.signers) (signer_within c.args.place (length xs) c.requires.within) in
    let signer = read_above signers c.args.place c.place_above-above.result c.index-signers-above.result c.place_above-above.ensures enough c.index-signers-above.is in
    record {
      ready = ready_at xs c.args.place c.role_at-role.result x y here there c.role_at-role.ensures c.requires.ready;
      own = own_at xs c.args.place c.role_at-role.result x y here there c.role_at-role.ensures;
      key = key_above g.S.Signer.public_key signers xs c.args.place c.index-signers-above.result y c.requires.keys signer there;
    }

pub returns : goal.returns
returns g c =
    let xs = c.args.accepted.now in
    let signers = c.args.signers.now in
    let x = c.index-accepted-place.result in
    let y = c.index-accepted-above.result in
    let here = slice_get_read xs (length xs) c.args.place x refl c.requires.within c.index-accepted-place.is in
    let there = read_above xs c.args.place c.place_above-above.result y c.place_above-above.ensures (above_within c.args.place (length xs) c.requires.within) c.index-accepted-above.is in
    let enough = subst (λ n. place_above c.args.place < n) (sym c.requires.signers) (signer_within c.args.place (length xs) c.requires.within) in
    let signer = read_above signers c.args.place c.place_above-above.result c.index-signers-above.result c.place_above-above.ensures enough c.index-signers-above.is in
    makes_at xs c.args.place c.role_at-role.result x y here there c.role_at-role.ensures
    g.S.Signer.signs_by g.S.Signer.signs g.S.Signer.may_refuse signers c.index-signers-above.result signer c.requires.ready c.certificate_for.result c.certificate_for.ensures
