-- Goals of `fields::read_fields` that the checker doesn't prove by itself.
use Rattle.std.proofs.Common.{Bool, Ok, Err, ap, subst}
use Rattle.std.proofs.lemmas.Result.{err_from_is_err_and}
use Rattle.der_core_octets.specs.CoreHead.Reading.{State, Reads, Closes, read_body_at}
use Rattle.der_core_octets.proofs.GoingOn.{refused, gives, trails, broken_kept}
use Rattle.der_core_values.proofs.fields.read_fields.Goals as goal

pub returns-in_err-behind : goal.returns-in_err-behind
returns-in_err-behind g c =
    let p = err_from_is_err_and c.from_residual.result c.from_residual.ensures.1 in
    rw (p.1, p.2) (λ ready. refused c.args.header.tag c.in_err-behind.field-0.0.kind c.args.header.length.value (g.R.Reader.state c.args.reader.now) g.T.Fields.fields (c.in_err-behind.ensures.0 ready), broken_kept _ _ c.in_err-behind.ensures.1, c.in_err-behind.ensures.2, ap (λ (s : State). s.failed) c.in_err-behind.ensures.1)

pub returns-in_err-end_nested : goal.returns-in_err-end_nested
returns-in_err-end_nested g c =
    let state = g.R.Reader.state in
    let outer = state c.decode_fields-fields.new.reader in
    let new = state c.end_nested.new.self in
    let r = c.decode_fields-fields.result in
    let e = c.in_err-end_nested.field-0.0 in
    let opens = c.in_ok-behind.ensures in
    let p = err_from_is_err_and c.from_residual-in_err-end_nested.result c.from_residual-in_err-end_nested.ensures.1 in
    let P : State → Type 0 = λ x. Reads g.T.Fields.fields_plain x outer r (read_body_at x g.T.Fields.fields) in
    let Q : Bool → Type 0 = λ b. Closes c.in_ok-behind.behind.value b outer new (Err e) in
    rw (p.1, p.2) (trails c.args.header.tag g.T.Fields.fields g.T.Fields.fields_plain c.args.header.length.value c.in_ok-behind.behind.value (state c.args.reader.now) outer new r e
    opens.0 opens.1 opens.3 (subst P opens.4 c.decode_fields-fields.ensures) (subst Q c.is_err.ensures.value c.in_err-end_nested.ensures))

pub returns : goal.returns
returns g c =
    let state = g.R.Reader.state in
    let outer = state c.decode_fields-fields.new.reader in
    let new = state c.end_nested.new.self in
    let r = c.decode_fields-fields.result in
    let opens = c.in_ok-behind.ensures in
    let P : State → Type 0 = λ x. Reads g.T.Fields.fields_plain x outer r (read_body_at x g.T.Fields.fields) in
    let Q : Bool → Type 0 = λ b. Closes c.in_ok-behind.behind.value b outer new (Ok tt) in
    gives c.args.header.tag g.T.Fields.fields g.T.Fields.fields_plain c.args.header.length.value c.in_ok-behind.behind.value (state c.args.reader.now) outer new r
    opens.0 opens.1 opens.3 (subst P opens.4 c.decode_fields-fields.ensures) (subst Q c.is_err.ensures.value c.in_ok-end_nested.ensures)
