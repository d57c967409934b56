-- Goals of `serial_number::SerialNumber::from_u64` that the checker doesn't prove by itself.
use Rattle.std.proofs.Common.{◌≡◌, ℕ, ◌-◌, List, Ok, ap, ◌∙◌, rules, pos, take, drop}
use Rattle.std.proofs.lemmas.List.{take_rest}
use Rattle.der_core.specs.TagTypes.Tag.TheVariants.{Integer}
use Rattle.der_core.specs.Integers.{every, integer_octets, integer_read}
use Rattle.der_core.proofs.IntegerLaws.{integer_again}
use Rattle.x509_cert_parts.proofs.serial_number.SerialNumber.from_u64.Goals as goal

pub returns-in_err-inner : goal.returns-in_err-inner
returns-in_err-inner g c =
    let start = c.integer_octets_of-start.result.1 in
    let content : List ℕ = take (17 - start) (drop start c.integer_octets_of-start.result.0) in
    let same : content ≡ integer_octets (pos c.args.number) = search (rules, take_rest c.integer_octets_of-start.result.0 start) in
    let read : integer_read every Integer content ≡ Ok (pos c.args.number) = ap (integer_read every Integer) same ∙ integer_again every Integer (pos c.args.number) tt in
    search (rules, read)

pub returns : goal.returns
returns g c =
    let start = c.integer_octets_of-start.result.1 in
    let content : List ℕ = take (17 - start) (drop start c.integer_octets_of-start.result.0) in
    let same : content ≡ integer_octets (pos c.args.number) = search (rules, take_rest c.integer_octets_of-start.result.0 start) in
    let read : integer_read every Integer content ≡ Ok (pos c.args.number) = ap (integer_read every Integer) same ∙ integer_again every Integer (pos c.args.number) tt in
    search (rules, read)
