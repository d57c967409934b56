-- Goals of `crl_number::CrlNumber::try_from_u128` that the checker doesn't prove by itself.
use Rattle.std.proofs.Common.{◌≡◌, ℕ, ◌-◌, List, Ok, ap, ◌∙◌, rules, pos, take, drop}
use Rattle.std.proofs.lemmas.List.{take_rest}
use Rattle.x509_cert_policies.specs.Der.TagTypes.Tag.TheVariants.{Integer}
use Rattle.x509_cert_policies.specs.Der.Integers.{natural, integer_octets, integer_read}
use Rattle.x509_cert_policies.proofs.Der.IntegerLaws.{integer_again}
use Rattle.x509_cert_extensions.proofs.crl_number.CrlNumber.try_from_u128.Goals as goal

pub returns-in_err-inner : goal.returns-in_err-inner
returns-in_err-inner c =
    let start = c.integer_octets_of-start.result.1 in
    let content : List ℕ = take (17 - start) (drop start c.integer_octets_of-start.result.0) in
    let same : content ≡ integer_octets (pos c.args.number) = search (rules, take_rest c.integer_octets_of-start.result.0 start) in
    let read : integer_read natural Integer content ≡ Ok (pos c.args.number) = ap (integer_read natural Integer) same ∙ integer_again natural Integer (pos c.args.number) tt in
    search (rules, read)

pub returns : goal.returns
returns c =
    let start = c.integer_octets_of-start.result.1 in
    let content : List ℕ = take (17 - start) (drop start c.integer_octets_of-start.result.0) in
    let same : content ≡ integer_octets (pos c.args.number) = search (rules, take_rest c.integer_octets_of-start.result.0 start) in
    let read : integer_read natural Integer content ≡ Ok (pos c.args.number) = ap (integer_read natural Integer) same ∙ integer_again natural Integer (pos c.args.number) tt in
    search (rules, read)
