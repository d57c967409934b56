-- The loop invariant of `naming::names_of`: the names so far are those of the texts so far.
use Rattle.std.proofs.Common.{◌≡◌, take, string_bytes}
use Rattle.cert_desk_listing.specs.Der.Grammar.{plain_list}
use Rattle.cert_desk_checking.specs.CertGeneralNames.GeneralNameViews.{general_name_plain}
use Rattle.cert_desk.specs.Ordered.{dns_names}
use Rattle.cert_desk.proofs.naming.names_of.Given as goal

abbrev pub invariant-loop-text : goal.invariant-loop-text
invariant-loop-text l = plain_list general_name_plain l.names.items ≡ dns_names (plain_list string_bytes (take l.text-index l.texts))
