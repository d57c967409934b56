-- The loop invariant of `accepting::are_ascii`: all texts so far are ASCII, so the result is that
-- of the remaining ones.
use Rattle.std.proofs.Common.{◌≡◌, drop, string_bytes}
use Rattle.std.specs.Prelude.{nat_lt}
use Rattle.std.specs.List.{list_all}
use Rattle.cert_desk_listing.specs.Der.Grammar.{plain_list}
use Rattle.cert_desk.proofs.accepting.are_ascii.Given as goal

abbrev pub invariant-loop-text : goal.invariant-loop-text
invariant-loop-text l =
    list_all (λ text. list_all (λ o. nat_lt o 128) text) (plain_list string_bytes (drop l.text-index l.texts))
    ≡ list_all (λ text. list_all (λ o. nat_lt o 128) text) (plain_list string_bytes l.texts)
