-- The parts before and after the first dot.
use Rattle.std.proofs.Common.{◌≡◌, ℕ, List, Option, Some, None, Bor, IfSome, length, lit<, sym, arith}
use Rattle.std.proofs.lemmas.Bool.{lt-ltb, le-ltb}
use Rattle.std.proofs.lemmas.Str.Pattern.{IsSplitOnceResult, split_once_first}
use Rattle.std.specs.List.{after_first, before_first, position_or_len}
use Rattle.std.specs.Option.{is_some}
use Rattle.cert_tool_hosts.specs.Hosts.{has_more, is_dot}
use Rattle.cert_tool_hosts.proofs.host.parts_of.Goals as goal

parts : (name : List ℕ) (r : Option (Bor (List ℕ) × Bor (List ℕ))) → IsSplitOnceResult 46 name r
    → IfSome r (λ p. p.0.now ≡ before_first is_dot name) × IfSome r (λ p. p.1.now ≡ after_first is_dot name) × (is_some r ≡ has_more name)
parts name None split =
    let none = split_once_first 46 name None split (lit< tt) in
    (tt, tt, sym (le-ltb (position_or_len is_dot name) (length name) (omega (arith, none))))
parts name (Some p) split =
    let some = split_once_first 46 name (Some p) split (lit< tt) in
    (some.1, some.2, sym (lt-ltb (position_or_len is_dot name) (length name) some.0))

pub returns : goal.returns
returns c =
    let split = parts c.args.name.now c.split_once.result c.split_once.ensures.cases in
    record { leftmost = split.0; others = split.1; more = split.2 }
