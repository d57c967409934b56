-- Goals of `Rest::take`: the consumed bytes leave some missing, or are all that were missing.
use Rattle.std.proofs.Common.{◌≡◌, ◌-◌, ℕ, List, ◌++◌, take, drop, Result, Ok, Err, OnOk, is_ok, true, subst, arith}
use Rattle.std.proofs.lemmas.List.{take-append-drop}
use Rattle.cert_desk_bundle.specs.Rests.{IsUntaken}
use Rattle.cert_desk_bundle.proofs.RestLaws.{taken_short, untaken_more}
use Rattle.cert_desk_bundle.proofs.rest.Rest.take.Goals as goal

when_ok : {E P : Type 0} (r : Result (Unit {0}) E) → OnOk r P → is_ok r ≡ true → P
when_ok (Ok x) h e = h
when_ok (Err x) h e = absurd cc

pub returns-then-piece-missing-clause-taken : goal.returns-then-piece-missing-clause-taken
returns-then-piece-missing-clause-taken c =
    taken_short c.args.limit c.args.offset c.args.self.now _ c.args.piece.now c.requires.awaits c.requires.some (omega (arith, c.len.ensures, c.args.self.now.octets.ok.0))
    (when_ok c.append.result c.append.ensures.appended c.if-is_err.ensures.negation) c.append.ensures.wanted

pub returns-in-Err-clause-untaken : goal.returns-in-Err-clause-untaken
returns-in-Err-clause-untaken c =
    let missing = c.args.self.now.wanted - c.len.result in
    subst (λ (x : List ℕ). IsUntaken c.args.limit c.args.offset (c.args.self.now.octets.items ++ x) c.in-Err.standing) (take-append-drop missing c.args.piece.now)
    (untaken_more c.args.limit c.args.offset c.args.self.now.octets.items (take missing c.args.piece.now) (drop missing c.args.piece.now) c.in-Err.standing c.in-Err.ensures.untaken)
