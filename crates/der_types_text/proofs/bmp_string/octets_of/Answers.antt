-- Goals of `bmp_string::octets_of` that the checker doesn't prove by itself.
use Rattle.std.proofs.Common.{◌≡◌, Err, refl, sym, ap, ◌∙◌, chars, map-id}
use Rattle.std.proofs.lemmas.Iterator.{YieldsList-from_chars}
use Rattle.std.proofs.lemmas.Iterator.Consumers.{YieldsList-turn, YieldsList-end}
use Rattle.der_core.specs.BmpStrings.{is_unit, bmp_octets, units}
use Rattle.der_core.proofs.TextLaws.{units-octets}
use Rattle.der_types_text.proofs.BmpTexts.{bmp_octets-push, list_all-push, list_all-refused, bmp_from-ok, bmp_from-refused}
use Rattle.der_types_text.proofs.bmp_string.octets_of.Goals as goal

pub loop-character-init : goal.loop-character-init
unfolding bmp_octets
loop-character-init c = (c.new-octets.ensures.items, refl)

pub returns-in_default-clause-exact : goal.returns-in_default-clause-exact
returns-in_default-clause-exact c = λ memory.
    let turn = YieldsList-turn (YieldsList-from_chars c.args.text.now c.utf8.text cc) c.loop-character.yielded _ c.loop-character.yielded_by _ _ c.in-Some.character c.in-Some.is c.next.ensures.steps in
    let refused = list_all-refused is_unit (chars c.args.text.now) _ c.in-Some.character turn.0 turn.1 c.in_default.ensures in
    bmp_from-refused (chars c.args.text.now) refused ∙ ap (λ k. Err k) (sym c.from.ensures)

pub loop-character-preserved : goal.loop-character-preserved
loop-character-preserved c =
    let push = bmp_octets-push c.loop-character.yielded c.in-Some.character in
    (cc (push, c.in_ok-push_unit.ensures, c.in-Some-unit_of.ensures.0), list_all-push is_unit c.loop-character.yielded c.in-Some.character c.loop-character.invariant.1 c.in-Some-unit_of.ensures.1)

pub returns-clause-ok : goal.returns-clause-ok
returns-clause-ok c =
    let end = YieldsList-end (YieldsList-from_chars c.args.text.now c.utf8.text cc) c.loop-character.yielded _ c.loop-character.yielded_by _ _ c.in-None.is c.next.ensures.steps in
    let all : c.loop-character.yielded ≡ chars c.args.text.now = sym (map-id c.loop-character.yielded) ∙ end.0 in
    c.loop-character.invariant.0 ∙ ap bmp_octets all

pub returns-clause-exact : goal.returns-clause-exact
returns-clause-exact c =
    let end = YieldsList-end (YieldsList-from_chars c.args.text.now c.utf8.text cc) c.loop-character.yielded _ c.loop-character.yielded_by _ _ c.in-None.is c.next.ensures.steps in
    let all : c.loop-character.yielded ≡ chars c.args.text.now = sym (map-id c.loop-character.yielded) ∙ end.0 in
    let spelled : units c.loop-character.octets.items ≡ c.loop-character.yielded = ap units c.loop-character.invariant.0 ∙ units-octets c.loop-character.yielded in
    rw (spelled, all) (bmp_from-ok (chars c.args.text.now) (rw all at c.loop-character.invariant.1))
