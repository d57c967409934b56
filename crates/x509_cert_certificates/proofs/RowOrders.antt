-- Lemmas for records whose fields are borrowed: length, order and first tag of the fields are those
-- of the record.
use Rattle.std.proofs.Common.{◌≡◌, Option, Result, Ok, subst, IfOk, IfErr, Ordering}
use Rattle.der_core.specs.ErrorTypes.Error.{Error}
use Rattle.der_core.specs.LengthTypes.Length.{Length}
use Rattle.der_core.specs.TagTypes.Tag.{Tag}
use Rattle.der_core.specs.Reading.{GivesNow}
use Rattle.der_core.specs.Shapes.{Body, BodyValue, IsBody, body_octets}
use Rattle.der_core.specs.Spelling.{body_begins}
use Rattle.der_core.specs.Writing.{size_body}
use Rattle.der_core.specs.Orders.{Overflows, StartsWith, bodies_cmp}

pub counted : (b : Body) (v w : BodyValue b) (r : Result Length Error) → v ≡ w → GivesNow (λ l. l.value) r (size_body b v) → GivesNow (λ l. l.value) r (size_body b w)
counted b v w r e h = subst (λ (a : BodyValue b). GivesNow (λ l. l.value) r (size_body b a)) e h

pub compared : (b : Body) (v w x y : BodyValue b) (r : Result Ordering Error) → v ≡ x → w ≡ y
    → (IsBody b v → IsBody b w → r ≡ Ok (bodies_cmp b v w)) → IsBody b x → IsBody b y → r ≡ Ok (bodies_cmp b x y)
compared b v w x y r d e h =
    subst (λ (a : BodyValue b). IsBody b a → IsBody b y → r ≡ Ok (bodies_cmp b a y)) d (subst (λ (a : BodyValue b). IsBody b v → IsBody b a → r ≡ Ok (bodies_cmp b v a)) e h)

pub told : (b : Body) (v w x y : BodyValue b) (r : Result Ordering Error) → v ≡ x → w ≡ y
    → IfOk r (λ o. o ≡ bodies_cmp b v w) → IfOk r (λ o. o ≡ bodies_cmp b x y)
told b v w x y r d e h =
    subst (λ (a : BodyValue b). IfOk r (λ o. o ≡ bodies_cmp b a y)) d (subst (λ (a : BodyValue b). IfOk r (λ o. o ≡ bodies_cmp b v a)) e h)

pub overflowing : (b : Body) (v w x y : BodyValue b) (r : Result Ordering Error) → v ≡ x → w ≡ y
    → IfErr r (λ e. Overflows e (size_body b v) (size_body b w)) → IfErr r (λ e. Overflows e (size_body b x) (size_body b y))
overflowing b v w x y r d e h =
    subst (λ (a : BodyValue b). IfErr r (λ f. Overflows f (size_body b a) (size_body b y))) d (subst (λ (a : BodyValue b). IfErr r (λ f. Overflows f (size_body b v) (size_body b a))) e h)

pub started : (b : Body) (v w : BodyValue b) (t : Option Tag) → v ≡ w → StartsWith (body_begins b) t (body_octets b v) → StartsWith (body_begins b) t (body_octets b w)
started b v w t e h = subst (λ (a : BodyValue b). StartsWith (body_begins b) t (body_octets b a)) e h
