-- Goals of `set_of_vec::SetOfVec::extend` that the checker doesn't prove by itself.
use Rattle.std.proofs.Common.{◌∙◌, ◌≡◌, List, [], ◌∷◌, ◌++◌, Option, Some, None, Result, Ok, Err, refl, subst, inl, OnOk, IfErr}
use Rattle.std.proofs.lemmas.Result.{err_from_is_err_and}
use Rattle.std.specs.Iterator.{Yields, YieldsThen, ExtendsWithItems}
use Rattle.der_core.specs.ErrorTypes.Error.{Error}
use Rattle.der_core.specs.Shapes.{Shape, Value}
use Rattle.der_types_sets.specs.Sets.{StopsAt, StopsIn, Gains}
use Rattle.der_core.specs.ErrorTypes.ErrorKind.TheVariants as kinds
use Rattle.der_types_sets.proofs.set_of_vec.SetOfVec.extend.Goals as goal

-- The iterator yielded these items first.
record GaveFirst {S A : Type 0} (steps : S → Option A → S → Type 0) (s : S) (front : List A) (x : A) : Type 0 where
  rest : S
  gave : YieldsThen steps s front (Some x) rest

begins : {S A : Type 0} (steps : S → Option A → S → Type 0) (s t : S) (front : List A) (x : A) (back : List A) → Yields steps s (front ++ x ∷ back) t → GaveFirst steps s front x
begins steps s t [] x back h = record { rest = h.0; gave = (s, refl, h.1) }
begins steps s t (y ∷ ys) x back h =
    let b = begins steps h.0 t ys x back h.2 in
    record { rest = b.rest; gave = (b.gave.0, (h.0, h.1, b.gave.1), b.gave.2) }

module _ {U T A : Type 0} (s : Shape) (f : A → Value s) (becomes : U → T → Type 0) (steps : T → Option A → T → Type 0) (items : U) (it t : T) (came xs now old new : List A) (took : becomes items it) (gave : Yields steps it xs t) (are : came ≡ xs) (same : now ≡ old) where
  moved : (P : List A → List A → Type 0) → P now came → P old xs
  moved P h = subst (λ (u : List A). P u xs) same (subst (P now) are h)

  front_of : (e : Error) (h : StopsIn s f old xs new e) → GaveFirst steps it h.front h.refused
  front_of e h = begins steps it t h.front h.refused h.back (subst (λ (u : List A). Yields steps it u t) h.are gave)

  -- One of the collected items was rejected.
  stopped : (e : Error) → StopsIn s f now came new e → ExtendsWithItems becomes steps (Gains s f) items old new (Err e) × StopsAt s f becomes steps items old new e
  stopped e k =
      let h = moved (λ a b. StopsIn s f a b new e) k in
      let w = front_of e h in
      ((it, h.front, took, h.gains, (w.gave.0, w.gave.1)), (it, h.front, h.refused, w.rest, took, w.gave, h.gains, h.why))

  -- All items were inserted, and memory ran out for the next one.
  stopped_next : (e : Error) (x : A) (rest : T) → steps t (Some x) rest → Gains s f now came new → e.kind ≡ kinds.OutOfMemory
      → ExtendsWithItems becomes steps (Gains s f) items old new (Err e) × StopsAt s f becomes steps items old new e
  stopped_next e x rest next k none = let gains = moved (λ a b. Gains s f a b new) k in ((it, xs, took, gains, (t, gave)), (it, xs, x, rest, took, (t, gave, next), gains, inl none))

  -- The iterator has no more items.
  ended : (r : Result (Unit {0}) Error) (rest : T) → steps t None rest → OnOk r (Gains s f now came new) → IfErr r (StopsIn s f now came new)
      → ExtendsWithItems becomes steps (Gains s f) items old new r × IfErr r (StopsAt s f becomes steps items old new)
  ended (Ok _) rest done gains stops = ((it, xs, took, moved (λ a b. Gains s f a b new) gains, (rest, (t, gave, done))), tt)
  ended (Err e) rest done gains stops = stopped e stops

pub returns-in_err-gain-in-Err : goal.returns-in_err-gain-in-Err
returns-in_err-gain-in-Err g c =
    let p = err_from_is_err_and c.from_residual.result c.from_residual.ensures.1 in
    let h = stopped g.T.Shaped.shape g.T.Shaped.written g.I.IntoIterator.into_iter_gives g.I.IntoIter.Iterator.next_gives c.args.items c.into_iter-item-iterator.result c.loop-item.item-iterator c.push.new.self.items c.loop-item.yielded c.loop-item.self c.args.self.now c.gain.new.self
    c.into_iter-item-iterator.ensures.into_iter_gives c.loop-item.yielded_by (c.in-Err.ensures.items ∙ c.loop-item.invariant.items) c.loop-item.invariant.same c.in_err-gain-in-Err.field-0.0 c.in_err-gain-in-Err.ensures.refused in
    rw (p.1, p.2) (record { ran = h.0; refused = h.1 })

pub returns-in-Err : goal.returns-in-Err
returns-in-Err g c =
    let h = stopped_next g.T.Shaped.shape g.T.Shaped.written g.I.IntoIterator.into_iter_gives g.I.IntoIter.Iterator.next_gives c.args.items c.into_iter-item-iterator.result c.loop-item.item-iterator c.push.new.self.items c.loop-item.yielded c.loop-item.self c.args.self.now c.gain.new.self
    c.into_iter-item-iterator.ensures.into_iter_gives c.loop-item.yielded_by (c.in-Err.ensures.items ∙ c.loop-item.invariant.items) c.loop-item.invariant.same c.from.result c.in-Some.item c.next.new.self c.in-Some.ensures.steps c.in_ok-gain-in-Err.ensures.ok c.from.ensures in
    record { ran = h.0; refused = h.1 }

pub returns : goal.returns
returns g c =
    let h = ended g.T.Shaped.shape g.T.Shaped.written g.I.IntoIterator.into_iter_gives g.I.IntoIter.Iterator.next_gives c.args.items c.into_iter-item-iterator.result c.loop-item.item-iterator c.loop-item.came.items c.loop-item.yielded c.loop-item.self c.args.self.now c.gain-2.new.self
    c.into_iter-item-iterator.ensures.into_iter_gives c.loop-item.yielded_by c.loop-item.invariant.items c.loop-item.invariant.same c.gain-2.result c.next.new.self c.in-None.ensures.steps c.gain-2.ensures.ok c.gain-2.ensures.refused in
    record { ran = h.0; refused = h.1 }
