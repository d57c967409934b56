-- Goals of `one_value::read_value`: the bytes of each read follow those before.
use Rattle.std.proofs.Common.{ℕ, take, ◌++◌, ◌∙◌, ap, inl, inr, subst, sym, arith, append-nil, length-append, length-take}
use Prim.{search}
use Rattle.std.proofs.Common.{rules, ◌≡◌, ◌≤◌, length, drop, zero, suc, [], ◌∷◌, refl, is_ok, Bool, true, false, if◌then◌else◌, List}
use Rattle.cert_tool.specs.OneValue.{has_surplus}
use Rattle.cert_tool.proofs.ValueSizes.{few_are_bounded, few_follow, read_more}
use Rattle.cert_tool.proofs.one_value.read_value.Goals as goal

pub returns-in_default-clause-unread : goal.returns-in_default-clause-unread
returns-in_default-clause-unread g c = (
  c.loop-count.octets.items,
  c.loop-count.invariant.within,
  record {
    before = c.loop-count.input;
    moved = c.loop-count.invariant.taken;
    sound = c.loop-count.invariant.sound;
    stopped = c.in_default.ensures.none_taken;
    not_ended = c.in_default.ensures.not_ended;
    once = c.in_default.ensures.once;
  },
)

pub returns-then-count-eq0-clause-read : goal.returns-then-count-eq0-clause-read
returns-then-count-eq0-clause-read g c = (
  inl (
    subst (λ xs. g.I.Input.takes c.args.input.now xs c.read.new.self) (append-nil c.loop-count.octets.items)
        (g.met.I.Input.takes_in_turn _ _ _ _ _ c.loop-count.invariant.taken
        (subst (λ (n : ℕ). g.I.Input.takes c.loop-count.input (take n c.read.new.buffer) c.read.new.self) c.if-count-eq0.true c.in-Ok.ensures.taken)),
    c.loop-count.invariant.within,
    c.in-Ok.ensures.end.0 c.if-count-eq0.true,
    c.in-Ok.ensures.sound ∙ c.loop-count.invariant.sound,
  ),
  few_are_bounded _ c.loop-count.invariant.few,
)

pub returns-then-is_err-clause-unread : goal.returns-then-is_err-clause-unread
returns-then-is_err-clause-unread g c = (
  c.loop-count.octets.items ++ take c.in-Ok.count c.read.new.buffer,
  g.met.I.Input.takes_in_turn _ _ _ _ _ c.loop-count.invariant.taken c.in-Ok.ensures.taken,
  omega (arith, length-append {A = ℕ}, length-take {A = ℕ}, c.in-Ok.ensures.bound, c.read.auto.buffer),
  c.in-Ok.ensures.sound ∙ c.loop-count.invariant.sound,
)

take_left : (n : ℕ) (xs ys : List ℕ) → n ≤ length xs → take n (xs ++ ys) ≡ take n xs
take_left zero xs ys h = refl
take_left (suc n) [] ys h = absurd (omega (arith, h))
take_left (suc n) (x ∷ xs) ys h = ap (λ (l : List ℕ). x ∷ l) (take_left n xs ys (omega (arith, h)))

-- What `extend_from_slice` made of the bytes.
joined : (ok : Bool) (n : ℕ) (xs ys more zs : List ℕ) → zs ≡ (if ok then xs ++ take n (ys ++ more) else xs)
    → ok ≡ true → n ≤ length ys → zs ≡ xs ++ take n ys
joined true n xs ys more zs e h l = e ∙ ap (λ (w : List ℕ). xs ++ w) (take_left n ys more l)
joined false n xs ys more zs e h l = absurd (cc h)

pub returns-then-has_surplus-clause-read : goal.returns-then-has_surplus-clause-read
returns-then-has_surplus-clause-read g c =
    let all = joined (is_ok c.extend_from_slice.result) c.in-Ok.count c.loop-count.octets.items c.read.new.buffer
    (drop c.min-room.result c.loop-count.buffer) c.extend_from_slice.new.self.items c.extend_from_slice.ensures.items (search rules) (omega (arith, c.in-Ok.ensures.bound, c.read.auto.buffer)) in (
      inr (
        search rules,
        subst (λ xs. g.I.Input.takes c.args.input.now xs c.read.new.self) (sym all)
            (g.met.I.Input.takes_in_turn _ _ _ _ _ c.loop-count.invariant.taken c.in-Ok.ensures.taken),
        search rules,
        search rules,
      ),
      read_more c.loop-count.octets.items (take c.in-Ok.count c.read.new.buffer) _ c.loop-count.invariant.few
          (omega (arith, length-take {A = ℕ}, c.in-Ok.ensures.bound, c.read.auto.buffer)) all,
    )

pub loop-count-preserved : goal.loop-count-preserved
loop-count-preserved g c =
    let all = joined (is_ok c.extend_from_slice.result) c.in-Ok.count c.loop-count.octets.items c.read.new.buffer
    (drop c.min-room.result c.loop-count.buffer) c.extend_from_slice.new.self.items c.extend_from_slice.ensures.items (search rules) (omega (arith, c.in-Ok.ensures.bound, c.read.auto.buffer)) in
    record {
      within = search rules;
      few = few_follow _ (subst (λ xs. false ≡ has_surplus xs) c.as_slice.ensures.value c.if-has_surplus.ensures);
      room = search rules;
      taken = subst (λ xs. g.I.Input.takes c.args.input.now xs c.read.new.self) (sym all)
          (g.met.I.Input.takes_in_turn _ _ _ _ _ c.loop-count.invariant.taken c.in-Ok.ensures.taken);
      sound = search rules;
    }
