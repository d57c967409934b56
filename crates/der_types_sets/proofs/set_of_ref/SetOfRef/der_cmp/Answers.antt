-- Goals of `set_of_ref::SetOfRef::der_cmp` that the checker doesn't prove by itself.
use Rattle.std.proofs.Common.{Ok, ap, subst, inr, sym, ◌∙◌, Ordering}
use Rattle.std.proofs.lemmas.Result.{err_from_is_err_and, IfErr-weaker}
use Rattle.der_core.specs.TagTypes.Tag.TheVariants as tags
use Rattle.der_core.specs.Shapes.{nested, many}
use Rattle.der_core.specs.Reading.{Gives}
use Rattle.der_core.proofs.OrderLaws.{tagged_content, never_long, first_long, second_long, headers_decide, contents_decide, one_tag}
use Rattle.der_types_sets.specs.Lent.{members_lent}
use Rattle.der_types_sets.proofs.LentOrders.{inside_long}
use Rattle.der_types_sets.proofs.set_of_ref.SetOfRef.der_cmp.Goals as goal

pub returns-in_err-len : goal.returns-in_err-len
returns-in_err-len g c =
    let k = nested (many g.T.Shaped.shape) in
    let v = members_lent g.T.Shaped.shape g.T.Shaped.written c.args.self.now in
    let m = err_from_is_err_and c.from_residual.result c.from_residual.ensures.1 in
    rw (m.1, m.2) (record {
      order = λ apart p q. absurd (never_long tags.Set k v _ p c.in_err-len.ensures);
      refused = inr (first_long tags.Set tags.Set k v _ c.in_err-len.field-0.0 c.in_err-len.ensures);
    })

pub returns-in_err-other_len : goal.returns-in_err-other_len
returns-in_err-other_len g c =
    let k = nested (many g.T.Shaped.shape) in
    let w = members_lent g.T.Shaped.shape g.T.Shaped.written c.args.other.now in
    let m = err_from_is_err_and c.from_residual-in_err-other_len.result c.from_residual-in_err-other_len.ensures.1 in
    rw (m.1, m.2) (record {
      order = λ apart p q. absurd (never_long tags.Set k w _ q c.in_err-other_len.ensures);
      refused = inr (second_long tags.Set tags.Set k _ w c.in_err-other_len.field-0.0 c.in_err-other_len.ensures);
    })

pub returns-then-is_ne-clause-order : goal.returns-then-is_ne-clause-order
returns-then-is_ne-clause-order g c = λ apart p q.
    let decided = headers_decide tags.Set tags.Set (nested (many g.T.Shaped.shape)) _ _ _ _ _ c.in_ok-len.ensures c.in_ok-other_len.ensures (one_tag _ _ _ _ c.length_cmp-lengths.ensures) (sym c.is_ne.ensures ∙ c.if-is_ne.true) in
    ap (λ o. Ok o) (sym decided)

pub returns : goal.returns
returns g c =
    let k = nested (many g.T.Shaped.shape) in
    let v = members_lent g.T.Shaped.shape g.T.Shaped.written c.args.self.now in
    let w = members_lent g.T.Shaped.shape g.T.Shaped.written c.args.other.now in
    record {
      order = λ apart p q.
          let decided = contents_decide tags.Set tags.Set k v w _ _ _ c.in_ok-len.ensures c.in_ok-other_len.ensures (one_tag _ _ _ _ c.length_cmp-lengths.ensures) (sym c.is_ne.ensures ∙ c.if-is_ne.false) in
          subst (λ (o : Ordering). Gives (λ x. x) c.value_cmp.result (Ok o)) decided (c.value_cmp.ensures.order apart (tagged_content tags.Set k v p) (tagged_content tags.Set k w q));
      refused = IfErr-weaker c.value_cmp.result _ _ (inside_long _ tags.Set k v w) c.value_cmp.ensures.refused;
    }
