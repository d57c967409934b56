-- Goals of `lists::iter_cmp` that the checker doesn't prove by itself.
use Rattle.std.proofs.Common.{rules}
use Rattle.std.proofs.lemmas.Iterator.{YieldsList}
use Rattle.std.specs.Iterator.Adapters.{map_source}
use Rattle.der_core.proofs.IterOrders.{lent_further}
use Rattle.der_core.proofs.lists.iter_cmp.Goals as goal

pub returns-clause-order : goal.returns-clause-order
returns-clause-order g c = λ xs ys p q.
    let first : YieldsList g.I.Iterator.next_gives (λ r. g.T.Shaped.written r.now) (map_source c.map.result) xs = record { runs = rw c.map.ensures.source p } in
    let second : YieldsList g.I.Iterator.next_gives (λ r. g.T.Shaped.written r.now) (map_source c.map-2.result) ys = record { runs = rw c.map-2.ensures.source q } in
    c.iter_cmp_owned.ensures.order xs ys (lent_further _ _ first c.map.ensures.closure (λ x r f k. search rules)) (lent_further _ _ second c.map-2.ensures.closure (λ x r f k. search rules))

pub returns-clause-exact : goal.returns-clause-exact
returns-clause-exact g c = λ xs ys p q.
    let first : YieldsList g.I.Iterator.next_gives (λ r. g.T.Shaped.written r.now) (map_source c.map.result) xs = record { runs = rw c.map.ensures.source p } in
    let second : YieldsList g.I.Iterator.next_gives (λ r. g.T.Shaped.written r.now) (map_source c.map-2.result) ys = record { runs = rw c.map-2.ensures.source q } in
    c.iter_cmp_owned.ensures.exact xs ys (lent_further _ _ first c.map.ensures.closure (λ x r f k. search rules)) (lent_further _ _ second c.map-2.ensures.closure (λ x r f k. search rules))

pub returns-clause-refused : goal.returns-clause-refused
returns-clause-refused g c = λ xs ys p q.
    let first : YieldsList g.I.Iterator.next_gives (λ r. g.T.Shaped.written r.now) (map_source c.map.result) xs = record { runs = rw c.map.ensures.source p } in
    let second : YieldsList g.I.Iterator.next_gives (λ r. g.T.Shaped.written r.now) (map_source c.map-2.result) ys = record { runs = rw c.map-2.ensures.source q } in
    c.iter_cmp_owned.ensures.refused xs ys (lent_further _ _ first c.map.ensures.closure (λ x r f k. search rules)) (lent_further _ _ second c.map-2.ensures.closure (λ x r f k. search rules))
