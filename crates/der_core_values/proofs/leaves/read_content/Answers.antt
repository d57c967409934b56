-- Goals of `leaves::read_content` that the checker doesn't prove by itself.
use Rattle.std.proofs.Common.{Ok, Err, Result, List, ℕ, arith, IfOk, Bor}
use Rattle.der_core_octets.specs.CoreHead.Limits.{IsLength}
use Rattle.der_core_octets.specs.CoreHead.Heads.{Fits}
use Rattle.der_core_octets.specs.CoreHead.declared.error.Error.{Error}
use Rattle.der_core_octets.specs.CoreHead.Reading.{State, ReadsNow, TakesContent}
use Rattle.der_core_octets.specs.CoreHead.Grammar.{slice_at}
use Rattle.der_core_values.proofs.Headed.{content_ok, content_err}
use Rattle.der_core_octets.proofs.Levels.{slice_few}
use Rattle.der_core_values.proofs.leaves.read_content.Goals as goal

takes : (n : ℕ) (old new : State) (r : Result (Bor (List ℕ)) Error) → ReadsNow (λ (s : Bor (List ℕ)). s.now) old new r (slice_at n) → TakesContent old new r n
takes n old new (Ok x) h = (λ l t room. content_ok old.source.encoding l t room n _ _ _ h.0, h.1, h.2, h.3)
takes n old new (Err e) h = (λ l t room ready. content_err old.source.encoding l t room n _ _ (h.0 ready), h.1, h.2)

pub returns-clause-takes : goal.returns-clause-takes
returns-clause-takes g c = takes _ _ _ _ c.read_slice.ensures

few : (n : ℕ) (old new : State) (r : Result (Bor (List ℕ)) Error) → IsLength n → ReadsNow (λ (s : Bor (List ℕ)). s.now) old new r (slice_at n) → IfOk r (λ s. Fits s.now)
few n old new (Ok x) l h = let short = slice_few n _ _ _ h.0 in omega arith
few n old new (Err e) l h = tt

pub returns-clause-short : goal.returns-clause-short
returns-clause-short g c = few c.args.header.length.value _ _ _ (omega arith) c.read_slice.ensures
