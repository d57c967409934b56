-- Laws about counts, which rise and stay at 2^64 - 1.
use Rattle.std.proofs.Common.{◌≡◌, ℕ, ◌+◌, ◌-◌, ◌^◌, min, max, ap, ◌∙◌, arith}
use Rattle.cert_desk_rules.specs.Verdicts.{raised}
use Rattle.cert_desk_checking.specs.Places.{Rises}

raised_to : (cap old n m : ℕ) → max (max old (min (old + n) cap)) (min (max old (min (old + n) cap) + m) cap) ≡ max old (min (old + (n + m)) cap)
raised_to cap old n m = omega arith

pub raised-raised : (old n m : ℕ) → raised (raised old n) m ≡ raised old (n + m)
raised-raised old n m = raised_to (2 ^ 64 - 1) old n m

raised_none : (cap old : ℕ) → old ≡ max old (min (old + 0) cap)
raised_none cap old = omega arith

pub Rises-none : (q c : ℕ) → Rises 0 q c q c
Rises-none q c = record { questions = raised_none (2 ^ 64 - 1) q; calls = raised_none (2 ^ 64 - 1) c }

pub Rises-more : (n m p q c r d s e : ℕ) → n + m ≡ p → Rises n q c r d → Rises m r d s e → Rises p q c s e
Rises-more n m p q c r d s e t h k = record {
  questions = k.questions ∙ ap (λ x. raised x m) h.questions ∙ raised-raised q n m ∙ ap (raised q) t;
  calls = k.calls ∙ ap (λ x. raised x m) h.calls ∙ raised-raised c n m ∙ ap (raised c) t;
}

pub Rises-by : (n m q c r d : ℕ) → n ≡ m → Rises n q c r d → Rises m q c r d
Rises-by n m q c r d e h = record { questions = h.questions ∙ ap (raised q) e; calls = h.calls ∙ ap (raised c) e }
