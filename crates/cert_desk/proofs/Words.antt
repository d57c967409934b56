-- The words of a command line.
use Rattle.std.proofs.Common.{◌≡◌, ℕ, ◌<◌, ◌≤◌, List, [], ◌∷◌, length, map, get_or, refl, arith}

-- Four words, of which all but the first are known.
pub four_words : {A : Type 0} (f : A → List ℕ) (ws : List A) (b c d : A) → 4 ≤ length ws → length ws < 5
    → b ≡ get_or ws 1 b → c ≡ get_or ws 2 c → d ≡ get_or ws 3 d → (name : List ℕ) × (map f ws ≡ name ∷ f b ∷ f c ∷ f d ∷ [])
four_words f (s ∷ t ∷ u ∷ v ∷ []) b c d low high p q r = (f s, rw (p, q, r) refl)
four_words f [] b c d low high p q r = absurd (omega arith)
four_words f (s ∷ []) b c d low high p q r = absurd (omega arith)
four_words f (s ∷ t ∷ []) b c d low high p q r = absurd (omega arith)
four_words f (s ∷ t ∷ u ∷ []) b c d low high p q r = absurd (omega arith)
four_words f (s ∷ t ∷ u ∷ v ∷ w ∷ ws) b c d low high p q r = absurd (omega arith)

-- Three words, of which all but the first are known.
pub three_words : {A : Type 0} (f : A → List ℕ) (ws : List A) (b c : A) → 3 ≤ length ws → length ws < 4
    → b ≡ get_or ws 1 b → c ≡ get_or ws 2 c → (name : List ℕ) × (map f ws ≡ name ∷ f b ∷ f c ∷ [])
three_words f (s ∷ t ∷ u ∷ []) b c low high p q = (f s, rw (p, q) refl)
three_words f [] b c low high p q = absurd (omega arith)
three_words f (s ∷ []) b c low high p q = absurd (omega arith)
three_words f (s ∷ t ∷ []) b c low high p q = absurd (omega arith)
three_words f (s ∷ t ∷ u ∷ v ∷ ws) b c low high p q = absurd (omega arith)

-- Seven words, of which all but the first are known.
pub seven_words : {A : Type 0} (f : A → List ℕ) (ws : List A) (b c d e g h : A) → 7 ≤ length ws → length ws < 8
    → b ≡ get_or ws 1 b → c ≡ get_or ws 2 c → d ≡ get_or ws 3 d → e ≡ get_or ws 4 e → g ≡ get_or ws 5 g → h ≡ get_or ws 6 h
    → (name : List ℕ) × (map f ws ≡ name ∷ f b ∷ f c ∷ f d ∷ f e ∷ f g ∷ f h ∷ [])
seven_words f (s ∷ t ∷ u ∷ v ∷ w ∷ x ∷ y ∷ []) b c d e g h low high p q r k m n = (f s, rw (p, q, r, k, m, n) refl)
seven_words f [] b c d e g h low high p q r k m n = absurd (omega arith)
seven_words f (s ∷ []) b c d e g h low high p q r k m n = absurd (omega arith)
seven_words f (s ∷ t ∷ []) b c d e g h low high p q r k m n = absurd (omega arith)
seven_words f (s ∷ t ∷ u ∷ []) b c d e g h low high p q r k m n = absurd (omega arith)
seven_words f (s ∷ t ∷ u ∷ v ∷ []) b c d e g h low high p q r k m n = absurd (omega arith)
seven_words f (s ∷ t ∷ u ∷ v ∷ w ∷ []) b c d e g h low high p q r k m n = absurd (omega arith)
seven_words f (s ∷ t ∷ u ∷ v ∷ w ∷ x ∷ []) b c d e g h low high p q r k m n = absurd (omega arith)
seven_words f (s ∷ t ∷ u ∷ v ∷ w ∷ x ∷ y ∷ z ∷ zs) b c d e g h low high p q r k m n = absurd (omega arith)
