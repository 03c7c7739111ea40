-- The keys that a slot holds before any other: all their fields are zero.
use Rattle.std.proofs.Common.{◌≡◌, ℕ, zero, suc, ◌<◌, List, [], ◌∷◌, length, get_or, replicate, refl, ap₂, arith}
use Rattle.std.specs.Array.{AllOfLen}
use Rattle.probing.specs.declared.name.Name.{Name}
use Rattle.probing.specs.declared.node.Node.{Node}

pub blank_node : (x : Node) → (x.fact ≡ 0) × ((x.low ≡ 0) × (x.high ≡ 0)) → x ≡ record { fact = 0; low = 0; high = 0 }
blank_node x e = λ i. record { fact = e.0 i; low = e.1.0 i; high = e.1.1 i }

zeros : (n : ℕ) (xs : List ℕ) → length xs ≡ n → ((i d : ℕ) → i < n → get_or xs i d ≡ 0) → xs ≡ replicate n 0
zeros zero [] l e = refl
zeros zero (x ∷ xs) l e = absurd (omega (arith, l))
zeros (suc n) [] l e = absurd (omega (arith, l))
zeros (suc n) (x ∷ xs) l e = ap₂ (λ (y : ℕ) ys. y ∷ ys) (e 0 0 (omega arith)) (zeros n xs (omega (arith, l)) (λ i d h. e (suc i) d (omega (arith, h))))

pub blank_name : (x : Name) → (x.len ≡ 0) × AllOfLen (λ b. b ≡ 0) x.bytes 16 → x ≡ record { len = 0; bytes = replicate 16 0 }
blank_name x e = λ i. record { len = e.0 i; bytes = zeros 16 x.bytes e.1.long (λ k d h. e.1.at k d h) i }
