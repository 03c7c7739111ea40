-- No more pigeons than holes.
use Rattle.std.proofs.Common.{◌≡◌, ℕ, zero, suc, ◌<◌, ◌≤◌, cond, eqb, arith}
use Rattle.std.proofs.lemmas.Bool.Decides.{nat_tests}

-- f with the hole b emptied: who was there goes where a is
abbrev moved : (ℕ → ℕ) → ℕ → ℕ → ℕ → ℕ
moved f a b i = cond (eqb (f i) b) (f a) (f i)

pub pigeons : (b a : ℕ) (f : ℕ → ℕ) → ((i : ℕ) → i < a → f i < b) → ((i j : ℕ) → i < a → j < a → f i ≡ f j → i ≡ j) → a ≤ b
pigeons zero zero f lands apart = omega arith
pigeons zero (suc a) f lands apart = omega (arith, lands 0 (omega arith))
pigeons (suc b) zero f lands apart = omega arith
pigeons (suc b) (suc a) f lands apart =
    let fewer : a ≤ b = pigeons b a (moved f a b)
    (λ i l. stays i l)
    (λ i j l m e. alone i j l m e) in
    omega arith
  where
    stays : (i : ℕ) → i < a → moved f a b i < b
    stays i l =
        let x : f i < suc b = lands i (omega arith) in
        let y : f a < suc b = lands a (omega arith) in
        let z : f i ≡ f a → i ≡ a = apart i a (omega arith) (omega arith) in
        grind (arith, nat_tests)

    alone : (i j : ℕ) → i < a → j < a → moved f a b i ≡ moved f a b j → i ≡ j
    alone i j l m e =
        let x : f i ≡ f j → i ≡ j = apart i j (omega arith) (omega arith) in
        let y : f i ≡ f a → i ≡ a = apart i a (omega arith) (omega arith) in
        let z : f j ≡ f a → j ≡ a = apart j a (omega arith) (omega arith) in
        grind (arith, nat_tests)
