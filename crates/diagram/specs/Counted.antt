-- The same number as a relation between functions: nothing here is computed.
use Rattle.std.specs.Prelude.{◌≡◌, ℕ, ◌%◌, ◌^◌, ◌<◌, ◌≤◌, ◌⊎◌, List, [], ◌∷◌, length}
use Rattle.diagram.specs.Cofactors.{fixing}

-- two functions agree at each request over n facts
abbrev pub Same : ℕ → (ℕ → ℕ) → (ℕ → ℕ) → Type 0
Same n F G = (r : ℕ) → r < 2 ^ n → F r ≡ G r

-- a function has one value at all requests over n facts
abbrev pub Constant : ℕ → (ℕ → ℕ) → Type 0
Constant n F = (r s : ℕ) → r < 2 ^ n → s < 2 ^ n → F r ≡ F s

-- facts n and above make no difference to F
abbrev pub Ignores : ℕ → (ℕ → ℕ) → Type 0
Ignores n F = (r : ℕ) → F r ≡ F (r % 2 ^ n)

-- G is a cofactor of F that is not constant: F becomes G where the facts 0 to j−1 are fixed in some way
pub record CofactorOf (n : ℕ) (F G : ℕ → ℕ) : Type 0 where
  pub j : ℕ
  pub way : ℕ
  pub upto : j ≤ n
  pub is : Same n G (λ r. F (fixing j way r))
  pub varies : Constant n G → ⊥

-- P holds of one element
abbrev pub Exists {ℓ} : {A : Type ℓ} → (A → Type 0) → List A → Type 0
Exists P [] = ⊥
Exists P (x ∷ xs) = P x ⊎ Exists P xs

-- P holds of each element
abbrev pub Each {ℓ} : {A : Type ℓ} → (A → Type 0) → List A → Type 0
Each P [] = Unit {0}
Each P (x ∷ xs) = P x × Each P xs

-- no two elements stand in E
abbrev pub Apart : {A : Type 0} → (A → A → Type 0) → List A → Type 0
Apart E [] = Unit {0}
Apart E (x ∷ xs) = Each (λ y. E x y → ⊥) xs × Apart E xs

-- each function of Fs is, over n facts, one of Gs
abbrev pub Within : ℕ → List (ℕ → ℕ) → List (ℕ → ℕ) → Type 0
Within n Fs Gs = Each (λ F. Exists (λ G. Same n F G) Gs) Fs

-- the functions Gs are the cofactors of Fs that are not constant: each of them is one, and there is no other
pub record Lists (n : ℕ) (Fs Gs : List (ℕ → ℕ)) : Type 0 where
  pub each : Each (λ G. Exists (λ F. CofactorOf n F G) Fs) Gs
  pub every : (G : ℕ → ℕ) → Exists (λ F. CofactorOf n F G) Fs → Exists (λ H. Same n G H) Gs

-- the functions Fs have k distinct cofactors that are not constant
pub record Counted (n : ℕ) (Fs : List (ℕ → ℕ)) (k : ℕ) : Type 0 where
  pub listed : List (ℕ → ℕ)
  pub count : length listed ≡ k
  pub each : Each (λ G. Exists (λ F. CofactorOf n F G) Fs) listed
  pub every : (G : ℕ → ℕ) → Exists (λ F. CofactorOf n F G) Fs → Exists (λ H. Same n G H) listed
  pub apart : Apart (Same n) listed
