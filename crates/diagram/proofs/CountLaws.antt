-- The count over lists of results that are put together, taken apart and repeated.
use Rattle.std.proofs.Common.{◌≡◌, ℕ, ◌%◌, ◌^◌, ◌≤◌, List, [], ◌∷◌, ◌++◌, sym, refl, ap, ◌∙◌, inl, inr, arith}
use Rattle.diagram.specs.Cofactors.{fixing, count, distinct}
use Rattle.diagram.specs.Counted.{Same, Constant, Ignores, CofactorOf, Exists, Within}
use Rattle.diagram.proofs.Elements.{In, each_in, in_some, some_left, some_right, some_cases}
use Rattle.diagram.proofs.Counts.{fewer, count_le, count_same}
use Rattle.diagram.proofs.Fixing.{fixing_lt, mod_mod_pow}

-- the very functions of one list are among another
pub within_in : (n : ℕ) (Fs Gs : List (ℕ → ℕ)) → ((F : ℕ → ℕ) → In F Fs → In F Gs) → Within n Fs Gs
within_in n Fs Gs g = each_in (λ F. Exists (λ G. Same n F G) Gs) Fs (λ F i. in_some (λ G. Same n F G) Gs F (g F i) (λ r _. refl))

pub count_in : (n : ℕ) (Fs Gs : List (ℕ → ℕ)) → ((F : ℕ → ℕ) → In F Fs → In F Gs) → count n Fs ≤ count n Gs
count_in n Fs Gs g = count_le n Fs Gs (within_in n Fs Gs g)

pub count_none : (n : ℕ) → count n [] ≡ 0
unfolding count distinct
count_none n = refl

-- dropped: what is left is no more than it was
pub count_front : (n : ℕ) (Fs Gs : List (ℕ → ℕ)) → count n Fs ≤ count n (Fs ++ Gs)
count_front n Fs Gs = count_in n Fs (Fs ++ Gs) (λ F i. some_left (λ G. G ≡ F) Fs Gs i)

-- in any order
swapped : {A : Type 0} (P : A → Type 0) (xs ys : List A) → Exists P (xs ++ ys) → Exists P (ys ++ xs)
swapped P xs ys i = elim (some_cases P xs ys i) [ inl a ↦ some_right P ys xs a | inr b ↦ some_left P ys xs b ]

pub count_swap : (n : ℕ) (Fs Gs : List (ℕ → ℕ)) → count n (Fs ++ Gs) ≡ count n (Gs ++ Fs)
count_swap n Fs Gs = count_same n (Fs ++ Gs) (Gs ++ Fs) (within_in n (Fs ++ Gs) (Gs ++ Fs) (λ F i. swapped (λ G. G ≡ F) Fs Gs i)) (within_in n (Gs ++ Fs) (Fs ++ Gs) (λ F i. swapped (λ G. G ≡ F) Gs Fs i))

-- one more costs nothing where it is there, and where it is constant
pub count_again : (n : ℕ) (F : ℕ → ℕ) (Fs : List (ℕ → ℕ)) → Exists (λ G. Same n F G) Fs → count n (F ∷ Fs) ≡ count n Fs
count_again n F Fs s = count_same n (F ∷ Fs) Fs (s, within_in n Fs Fs (λ G i. i)) (within_in n Fs (F ∷ Fs) (λ G i. inr i))

pub count_constant : (n : ℕ) (F : ℕ → ℕ) (Fs : List (ℕ → ℕ)) → Constant n F → count n (F ∷ Fs) ≡ count n Fs
count_constant n F Fs c = omega (arith, fewer n (F ∷ Fs) Fs none, count_in n Fs (F ∷ Fs) (λ G i. inr i))
  where
    none : (G : ℕ → ℕ) → Exists (λ E. CofactorOf n E G) (F ∷ Fs) → Exists (λ E. CofactorOf n E G) Fs
    none G (inl p) = absurd (p.varies (λ r s hr hs. p.is r hr ∙ c (fixing p.j p.way r) (fixing p.j p.way s) (fixing_lt n p.j p.way r p.upto hr) (fixing_lt n p.j p.way s p.upto hs) ∙ sym (p.is s hs)))
    none G (inr i) = i

-- what ignores the facts from n on ignores those from m on
pub ignores_more : (n m : ℕ) (F : ℕ → ℕ) → n ≤ m → Ignores n F → Ignores m F
ignores_more n m F h g r = g r ∙ ap F (sym (mod_mod_pow n m r h)) ∙ sym (g (r % 2 ^ m))
