-- Elements of lists, and lists of distinct elements.
use Rattle.std.proofs.Common.{◌≡◌, ℕ, zero, suc, ◌+◌, ◌<◌, ◌≤◌, List, [], ◌∷◌, ◌++◌, map, length, sym, refl, ap, subst, inl, inr, arith}
use Rattle.std.specs.List.{range_with_len, flat_map}
use Rattle.std.proofs.lemmas.Bool.{cases_eq}
use Rattle.diagram.specs.Counted.{Exists, Each, Apart}
pub use Rattle.diagram.specs.Lasting.{some_left, some_cases, each_weaker}

abbrev pub In : {A : Type 0} → A → List A → Type 0
In x xs = Exists (λ y. y ≡ x) xs

pub some_weaker : {A : Type 0} (P Q : A → Type 0) → ((x : A) → P x → Q x) → (xs : List A) → Exists P xs → Exists Q xs
some_weaker P Q g [] i = elim i [ ]
some_weaker P Q g (x ∷ xs) (inl p) = inl (g x p)
some_weaker P Q g (x ∷ xs) (inr i) = inr (some_weaker P Q g xs i)

pub each_two : {A : Type 0} (P Q R : A → Type 0) → ((x : A) → P x → Q x → R x) → (xs : List A) → Each P xs → Each Q xs → Each R xs
each_two P Q R g [] p q = tt
each_two P Q R g (x ∷ xs) p q = (g x p.0 q.0, each_two P Q R g xs p.1 q.1)

-- what holds of each element holds of those that are there
pub each_in : {A : Type 0} (P : A → Type 0) (xs : List A) → ((x : A) → In x xs → P x) → Each P xs
each_in P [] g = tt
each_in P (x ∷ xs) g = (g x (inl refl), each_in P xs (λ y i. g y (inr i)))

pub in_each : {A : Type 0} (P : A → Type 0) (xs : List A) (x : A) → Each P xs → In x xs → P x
in_each P [] x e i = elim i [ ]
in_each P (y ∷ ys) x e (inl q) = subst P q e.0
in_each P (y ∷ ys) x e (inr i) = in_each P ys x e.1 i

-- one that is there, where something holds of each
pub some_each : {A : Type 0} (P Q R : A → Type 0) → ((x : A) → P x → Q x → R x) → (xs : List A) → Each P xs → Exists Q xs → Exists R xs
some_each P Q R g [] e i = elim i [ ]
some_each P Q R g (x ∷ xs) e (inl q) = inl (g x e.0 q)
some_each P Q R g (x ∷ xs) e (inr i) = inr (some_each P Q R g xs e.1 i)

-- and one of another list for each
pub some_some : {A B : Type 0} (P : A → Type 0) (Q : B → Type 0) (R : A → B → Type 0) → ((a : A) (b : B) → R a b → P a → Q b)
    → (us : List A) (bs : List B) → Each (λ a. Exists (R a) bs) us → Exists P us → Exists Q bs
some_some P Q R g [] bs e i = elim i [ ]
some_some P Q R g (a ∷ us) bs e (inl p) = some_weaker (R a) Q (λ b r. g a b r p) bs e.0
some_some P Q R g (a ∷ us) bs e (inr i) = some_some P Q R g us bs e.1 i

pub some_in : {A : Type 0} (P : A → Type 0) (xs : List A) → Exists P xs → (x : A) × In x xs × P x
some_in P [] i = elim i [ ]
some_in P (x ∷ xs) (inl p) = (x, inl refl, p)
some_in P (x ∷ xs) (inr i) = let r = some_in P xs i in (r.0, inr r.1, r.2)

pub in_some : {A : Type 0} (P : A → Type 0) (xs : List A) (x : A) → In x xs → P x → Exists P xs
in_some P xs x i p = some_weaker (λ y. y ≡ x) P (λ y e. subst P (sym e) p) xs i

pub some_right : {A : Type 0} (P : A → Type 0) (xs ys : List A) → Exists P ys → Exists P (xs ++ ys)
some_right P [] ys i = i
some_right P (x ∷ xs) ys i = inr (some_right P xs ys i)

pub each_map : {A B : Type 0} (P : B → Type 0) (f : A → B) (xs : List A) → Each (λ x. P (f x)) xs → Each P (map f xs)
each_map P f [] e = tt
each_map P f (x ∷ xs) e = (e.0, each_map P f xs e.1)

pub some_map : {A B : Type 0} (P : B → Type 0) (f : A → B) (xs : List A) → Exists (λ x. P (f x)) xs → Exists P (map f xs)
some_map P f [] i = elim i [ ]
some_map P f (x ∷ xs) (inl p) = inl p
some_map P f (x ∷ xs) (inr i) = inr (some_map P f xs i)

pub each_append : {A : Type 0} (P : A → Type 0) (xs ys : List A) → Each P xs → Each P ys → Each P (xs ++ ys)
each_append P [] ys p q = q
each_append P (x ∷ xs) ys p q = (p.0, each_append P xs ys p.1 q)

pub in_joined : {A B : Type 0} (f : A → List B) (xs : List A) (y : B) → In y (flat_map f xs) → Exists (λ x. In y (f x)) xs
in_joined f [] y i = elim i [ ]
in_joined f (x ∷ xs) y i = elim (some_cases (λ z. z ≡ y) (f x) (flat_map f xs) i) [ inl a ↦ inl a | inr b ↦ inr (in_joined f xs y b) ]

pub joined_in : {A B : Type 0} (f : A → List B) (xs : List A) (y : B) → Exists (λ x. In y (f x)) xs → In y (flat_map f xs)
joined_in f [] y i = elim i [ ]
joined_in f (x ∷ xs) y (inl a) = some_left (λ z. z ≡ y) (f x) (flat_map f xs) a
joined_in f (x ∷ xs) y (inr i) = some_right (λ z. z ≡ y) (f x) (flat_map f xs) (joined_in f xs y i)

pub in_map : {A B : Type 0} (f : A → B) (xs : List A) (y : B) → In y (map f xs) → Exists (λ x. f x ≡ y) xs
in_map f [] y i = elim i [ ]
in_map f (x ∷ xs) y (inl e) = inl e
in_map f (x ∷ xs) y (inr i) = inr (in_map f xs y i)

pub map_in : {A B : Type 0} (f : A → B) (xs : List A) (y : B) → Exists (λ x. f x ≡ y) xs → In y (map f xs)
map_in f [] y i = elim i [ ]
map_in f (x ∷ xs) y (inl e) = inl e
map_in f (x ∷ xs) y (inr i) = inr (map_in f xs y i)

in_counting_from : (a k x : ℕ) → In x (range_with_len a k) → (a ≤ x) × (x < a + k)
in_counting_from a zero x i = elim i [ ]
in_counting_from a (suc k) x (inl e) = (omega arith, omega arith)
in_counting_from a (suc k) x (inr i) = let r = in_counting_from (a + 1) k x i in (omega arith, omega arith)

pub in_counting : (k x : ℕ) → In x (range_with_len 0 k) → x < k
in_counting k x i = omega (arith, in_counting_from 0 k x i)

counting_in_from : (a k x : ℕ) → a ≤ x → x < a + k → In x (range_with_len a k)
counting_in_from a zero x h l = absurd (omega arith)
counting_in_from a (suc k) x h l = elim (cases_eq a x) [ inl e ↦ inl e | inr d ↦ inr (counting_in_from (a + 1) k x (omega arith) (omega arith)) ]

pub counting_in : (k x : ℕ) → x < k → In x (range_with_len 0 k)
counting_in k x h = counting_in_from 0 k x (omega arith) (omega arith)

-- distinct elements, each with one of another list that no two share, are no more than those

without : {B : Type 0} (P : B → Type 0) (bs : List B) → Exists P bs → List B
without P [] i = []
without P (b ∷ bs) (inl p) = bs
without P (b ∷ bs) (inr i) = b ∷ without P bs i

length_without : {B : Type 0} (P : B → Type 0) (bs : List B) (i : Exists P bs) → suc (length (without P bs i)) ≡ length bs
unfolding without
length_without P [] i = elim i [ ]
length_without P (b ∷ bs) (inl p) = refl
length_without P (b ∷ bs) (inr i) = ap suc (length_without P bs i)

still : {B : Type 0} (P Q : B → Type 0) → ((b : B) → P b → Q b → ⊥) → (bs : List B) (i : Exists P bs) → Exists Q bs → Exists Q (without P bs i)
unfolding without
still P Q d [] i j = elim i [ ]
still P Q d (b ∷ bs) (inl p) (inl q) = absurd (d b p q)
still P Q d (b ∷ bs) (inl p) (inr j) = j
still P Q d (b ∷ bs) (inr i) (inl q) = inl q
still P Q d (b ∷ bs) (inr i) (inr j) = inr (still P Q d bs i j)

pub no_more : {A B : Type 0} (E : A → A → Type 0) (R : A → B → Type 0) → ((a a' : A) (b : B) → R a b → R a' b → E a a')
    → (us : List A) (bs : List B) → Apart E us → Each (λ a. Exists (R a) bs) us → length us ≤ length bs
no_more E R one [] bs u c = omega arith
no_more {A} {B} E R one (a ∷ us) bs u c =
    let bs' : List B = without (R a) bs c.0 in
    let c' : Each (λ x. Exists (R x) bs') us =
    each_two (λ x. E a x → ⊥) (λ x. Exists (R x) bs) (λ x. Exists (R x) bs') (λ x d j. still (R a) (R x) (λ b p q. d (one a x b p q)) bs c.0 j) us u.0 c.1 in
    omega (arith, no_more E R one us bs' u.1 c', length_without (R a) bs c.0)
