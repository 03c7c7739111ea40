-- Lists of values, and lists of distinct ones.
use Rattle.std.proofs.Common.{◌≡◌, ℕ, zero, suc, ◌^◌, ◌<◌, Bool, true, false, cond, ◌||◌, eqb, List, [], ◌∷◌, length, get_or, sym, refl, ap, ◌∙◌, subst, ap₂, inl, inr, zero-add, arith}
use Rattle.std.proofs.lemmas.List.FromFn.{length-map-range_with_len, get_or-map-range_with_len, fill_by_all}
use Rattle.std.proofs.lemmas.Bool.{false≢true, both_ways, eqb-true, eq-eqb, cases_Bool, and_parts, and_from, or_cases, or_parts, or_left, or_right}
use Rattle.diagram.specs.Cofactors.{values, only, constant, same_values, among, distinct}
use Rattle.diagram.specs.Counted.{Same, Constant, Apart}
use Rattle.diagram.proofs.Elements.{In, each_in}

pub values_at : (n : ℕ) (F : ℕ → ℕ) (r : ℕ) → r < 2 ^ n → get_or (values n F) r 0 ≡ F r
values_at n F r h = get_or-map-range_with_len F 0 (2 ^ n) r r 0 h (zero-add r)

-- functions are the same just if their values are
pub values_same : (n : ℕ) (F G : ℕ → ℕ) → Same n F G → values n F ≡ values n G
values_same n F G s = fill_by_all G (values n F) (2 ^ n) 0 (length-map-range_with_len F 0 (2 ^ n)) (λ r h. values_at n F r h ∙ s r h)

pub same_from : (n : ℕ) (F G : ℕ → ℕ) → values n F ≡ values n G → Same n F G
same_from n F G e r h = sym (values_at n F r h) ∙ ap (λ t. get_or t r 0) e ∙ values_at n G r h

only_at : (v : ℕ) (t : List ℕ) (i : ℕ) → only v t ≡ true → i < length t → get_or t i 0 ≡ v
only_at v [] i e h = absurd (omega arith)
only_at v (x ∷ xs) zero e h = eqb-true x v (and_parts (eqb x v) (only v xs) e).0
only_at v (x ∷ xs) (suc i) e h = only_at v xs i (and_parts (eqb x v) (only v xs) e).1 (omega arith)

at_only : (v : ℕ) (t : List ℕ) → ((i : ℕ) → i < length t → get_or t i 0 ≡ v) → only v t ≡ true
at_only v [] g = refl
at_only v (x ∷ xs) g = and_from (eqb x v) (only v xs) (eq-eqb x v (g 0 (omega arith))) (at_only v xs (λ i h. g (suc i) (omega arith)))

constant_first : (t : List ℕ) (i : ℕ) → constant t ≡ true → i < length t → get_or t i 0 ≡ get_or t 0 0
constant_first [] i e h = absurd (omega arith)
constant_first (x ∷ xs) zero e h = refl
constant_first (x ∷ xs) (suc i) e h = only_at x xs i e (omega arith)

first_constant : (t : List ℕ) → ((i : ℕ) → i < length t → get_or t i 0 ≡ get_or t 0 0) → constant t ≡ true
first_constant [] g = refl
first_constant (x ∷ xs) g = at_only x xs (λ i h. g (suc i) (omega arith))

values_long : (n : ℕ) (F : ℕ → ℕ) → length (values n F) ≡ 2 ^ n
values_long n F = length-map-range_with_len F 0 (2 ^ n)

-- a function is constant just if its values are
pub constant_function : (n : ℕ) (F : ℕ → ℕ) → constant (values n F) ≡ true → Constant n F
constant_function n F e r s hr hs =
    sym (values_at n F r hr) ∙ constant_first (values n F) r e (omega (arith, values_long n F))
    ∙ sym (constant_first (values n F) s e (omega (arith, values_long n F))) ∙ values_at n F s hs

pub constant_values : (n : ℕ) (F : ℕ → ℕ) → Constant n F → constant (values n F) ≡ true
constant_values n F c = first_constant (values n F) (λ i h.
    let l : i < 2 ^ n = omega (arith, values_long n F) in
    let z : 0 < 2 ^ n = omega arith in
    values_at n F i l ∙ c i 0 l z ∙ sym (values_at n F 0 z))

pub varies : (n : ℕ) (F : ℕ → ℕ) → (Constant n F → ⊥) → constant (values n F) ≡ false
varies n F v = elim (cases_Bool (constant (values n F))) [ inl e ↦ absurd (v (constant_function n F e)) | inr e ↦ e ]

-- the test of lists of values
same_eq : (t u : List ℕ) → same_values t u ≡ true → t ≡ u
same_eq [] [] e = refl
same_eq [] (y ∷ ys) e = absurd (false≢true e)
same_eq (x ∷ xs) [] e = absurd (false≢true e)
same_eq (x ∷ xs) (y ∷ ys) e =
    let p = and_parts (eqb x y) (same_values xs ys) e in ap₂ ◌∷◌ (eqb-true x y p.0) (same_eq xs ys p.1)

same_refl : (t : List ℕ) → same_values t t ≡ true
same_refl [] = refl
same_refl (x ∷ xs) = and_from (eqb x x) (same_values xs xs) (eq-eqb x x refl) (same_refl xs)

among_in : (t : List ℕ) (us : List (List ℕ)) → among t us ≡ true → In t us
among_in t [] e = absurd (false≢true e)
among_in t (u ∷ us) e = elim (or_cases (same_values t u) (among t us) e) [ inl a ↦ inl (sym (same_eq t u a)) | inr b ↦ inr (among_in t us b) ]

in_among : (t : List ℕ) (us : List (List ℕ)) → In t us → among t us ≡ true
in_among t [] i = elim i [ ]
in_among t (u ∷ us) (inl e) = or_left (same_values t u) (among t us) (subst (λ x. same_values t x ≡ true) (sym e) (same_refl t))
in_among t (u ∷ us) (inr i) = or_right (same_values t u) (among t us) (in_among t us i)

-- `distinct` keeps each that is not constant, once
pub in_distinct : (ts : List (List ℕ)) (t : List ℕ) → In t ts → constant t ≡ false → In t (distinct ts)
unfolding distinct
in_distinct [] t i v = elim i [ ]
in_distinct (x ∷ xs) t i v = go (constant x || among x xs) refl i (λ j. in_distinct xs t j v)
  where
    go : (b : Bool) → (constant x || among x xs) ≡ b → In t (x ∷ xs) → (In t xs → In t (distinct xs)) → In t (cond b (distinct xs) (x ∷ distinct xs))
    go true e (inl q) rest = elim (or_cases (constant x) (among x xs) e) [
      | inl c ↦ absurd (both_ways (constant t) v (subst (λ y. constant y ≡ true) q c))
      | inr a ↦ rest (subst (λ y. In y xs) q (among_in x xs a))
    ]
    go true e (inr j) rest = rest j
    go false e (inl q) rest = inl q
    go false e (inr j) rest = inr (rest j)

pub distinct_in : (ts : List (List ℕ)) (t : List ℕ) → In t (distinct ts) → In t ts × (constant t ≡ false)
unfolding distinct
distinct_in [] t i = elim i [ ]
distinct_in (x ∷ xs) t i = go (constant x || among x xs) refl i (λ j. distinct_in xs t j)
  where
    go : (b : Bool) → (constant x || among x xs) ≡ b → In t (cond b (distinct xs) (x ∷ distinct xs)) → (In t (distinct xs) → In t xs × (constant t ≡ false)) → In t (x ∷ xs) × (constant t ≡ false)
    go true e j rest = let r = rest j in (inr r.0, r.1)
    go false e (inl q) rest = (inl q, subst (λ y. constant y ≡ false) q (or_parts (constant x) (among x xs) e).0)
    go false e (inr j) rest = let r = rest j in (inr r.0, r.1)

pub distinct_apart : (ts : List (List ℕ)) → Apart ◌≡◌ (distinct ts)
unfolding distinct
distinct_apart [] = tt
distinct_apart (x ∷ xs) = go (constant x || among x xs) refl (distinct_apart xs)
  where
    go : (b : Bool) → (constant x || among x xs) ≡ b → Apart ◌≡◌ (distinct xs) → Apart ◌≡◌ (cond b (distinct xs) (x ∷ distinct xs))
    go true e a = a
    go false e a = (
      each_in (λ y. x ≡ y → ⊥) (distinct xs) (λ y i q.
          both_ways (among x xs) (or_parts (constant x) (among x xs) e).1 (in_among x xs (subst (λ z. In z xs) (sym q) (distinct_in xs y i).0))),
      a,
    )
