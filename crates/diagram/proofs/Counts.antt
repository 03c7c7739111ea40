-- The count, and what it goes by.
use Rattle.std.proofs.Common.{◌≡◌, ℕ, suc, ◌%◌, ◌^◌, ◌≤◌, true, false, List, [], ◌∷◌, map, length, get_or, sym, refl, ap, ◌∙◌, subst, inl, inr, arith, pow_mono}
use lib.ListN.{length-map}
use Rattle.std.specs.List.{range_with_len, flat_map}
use Rattle.std.proofs.lemmas.Bool.{both_ways, cases_lt}
use Rattle.diagram.specs.Cofactors.{fixing, values, cofactors, constant, distinct, count}
use Rattle.diagram.specs.Counted.{Same, Constant, Ignores, CofactorOf, Exists, Each, Apart, Within, Counted}
use Rattle.diagram.proofs.Elements.{In, each_map, some_map, some_weaker, each_weaker, each_in, in_each, some_some, some_in, in_some, in_joined, joined_in, in_map, map_in, in_counting, counting_in, no_more}
use Rattle.diagram.proofs.Values.{values_at, values_same, same_from, constant_values, varies, in_distinct, distinct_in, distinct_apart}
use Rattle.diagram.proofs.Fixing.{fixing_lt, fixing_way, fixing_mod, fixing_over, mod_lt, same_more, same_less}

abbrev pub listed : ℕ → List (ℕ → ℕ) → List (List ℕ)
listed n Fs = distinct (flat_map (cofactors n) Fs)

-- t has the values of F with facts below j fixed as in a
abbrev Fixes : ℕ → (ℕ → ℕ) → List ℕ → Type 0
Fixes n F t = (j : ℕ) × (a : ℕ) × (j ≤ n) × (values n (λ r. F (fixing j a r)) ≡ t)

cofactors_in : (n : ℕ) (F : ℕ → ℕ) (t : List ℕ) → In t (cofactors n F) → Fixes n F t
cofactors_in n F t i =
    let g : ℕ → ℕ → List ℕ = λ j a. values n (λ r. F (fixing j a r)) in
    let x = some_in (λ j. In t (map (g j) (range_with_len 0 (2 ^ j)))) (range_with_len 0 (suc n)) (in_joined (λ j. map (g j) (range_with_len 0 (2 ^ j))) (range_with_len 0 (suc n)) t i) in
    let y = some_in (λ a. g x.0 a ≡ t) (range_with_len 0 (2 ^ x.0)) (in_map (g x.0) (range_with_len 0 (2 ^ x.0)) t x.2) in
    (x.0, y.0, omega (arith, in_counting (suc n) x.0 x.1), y.2)

in_cofactors : (n : ℕ) (F : ℕ → ℕ) (t : List ℕ) → Fixes n F t → In t (cofactors n F)
in_cofactors n F t (j, a, h, e) =
    let g : ℕ → ℕ → List ℕ = λ j a. values n (λ r. F (fixing j a r)) in
    let e' : g j (a % 2 ^ j) ≡ t = values_same n (λ r. F (fixing j (a % 2 ^ j) r)) (λ r. F (fixing j a r)) (λ r _. ap F (fixing_way j a r)) ∙ e in
    joined_in (λ j. map (g j) (range_with_len 0 (2 ^ j))) (range_with_len 0 (suc n)) t
    (in_some (λ j. In t (map (g j) (range_with_len 0 (2 ^ j)))) (range_with_len 0 (suc n)) j (counting_in (suc n) j (omega arith))
    (map_in (g j) (range_with_len 0 (2 ^ j)) t (in_some (λ a. g j a ≡ t) (range_with_len 0 (2 ^ j)) (a % 2 ^ j) (counting_in (2 ^ j) (a % 2 ^ j) (mod_lt a j)) e')))

-- what stands among the lists of values counted
listed_in : (n : ℕ) (Fs : List (ℕ → ℕ)) (t : List ℕ) → In t (listed n Fs) → ((F : ℕ → ℕ) × In F Fs × Fixes n F t) × (constant t ≡ false)
listed_in n Fs t i =
    let d = distinct_in (flat_map (cofactors n) Fs) t i in
    let s = some_in (λ F. In t (cofactors n F)) Fs (in_joined (cofactors n) Fs t d.0) in
    ((s.0, s.1, cofactors_in n s.0 t s.2), d.1)

in_listed : (n : ℕ) (Fs : List (ℕ → ℕ)) (t : List ℕ) → Exists (λ F. Fixes n F t) Fs → constant t ≡ false → In t (listed n Fs)
in_listed n Fs t s v = in_distinct (flat_map (cofactors n) Fs) t (joined_in (cofactors n) Fs t (some_weaker (λ F. Fixes n F t) (λ F. In t (cofactors n F)) (λ F x. in_cofactors n F t x) Fs s)) v

-- the same, said of functions
pub cofactor_values : (n : ℕ) (Fs : List (ℕ → ℕ)) (G : ℕ → ℕ) → Exists (λ F. CofactorOf n F G) Fs → In (values n G) (listed n Fs)
cofactor_values n Fs G s =
    in_listed n Fs (values n G)
    (some_weaker (λ F. CofactorOf n F G) (λ F. Fixes n F (values n G)) (λ F p. (p.j, p.way, p.upto, sym (values_same n G (λ r. F (fixing p.j p.way r)) p.is))) Fs s)
    (varies n G (some_in (λ F. CofactorOf n F G) Fs s).2.varies)

pub values_cofactor : (n : ℕ) (Fs : List (ℕ → ℕ)) (t : List ℕ) → In t (listed n Fs) → (G : ℕ → ℕ) × (values n G ≡ t) × Exists (λ F. CofactorOf n F G) Fs
values_cofactor n Fs t i =
    let x = listed_in n Fs t i in
    let F : ℕ → ℕ = x.0.0 in
    let f = x.0.2 in
    let G : ℕ → ℕ = λ r. F (fixing f.0 f.1 r) in (
      G,
      f.3,
      in_some (λ F. CofactorOf n F G) Fs F x.0.1 (record {
        j = f.0;
        way = f.1;
        upto = f.2;
        is = λ r _. refl;
        varies = λ c. both_ways (constant t) x.1 (subst (λ u. constant u ≡ true) f.3 (constant_values n G c));
      }),
    )

-- the count is the number of the relation
pub counted_count : (n : ℕ) (Fs : List (ℕ → ℕ)) (k : ℕ) → Counted n Fs k → count n Fs ≡ k
unfolding count
counted_count n Fs k h = omega (arith, h.count, most, least)
  where
    most : length (listed n Fs) ≤ length h.listed
    most = no_more ◌≡◌ (λ t G. t ≡ values n G) (λ t u G p q. p ∙ sym q) (listed n Fs) h.listed (distinct_apart (flat_map (cofactors n) Fs))
        (each_in (λ t. Exists (λ G. t ≡ values n G) h.listed) (listed n Fs) (λ t i.
        let r = values_cofactor n Fs t i in
        some_weaker (λ H. Same n r.0 H) (λ H. t ≡ values n H) (λ H s. sym r.1 ∙ values_same n r.0 H s) h.listed (h.every r.0 r.2)))

    least : length h.listed ≤ length (listed n Fs)
    least = no_more (Same n) (λ G t. t ≡ values n G) (λ G H t p q. same_from n G H (sym p ∙ q)) h.listed (listed n Fs) h.apart
        (each_weaker (λ G. Exists (λ F. CofactorOf n F G) Fs) (λ G. In (values n G) (listed n Fs)) (λ G s. cofactor_values n Fs G s) h.listed h.each)

-- and the relation has it
abbrev said : List ℕ → ℕ → ℕ
said t r = get_or t r 0

cofactor_as : (n : ℕ) (F G H : ℕ → ℕ) → Same n G H → CofactorOf n F G → CofactorOf n F H
cofactor_as n F G H s p = record {
  j = p.j;
  way = p.way;
  upto = p.upto;
  is = λ r h. sym (s r h) ∙ p.is r h;
  varies = λ c. p.varies (λ r q hr hq. s r hr ∙ c r q hr hq ∙ sym (s q hq));
}

said_same : (n : ℕ) (G : ℕ → ℕ) (t : List ℕ) → values n G ≡ t → Same n G (said t)
said_same n G t e r h = sym (values_at n G r h) ∙ ap (λ u. get_or u r 0) e

pub apart_map : {A B : Type 0} (D : A → A → Type 0) (E : B → B → Type 0) (f : A → B) (xs : List A)
    → ((x y : A) → In x xs → In y xs → E (f x) (f y) → D x y) → Apart D xs → Apart E (map f xs)
apart_map D E f [] g a = tt
apart_map D E f (x ∷ xs) g a = (
  each_map (λ b. E (f x) b → ⊥) f xs (each_in (λ y. E (f x) (f y) → ⊥) xs (λ y i e. in_each (λ y. D x y → ⊥) xs y a.0 i (g x y (inl refl) (inr i) e))),
  apart_map D E f xs (λ y z i j. g y z (inr i) (inr j)) a.1,
)

pub count_counted : (n : ℕ) (Fs : List (ℕ → ℕ)) → Counted n Fs (count n Fs)
unfolding count
count_counted n Fs = record {
  listed = map said (listed n Fs);
  count = length-map (listed n Fs) said;
  each = each_map (λ G. Exists (λ F. CofactorOf n F G) Fs) said (listed n Fs) (each_in (λ t. Exists (λ F. CofactorOf n F (said t)) Fs) (listed n Fs) (λ t i.
      let r = values_cofactor n Fs t i in
      some_weaker (λ F. CofactorOf n F r.0) (λ F. CofactorOf n F (said t)) (λ F p. cofactor_as n F r.0 (said t) (said_same n r.0 t r.1) p) Fs r.2));
  every = λ G s. some_map (λ H. Same n G H) said (listed n Fs) (some_weaker (λ t. t ≡ values n G) (λ t. Same n G (said t)) (λ t e. said_same n G t (sym e)) (listed n Fs) (cofactor_values n Fs G s));
  apart = apart_map ◌≡◌ (Same n) said (listed n Fs) (λ t u i j e. back t i ∙ values_same n (said t) (said u) e ∙ sym (back u j)) (distinct_apart (flat_map (cofactors n) Fs));
}
  where
    back : (t : List ℕ) → In t (listed n Fs) → t ≡ values n (said t)
    back t i = let r = values_cofactor n Fs t i in sym r.1 ∙ values_same n r.0 (said t) (said_same n r.0 t r.1)

-- functions whose cofactors are among those of others have no more
pub fewer : (n : ℕ) (Fs Gs : List (ℕ → ℕ)) → ((G : ℕ → ℕ) → Exists (λ F. CofactorOf n F G) Fs → Exists (λ F. CofactorOf n F G) Gs) → count n Fs ≤ count n Gs
unfolding count
fewer n Fs Gs g = no_more ◌≡◌ (λ t u. u ≡ t) (λ t t' u p q. sym p ∙ q) (listed n Fs) (listed n Gs) (distinct_apart (flat_map (cofactors n) Fs))
    (each_in (λ t. In t (listed n Gs)) (listed n Fs) (λ t i.
    let r = values_cofactor n Fs t i in subst (λ u. In u (listed n Gs)) r.1 (cofactor_values n Gs r.0 (g r.0 r.2))))

pub cofactor_same : (n : ℕ) (E F G : ℕ → ℕ) → Same n E F → CofactorOf n E G → CofactorOf n F G
cofactor_same n E F G s p = record {
  j = p.j;
  way = p.way;
  upto = p.upto;
  varies = p.varies;
  is = λ r h. p.is r h ∙ s (fixing p.j p.way r) (fixing_lt n p.j p.way r p.upto h);
}

pub count_le : (n : ℕ) (Fs Gs : List (ℕ → ℕ)) → Within n Fs Gs → count n Fs ≤ count n Gs
count_le n Fs Gs w = fewer n Fs Gs (λ G s. some_some (λ F. CofactorOf n F G) (λ F. CofactorOf n F G) (λ E F. Same n E F) (λ E F e p. cofactor_same n E F G e p) Fs Gs w s)

pub count_same : (n : ℕ) (Fs Gs : List (ℕ → ℕ)) → Within n Fs Gs → Within n Gs Fs → count n Fs ≡ count n Gs
count_same n Fs Gs v w = omega (arith, count_le n Fs Gs v, count_le n Gs Fs w)

-- more facts
module _ (n m : ℕ) (upto : n ≤ m) where
  pow_le : 2 ^ n ≤ 2 ^ m
  pow_le = pow_mono upto

  Both : List ℕ → List ℕ → Type 0
  Both t u = (H : ℕ → ℕ) × Ignores n H × (values n H ≡ t) × (values m H ≡ u)

  both_less : (t t' u : List ℕ) → Both t u → Both t' u → t ≡ t'
  unfolding Both
  both_less t t' u (F, f, a, b) (G, g, c, d) = sym a ∙ values_same n F G (same_less n m F G upto (same_from m F G (b ∙ sym d))) ∙ c

  both_more : (u u' t : List ℕ) → Both t u → Both t u' → u ≡ u'
  unfolding Both
  both_more u u' t (F, f, a, b) (G, g, c, d) = sym b ∙ values_same m F G (same_more n m F G f g (same_from n F G (a ∙ sym c))) ∙ d

  ignores_fixing : (F : ℕ → ℕ) (j a : ℕ) → j ≤ n → Ignores n F → Ignores n (λ r. F (fixing j a r))
  ignores_fixing F j a h f r = f (fixing j a r) ∙ ap F (fixing_mod n j a r h)

  module _ (Fs : List (ℕ → ℕ)) (ig : Each (Ignores n) Fs) where
    up : (t : List ℕ) → In t (listed n Fs) → Exists (λ u. Both t u) (listed m Fs)
    unfolding Both
    up t i =
        let x = listed_in n Fs t i in
        let F : ℕ → ℕ = x.0.0 in
        let f = x.0.2 in
        let H : ℕ → ℕ = λ r. F (fixing f.0 f.1 r) in
        let g : Ignores n H = ignores_fixing F f.0 f.1 f.2 (in_each (Ignores n) Fs F ig x.0.1) in
        in_some (λ u. Both t u) (listed m Fs) (values m H)
        (in_listed m Fs (values m H) (in_some (λ F. Fixes m F (values m H)) Fs F x.0.1 (f.0, f.1, omega (arith, f.2), refl))
        (varies m H (λ c. both_ways (constant t) x.1 (subst (λ u. constant u ≡ true) f.3 (constant_values n H (λ r s hr hs. c r s (omega (arith, pow_le)) (omega (arith, pow_le))))))))
        (H, g, f.3, refl)

    down : (u : List ℕ) → In u (listed m Fs) → Exists (λ t. Both t u) (listed n Fs)
    unfolding Both
    down u i =
        let x = listed_in m Fs u i in
        let F : ℕ → ℕ = x.0.0 in
        let f = x.0.2 in
        let H : ℕ → ℕ = λ r. F (fixing f.0 f.1 r) in
        let e : Ignores n F = in_each (Ignores n) Fs F ig x.0.1 in
        let no_constant : Constant m H → ⊥ = λ c. both_ways (constant u) x.1 (subst (λ v. constant v ≡ true) f.3 (constant_values m H c)) in
        elim (cases_lt n f.0) [
          | inl l ↦ absurd (no_constant (λ r s _ _.
              let z : (q : ℕ) → H q ≡ F (f.1 % 2 ^ n) = λ q. e (fixing f.0 f.1 q) ∙ ap F (fixing_over n f.0 f.1 q (omega arith)) in
              z r ∙ sym (z s)))
          | inr l ↦
              let g : Ignores n H = ignores_fixing F f.0 f.1 l e in
              in_some (λ t. Both t u) (listed n Fs) (values n H)
              (in_listed n Fs (values n H) (in_some (λ F. Fixes n F (values n H)) Fs F x.0.1 (f.0, f.1, l, refl))
              (varies n H (λ c. no_constant (λ r s _ _. g r ∙ c (r % 2 ^ n) (s % 2 ^ n) (mod_lt r n) (mod_lt s n) ∙ sym (g s)))))
              (H, g, refl, f.3)
        ]

    pub count_more : count m Fs ≡ count n Fs
    unfolding count
    count_more =
        let a : length (listed n Fs) ≤ length (listed m Fs) = no_more ◌≡◌ Both both_less (listed n Fs) (listed m Fs) (distinct_apart (flat_map (cofactors n) Fs)) (each_in (λ t. Exists (λ u. Both t u) (listed m Fs)) (listed n Fs) up) in
        let b : length (listed m Fs) ≤ length (listed n Fs) = no_more ◌≡◌ (λ u t. Both t u) both_more (listed m Fs) (listed n Fs) (distinct_apart (flat_map (cofactors m) Fs)) (each_in (λ u. Exists (λ t. Both t u) (listed n Fs)) (listed m Fs) down) in
        omega arith
