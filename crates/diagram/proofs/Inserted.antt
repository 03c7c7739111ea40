-- What `inserted` keeps.
use Rattle.std.proofs.Common.{◌≡◌, ℕ, ◌≤◌, true, ◌⊎◌, List, [], ◌∷◌, ◌++◌, length, sym, refl, ap, ◌∙◌, subst, inl, inr, append_assoc, append-nil, arith, length-append}
use Rattle.std.proofs.lemmas.Bool.{cases_Bool, cond-true, cond-false, or_cases, or_left, or_right, false≢true}
use Rattle.diagram.specs.Tree.{Tree, same, mk}
use Rattle.diagram.specs.Tree.Tree.{terminal, branch}
use Rattle.diagram.specs.Nodes.{In, holds, once, inserted}
use Rattle.diagram.proofs.Canon.{same_eq, same_refl, mk_same}

pub holds_in : (S : List Tree) (t : Tree) → holds S t ≡ true → In t S
holds_in [] t e = absurd (false≢true e)
holds_in (x ∷ xs) t e = elim (or_cases (same x t) (holds xs t) e) [ inl q ↦ inl (same_eq x t q) | inr q ↦ inr (holds_in xs t q) ]

pub in_holds : (S : List Tree) (t : Tree) → In t S → holds S t ≡ true
in_holds [] t i = elim i [ ]
in_holds (x ∷ xs) t (inl e) = or_left (same x t) (holds xs t) (subst (λ y. same x y ≡ true) e (same_refl x))
in_holds (x ∷ xs) t (inr i) = or_right (same x t) (holds xs t) (in_holds xs t i)

pub once_in : (S : List Tree) (t : Tree) → In t S → once S t ≡ S
once_in S t i = cond-true (holds S t) S (S ++ (t ∷ [])) (in_holds S t i)

pub once_out : (S : List Tree) (t : Tree) → (In t S → ⊥) → once S t ≡ S ++ (t ∷ [])
once_out S t o = elim (cases_Bool (holds S t)) [ inl e ↦ absurd (o (holds_in S t e)) | inr e ↦ cond-false (holds S t) S (S ++ (t ∷ [])) e ]

-- S' begins with S
pub record Grows (S S' : List Tree) : Type 0 where
  pub rest : List Tree
  pub is : S' ≡ S ++ rest

pub grows_none : (S : List Tree) → Grows S S
grows_none S = record { rest = []; is = sym (append-nil S) }

pub grows_trans : (A B C : List Tree) → Grows A B → Grows B C → Grows A C
grows_trans A B C g h = record { rest = g.rest ++ h.rest; is = h.is ∙ ap (λ x. x ++ h.rest) g.is ∙ append_assoc A g.rest h.rest }

pub grows_length : (A B : List Tree) → Grows A B → length A ≤ length B
grows_length A B g = rw (g.is, length-append) (omega arith)

pub in_left : (t : Tree) (A B : List Tree) → In t A → In t (A ++ B)
in_left t [] B i = elim i [ ]
in_left t (x ∷ xs) B (inl e) = inl e
in_left t (x ∷ xs) B (inr i) = inr (in_left t xs B i)

pub in_right : (t : Tree) (A B : List Tree) → In t B → In t (A ++ B)
in_right t [] B i = i
in_right t (x ∷ xs) B i = inr (in_right t xs B i)

pub in_cases : (t : Tree) (A B : List Tree) → In t (A ++ B) → In t A ⊎ In t B
in_cases t [] B i = inr i
in_cases t (x ∷ xs) B (inl e) = inl (inl e)
in_cases t (x ∷ xs) B (inr i) = elim (in_cases t xs B i) [ inl a ↦ inl (inr a) | inr b ↦ inr b ]

pub in_grows : (t : Tree) (A B : List Tree) → Grows A B → In t A → In t B
in_grows t A B g i = subst (In t) (sym g.is) (in_left t A g.rest i)

pub once_grows : (S : List Tree) (t : Tree) → Grows S (once S t)
once_grows S t = elim (cases_Bool (holds S t)) [
  | inl e ↦ record { rest = []; is = cond-true (holds S t) S (S ++ (t ∷ [])) e ∙ sym (append-nil S) }
  | inr e ↦ record { rest = t ∷ []; is = cond-false (holds S t) S (S ++ (t ∷ [])) e }
]

pub once_has : (S : List Tree) (t : Tree) → In t (once S t)
once_has S t = elim (cases_Bool (holds S t)) [
  | inl e ↦ subst (In t) (sym (cond-true (holds S t) S (S ++ (t ∷ [])) e)) (holds_in S t e)
  | inr e ↦ subst (In t) (sym (cond-false (holds S t) S (S ++ (t ∷ [])) e)) (in_right t S (t ∷ []) (inl refl))
]

pub once_cases : (S : List Tree) (t s : Tree) → In s (once S t) → In s S ⊎ (s ≡ t)
once_cases S t s i = elim (cases_Bool (holds S t)) [
  | inl e ↦ inl (subst (In s) (cond-true (holds S t) S (S ++ (t ∷ [])) e) i)
  | inr e ↦ elim (in_cases s S (t ∷ []) (subst (In s) (cond-false (holds S t) S (S ++ (t ∷ [])) e) i))
      [ inl a ↦ inl a | inr b ↦ elim b [ inl q ↦ inr (sym q) | inr z ↦ absurd z ] ]
]

pub inserted_grows : (S : List Tree) (t : Tree) → Grows S (inserted S t)
inserted_grows S (terminal v) = grows_none S
inserted_grows S (branch f l h) =
    grows_trans S (inserted S l) _ (inserted_grows S l)
    (grows_trans (inserted S l) (inserted (inserted S l) h) _ (inserted_grows (inserted S l) h) (once_grows (inserted (inserted S l) h) (branch f l h)))

-- a tree is at hand: a constant, or held
abbrev pub Near : Tree → List Tree → Type 0
Near (terminal v) S = Unit {0}
Near (branch f l h) S = In (branch f l h) S

-- what stands below a tree that is held is at hand
abbrev pub Closed : List Tree → Type 0
Closed S = (f : ℕ) (l h : Tree) → In (branch f l h) S → Near l S × Near h S

pub near_grows : (t : Tree) (A B : List Tree) → Grows A B → Near t A → Near t B
near_grows (terminal v) A B g i = tt
near_grows (branch f l h) A B g i = in_grows (branch f l h) A B g i

pub inserted_has : (S : List Tree) (t : Tree) → Near t (inserted S t)
inserted_has S (terminal v) = tt
inserted_has S (branch f l h) = once_has (inserted (inserted S l) h) (branch f l h)

-- nothing is inserted twice
pub inserted_near : (S : List Tree) (t : Tree) → Closed S → Near t S → inserted S t ≡ S
inserted_near S (terminal v) c i = refl
inserted_near S (branch f l h) c i =
    let b = c f l h i in
    let el : inserted S l ≡ S = inserted_near S l c b.0 in
    let eh : inserted S h ≡ S = inserted_near S h c b.1 in
    let e : inserted (inserted S l) h ≡ S = ap (λ x. inserted x h) el ∙ eh in
    ap (λ x. once x (branch f l h)) e ∙ once_in S (branch f l h) i

closed_once : (S : List Tree) (f : ℕ) (l h : Tree) → Closed S → Near l S → Near h S → Closed (once S (branch f l h))
closed_once S f l h c nl nh g m i j =
    let G = once_grows S (branch f l h) in
    elim (once_cases S (branch f l h) (branch g m i) j) [
      | inl a ↦ (near_grows m S _ G (c g m i a).0, near_grows i S _ G (c g m i a).1)
      | inr e ↦
          let em : m ≡ l = cc in
          let ei : i ≡ h = cc in
          (near_grows m S _ G (subst (λ x. Near x S) (sym em) nl), near_grows i S _ G (subst (λ x. Near x S) (sym ei) nh))
    ]

pub closed_inserted : (S : List Tree) (t : Tree) → Closed S → Closed (inserted S t)
closed_inserted S (terminal v) c = c
closed_inserted S (branch f l h) c =
    let cl = closed_inserted S l c in
    closed_once (inserted (inserted S l) h) f l h (closed_inserted (inserted S l) h cl)
    (near_grows l (inserted S l) _ (inserted_grows (inserted S l) h) (inserted_has S l)) (inserted_has (inserted S l) h)

pub inserted_sides : (S : List Tree) (k : ℕ) (l h : Tree) → Closed S → length (inserted (inserted S l) h) ≤ length (inserted S (mk k l h))
inserted_sides S k l h c = elim (cases_Bool (same l h)) [
  | inl e ↦
      let q : l ≡ h = same_eq l h e in
      let z : inserted (inserted S l) h ≡ inserted S l = ap (inserted (inserted S l)) (sym q) ∙ inserted_near (inserted S l) l (closed_inserted S l c) (inserted_has S l) in
      let y : mk k l h ≡ l = mk_same k l h q in
      rw (z, y) (omega arith)
  | inr e ↦
      let y : mk k l h ≡ branch k l h = cond-false (same l h) l (branch k l h) e in
      rw y (grows_length _ _ (once_grows (inserted (inserted S l) h) (branch k l h)))
]

pub inserted_side : (S : List Tree) (k : ℕ) (l h : Tree) → Closed S → length (inserted S l) ≤ length (inserted S (mk k l h))
inserted_side S k l h c = omega (arith, inserted_sides S k l h c, grows_length _ _ (inserted_grows (inserted S l) h))
