-- The cofactors of the function of a tree are the functions of the tests in it.
use Rattle.std.proofs.Common.{◌≡◌, ℕ, suc, ◌<◌, ◌≤◌, Bool, true, false, cond, eqb, ltb, ◌⊎◌, List, [], ◌∷◌, ◌++◌, map, length, sym, refl, ap, ◌∙◌, subst, inl, inr, zero-add, arith}
use mathlib.Core.List.{map-append}
use lib.ListN.{length-map}
use Rattle.std.proofs.lemmas.Bool.{cases_lt, cond-true, cond-false, lt-ltb, le-ltb, eq-eqb, ne_eqb, cases_Bool, both_ways}
use Rattle.diagram.specs.Tree.{Tree, at, says, Neat, put}
use Rattle.diagram.specs.Tree.Tree.{terminal, branch}
use Rattle.diagram.specs.Nodes.{In, holds, once, inserted}
use Rattle.diagram.specs.Requests.{present, pack}
use Rattle.diagram.specs.Cofactors.{fixing, count}
use Rattle.diagram.proofs.Elements.{each_map, each_in, in_each, each_append, in_some, some_map, some_left, some_right, some_cases, map_in}
use Rattle.diagram.proofs.Counts.{counted_count, cofactor_same, apart_map}
use Rattle.diagram.specs.Counted.{Same, Constant, CofactorOf, Exists, Apart, Lists}
use Rattle.diagram.proofs.Canon.{at_later, canon}
use Rattle.diagram.proofs.Applied.{neat_less}
use Rattle.diagram.proofs.Inserted.{inserted_grows, inserted_has, closed_inserted, Closed, Near, once_cases, in_holds}
use Rattle.diagram.proofs.Requests.{pack_lt, pack_present, fixing_below, fixing_from}

-- canonicity over masks: two trees that agree at each request over n facts are the same
pub canon_masks : (n : ℕ) (t u : Tree) → Neat n 0 t → Neat n 0 u → Same n (says t) (says u) → t ≡ u
canon_masks n t u wt wu s = canon n n 0 (sym (zero-add n)) t u wt wu (λ p.
    let r : ℕ = pack n p in
    at_later n 0 t wt p (present r) (λ f _ h. sym (pack_present n p f h)) ∙ s r (pack_lt n p) ∙ sym (at_later n 0 u wu p (present r) (λ f _ h. sym (pack_present n p f h))))

-- s stands in t
pub data Sub (s : Tree) : Tree → Type 0 where
  here : Sub s s
  left : {f : ℕ} {l h : Tree} → Sub s l → Sub s (branch f l h)
  right : {f : ℕ} {l h : Tree} → Sub s h → Sub s (branch f l h)

pub sub_neat : (n : ℕ) {s t : Tree} → Sub s t → Neat n 0 t → Neat n 0 s
sub_neat n here w = w
sub_neat n (left {f = f} {l = l} i) w = sub_neat n i (neat_less n 0 (suc f) l (omega arith) w.2)
sub_neat n (right {f = f} {h = h} i) w = sub_neat n i (neat_less n 0 (suc f) h (omega arith) w.3)

-- what is left of a tree once the facts below j are fixed as p has them
abbrev rest : ℕ → (ℕ → Bool) → Tree → Tree
rest j p (terminal v) = terminal v
rest j p (branch f l h) = cond (ltb f j) (cond (p f) (rest j p h) (rest j p l)) (branch f l h)

rest_sub : (j : ℕ) (p : ℕ → Bool) (t : Tree) → Sub (rest j p t) t
rest_sub j p (terminal v) = here
rest_sub j p (branch f l h) = go (ltb f j) (p f) (rest_sub j p l) (rest_sub j p h)
  where
    go : (a b : Bool) → Sub (rest j p l) l → Sub (rest j p h) h → Sub (cond a (cond b (rest j p h) (rest j p l)) (branch f l h)) (branch f l h)
    go true true x y = right y
    go true false x y = left x
    go false b x y = here

rest_at : (n k j : ℕ) (p q s : ℕ → Bool) (t : Tree) → Neat n k t → ((f : ℕ) → f < j → s f ≡ p f) → ((f : ℕ) → j ≤ f → s f ≡ q f) → at (rest j p t) q ≡ at t s
rest_at n k j p q s (terminal v) w a b = refl
rest_at n k j p q s (branch f l h) w a b =
    let il = rest_at n (suc f) j p q s l w.2 a b in
    let ih = rest_at n (suc f) j p q s h w.3 a b in
    elim (cases_lt f j) [
      | inl lt ↦
          ap (λ x. at x q) (cond-true (ltb f j) _ _ (lt-ltb f j lt)) ∙ elim (cases_Bool (p f)) [
            | inl e ↦ ap (λ x. at x q) (cond-true (p f) _ _ e) ∙ ih ∙ sym (cond-true (s f) _ _ (a f lt ∙ e))
            | inr e ↦ ap (λ x. at x q) (cond-false (p f) _ _ e) ∙ il ∙ sym (cond-false (s f) _ _ (a f lt ∙ e))
          ]
      | inr le ↦
          ap (λ x. at x q) (cond-false (ltb f j) _ _ (le-ltb f j le))
          ∙ at_later n f (branch f l h) (omega arith, w.1, w.2, w.3, w.4) q s (λ g ge _. sym (b g (omega arith)))
    ]

abbrev pub Branch : Tree → Type 0
Branch (terminal v) = ⊥
Branch (branch f l h) = Unit {0}

-- a test that stands in t comes after the first that t may have
sub_later : (n g : ℕ) (a b : Tree) (k : ℕ) {t : Tree} → Sub (branch g a b) t → Neat n k t → (k ≤ g) × Neat n g (branch g a b)
sub_later n g a b k here w = (w.0, (omega arith, w.1, w.2, w.3, w.4))
sub_later n g a b k (left {f = f} i) w = let r = sub_later n g a b (suc f) i w.2 in (omega (arith, r.0, w.0), r.1)
sub_later n g a b k (right {f = f} i) w = let r = sub_later n g a b (suc f) i w.3 in (omega (arith, r.0, w.0), r.1)

-- how to come to it: facts that are fixed in some way
abbrev Way : ℕ → ℕ → Tree → Tree → Type 0
Way k g u t = (p : ℕ → Bool) × ((q s : ℕ → Bool) → ((f : ℕ) → k ≤ f → f < g → s f ≡ p f) → ((f : ℕ) → g ≤ f → s f ≡ q f) → at u q ≡ at t s)

put_after : (p : ℕ → Bool) (k : ℕ) (b : Bool) (f : ℕ) → suc k ≤ f → put p k b f ≡ p f
put_after p k b f h = cond-false (eqb f k) b (p f) (ne_eqb f k (omega arith))

put_at : (p : ℕ → Bool) (k : ℕ) (b : Bool) → put p k b k ≡ b
put_at p k b = cond-true (eqb k k) b (p k) (eq-eqb k k refl)

way : (n g : ℕ) (a b : Tree) (k : ℕ) {t : Tree} → Sub (branch g a b) t → Neat n k t → Way k g (branch g a b) t
way n g a b k here w = ((λ _. false), λ q s e o. at_later n g (branch g a b) (omega arith, w.1, w.2, w.3, w.4) q s (λ f h _. sym (o f h)))
way n g a b k (left {f = f} {l = l} {h = h} i) w =
    let z = sub_later n g a b (suc f) i w.2 in
    let r = way n g a b (suc f) i w.2 in (
      put r.0 f false,
      λ q s e o.
          r.1 q s (λ x hx lx. e x (omega (arith, w.0)) lx ∙ put_after r.0 f false x hx) o
          ∙ sym (cond-false (s f) (at h s) (at l s) (e f w.0 (omega (arith, z.0)) ∙ put_at r.0 f false)),
    )
way n g a b k (right {f = f} {l = l} {h = h} i) w =
    let z = sub_later n g a b (suc f) i w.3 in
    let r = way n g a b (suc f) i w.3 in (
      put r.0 f true,
      λ q s e o.
          r.1 q s (λ x hx lx. e x (omega (arith, w.0)) lx ∙ put_after r.0 f true x hx) o
          ∙ sym (cond-true (s f) (at h s) (at l s) (e f w.0 (omega (arith, z.0)) ∙ put_at r.0 f true)),
    )

branch_varies : (n f : ℕ) (l h : Tree) → Neat n 0 (branch f l h) → Constant n (says (branch f l h)) → ⊥
branch_varies n f l h w c =
    let e : branch f l h ≡ terminal (says (branch f l h) (pack n (λ _. false))) =
    canon_masks n (branch f l h) (terminal (says (branch f l h) (pack n (λ _. false)))) w tt (λ r b. c r (pack n (λ _. false)) b (pack_lt n (λ _. false))) in
    let z : ◌≡◌ {A = ℕ} 0 1 = cc in omega arith

-- each test in a tree is a cofactor of its function
pub sub_cofactor : (n : ℕ) (s t : Tree) → Branch s → Sub s t → Neat n 0 t → CofactorOf n (says t) (says s)
sub_cofactor n (terminal v) t k i w = elim k [ ]
sub_cofactor n (branch g a b) t k i w =
    let d = way n g a b 0 i w in
    let z = sub_later n g a b 0 i w in
    let p : ℕ → Bool = d.0 in
    record {
      j = g;
      way = pack n p;
      upto = omega (arith, z.1.1);
      is = λ r h. d.1 (present r) (present (fixing g (pack n p) r))
          (λ f _ lf. fixing_below g (pack n p) r f lf ∙ pack_present n p f (omega (arith, z.1.1)))
          (λ f gf. fixing_from g (pack n p) r f gf);
      varies = branch_varies n g a b (sub_neat n i w);
    }

-- each cofactor of the function of a tree is that of a test in it
pub cofactor_sub : (n : ℕ) (t : Tree) (G : ℕ → ℕ) → Neat n 0 t → CofactorOf n (says t) G → (s : Tree) × Branch s × Sub s t × Same n G (says s)
cofactor_sub n t G w p = go (rest p.j (present p.way) t) (rest_sub p.j (present p.way) t) eq
  where
    eq : Same n G (says (rest p.j (present p.way) t))
    eq r h = p.is r h ∙ sym (rest_at n 0 p.j (present p.way) (present r) (present (fixing p.j p.way r)) t w
        (λ f lf. fixing_below p.j p.way r f lf) (λ f gf. fixing_from p.j p.way r f gf))

    go : (s : Tree) → Sub s t → Same n G (says s) → (s : Tree) × Branch s × Sub s t × Same n G (says s)
    go (terminal v) i e = absurd (p.varies (λ r s a b. e r a ∙ sym (e s b)))
    go (branch f l h) i e = (branch f l h, tt, i, e)

-- what `inserted` holds

pub sub_near : (S : List Tree) {s t : Tree} → Sub s t → Closed S → Near t S → Near s S
sub_near S here c x = x
sub_near S (left {f = f} {l = l} {h = h} i) c x = sub_near S i c (c f l h x).0
sub_near S (right {f = f} {l = l} {h = h} i) c x = sub_near S i c (c f l h x).1

pub inserted_cases : (S : List Tree) (t s : Tree) → In s (inserted S t) → In s S ⊎ (Branch s × Sub s t)
inserted_cases S (terminal v) s i = inl i
inserted_cases S (branch f l h) s i = elim (once_cases (inserted (inserted S l) h) (branch f l h) s i) [
  | inl a ↦ elim (inserted_cases (inserted S l) h s a) [
    | inl b ↦ elim (inserted_cases S l s b) [ inl c ↦ inl c | inr c ↦ inr (c.0, left c.1) ]
    | inr b ↦ inr (b.0, right b.1)
  ]
  | inr e ↦ inr (subst Branch (sym e) tt, subst (λ x. Sub x (branch f l h)) (sym e) here)
]

once_apart : (S : List Tree) (t : Tree) → Apart ◌≡◌ S → Apart ◌≡◌ (once S t)
once_apart S t a = elim (cases_Bool (holds S t)) [
  | inl e ↦ subst (Apart ◌≡◌) (sym (cond-true (holds S t) S (S ++ (t ∷ [])) e)) a
  | inr e ↦ subst (Apart ◌≡◌) (sym (cond-false (holds S t) S (S ++ (t ∷ [])) e)) (snoc S a (λ i. both_ways (holds S t) e (in_holds S t i)))
]
  where
    snoc : (S : List Tree) → Apart ◌≡◌ S → (In t S → ⊥) → Apart ◌≡◌ (S ++ (t ∷ []))
    snoc [] a o = (tt, tt)
    snoc (x ∷ xs) a o = (each_append (λ y. x ≡ y → ⊥) xs (t ∷ []) a.0 ((λ e. o (inl e)), tt), snoc xs a.1 (λ i. o (inr i)))

inserted_apart : (S : List Tree) (t : Tree) → Apart ◌≡◌ S → Apart ◌≡◌ (inserted S t)
inserted_apart S (terminal v) a = a
inserted_apart S (branch f l h) a = once_apart (inserted (inserted S l) h) (branch f l h) (inserted_apart (inserted S l) h (inserted_apart S l a))

near_in : (S : List Tree) (s : Tree) → Branch s → Near s S → In s S
near_in S (terminal v) k x = elim k [ ]
near_in S (branch f l h) k x = x

-- trees as a store holds them: tests, ordered and reduced, with what follows each, and each once
pub record Held (n : ℕ) (S : List Tree) : Type 0 where
  pub tests : (s : Tree) → In s S → Branch s
  pub neat : (s : Tree) → In s S → Neat n 0 s
  pub closed : Closed S
  pub apart : Apart ◌≡◌ S

pub held_inserted : (n : ℕ) (S : List Tree) (t : Tree) → Held n S → Neat n 0 t → Held n (inserted S t)
held_inserted n S t h w = record {
  tests = λ s i. elim (inserted_cases S t s i) [ inl a ↦ h.tests s a | inr b ↦ b.0 ];
  neat = λ s i. elim (inserted_cases S t s i) [ inl a ↦ h.neat s a | inr b ↦ sub_neat n b.1 w ];
  closed = closed_inserted S t h.closed;
  apart = inserted_apart S t h.apart;
}

-- where their functions are the cofactors of Fs, there are as many as the count says
pub lists_count : (n : ℕ) (S : List Tree) (Fs : List (ℕ → ℕ)) → Held n S → Lists n Fs (map says S) → count n Fs ≡ length S
lists_count n S Fs h l = counted_count n Fs (length S) (record {
  listed = map says S;
  count = length-map S says;
  each = l.each;
  every = l.every;
  apart = apart_map ◌≡◌ (Same n) says S (λ s t i j e. canon_masks n s t (h.neat s i) (h.neat t j) e) h.apart;
})

-- with the tree of one function more, they are the cofactors with its own
pub lists_inserted : (n : ℕ) (S : List Tree) (Fs : List (ℕ → ℕ)) (t : Tree) (F : ℕ → ℕ) → Held n S → Neat n 0 t → Same n (says t) F
    → Lists n Fs (map says S) → Lists n (Fs ++ F ∷ []) (map says (inserted S t))
lists_inserted n S Fs t F h w m l = record {
  each = each_map (λ G. Exists (λ E. CofactorOf n E G) (Fs ++ F ∷ [])) says (inserted S t) (each_in (λ s. Exists (λ E. CofactorOf n E (says s)) (Fs ++ F ∷ [])) (inserted S t) (λ s i. elim (inserted_cases S t s i) [
    | inl a ↦ some_left (λ E. CofactorOf n E (says s)) Fs (F ∷ []) (in_each (λ G. Exists (λ E. CofactorOf n E G) Fs) (map says S) (says s) l.each (map_in says S (says s) (in_some (λ x. says x ≡ says s) S s a refl)))
    | inr b ↦ some_right (λ E. CofactorOf n E (says s)) Fs (F ∷ []) (inl (cofactor_same n (says t) F (says s) m (sub_cofactor n s t b.0 b.1 w)))
  ]));
  every = λ G e. elim (some_cases (λ E. CofactorOf n E G) Fs (F ∷ []) e) [
    | inl a ↦ older G (l.every G a)
    | inr b ↦ elim b [ inl p ↦ newer G p | inr z ↦ absurd z ]
  ];
}
  where
    older : (G : ℕ → ℕ) → Exists (λ H. Same n G H) (map says S) → Exists (λ H. Same n G H) (map says (inserted S t))
    older G e =
        let g = inserted_grows S t in
        subst (λ X. Exists (λ H. Same n G H) (map says X)) (sym g.is)
        (subst (Exists (λ H. Same n G H)) (sym (map-append says S g.rest)) (some_left (λ H. Same n G H) (map says S) (map says g.rest) e))

    newer : (G : ℕ → ℕ) → CofactorOf n F G → Exists (λ H. Same n G H) (map says (inserted S t))
    newer G p =
        let r = cofactor_sub n t G w (cofactor_same n F (says t) G (λ q b. sym (m q b)) p) in
        some_map (λ H. Same n G H) says (inserted S t) (in_some (λ s. Same n G (says s)) (inserted S t) r.0
        (near_in (inserted S t) r.0 r.1 (sub_near (inserted S t) r.2 (closed_inserted S t h.closed) (inserted_has S t))) r.3)
