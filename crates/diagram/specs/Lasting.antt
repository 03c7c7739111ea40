-- What the store owes as a reader of tapes: what was meant still is, and a constant takes no slot.
use Rattle.std.specs.Prelude.{◌≡◌, ℕ, zero, suc, ◌+◌, ◌≤◌, false, ◌⊎◌, List, [], ◌∷◌, ◌++◌, length, take, refl}
use Rattle.std.proofs.Common.{sym, ap, ◌∙◌, inl, inr, arith, add-zero, zero-add, length-append, length-take, take-take}
use Rattle.std.proofs.lemmas.List.{take_all, length-map}
use Rattle.std.proofs.lemmas.Bool.{le-ltb, eq-eqb, cond-true}
use Rattle.probing.specs.Table.{stored}
use Rattle.probing.specs.declared.Slot.{Slot}
use Rattle.probing.specs.declared.node.Node.{Node}
use Rattle.tape.specs.Entries.{Lasts}
use Rattle.diagram.specs.Counted.{Each, Exists, CofactorOf, Lists}
use Rattle.diagram.specs.Tree.{Tree, same, mk, shape, tree_of}
use Rattle.diagram.specs.Tree.Tree.{terminal, branch}
use Rattle.diagram.specs.Nodes.{branch_of, grow, trees, functions, inserted, Begins}
use Rattle.diagram.specs.Stores.{nodes, held, slots, needed, full, Means, Later, Grows}
use Rattle.diagram.specs.Entries.{store_model}
use Rattle.diagram.specs.declared.store.Store.{Store}

-- lists with one element of which something holds, and lists of each of which it holds

pub some_left : {A : Type 0} (P : A → Type 0) (xs ys : List A) → Exists P xs → Exists P (xs ++ ys)
some_left P [] ys i = elim i [ ]
some_left P (x ∷ xs) ys (inl p) = inl p
some_left P (x ∷ xs) ys (inr i) = inr (some_left P xs ys i)

pub some_cases : {A : Type 0} (P : A → Type 0) (xs ys : List A) → Exists P (xs ++ ys) → Exists P xs ⊎ Exists P ys
some_cases P [] ys i = inr i
some_cases P (x ∷ xs) ys (inl p) = inl (inl p)
some_cases P (x ∷ xs) ys (inr i) = elim (some_cases P xs ys i) [ inl a ↦ inl (inr a) | inr b ↦ inr b ]

pub each_weaker : {A : Type 0} (P Q : A → Type 0) → ((x : A) → P x → Q x) → (xs : List A) → Each P xs → Each Q xs
each_weaker P Q g [] p = tt
each_weaker P Q g (x ∷ xs) p = (g x p.0, each_weaker P Q g xs p.1)

-- a row has as many trees as nodes, and a store no more nodes than slots

pub grow_length : (S : List Tree) (xs : List Node) → length (grow S xs) ≡ length S + length xs
grow_length S [] = sym (add-zero (length S))
grow_length S (x ∷ xs) = grow_length (S ++ (branch_of S x ∷ [])) xs ∙ simp length-append (omega arith)

pub trees_length : (xs : List Node) → length (trees xs) ≡ length xs
trees_length xs = grow_length [] xs ∙ zero-add (length xs)

pub held_slots : (s : Store) → held s ≤ slots s
held_slots s =
    let ss : List (Slot Node) = s.unique.slots.now in
    omega (arith, length-take s.unique.count (stored ss), length-map ss (λ (x : Slot Node). x.key))

-- rows that begin with others

pub begins_same : (xs : List Node) → Begins xs xs
begins_same xs = take_all (length xs) xs (omega arith)

pub begins_length : (xs ys : List Node) → Begins xs ys → length xs ≤ length ys
begins_length xs ys b = omega (arith, length-take (length xs) ys, ap length b)

pub begins_trans : (xs ys zs : List Node) → Begins xs ys → Begins ys zs → Begins xs zs
begins_trans xs ys zs a b = sym (take-take (length xs) (length ys) zs (begins_length xs ys a)) ∙ ap (take (length xs)) b ∙ a

-- stores that come after others

pub later_same : (s : Store) → Later s s
later_same s = record { slots = refl; begins = begins_same (nodes s); means = λ c h r. refl; recorded = λ k Fs R. R }

pub later_chain : (s t u : Store) → Later s t → Later t u → Later s u
later_chain s t u a b = record {
  slots = b.slots ∙ a.slots;
  begins = begins_trans (nodes s) (nodes t) (nodes u) a.begins b.begins;
  means = λ c h r. b.means c (omega (arith, h, begins_length (nodes s) (nodes t) a.begins)) r ∙ a.means c h r;
  recorded = λ k Fs R. b.recorded k Fs (a.recorded k Fs R);
}

pub means_later : (s t : Store) (c : ℕ) (F : ℕ → ℕ) → Later s t → Means s c F → Means t c F
means_later s t c F l m = record {
  within = omega (arith, m.within, begins_length (nodes s) (nodes t) l.begins);
  same = λ r h. l.means c m.within r ∙ m.same r h;
}

-- a constant has no cofactor that is not constant

lists_constant : (n c : ℕ) (Fs Gs : List (ℕ → ℕ)) → Lists n Fs Gs → Lists n (Fs ++ (λ _. c) ∷ []) Gs
lists_constant n c Fs Gs l = record {
  each = each_weaker (λ G. Exists (λ F. CofactorOf n F G) Fs) (λ G. Exists (λ F. CofactorOf n F G) (Fs ++ (λ _. c) ∷ [])) (λ G e. some_left (λ F. CofactorOf n F G) Fs ((λ _. c) ∷ []) e) Gs l.each;
  every = λ G e. elim (some_cases (λ F. CofactorOf n F G) Fs ((λ _. c) ∷ []) e) [
    | inl a ↦ l.every G a
    | inr b ↦ elim b [ inl p ↦ absurd (p.varies (λ r s hr hs. p.is r hr ∙ sym (p.is s hs))) | inr z ↦ absurd z ]
  ];
}

grows_constant : (s : Store) (c : ℕ) → Grows s (λ _. c) s
grows_constant s c = record {
  later = later_same s;
  recorded = λ Fs R. record { within = R.within; lists = lists_constant 32 c Fs (functions (take (held s) (nodes s))) R.lists };
}

-- and its tree is a terminal

shape_constant : (c m k : ℕ) → shape m k (λ _. c) ≡ terminal c
unfolding shape
shape_constant c zero k = refl
shape_constant c (suc m) k = ap (λ t. mk k t t) (shape_constant c m (suc k)) ∙ cond-true (same (terminal c) (terminal c)) (terminal c) (branch k (terminal c) (terminal c)) (eq-eqb c c refl)

constant_tree : (n c : ℕ) → tree_of n (λ _. c) ≡ terminal c
unfolding tree_of
constant_tree n c = shape_constant c n 0

free_constant : (s : Store) (c : ℕ) → full s (λ _. c) ≡ false
free_constant s c =
    let l : needed s (λ _. c) ≡ held s = ap (λ t. length (inserted (trees (nodes s)) t)) (constant_tree 32 c) ∙ trees_length (nodes s) in
    le-ltb (slots s) (needed s (λ _. c)) (omega (arith, l, held_slots s))

-- all that a reader owes
pub store_lasts : Lasts store_model
store_lasts = record {
  still = λ s. record { slots = refl; nodes = refl };
  constant = λ s c _. grows_constant s c;
  free = λ s c _. free_constant s c;
  same = later_same;
  chain = later_chain;
  keeps = means_later;
}
