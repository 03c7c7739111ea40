-- What a store has recorded, and how that moves.
use Rattle.std.proofs.Common.{◌≡◌, ℕ, ◌≤◌, true, false, min, ltb, List, [], ◌∷◌, ◌++◌, map, length, take, Ok, Err, Result, sym, ap, ◌∙◌, subst, arith, length-take, length-take-le, take-take}
use Rattle.std.specs.Result.{OnErr, is_err}
use Rattle.std.proofs.lemmas.Bool.{lt-ltb, le-ltb, true≢false, false≢true}
use Rattle.probing.specs.declared.node.Node.{Node}
use Rattle.diagram.specs.Cofactors.{count}
use Rattle.diagram.specs.Counted.{Same, Each, Exists, Within, Ignores, CofactorOf, Lists}
use Rattle.diagram.specs.Tree.{Tree, says, Neat, tree_of}
use Rattle.diagram.specs.Nodes.{trees, functions, inserted, Begins}
use Rattle.diagram.specs.Building.{Made, Refused, Answer}
use Rattle.diagram.specs.Stores.{nodes, held, slots, Recorded, Means, Later, Unchanged, needed, full, Taken, TooMany, Outcome, Back}
use Rattle.diagram.specs.declared.store.Full.{Full}
use Rattle.diagram.specs.declared.store.Store.{Store}
use Rattle.diagram.proofs.Elements.{each_weaker, some_some}
use Rattle.diagram.proofs.Records.{good}
use Rattle.diagram.proofs.Counts.{count_more, cofactor_same}
use Rattle.diagram.proofs.Fixing.{same_more}
use Rattle.diagram.proofs.Shape.{tree_of_one, tree_of_neat, tree_of_means}
use Rattle.diagram.proofs.Subtrees.{Held, held_inserted, lists_count, lists_inserted}
use Rattle.diagram.proofs.Nodes.{code_inj, trees_held, trees_length, good_front, meant_later, begins_same, begins_length, begins_take}
use Rattle.diagram.specs.Lasting.{held_slots}

take_whole : (xs : List Node) → take (length xs) xs ≡ xs
take_whole xs = begins_same xs

-- what stands in front stays
take_begins : (xs ys : List Node) (k : ℕ) → Begins xs ys → k ≤ length xs → take k ys ≡ take k xs
take_begins xs ys k b h = sym (take-take k (length xs) ys h) ∙ ap (take k) b

pub later_from : (s t : Store) → slots t ≡ slots s → Begins (nodes s) (nodes t) → Later s t
later_from s t e b = record {
  slots = e;
  begins = b;
  means = λ c h r. ap (λ x. says x r) (meant_later (nodes s) (nodes t) b c h);
  recorded = λ k Fs R. record {
    within = omega (arith, R.within, begins_length (nodes s) (nodes t) b);
    lists = subst (λ xs. Lists 32 Fs (functions xs)) (sym (take_begins (nodes s) (nodes t) k b R.within)) R.lists;
  };
}

pub later_unchanged : (s t : Store) → Unchanged s t → Later s t
later_unchanged s t u = later_from s t u.slots (subst (Begins (nodes s)) (sym u.nodes) (begins_same (nodes s)))

-- the number of nodes is the count of what they record, over as many facts as count
pub recorded_count : (s : Store) (k : ℕ) (Fs : List (ℕ → ℕ)) → Recorded s k Fs → k ≡ count 32 Fs
recorded_count s k Fs R =
    let xs : List Node = take k (nodes s) in
    let h : Held 32 (trees xs) = trees_held 32 xs (good_front 32 k (nodes s) R.within (good s)) in
    let e : count 32 Fs ≡ length (trees xs) = lists_count 32 (trees xs) Fs h R.lists in
    omega (arith, e, trees_length xs, length-take-le k (nodes s) R.within)

pub recorded_facts : (s : Store) (k n : ℕ) (Fs : List (ℕ → ℕ)) → Recorded s k Fs → n ≤ 32 → Each (Ignores n) Fs → k ≡ count n Fs
recorded_facts s k n Fs R h w = recorded_count s k Fs R ∙ count_more n 32 h Fs w

-- an empty store has recorded nothing
pub recorded_none : (s : Store) → nodes s ≡ [] → Recorded s 0 []
recorded_none s e = record {
  within = omega arith;
  lists = subst (λ xs. Lists 32 [] (functions (take 0 xs))) (sym e) (record { each = tt; every = λ G i. elim i [ ] });
}

-- one function more: T is its tree
module _ (s t : Store) (F : ℕ → ℕ) (T : Tree) (w : Neat 32 0 T) (m : Same 32 (says T) F) where
  abbrev S : List Tree
  S = trees (nodes s)

  is_tree : T ≡ tree_of 32 F
  is_tree = tree_of_one 32 F T w m

  needs : needed s F ≡ length (inserted S T)
  needs = ap (λ x. length (inserted S x)) (sym is_tree)

  stored : Held 32 S
  stored = trees_held 32 (nodes s) (good s)

  listed : (Fs : List (ℕ → ℕ)) → Recorded s (held s) Fs → Lists 32 (Fs ++ F ∷ []) (map says (inserted S T))
  listed Fs R = lists_inserted 32 S Fs T F stored w m (subst (λ xs. Lists 32 Fs (functions xs)) (take_whole (nodes s)) R.lists)

  counts : (Fs : List (ℕ → ℕ)) → Recorded s (held s) Fs → count 32 (Fs ++ F ∷ []) ≡ length (inserted S T)
  counts Fs R = lists_count 32 (inserted S T) (Fs ++ F ∷ []) (held_inserted 32 S T stored w) (listed Fs R)

  pub taken : slots t ≡ slots s → (c : ℕ) → Made 32 (nodes s) (nodes t) (inserted (trees (nodes s)) T) T c → Taken s F t c
  taken e c d =
      let l : length (inserted S T) ≡ held t = ap length (sym d.held) ∙ trees_length (nodes t) in
      let b : length (inserted S T) ≤ slots s = omega (arith, l, held_slots t, e) in
      record {
        means = record { within = d.within; same = λ r h. ap (λ x. says x r) d.means ∙ m r h };
        fits = le-ltb (slots s) (needed s F) (omega (arith, needs, b));
        grows = record {
          later = later_from s t e d.begins;
          recorded = λ Fs R. record {
            within = omega arith;
            lists = subst (λ xs. Lists 32 (Fs ++ F ∷ []) (functions xs)) (sym (take_whole (nodes t))) (subst (λ X. Lists 32 (Fs ++ F ∷ []) (map says X)) (sym d.held) (listed Fs R));
          };
        };
        count = λ Fs R. (sym l ∙ sym (counts Fs R), omega (arith, counts Fs R, b));
      }

  pub too_many : (ys : List Node) → Refused (slots s) (nodes s) ys (inserted (trees (nodes s)) T) → Unchanged s t → TooMany s F t
  too_many ys r u = record {
    full = lt-ltb (slots s) (needed s F) (omega (arith, needs, r.full));
    same = u;
    count = λ Fs R. omega (arith, counts Fs R, r.full);
  }

  -- what comes of building the tree: it is there, or the store is as it was
  pub built : slots t ≡ slots s → (r : Result ℕ Full) → is_err r ≡ false → Answer 32 (slots s) (nodes s) (nodes t) (inserted (trees (nodes s)) T) T r → Outcome s F t r
  built e (Ok c) o a = taken e c a
  built e (Err x) o a = absurd (true≢false o)

  pub undone : (ys : List Node) → slots t ≡ slots s → nodes t ≡ take (held s) ys → (r : Result ℕ Full) → is_err r ≡ true → Answer 32 (slots s) (nodes s) ys (inserted (trees (nodes s)) T) T r → Outcome s F t r
  undone ys e q (Ok c) o a = absurd (false≢true o)
  undone ys e q (Err x) o a = too_many ys a (record { slots = e; nodes = q ∙ a.begins })

  pub tested_once : slots t ≡ slots s → (r : Result ℕ Full) → Answer 32 (slots s) (nodes s) (nodes t) (inserted (trees (nodes s)) T) T r → OnErr r (nodes t ≡ nodes s) → Outcome s F t r
  tested_once e (Ok c) a q = taken e c a
  tested_once e (Err x) a q = too_many (nodes t) a (record { slots = e; nodes = q })

-- either way the store comes after what it was
pub later_built : (s t : Store) (S : List Tree) (T : Tree) → slots t ≡ slots s → (r : Result ℕ Full) → is_err r ≡ false → Answer 32 (slots s) (nodes s) (nodes t) S T r → Later s t
later_built s t S T e (Ok c) o a = later_from s t e a.begins
later_built s t S T e (Err x) o a = absurd (true≢false o)

pub later_undone : (s t : Store) (ys : List Node) (S : List Tree) (T : Tree) → slots t ≡ slots s → nodes t ≡ take (held s) ys → (r : Result ℕ Full) → is_err r ≡ true → Answer 32 (slots s) (nodes s) ys S T r → Later s t
later_undone s t ys S T e q (Ok c) o a = absurd (false≢true o)
later_undone s t ys S T e q (Err x) o a = later_unchanged s t (record { slots = e; nodes = q ∙ a.begins })

-- what a function needs is the count with its cofactors
pub needed_count : (s : Store) (F : ℕ → ℕ) (Fs : List (ℕ → ℕ)) → Recorded s (held s) Fs → needed s F ≡ count 32 (Fs ++ F ∷ [])
needed_count s F Fs R = sym (counts s s F (tree_of 32 F) (tree_of_neat 32 F) (tree_of_means 32 F) Fs R)

pub full_count : (s : Store) (n : ℕ) (Fs : List (ℕ → ℕ)) (F : ℕ → ℕ) → Recorded s (held s) Fs → n ≤ 32 → Each (Ignores n) (Fs ++ F ∷ []) → full s F ≡ ltb (slots s) (count n (Fs ++ F ∷ []))
full_count s n Fs F R h w = ap (ltb (slots s)) (needed_count s F Fs R ∙ count_more n 32 h (Fs ++ F ∷ []) w)

-- what is recorded goes by the functions alone
pub listed_same : (xs : List Node) (Fs Gs : List (ℕ → ℕ)) → Within 32 Fs Gs → Within 32 Gs Fs → Lists 32 Fs (functions xs) → Lists 32 Gs (functions xs)
listed_same xs Fs Gs v w L = record {
  each = each_weaker (λ G. Exists (λ F. CofactorOf 32 F G) Fs) (λ G. Exists (λ F. CofactorOf 32 F G) Gs) (λ G e. moved Fs Gs v G e) (functions xs) L.each;
  every = λ G e. L.every G (moved Gs Fs w G e);
}
  where
    moved : (Es Hs : List (ℕ → ℕ)) → Within 32 Es Hs → (G : ℕ → ℕ) → Exists (λ F. CofactorOf 32 F G) Es → Exists (λ F. CofactorOf 32 F G) Hs
    moved Es Hs u G e = some_some (λ F. CofactorOf 32 F G) (λ F. CofactorOf 32 F G) (Same 32) (λ E F q p. cofactor_same 32 E F G q p) Es Hs u e

pub recorded_same : (s : Store) (k : ℕ) (Fs Gs : List (ℕ → ℕ)) → Within 32 Fs Gs → Within 32 Gs Fs → Recorded s k Fs → Recorded s k Gs
recorded_same s k Fs Gs v w R = record { within = R.within; lists = listed_same (take k (nodes s)) Fs Gs v w R.lists }

-- what the answer is, as an outcome
pub outcome_later : (s t : Store) (F : ℕ → ℕ) (r : Result ℕ Full) → Outcome s F t r → Later s t
outcome_later s t F (Ok c) d = d.grows.later
outcome_later s t F (Err e) d = later_unchanged s t d.same

pub back_from : (s t : Store) (n : ℕ) → slots t ≡ slots s → nodes t ≡ take n (nodes s) → Back s n t
back_from s t n e q =
    let b : Begins (nodes t) (nodes s) = subst (λ ys. Begins ys (nodes s)) (sym q) (begins_take n (nodes s)) in
    let l : held t ≡ min n (held s) = ap length q ∙ length-take n (nodes s) in
    record {
      slots = e;
      nodes = q;
      means = λ c h r. sym (ap (λ x. says x r) (meant_later (nodes t) (nodes s) b c h));
      recorded = λ k Fs h R. record {
        within = omega (arith, R.within);
        lists = subst (λ xs. Lists 32 Fs (functions xs)) (take_begins (nodes t) (nodes s) k b (omega (arith, R.within))) R.lists;
      };
      restored = λ before lt h. record { slots = e ∙ lt.slots; nodes = q ∙ ap (λ k. take k (nodes s)) h ∙ lt.begins };
    }

-- a function has one code
pub one_code : (s : Store) (n c d : ℕ) (F G : ℕ → ℕ) → n ≤ 32 → Ignores n F → Ignores n G → Means s c F → Means s d G → Same n F G → c ≡ d
one_code s n c d F G h f g mc md e =
    code_inj 32 (nodes s) (good s) c d mc.within md.within (λ q l. mc.same q l ∙ same_more n 32 F G f g e q l ∙ sym (md.same q l))
