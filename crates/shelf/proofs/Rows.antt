-- Rows of commands: their results, one command more, and the facts that make a difference.
use Rattle.std.proofs.Common.{◌≡◌, ℕ, ◌%◌, ◌^◌, ◌<◌, ◌≤◌, Bool, true, false, not, ◌||◌, eqb, List, [], ◌∷◌, ◌++◌, length, get_or, drop, sym, refl, ap, ◌∙◌, subst, inl, inr, append_assoc, mod-eq_of_lt, arith}
use lib.Bits.{bit_and, and_mod, and_le_l}
use Rattle.std.proofs.lemmas.Bool.{leb-false, false≢true}
use Rattle.effects.specs.Codes.{Codes}
use Rattle.effects.specs.Tables.{bit}
use Rattle.tape.specs.Entries.{Sound}
use Rattle.tape.specs.Tape.{Row, takes, leaves, means, values, result, kinds, is_end, ended, undeclared}
use Rattle.tape.specs.declared.command.Command.{Command}
use Rattle.tape.specs.declared.command.Command.TheVariants.{Has, Any, All, Not, And, Or, State, Scope, Fail, Join, End}
use Rattle.tape.specs.declared.command.Kind.{Kind}
use Rattle.tape.specs.declared.command.Kind.TheVariants.{Policy}
use Rattle.tape.proofs.Stepping.{values_more, kinds_more, ended_more}
use Rattle.diagram.specs.Counted.{Same, Ignores, Exists}
use Rattle.diagram.proofs.Fixing.{mod_mod_pow}
use Rattle.diagram.proofs.Requests.{present_mod}
use Rattle.shelf.specs.Catalogue.{results, results_from}
use Rattle.shelf.specs.Upholds.{Settled, Fed}

-- facts beyond a mask's make no difference to what it has of a request
and_below : (n m q : ℕ) → m < 2 ^ n → bit_and m q ≡ bit_and m (q % 2 ^ n)
and_below n m q h =
    let small : bit_and m q < 2 ^ n = omega (arith, and_le_l m q, h) in
    sym (mod-eq_of_lt small) ∙ and_mod m q n ∙ ap (λ k. bit_and k (q % 2 ^ n)) (mod-eq_of_lt h)

means_mod : (K : Codes) (n : ℕ) (x : Command) (q top under : ℕ) → undeclared n x ≡ false → means K q x top under ≡ means K (q % 2 ^ n) x top under
means_mod K n (Has f) q top under u = ap bit (present_mod n f q (leb-false n f u))
means_mod K n (Any m) q top under u = ap (λ k. bit (not (eqb k 0))) (and_below n m q (leb-false (2 ^ n) m u))
means_mod K n (All m) q top under u = ap (λ k. bit (eqb k m)) (and_below n m q (leb-false (2 ^ n) m u))
means_mod K n Not q top under u = refl
means_mod K n And q top under u = refl
means_mod K n Or q top under u = refl
means_mod K n (State e) q top under u = refl
means_mod K n Scope q top under u = refl
means_mod K n Fail q top under u = refl
means_mod K n (Join k) q top under u = refl
means_mod K n End q top under u = refl

pub settled_none : (K : Codes) (n : ℕ) → Settled K n []
unfolding values
settled_none K n q = refl

pub settled_more : (K : Codes) (n : ℕ) (row : Row) (x : Command) → undeclared n x ≡ false → Settled K n row → Settled K n (row ++ x ∷ [])
settled_more K n row x u s q =
    values_more K row x q
    ∙ ap (λ v. v ∷ drop (length (takes x)) (values K row q)) (means_mod K n x q _ _ u)
    ∙ ap (λ (vs : List ℕ). means K (q % 2 ^ n) x (get_or vs 0 0) (get_or vs 1 0) ∷ drop (length (takes x)) vs) (s q)
    ∙ sym (values_more K row x (q % 2 ^ n))

pub settled_facts : (K : Codes) (n m : ℕ) (row : Row) → n ≤ m → Settled K n row → Settled K m row
settled_facts K n m row h s q = s q ∙ ap (values K row) (sym (mod_mod_pow n m q h)) ∙ sym (s (q % 2 ^ m))

pub settled_result : (K : Codes) (n : ℕ) (row : Row) → Settled K n row → Ignores n (λ q. result K row q)
settled_result K n row s q = ap (λ (vs : List ℕ). get_or vs 0 0) (s q)

-- the results of one command more
from_more : (K : Codes) (done row : Row) (x : Command) → results_from K done (row ++ x ∷ []) ≡ results_from K done row ++ (λ q. result K (done ++ (row ++ x ∷ [])) q) ∷ []
from_more K done [] x = refl
from_more K done (y ∷ row) x =
    ap (λ Fs. (λ q. result K (done ++ y ∷ []) q) ∷ Fs)
    (from_more K (done ++ y ∷ []) row x ∙ ap (λ (z : Row). results_from K (done ++ y ∷ []) row ++ (λ q. result K z q) ∷ []) (append_assoc done (y ∷ []) (row ++ x ∷ [])))

pub results_more : (K : Codes) (row : Row) (x : Command) → results K (row ++ x ∷ []) ≡ results K row ++ (λ q. result K (row ++ x ∷ []) q) ∷ []
unfolding results
results_more K row x = from_more K [] row x

pub results_none : (K : Codes) → results K [] ≡ []
unfolding results
results_none K = refl

-- the last result is among the results
last_from : (K : Codes) (n : ℕ) (done : Row) (x : Command) (xs : Row) → Exists (λ G. Same n (λ q. result K (done ++ x ∷ xs) q) G) (results_from K done (x ∷ xs))
last_from K n done x [] = inl (λ r h. refl)
last_from K n done x (y ∷ ys) =
    inr (subst (λ (z : Row). Exists (λ G. Same n (λ q. result K z q) G) (results_from K (done ++ x ∷ []) (y ∷ ys))) (append_assoc done (x ∷ []) (y ∷ ys)) (last_from K n (done ++ x ∷ []) y ys))

pub last_result : (K : Codes) (n : ℕ) (row : Row) → length (kinds row) ≡ 1 → Exists (λ G. Same n (λ q. result K row q) G) (results K row)
unfolding results kinds
last_result K n [] h = absurd (omega arith)
last_result K n (x ∷ xs) h = last_from K n [] x xs

-- END leaves what it finds
pub end_result : (K : Codes) (row : Row) (x : Command) → is_end x ≡ true → (q : ℕ) → result K (row ++ x ∷ []) q ≡ result K row q
end_result K row x e q = ap (λ (vs : List ℕ). get_or vs 0 0) (values_more K row x q) ∙ by x e
  where
    by : (x : Command) → is_end x ≡ true → means K q x (get_or (values K row q) 0 0) (get_or (values K row q) 1 0) ≡ get_or (values K row q) 0 0
    by (Has f) e = absurd (false≢true e)
    by (Any m) e = absurd (false≢true e)
    by (All m) e = absurd (false≢true e)
    by Not e = absurd (false≢true e)
    by And e = absurd (false≢true e)
    by Or e = absurd (false≢true e)
    by (State c) e = absurd (false≢true e)
    by Scope e = absurd (false≢true e)
    by Fail e = absurd (false≢true e)
    by (Join k) e = absurd (false≢true e)
    by End e = refl

-- and it is a policy, so it means an effect's code
policy_below : (K : Codes) (ks ls : List Kind) (vs : List ℕ) → ks ≡ Policy ∷ ls → Sound K ks vs → get_or vs 0 0 < K.count
policy_below K ks ls vs e s = by vs (subst (λ (z : List Kind). Sound K z vs) e s)
  where
    by : (vs : List ℕ) → Sound K (Policy ∷ ls) vs → get_or vs 0 0 < K.count
    by [] s = absurd s
    by (v ∷ vs) s = s.0

end_kinds : (row : Row) (x : Command) → is_end x ≡ true → kinds (row ++ x ∷ []) ≡ Policy ∷ drop (length (takes x)) (kinds row)
end_kinds row x e = kinds_more row x ∙ ap (λ k. k ∷ drop (length (takes x)) (kinds row)) (by x e)
  where
    by : (x : Command) → is_end x ≡ true → leaves x ≡ Policy
    by (Has f) e = absurd (false≢true e)
    by (Any m) e = absurd (false≢true e)
    by (All m) e = absurd (false≢true e)
    by Not e = absurd (false≢true e)
    by And e = absurd (false≢true e)
    by Or e = absurd (false≢true e)
    by (State c) e = refl
    by Scope e = refl
    by Fail e = refl
    by (Join k) e = refl
    by End e = refl

pub fed_none : (K : Codes) (n : ℕ) → Fed K n []
unfolding ended
fed_none K n = record { settled = settled_none K n; finished = λ e. absurd (false≢true e) }

-- one command more, which no END stands before
pub fed_more : (K : Codes) (n : ℕ) (row : Row) (x : Command) → undeclared n x ≡ false → ended row ≡ false → ((q : ℕ) → Sound K (kinds (row ++ x ∷ [])) (values K (row ++ x ∷ []) q)) → Fed K n row → Fed K n (row ++ x ∷ [])
fed_more K n row x u o s f = record {
  settled = settled_more K n row x u f.settled;
  finished = λ e q. by (is_end x) refl (sym (ended_more row x) ∙ e) q;
}
  where
    by : (b : Bool) → is_end x ≡ b → (b || ended row) ≡ true → (q : ℕ) → result K (row ++ x ∷ []) q < K.count
    by true p e q = policy_below K _ _ (values K (row ++ x ∷ []) q) (end_kinds row x p) (s q)
    by false p e q = absurd (false≢true (sym o ∙ e))

pub fed_facts : (K : Codes) (n m : ℕ) (row : Row) → n ≤ m → Fed K n row → Fed K m row
fed_facts K n m row h f = record { settled = settled_facts K n m row h f.settled; finished = f.finished }
