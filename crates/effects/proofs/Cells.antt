-- The cells of a table.
use Rattle.std.proofs.Common.{◌≡◌, ℕ, zero, suc, ◌+◌, ◌-◌, ◌*◌, ◌/◌, ◌%◌, ◌<◌, ◌≤◌, ◌&&◌, ◌||◌, eqb, ltb, List, [], ◌∷◌, get_or, replicate, set, refl, sym, subst, arith}
use Rattle.std.proofs.lemmas.List.{get_or-replicate}
use Rattle.std.proofs.lemmas.Bool.{lt-ltb, and_from, cond-true}
use Rattle.effects.specs.Cells.{cell, Small, Holds}
use Rattle.effects.specs.Tables.{bit}

-- what a table of codes says of two codes below 16
pub cell_by : {P : ℕ → ℕ → ℕ → Type 0} {t : List ℕ} → Holds P t → (a b : ℕ) → a < 16 → b < 16 → P a b (cell t a b)
cell_by {P = P} {t = t} h a b la lb =
    let here : cell t a b ≡ get_or t (a * 16 + b) 0 = cond-true _ _ _ (and_from (ltb a 16) (ltb b 16) (lt-ltb a 16 la) (lt-ltb b 16 lb)) in
    subst (P a b) (sym here) (h.at a b 0 la lb)

-- a table whose cells are small row by row
pub small_by : (t : List ℕ) → ((a b z : ℕ) → a < 16 → b < 16 → get_or t (a * 16 + b) z < 16) → Small t
small_by t h x lt =
    let row : x / 16 < 16 = omega arith in
    let column : x % 16 < 16 = omega arith in
    let whole : x / 16 * 16 + x % 16 ≡ x = omega arith in
    subst (λ (n : ℕ). get_or t n 0 < 16) whole (h (x / 16) (x % 16) 0 row column)

-- a blank table, and one cell more
pub small_blank : Small (replicate 256 0)
small_blank x l = let e : ◌≡◌ {A = ℕ} (get_or (replicate 256 0) x 0) 0 = get_or-replicate 256 x 0 0 l in omega (arith, e)

pub small_set : (t : List ℕ) (i v x : ℕ) → v < 16 → get_or t x 0 < 16 → get_or (set t i v) x 0 < 16
small_set [] i v x h s = s
small_set (y ∷ ys) zero v zero h s = h
small_set (y ∷ ys) zero v (suc x) h s = s
small_set (y ∷ ys) (suc i) v zero h s = s
small_set (y ∷ ys) (suc i) v (suc x) h s = small_set ys i v x h s

-- the tables of NOT, AND and OR, which are few cells set
pub negated : (a : ℕ) → a ≤ 1 → cell (set (replicate 256 0) 0 1) a a ≡ 1 - a
negated zero h = refl
negated (suc zero) h = refl
negated (suc (suc a)) h = absurd (omega arith)

pub both : (a b : ℕ) → a ≤ 1 → b ≤ 1 → cell (set (replicate 256 0) 17 1) a b ≡ bit (eqb a 1 && eqb b 1)
both zero zero h k = refl
both zero (suc zero) h k = refl
both (suc zero) zero h k = refl
both (suc zero) (suc zero) h k = refl
both (suc (suc a)) b h k = absurd (omega arith)
both zero (suc (suc b)) h k = absurd (omega arith)
both (suc zero) (suc (suc b)) h k = absurd (omega arith)

pub either : (a b : ℕ) → a ≤ 1 → b ≤ 1 → cell (set (set (set (replicate 256 0) 1 1) 16 1) 17 1) a b ≡ bit (eqb a 1 || eqb b 1)
either zero zero h k = refl
either zero (suc zero) h k = refl
either (suc zero) zero h k = refl
either (suc zero) (suc zero) h k = refl
either (suc (suc a)) b h k = absurd (omega arith)
either zero (suc (suc b)) h k = absurd (omega arith)
either (suc zero) (suc (suc b)) h k = absurd (omega arith)
