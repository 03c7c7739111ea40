-- The first entries of an array, the last of them on top.
use Rattle.std.proofs.Common.{◌≡◌, ℕ, ◌+◌, ◌-◌, ◌<◌, ◌≤◌, List, [], ◌∷◌, length, take, drop, reverse, set, sym, ap, ◌∙◌, arith, length-drop}
use Rattle.std.proofs.lemmas.List.{reverse-append, length-reverse, take-append-drop, drop_at, take-take, take_more_set, length-take-le}
use Rattle.tape.specs.Entries.{top_first}

-- all but the last n, the last of them first
reverse_front : {A : Type 0} (n : ℕ) (xs : List A) → n ≤ length xs → reverse (take (length xs - n) xs) ≡ drop n (reverse xs)
reverse_front n xs h =
    let m = length xs - n in
    let l : length (reverse (drop m xs)) ≡ n = omega (arith, length-reverse (drop m xs), length-drop m xs) in
    sym (drop_at (reverse (drop m xs)) (reverse (take m xs)) n l) ∙ ap (drop n) (sym (reverse-append (take m xs) (drop m xs)) ∙ ap reverse (take-append-drop m xs))

-- what lies under the top n
under : {A : Type 0} (xs : List A) (d n i : ℕ) → n ≤ d → d ≤ length xs → i ≡ d - n → reverse (take i xs) ≡ drop n (top_first xs d)
under xs d n i h l e =
    let w : length (take d xs) ≡ d = length-take-le d xs l in
    let m : n ≤ length (take d xs) = omega (arith, w) in
    let b : d - n ≤ d = omega arith in
    ap (λ k. reverse (take k xs)) e
    ∙ ap reverse (sym (take-take (d - n) d xs b))
    ∙ ap (λ k. reverse (take (k - n) (take d xs))) (sym w)
    ∙ reverse_front n (take d xs) m

-- what is put in the place of the top n stands on top of what lies under them
pub put_on_top : {A : Type 0} (xs : List A) (d n i : ℕ) (x : A) → n ≤ d → d ≤ length xs → i ≡ d - n → i < length xs → top_first (set xs i x) (i + 1) ≡ x ∷ drop n (top_first xs d)
put_on_top xs d n i x h l e b =
    ap reverse (take_more_set xs i x b)
    ∙ reverse-append (take i xs) (x ∷ [])
    ∙ ap (λ ys. x ∷ ys) (under xs d n i h l e)
