use Rattle.std.proofs.Common.{◌≡◌, ℕ, arith, leb, List, length, get_or, [], ◌∷◌, Bor, Some, None, Option, Ok, sym, ap, ◌∙◌}
use Rattle.std.specs.Option.{option_copied, ok_or}
use Rattle.std.specs.Slice.{IsItemAt}
use Rattle.std.proofs.lemmas.Bool.{cond-true, cond-false, ltb-true, ltb-false, lt-leb, le-leb}
use Rattle.tape.specs.Tape.{first_of}
use Rattle.tape.specs.declared.refusal.Refusal.TheVariants.{NoPolicy}
use Rattle.shelf.specs.Stands.{shaping}
use Rattle.shelf.proofs.shelf.Shelf.root.Goals as goal

-- an item of a list, or the refusal where there is none
item : (xs : List ℕ) (p : ℕ) (o : Option (Bor ℕ)) → IsItemAt xs p o → ok_or (option_copied o) NoPolicy ≡ first_of ((leb (length xs) p, NoPolicy) ∷ []) (get_or xs p 0)
item xs p (Some x) i = ap (λ n. Ok n) (i.4 (omega arith) 0) ∙ sym (cond-false _ _ _ (lt-leb (length xs) p (ltb-true p (length xs) (sym i.0))))
item xs p None i = sym (cond-true _ _ _ (le-leb (length xs) p (ltb-false p (length xs) (sym i.0))))

pub returns : goal.returns
unfolding shaping
returns c =
    c.ok_or.ensures.value ∙ ap (λ o. ok_or o NoPolicy) c.copied.ensures
    ∙ item c.as_slice-roots.result.now c.args.policy c.get.result c.get.ensures.lookup
    ∙ ap (λ (xs : List ℕ). first_of ((leb (length xs) c.args.policy, NoPolicy) ∷ []) (get_or xs c.args.policy 0)) c.as_slice-roots.ensures.value
