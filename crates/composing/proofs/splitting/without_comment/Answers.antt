use Rattle.std.proofs.Common.{◌≤◌, nat_eq, length, take, take_all, sym, ap, ◌∙◌, tests, rules, arith}
use Rattle.std.proofs.lemmas.Iterator.{YieldsList-from_slice}
use Rattle.std.proofs.lemmas.Iterator.Search.{position_from_yields_List}
use Rattle.std.proofs.lemmas.Option.{cond_some}
use Rattle.std.specs.List.{position_or_len}
use Rattle.std.proofs.lemmas.Bool.Decides.{nat_tests}
use Rattle.composing.proofs.splitting.without_comment.Goals as goal

pub returns-in-Some : goal.returns-in-Some
returns-in-Some c =
    let found = position_from_yields_List (λ b. nat_eq b 35) _ _ c.position.result c.position.ensures.ran (YieldsList-from_slice c.args.line.now cc) (λ x b q k. search (rules, tests)) in
    let at = cond_some _ _ _ (sym found ∙ c.in-Some.is) in ap (λ n. take n c.args.line.now) (sym at.1)

pub returns-in-None : goal.returns-in-None
returns-in-None c =
    let found = position_from_yields_List (λ b. nat_eq b 35) _ _ c.position.result c.position.ensures.ran (YieldsList-from_slice c.args.line.now cc) (λ x b q k. search (rules, tests)) in
    let past : length c.args.line.now ≤ position_or_len (λ b. nat_eq b 35) c.args.line.now = grind (arith, nat_tests, sym found ∙ c.in-None.is) in
    sym (take_all _ _ past)
