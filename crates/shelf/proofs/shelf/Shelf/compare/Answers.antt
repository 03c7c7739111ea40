use Rattle.std.proofs.Common.{ℕ, [], get_or, Err, sym, ap, ◌∙◌, subst, subst₂, rules}
use Rattle.std.proofs.lemmas.Result.{err_from_is_err_and}
use Rattle.diagram.specs.Questions.{Breaks}
use Rattle.diagram.specs.Requests.{Witness}
use Rattle.diagram.specs.Stores.{meaning}
use Rattle.shelf.specs.Stands.{Comparing, found_on}
use Rattle.shelf.proofs.Asked.{no_policy, a_policy, compare_first, compare_second, compare_question, compare_ok}
use Rattle.shelf.proofs.Asking.{comparing_is}
use Rattle.shelf.proofs.shelf.Shelf.compare.Goals as goal

pub returns-in_err-one : goal.returns-in_err-one
returns-in_err-one c =
    let s = c.args.self.now in
    let p = err_from_is_err_and c.from_residual.result c.from_residual.ensures.1 in
    let n = no_policy s c.args.first _ c.in_err-one.ensures in
    let w : Comparing s c.args.first c.args.second c.args.question c.from_residual.result =
    subst (Comparing s c.args.first c.args.second c.args.question) (sym (p.1 ∙ ap (λ x. Err x) (p.2 ∙ n.1))) (compare_first s c.args.first c.args.second c.args.question n.0) in
    record { says = w; stands = λ K Q cat u. comparing_is s u _ _ _ _ w; blank = search rules }

pub returns-in_err-other : goal.returns-in_err-other
returns-in_err-other c =
    let s = c.args.self.now in
    let p = err_from_is_err_and c.from_residual-in_err-other.result c.from_residual-in_err-other.ensures.1 in
    let m = a_policy s c.args.first _ c.in_ok-one.ensures in
    let n = no_policy s c.args.second _ c.in_err-other.ensures in
    let w : Comparing s c.args.first c.args.second c.args.question c.from_residual-in_err-other.result =
    subst (Comparing s c.args.first c.args.second c.args.question) (sym (p.1 ∙ ap (λ x. Err x) (p.2 ∙ n.1))) (compare_second s c.args.first c.args.second c.args.question m.0 n.0) in
    record { says = w; stands = λ K Q cat u. comparing_is s u _ _ _ _ w; blank = search rules }

pub returns-then-question-self : goal.returns-then-question-self
returns-then-question-self c =
    let s = c.args.self.now in
    let m = a_policy s c.args.first _ c.in_ok-one.ensures in
    let n = a_policy s c.args.second _ c.in_ok-other.ensures in
    let w = compare_question s c.args.first c.args.second c.args.question m.0 n.0 c.if-question-self.true in
    record { says = w; stands = λ K Q cat u. comparing_is s u _ _ _ _ w; blank = search rules }

pub returns : goal.returns
returns c =
    let s = c.args.self.now in
    let m = a_policy s c.args.first _ c.in_ok-one.ensures in
    let n = a_policy s c.args.second _ c.in_ok-other.ensures in
    let f : found_on s c.args.first c.args.second c.args.question c.witness.result =
    subst₂ (λ (a b : ℕ). Witness 32 (Breaks (get_or s.questions.breaks c.args.question []) (meaning s.store a) (meaning s.store b)) c.witness.result) m.1 n.1 c.witness.ensures.first in
    let w = compare_ok s c.args.first c.args.second c.args.question c.witness.result m.0 n.0 c.if-question-self.false f in
    record { says = w; stands = λ K Q cat u. comparing_is s u _ _ _ _ w; blank = search rules }
