use Rattle.std.proofs.Common.{◌<◌, sym, ◌∙◌, arith, rules}
use Rattle.probing.specs.Kinds.{name_same}
use Rattle.probing.specs.Model.{keys}
use Rattle.shelf.proofs.Facts.{few_names}
use Rattle.shelf.proofs.Upholding.{number_below, keys_room}
use Rattle.shelf.proofs.Spellings.{find_bad, find_good, number_agrees}
use Rattle.shelf.proofs.shelf.Shelf.find.Goals as goal

pub returns-then-not-is_good : goal.returns-then-not-is_good
returns-then-not-is_good c = λ K Q cat u. sym (find_bad cat c.args.name.now (sym c.if-not-is_good.ensures))

pub returns-in_err-number : goal.returns-in_err-number
returns-in_err-number c = λ K Q cat u. c.from_residual.ensures ∙ c.in_err-number.ensures ∙ sym (number_agrees u c.args.name.now) ∙ sym (find_good cat c.args.name.now (sym c.if-not-is_good.ensures))

pub overflow_cast-result : goal.overflow_cast-result
overflow_cast-result c =
    let s = c.args.self.now in
    let b : c.in_ok-number.number < 32 = omega (arith, number_below name_same c.args.name.now 0 (keys s.names) c.in_ok-number.number (sym c.in_ok-number.ensures), keys_room s.names, few_names s) in
    search rules

pub returns : goal.returns
returns c = λ K Q cat u. c.in_ok-number.ensures ∙ sym (number_agrees u c.args.name.now) ∙ sym (find_good cat c.args.name.now (sym c.if-not-is_good.ensures))
