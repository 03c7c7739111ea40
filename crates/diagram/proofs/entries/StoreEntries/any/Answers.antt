use Rattle.std.proofs.lemmas.Result.{err_from_is_err_and}
use Rattle.diagram.proofs.Reading.{gives_taken, gives_full}
use Rattle.diagram.proofs.entries.StoreEntries.any.Goals as goal

pub returns-in_err-any : goal.returns-in_err-any
returns-in_err-any c =
    let p = err_from_is_err_and c.from_residual.result c.from_residual.ensures.1 in
    record { kept = c.any.ensures.later; gives = gives_full c.args.self.now c.any.new.self _ c.from_residual.result p.0 p.1 p.2 c.in_err-any.ensures.gives }

pub returns : goal.returns
returns c = record { kept = c.any.ensures.later; gives = gives_taken c.args.self.now c.any.new.self _ c.in_ok-any.field-0 c.in_ok-any.ensures.gives }
