use Rattle.std.proofs.lemmas.Result.{err_from_is_err_and}
use Rattle.diagram.proofs.Reading.{gives_taken, gives_full}
use Rattle.diagram.proofs.entries.StoreEntries.all.Goals as goal

pub returns-in_err-all : goal.returns-in_err-all
returns-in_err-all c =
    let p = err_from_is_err_and c.from_residual.result c.from_residual.ensures.1 in
    record { kept = c.all.ensures.later; gives = gives_full c.args.self.now c.all.new.self _ c.from_residual.result p.0 p.1 p.2 c.in_err-all.ensures.gives }

pub returns : goal.returns
returns c = record { kept = c.all.ensures.later; gives = gives_taken c.args.self.now c.all.new.self _ c.in_ok-all.field-0 c.in_ok-all.ensures.gives }
