use Rattle.std.proofs.lemmas.Result.{err_from_is_err_and}
use Rattle.diagram.proofs.Reading.{gives_taken, gives_full}
use Rattle.diagram.proofs.entries.StoreEntries.apply.Goals as goal

pub returns-in_err-apply : goal.returns-in_err-apply
returns-in_err-apply c =
    let p = err_from_is_err_and c.from_residual.result c.from_residual.ensures.1 in
    record {
      kept = c.apply.ensures.later;
      gives = λ f g mf mg. gives_full c.args.self.now c.apply.new.self _ c.from_residual.result p.0 p.1 p.2 (c.in_err-apply.ensures.gives f g mf.same mg.same);
    }

pub returns : goal.returns
returns c = record {
  kept = c.apply.ensures.later;
  gives = λ f g mf mg. gives_taken c.args.self.now c.apply.new.self _ c.in_ok-apply.field-0 (c.in_ok-apply.ensures.gives f g mf.same mg.same);
}
