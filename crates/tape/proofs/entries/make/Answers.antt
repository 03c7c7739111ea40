use Rattle.std.proofs.Common.{Ok, sym, subst}
use Rattle.tape.specs.Entries.{Makes, Within}
use Rattle.tape.proofs.entries.make.Goals as goal

-- a constant takes no slot
pub returns-in-State-clause-gives : goal.returns-in-State-clause-gives
returns-in-State-clause-gives g c =
    let s = c.args.on.now in
    let laws = g.E.Entries.lasts in
    let small = subst Within c.in-State.is c.requires in
    subst (Makes g.E.Entries.model c.args.tables.now s c.args.top c.args.under s (Ok c.constant.result)) (sym c.in-State.is) (λ f h a b. (laws.free s c.in-State.code small, c.constant.ensures, laws.constant s c.in-State.code small))
