use Rattle.std.proofs.lemmas.Result.{err_from_is_err_and}
use Rattle.tape.proofs.Stepping.{held_at, step_refused, step_ok, step_full}
use Rattle.tape.proofs.rules.Rules.step.Goals as goal

pub returns-in_err-command-clause-stands : goal.returns-in_err-command-clause-stands
returns-in_err-command-clause-stands g c =
    let s = c.args.on.now in
    let p = err_from_is_err_and c.from_residual.result c.from_residual.ensures.1 in
    rw (p.1, p.2) (λ K row C T h. step_refused g.E.Entries.model K c.args.self.now.tables.now T c.args.self.now.facts s c.args.stack.now row c.args.bytes.now _ (g.E.Entries.lasts.still s) c.in_err-command.ensures.said h)

pub returns-in_err-entry-clause-stands : goal.returns-in_err-entry-clause-stands
returns-in_err-entry-clause-stands g c =
    let M = g.E.Entries.model in
    let s = c.args.on.now in
    let t = c.make.new.on in
    let st = c.args.stack.now in
    let z = c.constant-none.result in
    let p = err_from_is_err_and c.from_residual-in_err-entry.result c.from_residual-in_err-entry.ensures.1 in
    rw (p.1, p.2) (λ K row C T h.
    let a = held_at M K s st row z c.top-top.result 0 c.constant-none.ensures h c.top-top.ensures in
    let b = held_at M K s st row z c.entry_or-under.result 1 c.constant-none.ensures h c.entry_or-under.ensures in
    step_full M K c.args.self.now.tables.now T c.args.self.now.facts s t st row c.args.bytes.now c.in_ok-command.command c.in_ok-command.count _
    (λ e f m. g.E.Entries.lasts.keeps s t e f c.make.ensures.kept m) c.in_ok-command.ensures.said h (c.in_err-entry.ensures.gives _ _ a b))

pub returns-clause-stands : goal.returns-clause-stands
returns-clause-stands g c = λ K row C T h.
    let M = g.E.Entries.model in
    let s = c.args.on.now in
    let t = c.make.new.on in
    let st = c.args.stack.now in
    let z = c.constant-none.result in
    let a = held_at M K s st row z c.top-top.result 0 c.constant-none.ensures h c.top-top.ensures in
    let b = held_at M K s st row z c.entry_or-under.result 1 c.constant-none.ensures h c.entry_or-under.ensures in
    step_ok M K c.args.self.now.tables.now C T c.args.self.now.facts s t st c.put.new.self row c.args.bytes.now c.in_ok-command.command c.in_ok-command.count c.in_ok-entry.entry
    (λ e f m. g.E.Entries.lasts.keeps s t e f c.make.ensures.kept m) c.in_ok-command.ensures.said h (c.in_ok-entry.ensures.gives _ _ a b) c.put.ensures
