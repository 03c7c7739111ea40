use Rattle.std.proofs.Common.{◌<◌, ◌≤◌, length, drop, Ok, Err, sym, ap, ◌∙◌, subst, arith, length-drop}
use Rattle.std.proofs.lemmas.List.{take_rest}
use Rattle.std.proofs.lemmas.Bool.{cond-true, cond-false}
use Rattle.tape.specs.Entries.{Stepped}
use Rattle.tape.proofs.Reading.{reached_none, reached_more, reached_refused, reached_end}
use Rattle.tape.proofs.rules.Rules.read_all.Goals as goal

pub loop-place-init : goal.loop-place-init
loop-place-init g c = record {
  within = omega arith;
  kept = g.E.Entries.lasts.same c.args.on.now;
  reached = λ K row C T h. reached_none g.E.Entries.model K c.args.self.now.facts row c.args.tape.now c.args.on.now c.args.stack.now h;
}

pub loop-place-preserved : goal.loop-place-preserved
loop-place-preserved g c =
    let M = g.E.Entries.model in
    let l = c.loop-place in
    let p = l.place in
    let tape = c.args.tape.now in
    let whole = take_rest tape p in
    let k = length-drop p tape in
    let le : c.in-Ok.taken ≤ length (drop p tape) = subst (λ bs. c.in-Ok.taken ≤ length bs) whole c.in-Ok.ensures.there in
    let lt : p < length tape = c.loop-place-test.true in
    record {
      within = omega arith;
      kept = g.E.Entries.lasts.chain c.args.on.now l.on c.step.new.on l.invariant.kept c.in-Ok.ensures.kept;
      reached = λ K row C T h.
          let rd = l.invariant.reached K row C T h in
          reached_more M K c.args.self.now.facts row tape c.args.on.now l.on c.step.new.on l.stack c.step.new.stack p c.in-Ok.taken rd lt c.in-Ok.ensures.some le
          (subst (λ bs. Stepped M K c.args.self.now.facts rd.row bs l.on c.step.new.on c.step.new.stack (Ok c.in-Ok.taken)) whole (c.in-Ok.ensures.stands K rd.row C T rd.holds));
    }

pub returns-in-Err-clause-kept : goal.returns-in-Err-clause-kept
returns-in-Err-clause-kept g c = g.E.Entries.lasts.chain c.args.on.now c.loop-place.on c.step.new.on c.loop-place.invariant.kept c.in-Err.ensures.kept

pub returns-in-Err-clause-reads : goal.returns-in-Err-clause-reads
returns-in-Err-clause-reads g c = λ K row C T h.
    let M = g.E.Entries.model in
    let l = c.loop-place in
    let tape = c.args.tape.now in
    let rd = l.invariant.reached K row C T h in
    rw c.at.ensures (reached_refused M K c.args.self.now.facts row tape c.args.on.now l.on c.step.new.on l.stack c.step.new.stack l.place c.in-Err.refusal rd c.loop-place-test.true
    (subst (λ bs. Stepped M K c.args.self.now.facts rd.row bs l.on c.step.new.on c.step.new.stack (Err c.in-Err.refusal)) (take_rest tape l.place) (c.in-Err.ensures.stands K rd.row C T rd.holds)))

pub returns-then-not-stack-clause-reads : goal.returns-then-not-stack-clause-reads
returns-then-not-stack-clause-reads g c = λ K row C T h.
    let l = c.loop-place in
    reached_end g.E.Entries.model K c.args.self.now.facts row c.args.tape.now c.args.on.now l.on l.stack l.place _ (l.invariant.reached K row C T h) c.loop-place-test.false
    (ap (λ e. Err e) c.at-then-not-stack.ensures ∙ sym (cond-false _ _ _ c.if-not-stack.true))

pub returns-clause-reads : goal.returns-clause-reads
returns-clause-reads g c = λ K row C T h.
    let l = c.loop-place in
    reached_end g.E.Entries.model K c.args.self.now.facts row c.args.tape.now c.args.on.now l.on l.stack l.place _ (l.invariant.reached K row C T h) c.loop-place-test.false
    (sym (cond-true _ _ _ c.if-not-stack.false))
