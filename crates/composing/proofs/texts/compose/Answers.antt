use Rattle.std.proofs.Common.{rules, length, ap, ◌∙◌, tests, arith}
use Rattle.std.specs.List.{enumerate_from}
use Rattle.std.proofs.lemmas.Result.{err_from_is_err_and}
use Rattle.std.proofs.lemmas.Iterator.Consumers.{YieldsList-turn, YieldsList-end}
use Rattle.std.proofs.lemmas.Grind.{common_steps}
use Rattle.composing.specs.Pieces.{lines_of, texts}
use Rattle.composing.proofs.Lines.{numbered, job_at-enumerate_from, stopped}
use Rattle.composing.proofs.texts.compose.Goals as goal

pub returns-in_err-push_command : goal.returns-in_err-push_command
returns-in_err-push_command c =
    let turn = YieldsList-turn (numbered _ c.args.text.now c.into_iter-i-iterator.ensures.into_iter_gives c.enumerate-i-items.ensures.source c.enumerate-i-items.ensures.count c.split.ensures.rest c.split.ensures.done c.split.ensures.closure (λ x r q k. search (rules, tests)))
    c.loop-i.yielded _ c.loop-i.yielded_by _ _ (c.in-Some.i, c.in-Some.line) c.in-Some.is c.next.ensures.steps in
    let p = err_from_is_err_and c.from_residual-in_err-push_command.result c.from_residual-in_err-push_command.ensures.1 in
    rw (p.1, p.2, ← job_at-enumerate_from 0 (lines_of c.args.text.now))
    (stopped (enumerate_from 0 (lines_of c.args.text.now)) (length c.loop-i.yielded) (c.in-Some.i, c.in-Some.line.now) _ c.in_err-push_command.field-0.0 _ _ turn.0 turn.1 (ap texts c.deref.ensures.value ∙ c.in_ok-words.ensures) c.in_err-push_command.ensures c.loop-i.invariant.2)

pub loop-i-preserved : goal.loop-i-preserved
loop-i-preserved c =
    let turn = YieldsList-turn (numbered _ c.args.text.now c.into_iter-i-iterator.ensures.into_iter_gives c.enumerate-i-items.ensures.source c.enumerate-i-items.ensures.count c.split.ensures.rest c.split.ensures.done c.split.ensures.closure (λ x r q k. search (rules, tests)))
    c.loop-i.yielded _ c.loop-i.yielded_by _ _ (c.in-Some.i, c.in-Some.line) c.in-Some.is c.next.ensures.steps in
    (search rules, search rules, record { read = grind (arith, common_steps, turn.0, turn.1) })

pub returns : goal.returns
returns c =
    let end = YieldsList-end (numbered _ c.args.text.now c.into_iter-i-iterator.ensures.into_iter_gives c.enumerate-i-items.ensures.source c.enumerate-i-items.ensures.count c.split.ensures.rest c.split.ensures.done c.split.ensures.closure (λ x r q k. search (rules, tests)))
    c.loop-i.yielded _ c.loop-i.yielded_by _ _ c.in-None.is c.next.ensures.steps in
    rw (← job_at-enumerate_from 0 (lines_of c.args.text.now)) (grind (arith, common_steps))
