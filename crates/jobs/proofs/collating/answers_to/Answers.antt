use Rattle.std.proofs.Common.{◌≡◌, ◌≤◌, min, length, arith, take_all}
use Rattle.std.proofs.lemmas.List.{take_at}
use Rattle.jobs.proofs.collating.answers_to.Goals as goal

pub returns : goal.returns
returns c =
    let slots : length c.deref_mut.result.now ≡ 2048 = omega (arith, c.deref_mut.ensures.len, c.in_ok-nodes.ensures.len) in
    let names : length c.deref_mut-2.result.now ≡ 32 = omega (arith, c.deref_mut-2.ensures.len, c.in_ok-names.ensures.len) in
    let filled : length c.run.new.log ≡ c.in_ok-log.log.len = omega (arith, c.deref_mut-4.ensures.len, c.run.auto.log) in
    let same : length c.run.new.log ≡ length c.args.calls.now = omega (arith, filled, c.in_ok-log.ensures.len) in
    let many : c.run.result ≡ min (length c.args.calls.now) (length c.run.new.log) = omega (arith, c.run.ensures.many, c.run.auto.log) in
    let calls : length c.args.calls.now ≤ c.run.result = omega arith in
    let answers : length c.run.new.log ≤ c.run.result = omega arith in
    rw (take_at c.run.new.log _ _ filled) (rw (take_all c.run.result c.args.calls.now calls, take_all c.run.result c.run.new.log answers, slots, names) at c.run.ensures.law)
