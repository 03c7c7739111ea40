use Rattle.std.proofs.Common.{rules, tests, ◌≡◌, ◌++◌, vec_items, subst, ap, ◌∙◌, arith}
use Rattle.std.specs.Option.{option_to_list}
use Rattle.std.proofs.lemmas.Iterator.{YieldsList-from_slice, items_from_collect}
use Rattle.std.proofs.lemmas.Iterator.Adapters.{YieldsList-from_once}
use Rattle.std.proofs.lemmas.Iterator.Consumers.{YieldsList-at, YieldsList-from_filter_map, YieldsList-from_chain}
use Rattle.std.proofs.lemmas.Result.{IfOk-weaker}
use Rattle.jobs.specs.Lines.{line_of, lines_of, bad_line}
use Rattle.jobs.specs.Collating.{Answers}
use Rattle.jobs.proofs.collating.collate.Goals as goal

pub returns : goal.returns
returns c =
    let job = c.in_ok-job.job in
    let answers = vec_items c.in_ok-answers.answers in
    let refused : c.map-refused.result ≡ bad_line job.bad = grind (arith, c.map-refused.ensures.cases) in
    IfOk-weaker c.collect.result _ _
    (λ v told. record {
      calls = vec_items job.calls;
      bad = job.bad;
      answers = answers;
      taken = c.in_ok-job.ensures;
      law = subst (λ calls. Answers calls answers) c.deref.ensures.value c.in_ok-answers.ensures;
      told = told ∙ ap (λ line. lines_of answers ++ option_to_list line) refused;
    })
    (items_from_collect c.collect.result c.collect.ensures.ran
    (YieldsList-from_chain
    (YieldsList-at c.chain.ensures.first (YieldsList-from_filter_map _ line_of (YieldsList-at c.filter_map.ensures.source (YieldsList-from_slice answers (c.iter.ensures.rest ∙ c.deref-2.ensures.value))) c.filter_map.ensures.closure (λ x r q k. search (rules, tests))))
    (YieldsList-from_once _ c.chain.ensures.second.0) c.chain.ensures.first_done c.chain.ensures.second_done))
