use Rattle.std.proofs.Common.{rules, tests, not, nat_eq, length, ap, ◌∙◌}
use Rattle.std.proofs.lemmas.Iterator.Consumers.{map_from_collect, YieldsList-at, YieldsList-from_filter}
use Rattle.std.proofs.lemmas.Iterator.Splits.{YieldsList-from_slice_split}
use Rattle.composing.specs.Pieces.{is_blank, before_comment}
use Rattle.composing.proofs.splitting.words.Goals as goal

pub returns : goal.returns
returns c =
    let line = c.split.ensures.rest ∙ c.without_comment.ensures ∙ ap before_comment c.without_return.ensures in
    map_from_collect _ c.collect.ensures.ran
    (YieldsList-from_filter _ (λ w. not (nat_eq (length w) 0)) (YieldsList-at c.filter.ensures.source (YieldsList-from_slice_split _ is_blank _ line c.split.ensures.done c.split.ensures.closure (λ x r q k. search (rules, tests)))) c.filter.ensures.closure (λ x r q k. search (rules, tests)))
