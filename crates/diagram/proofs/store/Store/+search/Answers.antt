use Rattle.std.proofs.Common.{◌≡◌, ◌+◌, ◌*◌, ◌%◌, ◌^◌, sym, ◌∙◌, subst, arith}
use Rattle.std.proofs.lemmas.Nat.{one_shl}
use Rattle.probing.specs.Model.{keys, room}
use Rattle.diagram.specs.Tree.{says}
use Rattle.diagram.specs.Nodes.{meant}
use Rattle.diagram.specs.Questions.{Breaks, FirstFrom}
use Rattle.diagram.specs.Stores.{nodes}
use Rattle.diagram.proofs.Combining.{low_first, low_second, high_first, high_second}
use Rattle.diagram.proofs.Searching.{terminals, found_low, found_high, found_none, request_fits, seen_some, searched_more}
use Rattle.diagram.proofs.store.Store.+search.Goals as goal

pub returns-then-second-lt16 : goal.returns-then-second-lt16
returns-then-second-lt16 t c = record {
  searched = c.requires.searched;
  finds = rw c.then_some.ensures (terminals 32 (nodes c.args.self.now) c.args.question.now c.args.first c.args.second c.if-first-lt16.true c.if-second-lt16.true c.args.from c.requires.from_below c.breaks.result c.breaks.ensures);
}

pub returns-then-is_some : goal.returns-then-is_some
returns-then-is_some t c = record {
  searched = c.requires.searched;
  finds = seen_some 32 c.args.question.now (nodes c.args.self.now) (record { first = c.args.first; second = c.args.second }) (keys c.args.seen.now) c.find.result (sym c.is_some.ensures ∙ c.if-is_some.true) c.find.ensures c.requires.searched;
}

pub search-requires : goal.search-requires
search-requires t c =
    let P = c.split-sides.ensures c.args.from c.requires.from_below c.requires.first_later c.requires.second_later in
    let xs = nodes c.args.self.now in (
      omega (arith, P.below, P.from),
      (P.first.low_within, (P.second.low_within, (omega (arith, P.below), (low_first 32 c.args.from xs c.args.first c.args.second c.split-sides.result P, (low_second 32 c.args.from xs c.args.first c.args.second c.split-sides.result P, c.requires.searched))))),
    )

pub returns-in-Some : goal.returns-in-Some
returns-in-Some t c =
    let P = c.split-sides.ensures c.args.from c.requires.from_below c.requires.first_later c.requires.second_later in
    record {
      searched = c.search.ensures.searched;
      finds = found_low 32 c.args.from (nodes c.args.self.now) c.args.question.now c.args.first c.args.second c.split-sides.result P c.in-Some.request c.in-Some.ensures.finds;
    }

pub search-requires-2 : goal.search-requires-2
search-requires-2 t c =
    let P = c.split-sides.ensures c.args.from c.requires.from_below c.requires.first_later c.requires.second_later in
    let xs = nodes c.args.self.now in (
      omega (arith, P.below, P.from),
      (P.first.high_within, (P.second.high_within, (omega (arith, P.below), (high_first 32 c.args.from xs c.args.first c.args.second c.split-sides.result P, (high_second 32 c.args.from xs c.args.first c.args.second c.split-sides.result P, c.search.ensures.searched))))),
    )

pub overflow_add-result : goal.overflow_add-result
overflow_add-result t c =
    let P = c.split-sides.ensures c.args.from c.requires.from_below c.requires.first_later c.requires.second_later in
    let f = c.split-sides.result.fact in
    let xs = nodes c.args.self.now in
    let e : 1 * 2 ^ f % 2 ^ 32 ≡ 2 ^ f = one_shl f 32 P.below in
    let Q = Breaks c.args.question.now (says (meant xs c.split-sides.result.first.high)) (says (meant xs c.split-sides.result.second.high)) in
    let m = request_fits 32 c.args.from xs c.args.question.now c.args.first c.args.second c.split-sides.result P Q c.in-Some-search.rest c.in-Some-search.ensures.finds in
    omega (arith, m, e)

pub returns-in-Some-search : goal.returns-in-Some-search
returns-in-Some-search t c =
    let P = c.split-sides.ensures c.args.from c.requires.from_below c.requires.first_later c.requires.second_later in
    let f = c.split-sides.result.fact in
    let xs = nodes c.args.self.now in
    let e : 1 * 2 ^ f % 2 ^ 32 ≡ 2 ^ f = one_shl f 32 P.below in
    record {
      searched = c.search-2.ensures.searched;
      finds = subst (λ x. FirstFrom 32 c.args.from (Breaks c.args.question.now (says (meant xs c.args.first)) (says (meant xs c.args.second))) (c.in-Some-search.rest + x)) (sym e)
          (found_high 32 c.args.from xs c.args.question.now c.args.first c.args.second c.split-sides.result P c.in_default.ensures.finds c.in-Some-search.rest c.in-Some-search.ensures.finds);
    }

pub returns : goal.returns
returns t c =
    let P = c.split-sides.ensures c.args.from c.requires.from_below c.requires.first_later c.requires.second_later in
    let xs = nodes c.args.self.now in
    let kept = found_none 32 c.args.from xs c.args.question.now c.args.first c.args.second c.split-sides.result P c.in_default.ensures.finds c.in_default-search.ensures.finds in
    record {
      searched = searched_more 32 c.args.question.now xs (record { first = c.args.first; second = c.args.second }) (room c.search-2.new.seen) (keys c.search-2.new.seen) (keys c.insert.new.self) c.insert.ensures.listed kept c.search-2.ensures.searched;
      finds = kept;
    }
